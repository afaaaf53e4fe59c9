-- What the paths of a request hold.
use Rattle.std.specs.Prelude.{ℕ, List, [], ◌∷◌}

-- the bytes of the paths of a request: of MODEL, of FILE and of CERTIFICATE, if it has one
pub record Contents : Type 0 where
  pub model : List ℕ
  pub file : List ℕ
  pub certificate : List ℕ

-- in the order of their loads: of MODEL and FILE, and of CERTIFICATE too
abbrev pub of_line : Contents → List (List ℕ)
of_line told = told.model ∷ told.file ∷ []

abbrev pub of_check : Contents → List (List ℕ)
of_check told = told.model ∷ told.file ∷ told.certificate ∷ []
