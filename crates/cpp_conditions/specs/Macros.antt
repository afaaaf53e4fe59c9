-- The names that a file defines as macros (ISO/IEC 9899:2011, 6.10.3), and how a condition reads names that no feature has.
use Rattle.std.specs.Prelude.{ℕ, Bool, false, ◌||◌, List, [], ◌∷◌, map}
use Rattle.std.specs.Str.{bytes_eq}
use Rattle.fam_outer.specs.declared.dialect.Unknown.{Unknown}
use Rattle.cpp_conditions.specs.declared.macros.Macros as coded

-- the names that are defined above a condition, and those that are defined anywhere in its file; what any other name is
-- that no feature has
pub record Macros : Type 0 where
  pub unknown : Unknown
  pub above : List (List ℕ)
  pub file : List (List ℕ)

abbrev pub among : Unknown → List (List ℕ) → List (List ℕ) → Macros
among unknown above file = record { unknown = unknown; above = above; file = file }

-- there are no definitions
abbrev pub no_macros : Unknown → Macros
no_macros unknown = among unknown [] []

-- the name is one of these
abbrev pub is_one_of : List (List ℕ) → List ℕ → Bool
is_one_of [] name = false
is_one_of (x ∷ xs) name = bytes_eq x name || is_one_of xs name

-- the macros of the code as plain data
abbrev pub macros : coded.Macros → Macros
macros given = among given.unknown (map (λ name. name.now) given.above.now) (map (λ name. name.now) given.file.now)
