-- Tests of one feature.
use Rattle.std.specs.Prelude.{ℕ, ℤ, pos, [], ◌∷◌}
use Rattle.linear_atoms.specs.declared.atoms.Atom.{Atom}

-- the feature with this number has at least the value
abbrev pub at_least : ℕ → ℤ → Atom
at_least n bound = record { terms = (n, pos 1) ∷ []; bound = bound }
