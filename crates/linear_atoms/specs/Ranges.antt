-- The least and the greatest sum of terms over the ranges of the features, and the atoms that they decide.
use Rattle.std.specs.Prelude.{ℕ, ℤ, pos, ◌+ℤ◌, ◌*ℤ◌, int_lt, int_le, Bool, true, false, if◌then◌else◌, List, [], ◌∷◌, map, slice_index_or, Option, Some, None}
use Rattle.linear_atoms.specs.declared.atoms.Atom.{Atom}
use Rattle.linear_atoms.specs.declared.atoms.Feature.{Feature}
use Rattle.linear_atoms.specs.declared.ranges.Span.{Span}

-- a span as a feature without a name
abbrev pub range : Span → Feature
range s = record { name = []; boolean = false; low = s.low; high = s.high }

-- the value of the range that makes a term with this coefficient the greatest, or the least
abbrev pub extreme_value : Bool → ℤ → Feature → ℤ
extreme_value greatest a f = if int_lt (pos 0) a then (if greatest then f.high else f.low) else (if greatest then f.low else f.high)

abbrev pub extreme_at : Bool → ℤ → List Feature → ℕ → ℤ
extreme_at greatest a features n = slice_index_or (map (extreme_value greatest a) features) n (pos 0)

abbrev pub extreme_sum : Bool → List Feature → List (ℕ × ℤ) → ℤ
extreme_sum greatest features [] = pos 0
extreme_sum greatest features (t ∷ ts) = (t.1 *ℤ extreme_at greatest t.1 features t.0) +ℤ extreme_sum greatest features ts

-- true where the least sum reaches the bound, false where the greatest does not
abbrev pub decided_of : List Feature → Atom → Option Bool
decided_of features atom =
    if int_le atom.bound (extreme_sum false features atom.terms) then Some true
    else (if int_lt (extreme_sum true features atom.terms) atom.bound then Some false else None)
