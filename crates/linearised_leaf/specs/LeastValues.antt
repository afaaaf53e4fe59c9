-- The least value of a form where each variable lies in its range, and what one that is at most 0 leaves of a variable.
use Rattle.std.specs.Prelude.{ℕ, ℤ, pos, ◌+ℤ◌, ◌*ℤ◌, int_lt, if◌then◌else◌, List, [], ◌∷◌}
use Rattle.std.specs.Int.{int_min, int_max, int_div_euclid}
use Rattle.c_tree.specs.Value.{least, greatest}
use Rattle.leaf_domain.specs.declared.form.Form.{Form}
use Rattle.leaf_domain.specs.declared.range.Range.{Range}
use Rattle.leaf_domain.specs.Ranges.{range_of_ends}
use Rattle.leaf_domain.specs.Leaves.{LeafValue, LeafMeaning}

-- the end of a range at which a multiple is least
abbrev pub least_end : ℤ → Range → ℤ
least_end k r = if int_lt k (pos 0) then r.high else r.low

-- the least multiple of a number of a range
abbrev pub least_multiple : ℤ → Range → ℤ
least_multiple k r = k *ℤ least_end k r

-- the least value of a term, by the leaf's range of its variable
abbrev pub least_term : LeafMeaning → LeafValue → ℕ × ℤ → ℤ
least_term M v t = least_multiple t.1 (M.bounds_of v t.0)

-- the sum of the least values of terms
abbrev pub least_terms : LeafMeaning → LeafValue → List (ℕ × ℤ) → ℤ
least_terms M v [] = pos 0
least_terms M v (t ∷ ts) = least_term M v t +ℤ least_terms M v ts

-- the least value of a form plus a number
abbrev pub least_value : LeafMeaning → LeafValue → Form → ℤ → ℤ
least_value M v f n = (f.constant +ℤ n) +ℤ least_terms M v f.terms

-- the numbers of `int` whose multiple is at most a number
abbrev pub multiples_below : ℤ → ℤ → Range
multiples_below k n =
    if int_lt k (pos 0) then range_of_ends (int_max least (int_div_euclid n k)) greatest
    else range_of_ends least (int_min (int_div_euclid n k) greatest)
