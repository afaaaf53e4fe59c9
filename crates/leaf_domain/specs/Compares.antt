-- Comparisons, and what may remain of a range where one holds.
use Rattle.std.specs.Prelude.{◌≡◌, ℤ, pos, ◌+ℤ◌, ◌-ℤ◌, int_lt, int_le, Bool, true, if◌then◌else◌, ◌||◌, not}
use Rattle.std.specs.Int.{int_min, int_max}
use Rattle.std.specs.Ordering.{int_eq}
use Rattle.leaf_domain.specs.declared.range.Range.{Range}
use Rattle.leaf_domain.specs.declared.compare.Compare.{Compare}
use Rattle.leaf_domain.specs.declared.compare.Compare.TheVariants.{Lt, Le, Gt, Ge, Eq, Ne}
use Rattle.leaf_domain.specs.Ranges.{range_of_ends, meet_of, empty_range, is_empty_range, is_single, Within}

abbrev pub holds_between : Compare → ℤ → ℤ → Bool
holds_between Lt n m = int_lt n m
holds_between Le n m = int_le n m
holds_between Gt n m = int_lt m n
holds_between Ge n m = int_le m n
holds_between Eq n m = int_eq n m
holds_between Ne n m = not (int_eq n m)

abbrev pub mirror_of : Compare → Compare
mirror_of Lt = Gt
mirror_of Le = Ge
mirror_of Gt = Lt
mirror_of Ge = Le
mirror_of Eq = Eq
mirror_of Ne = Ne

abbrev pub negation_of : Compare → Compare
negation_of Lt = Ge
negation_of Le = Gt
negation_of Gt = Le
negation_of Ge = Lt
negation_of Eq = Ne
negation_of Ne = Eq

-- the ends of a without c
abbrev pub raised_past : ℤ → ℤ → ℤ
raised_past l c = if int_eq l c then l +ℤ pos 1 else l

abbrev pub lowered_past : ℤ → ℤ → ℤ
lowered_past h c = if int_eq h c then h -ℤ pos 1 else h

abbrev pub without_number : Range → ℤ → Range
without_number a c = range_of_ends (raised_past a.low c) (lowered_past a.high c)

-- what may remain of `a` where `a op b` holds for some values, where neither is empty
abbrev pub cut_of_some : Compare → Range → Range → Range
cut_of_some Lt a b = range_of_ends a.low (int_min a.high (b.high -ℤ pos 1))
cut_of_some Le a b = range_of_ends a.low (int_min a.high b.high)
cut_of_some Gt a b = range_of_ends (int_max a.low (b.low +ℤ pos 1)) a.high
cut_of_some Ge a b = range_of_ends (int_max a.low b.low) a.high
cut_of_some Eq a b = meet_of a b
cut_of_some Ne a b = if is_single b then without_number a b.low else a

-- what may remain of `a` where `a op b` holds for some values
abbrev pub cut_of : Compare → Range → Range → Range
cut_of op a b = if is_empty_range a || is_empty_range b then empty_range else cut_of_some op a b

-- each number of `a` for which the comparison holds with some number of `b` remains
abbrev pub CutHolds : Type 0
CutHolds = (op : Compare) (a b : Range) (n m : ℤ) → Within n a → Within m b → holds_between op n m ≡ true → Within n (cut_of op a b)
