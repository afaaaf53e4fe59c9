-- What the operations make of the ranges of leaves that are not Nothing is what the definitions say of the leaves.
use Rattle.std.proofs.Common.{◌≡◌, ℤ, ℕ, zero, suc, ◌<◌, ◌≤◌, Bool, true, false, ◌&&◌, List, [], ◌∷◌, length, map, slice_set, slice_index_or, refl, ap, sym, ◌∙◌, arith}
use Rattle.std.specs.List.{zip}
use Rattle.std.specs.Ordering.{int_eq}
use lib.Pointwise.{pointwise}
use Rattle.leaf_domain.specs.declared.range.Range.{Range}
use Rattle.leaf_domain.specs.Ranges.{is_empty_range, empty_range}
use Rattle.leaf_domain.specs.Leaves.{LeafValue, same_numbers}
use Rattle.interval_leaf.specs.Intervals.{numbers_of, interval_of, covers, all_lie_in, widened_all, narrowed_all, settled, interval_join, interval_widen, interval_narrow, interval_leq, interval_bounds, interval_with}
use Rattle.leaf_domain.proofs.Variables.{length_zipped}
use Rattle.interval_leaf.specs.Laws.RangeLists.{pairs_numbers}

-- two leaves of one call have as many ranges
pub same_lengths : (a b : LeafValue) (us bs : List Range) → a.variables ≡ b.variables → a ≡ interval_of us → b ≡ interval_of bs → length us ≡ length bs
same_lengths a b us bs s e f = sym (ap (λ v. v.variables) e) ∙ s ∙ ap (λ v. v.variables) f

pub few_zipped : (f : Range → Range → Range) (a b : LeafValue) (us bs rs : List Range) → a.variables ≤ 48 → a.variables ≡ b.variables → a ≡ interval_of us → b ≡ interval_of bs → rs ≡ map (λ (a, b). f a b) (zip us bs) → length rs ≤ 48
few_zipped f a b us bs rs h s e g k =
    omega (arith, ap length k, length_zipped f us bs (same_lengths a b us bs s e g), ap (λ v. v.variables) e)

pub join_some : (a b r : LeafValue) (us bs rs : List Range) → a ≡ interval_of us → b ≡ interval_of bs → rs ≡ covers us bs → r ≡ interval_of rs → r ≡ interval_join a b
join_some a b r us bs rs e f g h = rw (e, f, h, g, pairs_numbers us, pairs_numbers bs)

pub widen_some : (ts : List ℤ) (a b r : LeafValue) (us bs rs : List Range) → a ≡ interval_of us → b ≡ interval_of bs → rs ≡ widened_all ts us bs → r ≡ interval_of rs → r ≡ interval_widen ts a b
widen_some ts a b r us bs rs e f g h = rw (e, f, h, g, pairs_numbers us, pairs_numbers bs)

pub narrow_some : (ts : List ℤ) (a b r : LeafValue) (us bs rs : List Range) → a ≡ interval_of us → b ≡ interval_of bs → rs ≡ narrowed_all ts us bs → r ≡ settled rs → r ≡ interval_narrow ts a b
narrow_some ts a b r us bs rs e f g h = rw (e, f, h, g, pairs_numbers us, pairs_numbers bs)

pub leq_some : (a b : LeafValue) (us bs : List Range) (r : Bool) → a ≡ interval_of us → b ≡ interval_of bs → r ≡ all_lie_in us bs → r ≡ interval_leq a b
leq_some a b us bs r e f g = rw (e, f, g, pairs_numbers us, pairs_numbers bs)

pub bounds_some : (a : LeafValue) (us : List Range) (x : ℕ) → a ≡ interval_of us → interval_bounds a x ≡ slice_index_or us x empty_range
bounds_some a us x e = rw (e, pairs_numbers us)

pub with_some : (a : LeafValue) (us : List Range) (x : ℕ) (r : Range) → a ≡ interval_of us → is_empty_range r ≡ false → interval_with a x r ≡ interval_of (slice_set us x r)
with_some a us x r e f = rw (e, f, pairs_numbers us)

-- past the end aside, the default does not matter
pub read_at : (us : List Range) (x : ℕ) (d e : Range) → x < length us → slice_index_or us x d ≡ slice_index_or us x e
read_at [] x d e h = absurd (omega arith)
read_at (u ∷ us) zero d e h = refl
read_at (u ∷ us) (suc x) d e h = read_at us x d e (omega arith)

-- ranges are the same where their lows and highs are
pub ranges_same : (us bs : List Range) → pointwise (λ a b. int_eq a.low b.low && int_eq a.high b.high) us bs ≡ same_numbers (numbers_of us) (numbers_of bs)
ranges_same [] [] = refl
ranges_same [] (b ∷ bs) = refl
ranges_same (a ∷ us) [] = refl
ranges_same (a ∷ us) (b ∷ bs) = by_tests (int_eq a.low b.low) (int_eq a.high b.high) (ranges_same us bs)
  where
    by_tests : (s t : Bool) → pointwise (λ a b. int_eq a.low b.low && int_eq a.high b.high) us bs ≡ same_numbers (numbers_of us) (numbers_of bs) → ((s && t) && pointwise (λ a b. int_eq a.low b.low && int_eq a.high b.high) us bs) ≡ (s && (t && same_numbers (numbers_of us) (numbers_of bs)))
    by_tests true true e = e
    by_tests true false e = refl
    by_tests false t e = refl
