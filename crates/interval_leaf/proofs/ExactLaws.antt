-- Ranges meet the laws of exactness, so that intervals hold only the stores that they must; their order is that of their stores, and their join is the
-- least.
use Rattle.std.proofs.Common.{◌≡◌, ℤ, ◌≤ℤ◌, true, false, List, refl, arith}
use Rattle.std.proofs.lemmas.Int.{ints, clamps}
use Rattle.leaf_domain.specs.declared.range.Range.{Range}
use Rattle.leaf_domain.specs.Ranges.{Within, is_empty_range, cover_of}
use Rattle.leaf_domain.specs.Exactness.{LeafExactness}
use Rattle.leaf_domain.specs.Ends.{narrowed_range}
use Rattle.leaf_domain.proofs.EndLemmas.{narrowed_low, narrowed_high}
use Rattle.nonrelational_leaf.specs.PartLaws.{PartExactness}
use Rattle.nonrelational_leaf.proofs.LiftedExactness as lifted
use Rattle.interval_leaf.specs.Intervals.{ranges, intervals, IsOwn, met_range, lies_in}
use Rattle.interval_leaf.specs.Exact.{IntervalsAreOrderedByStores, IntervalJoinIsLeast}
use Rattle.interval_leaf.specs.Laws.RangeLists.{range_laws}

meet_back : (k : ℤ) (a b : Range) → is_empty_range (met_range a b) ≡ false → Within k (met_range a b) → Within k a × Within k b
meet_back k a b e h = grind (arith, ints, clamps)

narrowed_only : (ts : List ℤ) (x g : Range) (n : ℤ) → lies_in g x ≡ true → Within n (narrowed_range ts x g) → Within n x
narrowed_only ts x g n e h =
    record { low = in_order _ _ _ (narrowed_low (λ m. x.low ≤ℤ m) ts x g (omega (arith, ints)) (omega (arith, ints, i.0))) h.low; high = in_order _ _ _ h.high (narrowed_high (λ m. m ≤ℤ x.high) ts x g (omega (arith, ints)) (omega (arith, ints, i.1))) }
  where
    i : (x.low ≤ℤ g.low) × (g.high ≤ℤ x.high)
    i = grind (arith, ints, e)

    in_order : (l m o : ℤ) → l ≤ℤ m → m ≤ℤ o → l ≤ℤ o
    in_order l m o p q = omega (arith, ints)

inside_by_ends : (a b : Range) → IsOwn a → ((n : ℤ) → Within n a → Within n b) → lies_in a b ≡ true
inside_by_ends a b h i = by_ends (i a.low (record { low = omega (arith, ints); high = h.order })) (i a.high (record { low = h.order; high = omega (arith, ints) }))
  where
    by_ends : Within a.low b → Within a.high b → lies_in a b ≡ true
    by_ends p q = grind (arith, ints, p.low, q.high)

cover_inside : (a b c : Range) → IsOwn a → IsOwn b → lies_in a c ≡ true → lies_in b c ≡ true → lies_in (cover_of a b) c ≡ true
cover_inside a b c p q e f = grind (arith, ints, clamps, e, f)

range_exactness : PartExactness ranges
range_exactness = record {
  meet_only = λ a r n. meet_back n a r;
  range_only = λ r n h. h;
  narrow_only = narrowed_only;
  inside_leq = inside_by_ends;
  join_best = λ a b h k. refl;
  join_least = cover_inside;
}

pub intervals_exact : LeafExactness intervals
intervals_exact = lifted.lifted_exactness ranges range_laws range_exactness

pub ordered_by_stores : IntervalsAreOrderedByStores
ordered_by_stores = lifted.ordered_by_stores ranges range_laws range_exactness

pub join_least : IntervalJoinIsLeast
join_least = lifted.join_least ranges range_laws range_exactness
