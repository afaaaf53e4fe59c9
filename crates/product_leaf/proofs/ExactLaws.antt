-- Lows, highs and strides meet the laws of exactness, so that intervals with strides hold only the stores that they must; their order is that of their
-- stores, and their join is the least.
use Rattle.std.proofs.Common.{ℤ, ◌≤ℤ◌, arith}
use Rattle.std.proofs.lemmas.Int.{ints, clamps}
use Rattle.leaf_domain.specs.declared.range.Range.{Range}
use Rattle.leaf_domain.specs.Ranges.{Within}
use Rattle.leaf_domain.specs.Exactness.{LeafExactness}
use Rattle.nonrelational_leaf.specs.PartLaws.{PartExactness}
use Rattle.nonrelational_leaf.proofs.LiftedExactness as lifted
use Rattle.strides.specs.declared.strided.Strided.{Strided}
use Rattle.strides.specs.Strided.{Has, reduced}
use Rattle.strides.proofs.StridedLaws.{reduced_best}
use Rattle.strides.proofs.InclusionLaws.{joined_inside, inside_seen, narrowed_only}
use Rattle.product_leaf.specs.StrideLeaves.{stride_parts, strides, met_part}
use Rattle.product_leaf.specs.Exact.{StridesAreOrderedByStores, StrideJoinIsLeast}
use Rattle.product_leaf.specs.Laws.StrideLaws.{stride_part_laws}
use Rattle.product_leaf.proofs.PartLemmas.{joined_once}

-- where a number of the part put in lies in the range, and is one of the part that was there
met_back : (b : Strided) (r : Range) (n : ℤ) → Has (met_part b r) n → Has b n × Within n r
met_back b r n h =
    let p : (met_part b r).low ≤ℤ n = h.low in
    let q : n ≤ℤ (met_part b r).high = h.high in
    (record { low = omega (arith, ints, clamps); high = omega (arith, ints, clamps); stride = h.stride }, record { low = omega (arith, ints, clamps); high = omega (arith, ints, clamps) })

part_exactness : PartExactness stride_parts
part_exactness = record {
  meet_only = λ b r n e. met_back b r n;
  range_only = λ r n h. record { low = h.low; high = h.high };
  narrow_only = narrowed_only;
  inside_leq = λ a b h i. inside_seen (reduced a) b (reduced_best a h.some) i;
  join_best = λ a b h k. joined_once a b h.some k.some;
  join_least = λ a b c h k. joined_inside a b c;
}

pub strides_exact : LeafExactness strides
strides_exact = lifted.lifted_exactness stride_parts stride_part_laws part_exactness

pub ordered_by_stores : StridesAreOrderedByStores
ordered_by_stores = lifted.ordered_by_stores stride_parts stride_part_laws part_exactness

pub join_least : StrideJoinIsLeast
join_least = lifted.join_least stride_parts stride_part_laws part_exactness
