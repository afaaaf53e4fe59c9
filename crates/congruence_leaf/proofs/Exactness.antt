-- Leaves that follow remainders are as exact as strides are, and their join is the least.
use Rattle.std.proofs.Common.{ℕ, ℤ, List}
use Rattle.leaf_domain.specs.declared.range.Range.{Range}
use Rattle.leaf_domain.specs.Leaves.{LeafValue}
use Rattle.leaf_domain.specs.Exactness.{LeafExactness, IsStorePut}
use Rattle.product_leaf.specs.StrideLeaves.{strides}
use Rattle.product_leaf.proofs.ExactLaws.{strides_exact}
use Rattle.congruence_leaf.specs.Congruences.{congruences}
use Rattle.congruence_leaf.specs.Laws.{alike}

put : (a : LeafValue) (x : ℕ) (r : Range) (s : List ℤ) → IsStorePut strides a x r s → IsStorePut congruences a x r s
put a x r s h = record { store = h.store; held = h.held; number = h.number; within = h.within; put = h.put }

pub congruences_exact : LeafExactness congruences
congruences_exact = record {
  some_holds = strides_exact.some_holds;
  meet_only = strides_exact.meet_only;
  meet_form_only = strides_exact.meet_form_only;
  set_only = λ a x r s p l i h. put a x r s (strides_exact.set_only a x r s p l i h);
  narrow_only = λ ts a b s k. strides_exact.narrow_only ts a b s (alike a b k);
}
