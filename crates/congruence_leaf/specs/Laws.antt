-- Strides with what they say of squares, quotients and remainders keep every law of leaves: those of the three operations on
-- operations are new, the others are those of strides. What they rest on stands in the folder Laws, since an `impl` may cite
-- nothing of its own crate but `specs`.
use Rattle.std.proofs.Common.{refl}
use Rattle.leaf_domain.specs.Leaves.{LeafValue, LeafLaws, Alike, IsLeafLike}
use Rattle.product_leaf.specs.StrideLeaves.{strides}
use Rattle.product_leaf.specs.Laws.{stride_laws}
use Rattle.congruence_leaf.specs.Congruences.{congruences}
use Rattle.congruence_leaf.specs.Laws.Leaves as leaves
pub mod Remainders
pub mod TwoStrides
pub mod Squares
pub mod Quotients
pub mod Results
pub mod Leaves

-- two leaves of one call of strides, and an answer of strides
pub alike : (a b : LeafValue) → Alike congruences a b → Alike strides a b
alike a b k = record { first = k.first; second = k.second; same = k.same }

answered : (a r : LeafValue) → IsLeafLike strides a r → IsLeafLike congruences a r
answered a r k = record { valid = k.valid; same = k.same }

pub congruence_laws : LeafLaws congruences
congruence_laws = record {
  valid_few = stride_laws.valid_few;
  start_valid = stride_laws.start_valid;
  start_variables = stride_laws.start_variables;
  start_holds = stride_laws.start_holds;
  nothing_valid = stride_laws.nothing_valid;
  nothing_holds = stride_laws.nothing_holds;
  holds_length = stride_laws.holds_length;
  best_answers = λ a p. answered a _ (stride_laws.best_answers a p);
  best_holds = stride_laws.best_holds;
  best_nothing = stride_laws.best_nothing;
  leq_holds = λ a b s k. stride_laws.leq_holds a b s (alike a b k);
  nothing_leq = stride_laws.nothing_leq;
  leq_nothing = stride_laws.leq_nothing;
  join_answers = λ a b k. answered a _ (stride_laws.join_answers a b (alike a b k));
  join_holds = λ a b s k. stride_laws.join_holds a b s (alike a b k);
  join_some = λ a b k. stride_laws.join_some a b (alike a b k);
  join_nothing = stride_laws.join_nothing;
  nothing_join = stride_laws.nothing_join;
  widen_answers = λ ts a b k. answered a _ (stride_laws.widen_answers ts a b (alike a b k));
  widen_holds = λ ts a b s k. stride_laws.widen_holds ts a b s (alike a b k);
  widen_some = λ ts a b k. stride_laws.widen_some ts a b (alike a b k);
  widen_grows = λ ts a b k. stride_laws.widen_grows ts a b (alike a b k);
  steps_few = stride_laws.steps_few;
  narrow_answers = λ ts a b k. answered a _ (stride_laws.narrow_answers ts a b (alike a b k));
  narrow_holds = λ ts a b s k. stride_laws.narrow_holds ts a b s (alike a b k);
  narrow_nothing = stride_laws.narrow_nothing;
  bounds_in_int = stride_laws.bounds_in_int;
  bounds_hold = stride_laws.bounds_hold;
  bounds_some = stride_laws.bounds_some;
  bounds_nothing = stride_laws.bounds_nothing;
  step_holds = λ a x s. leaves.step_holds a.variables a.content x s;
  form_holds = stride_laws.form_holds;
  form_nothing = stride_laws.form_nothing;
  meet_answers = λ a x r p l i. answered a _ (stride_laws.meet_answers a x r p l i);
  meet_holds = stride_laws.meet_holds;
  meet_nothing = stride_laws.meet_nothing;
  meet_form_answers = λ a f op p g. answered a _ (stride_laws.meet_form_answers a f op p g);
  meet_form_holds = stride_laws.meet_form_holds;
  meet_form_nothing = stride_laws.meet_form_nothing;
  set_answers = λ a x r p l i. answered a _ (stride_laws.set_answers a x r p l i);
  set_holds = stride_laws.set_holds;
  set_nothing = stride_laws.set_nothing;
  set_form_answers = λ a x f r p l g i. answered a _ (stride_laws.set_form_answers a x f r p l g i);
  set_form_holds = stride_laws.set_form_holds;
  set_form_nothing = stride_laws.set_form_nothing;
  operation_holds = λ a p r s n v o h w e. leaves.operation_holds a.variables a.content p r s n v o h w e;
  meet_operation_answers = λ a p op r v o i. answered a _ (leaves.meet_answers a.variables a.content p op r v o);
  meet_operation_holds = λ a p op r s n m v o i h w j e. leaves.meet_holds a.variables a.content p op r s n m v o h w j e;
  meet_operation_nothing = λ n p op r. leaves.meet_nothing n p op r;
  set_operation_answers = λ a x p r v l o i. answered a _ (leaves.set_answers a.variables a.content x p r v i);
  set_operation_holds = λ a x p r s n v l o i h w j. leaves.set_holds a.variables a.content x p r s n v o h w j;
  set_operation_nothing = λ n x p r. refl;
}
