-- The reduced product of two kinds of leaf (after Cousot and Cousot): each operation is that of both, and then both refine each other.
use Rattle.std.specs.Prelude.{ℕ, ◌+◌, ℤ, ◌&&◌, if◌then◌else◌, List, Option, Some, None}
use Rattle.std.specs.Ordering.{int_eq}
use Rattle.leaf_domain.specs.declared.form.Form.{Form}
use Rattle.leaf_domain.specs.declared.range.Range.{Range}
use Rattle.leaf_domain.specs.declared.compare.Compare.{Compare}
use Rattle.leaf_domain.specs.declared.compare.Compare.TheVariants.{Lt, Gt, Ne}
use Rattle.leaf_domain.specs.Ranges.{meet_of, is_empty_range}
use Rattle.leaf_domain.specs.Leaves.{LeafValue, LeafMeaning, is_nothing_of}
use Rattle.paired_leaf.specs.Pairs.{pair_of, first_of, second_of, IsPair, HoldsBoth}
use Rattle.paired_leaf.specs.Exchange.{exchanged}

-- what lies in both ranges, as far as there are any
abbrev pub both_ranges : Option Range → Option Range → Option Range
both_ranges None q = q
both_ranges (Some r) None = Some r
both_ranges (Some r) (Some q) = Some (meet_of r q)

-- what lies in both ranges, and the first where nothing does: two leaves that are not Nothing may have no store in common
abbrev pub both_bounds : Range → Range → Range
both_bounds r q = if is_empty_range (meet_of r q) then r else meet_of r q

-- the step of the second leaf where both ranges begin with its low end, and else 1
abbrev pub step_where : Range → Range → ℕ → ℕ
step_where r q k = if int_eq r.low q.low then k else 1

-- the leaf as it is where it is above the other, and else widened
abbrev pub widened_to : LeafMeaning → List ℤ → LeafValue → LeafValue → LeafValue
widened_to M ts x g = if M.leq g x then x else M.widen ts x g

-- the pair of the joins, and one of both where the other is Nothing
abbrev pub joined : LeafMeaning → LeafMeaning → LeafValue → LeafValue → LeafValue
joined A B v w =
    if is_nothing_of v then w else (if is_nothing_of w then v else pair_of (A.join (first_of v) (first_of w)) (B.join (second_of v) (second_of w)))

-- two leaves met with a comparison
abbrev pub both_compared : LeafMeaning → LeafMeaning → LeafValue → LeafValue → Form → Compare → LeafValue
both_compared A B a b f op = exchanged A B (A.meet_form a f op) (B.meet_form b f op)

-- where the form is below 0 and where it is above 0, of two leaves
abbrev pub either_side : LeafMeaning → LeafMeaning → LeafValue → LeafValue → Form → LeafValue
either_side A B a b f = joined A B (both_compared A B a b f Lt) (both_compared A B a b f Gt)

-- a form is not 0 where it is below 0 or above 0
abbrev pub compared : LeafMeaning → LeafMeaning → LeafValue → Form → Compare → LeafValue
compared A B v f Ne = either_side A B (A.meet_form (first_of v) f Ne) (B.meet_form (second_of v) f Ne) f
compared A B v f op = both_compared A B (first_of v) (second_of v) f op

abbrev pub paired : LeafMeaning → LeafMeaning → LeafMeaning
paired A B = record {
  valid = IsPair A B;
  holds = HoldsBoth A B;
  start = λ s. pair_of (A.start s) (B.start s);
  bound_count = λ n. A.bound_count n + B.bound_count n;
  steps_left = λ ts v. A.steps_left ts (first_of v) + B.steps_left ts (second_of v);
  best = λ v. exchanged A B (A.best (first_of v)) (B.best (second_of v));
  leq = λ v w. A.leq (first_of v) (first_of w) && B.leq (second_of v) (second_of w);
  join = joined A B;
  widen = λ ts x g. pair_of (widened_to A ts (first_of x) (first_of g)) (widened_to B ts (second_of x) (second_of g));
  narrow = λ ts x g. pair_of (A.narrow ts (first_of x) (first_of g)) (B.narrow ts (second_of x) (second_of g));
  bounds_of = λ v x. both_bounds (A.bounds_of (first_of v) x) (B.bounds_of (second_of v) x);
  step_of = λ v x. step_where (both_bounds (A.bounds_of (first_of v) x) (B.bounds_of (second_of v) x)) (B.bounds_of (second_of v) x) (B.step_of (second_of v) x);
  form_range = λ v f. both_ranges (A.form_range (first_of v) f) (B.form_range (second_of v) f);
  meet_range = λ v x r. exchanged A B (A.meet_range (first_of v) x r) (B.meet_range (second_of v) x r);
  meet_form = compared A B;
  set_range = λ v x r. exchanged A B (A.set_range (first_of v) x r) (B.set_range (second_of v) x r);
  set_form = λ v x f r. exchanged A B (A.set_form (first_of v) x f r) (B.set_form (second_of v) x f r);
  operation_range = λ v p. both_ranges (A.operation_range (first_of v) p) (B.operation_range (second_of v) p);
  meet_operation = λ v p op r. exchanged A B (A.meet_operation (first_of v) p op r) (B.meet_operation (second_of v) p op r);
  set_operation = λ v x p r. exchanged A B (A.set_operation (first_of v) x p r) (B.set_operation (second_of v) x p r);
}
