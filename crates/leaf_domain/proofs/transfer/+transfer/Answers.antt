use Rattle.std.proofs.Common.{sym, ap, ◌∙◌, false, ◌≡◌}
use Rattle.std.proofs.lemmas.Result.{IfOk-weaker}
use Rattle.c_tree.specs.View.{term}
use Rattle.leaf_domain.specs.Compares.{negation_of}
use Rattle.leaf_domain.specs.Evaluations.{survey_of, is_truth_term, compare_of_op}
use Rattle.leaf_domain.specs.Transfer.{variable_of}
use Rattle.leaf_domain.proofs.NodeEquations.{operation_is, number_true_is, number_false_is, Compared, by_operands, comparison_true_is, comparison_false_is, comparison_stops_is}
use Rattle.leaf_domain.proofs.transfer.+transfer.Goals as goal

pub survey-returns-in_ok-right-in-Binary-clause-value :
    goal.survey-returns-in_ok-right-in-Binary-clause-value
survey-returns-in_ok-right-in-Binary-clause-value g t c =
    let v = g.L.Leaf.value c.args.leaf.now in
    IfOk-weaker c.operation.result _ _
    (λ found h. operation_is g.L.Leaf.meaning c.args.mode (term c.args.e.now) c.in-Binary.op (term c.in-Binary.a.value) (term c.in-Binary.b.value) v
    c.in_ok-left-in-Binary.left c.in_ok-right-in-Binary.right found (ap term c.in-Binary.is) (sym c.is_truth.ensures ∙ c.if-is_truth.false)
    (c.in_ok-left-in-Binary.ensures.value ∙ ap (λ k. survey_of g.L.Leaf.meaning c.args.mode (term k) v) c.deref-in-Binary.ensures)
    (c.in_ok-right-in-Binary.ensures.value ∙ ap (λ k. survey_of g.L.Leaf.meaning c.args.mode (term k) v) c.deref-in-Binary-2.ensures) h)
    c.operation.ensures.value

pub split_with_stops-returns-then-not-is_truth-clause-when_true :
    goal.split_with_stops-returns-then-not-is_truth-clause-when_true
split_with_stops-returns-then-not-is_truth-clause-when_true g t c =
    let truth : is_truth_term (term c.args.e.now) ≡ false = sym c.is_truth.ensures ∙ c.if-not-is_truth.true in
    ap g.L.Leaf.value c.with_stops.ensures.when_true
    ∙ number_true_is g.L.Leaf.meaning c.args.mode (term c.args.e.now) (g.L.Leaf.value c.args.leaf.now) _ c.in_ok-found.found (sym c.is_nothing.ensures ∙ c.if-is_nothing.false) truth c.in_ok-found.ensures.value
    c.in_ok-sides.ensures.when_true

pub split_with_stops-returns-then-not-is_truth-clause-when_false :
    goal.split_with_stops-returns-then-not-is_truth-clause-when_false
split_with_stops-returns-then-not-is_truth-clause-when_false g t c =
    let truth : is_truth_term (term c.args.e.now) ≡ false = sym c.is_truth.ensures ∙ c.if-not-is_truth.true in
    ap g.L.Leaf.value c.with_stops.ensures.when_false
    ∙ number_false_is g.L.Leaf.meaning c.args.mode (term c.args.e.now) (g.L.Leaf.value c.args.leaf.now) _ c.in_ok-found.found (sym c.is_nothing.ensures ∙ c.if-is_nothing.false) truth c.in_ok-found.ensures.value
    c.in_ok-sides.ensures.when_false

pub split_with_stops-returns-in_ok-sides-in_default-op :
    goal.split_with_stops-returns-in_ok-sides-in_default-op
split_with_stops-returns-in_ok-sides-in_default-op g t c =
    let M = g.L.Leaf.meaning in
    let e = term c.args.e.now in
    let op = c.in-Binary.op in
    let a = term c.in-Binary.a.value in
    let b = term c.in-Binary.b.value in
    let v = g.L.Leaf.value c.args.leaf.now in
    let left = c.in_ok-left-in_default-op.left in
    let right = c.in_ok-right-in_default-op.right in
    let x = ap (λ k. variable_of (term k)) c.deref-in_default-op-3.ensures in
    let y = ap (λ k. variable_of (term k)) c.deref-in_default-op-4.ensures in
    let known : Compared M c.args.mode e op a b v left right = record {
      is = ap term c.in-Binary.is;
      other = sym c.is_nothing.ensures ∙ c.if-is_nothing.false;
      truth = sym c.is_truth.ensures ∙ c.if-not-is_truth.false;
      not_and = c.in_default-op.not-And;
      not_or = c.in_default-op.not-Or;
      left_is = c.in_ok-left-in_default-op.ensures.value ∙ ap (λ k. survey_of M c.args.mode (term k) v) c.deref-in_default-op.ensures;
      right_is = c.in_ok-right-in_default-op.ensures.value ∙ ap (λ k. survey_of M c.args.mode (term k) v) c.deref-in_default-op-2.ensures;
    } in
    record {
      when_true = ap g.L.Leaf.value c.with_stops-in_default-op.ensures.when_true
          ∙ comparison_true_is M c.args.mode e op a b v _ left right known (by_operands M _ (compare_of_op op) _ _ (variable_of a) (variable_of b) left right v _ c.comparison.ensures x y c.in_ok-sides-in_default-op.ensures.when_true);
      when_false = ap g.L.Leaf.value c.with_stops-in_default-op.ensures.when_false
          ∙ comparison_false_is M c.args.mode e op a b v _ left right known (by_operands M _ (negation_of (compare_of_op op)) _ _ (variable_of a) (variable_of b) left right v _ (ap negation_of c.comparison.ensures) x y c.in_ok-sides-in_default-op.ensures.when_false);
      true_same = ap (λ k. (g.L.Leaf.value k).variables) c.with_stops-in_default-op.ensures.when_true ∙ c.in_ok-sides-in_default-op.ensures.true_same;
      false_same = ap (λ k. (g.L.Leaf.value k).variables) c.with_stops-in_default-op.ensures.when_false ∙ c.in_ok-sides-in_default-op.ensures.false_same;
      stops = c.with_stops-in_default-op.ensures.stops ∙ comparison_stops_is M c.args.mode e op a b v left right _ known c.operator_stops-stops.ensures;
    }
