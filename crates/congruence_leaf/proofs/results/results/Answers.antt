use Rattle.std.proofs.Common.{Some, ap, sym, subst, ◌∙◌}
use Rattle.strides.specs.declared.strided.Strided.{Strided}
use Rattle.strides.specs.Strides.{IsReduced}
use Rattle.strides.specs.Strided.{reduced}
use Rattle.congruence_leaf.specs.Congruences.{applied_by, results_by, results_of}
use Rattle.congruence_leaf.specs.Laws.Leaves.{best_reduced_stride, values_reduced}
use Rattle.congruence_leaf.proofs.results.results.Goals as goal

pub returns-in-None-clause-value : goal.returns-in-None-clause-value
unfolding results_of
returns-in-None-clause-value c = ap (λ o. results_by c.args.parts.now c.args.p.now.left o) c.in-None.ensures.value

pub returns-in-Some-clause-value : goal.returns-in-Some-clause-value
unfolding results_of
returns-in-Some-clause-value c =
    ap (λ b. Some b) (c.reduced.ensures ∙ ap reduced (c.applied_by.ensures ∙ ap (λ d. applied_by d c.in-Some.function) c.form_numbers-numbers.ensures.value))
    ∙ ap (λ o. results_by c.args.parts.now c.args.p.now.left o) c.in-Some.ensures.value

pub returns-in-Some-clause-reduced : goal.returns-in-Some-clause-reduced
returns-in-Some-clause-reduced c =
    let r = subst (λ (b : Strided). IsReduced b.stride) (sym c.applied_by.ensures) (values_reduced c.form_numbers-numbers.result c.in-Some.function) in
    subst (λ (b : Strided). IsReduced b.stride) (sym c.reduced.ensures) (best_reduced_stride c.applied_by.result r)
