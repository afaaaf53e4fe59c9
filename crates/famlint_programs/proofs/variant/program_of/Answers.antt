use Rattle.std.proofs.Common.{◌≡◌, ◌∙◌, ap, map}
use Rattle.std.proofs.lemmas.Result.{IfOk-weaker}
use Rattle.cpp_conditions.specs.Numbering.{vector_at}
use Rattle.cpp_conditions.specs.Propositions.{true_on}
use Rattle.cpp_conditions.specs.View.{formula}
use Rattle.c_tree.specs.Project.{projected_program}
use Rattle.c_tree.specs.View.{whole}
use Rattle.c_parser.specs.Variants.{truths_in}
use Rattle.famlint_loads.specs.Selected.{IsProgramOf}
use Rattle.famlint_loads.proofs.Selecting.{is_program_at}
use Rattle.famlint_programs.proofs.variant.program_of.Goals as goal

pub returns-clause-is : goal.returns-clause-is
returns-clause-is c =
    let s = c.args.selected.now in
    let values = s.config.values in
    let vector : c.deref.result.now ≡ vector_at s.line.family.atoms values = c.deref.ensures.value ∙ c.in_ok-vector.ensures ∙ ap (λ xs. vector_at xs values) c.items.ensures in
    let truths : c.deref-2.result.now ≡ truths_in s.line.family values =
    c.deref-2.ensures.value ∙ c.in_ok-truths.ensures ∙ ap (λ v. map (λ f. true_on v (formula f)) c.items-2.result.now) vector
    ∙ ap (λ fs. map (λ f. true_on (vector_at s.line.family.atoms values) (formula f)) fs) c.items-2.ensures in
    IfOk-weaker c.project.result (λ p. whole p ≡ projected_program c.deref-2.result.now (whole s.line.family.code)) (λ p. IsProgramOf s (whole p))
    (λ p e. is_program_at c.variants_are_projections.ensures.read s.line values (whole p) c.requires.line.spelled c.requires.valid (e ∙ ap (λ ts. projected_program ts (whole s.line.family.code)) truths))
    c.project.ensures.value
