use Rattle.std.proofs.Common.{◌+◌, ◌*◌, ◌≤◌, ◌&&◌, ◌∙◌, ℤ, List, Option, length, sym, ap, subst, arith}
use Rattle.std.proofs.lemmas.Result.{IfOk-weaker}
use Rattle.linear_atoms.specs.declared.atoms.Config.{Config}
use Rattle.cpp_conditions.specs.Numbering.{vector_at}
use Rattle.cpp_conditions.specs.Propositions.{IsBelow, true_on}
use Rattle.cpp_conditions.specs.View.{formula}
use Rattle.atom_solver.specs.Solutions.{Finds}
use Rattle.configuration_advice.specs.Choices.{are_chosen_on}
use Rattle.configuration_advice.specs.Searching.{FindsFirst}
use Rattle.configuration_advice.proofs.FirstFound.{Stands, first_found}
use Rattle.configuration_advice.proofs.question.first_candidate.Goals as goal

pub least_where-requires-clause-numbers : goal.least_where-requires-clause-numbers
least_where-requires-clause-numbers c =
    let q = c.args.question.now in
    let room : q.first + 2 * length c.args.choices.now ≤ length q.atoms.now = omega (arith, c.requires.asked.room, c.requires.count) in
    c.in_ok-wanted.ensures.below (length q.atoms.now) room (subst (IsBelow (length q.atoms.now)) (sym c.in_ok-quiet.ensures) c.requires.asked.below)

pub returns : goal.returns
returns c =
    let q = c.args.question.now in
    let choices = c.args.choices.now in
    let wanted = formula c.in_ok-wanted.wanted in
    let stands : Stands q choices wanted = λ v. c.in_ok-wanted.ensures.truth v ∙ ap (λ p. are_chosen_on v q.first choices && true_on v p) c.in_ok-quiet.ensures in
    IfOk-weaker c.least_where.result (λ (found : Option Config). Finds q.prepared.now (λ (values : List ℤ). true_on (vector_at q.atoms.now values) wanted) found) (λ (found : Option Config). FindsFirst q choices found)
    (λ found f. first_found q choices wanted c.requires.asked c.requires.count stands found f)
    c.least_where.ensures.first
