use Rattle.std.proofs.Common.{ℤ, List, sym}
use Rattle.std.proofs.lemmas.Result.{IfOk-weaker}
use Rattle.cpp_conditions.specs.Numbering.{vector_at}
use Rattle.cpp_conditions.specs.Propositions.{true_on}
use Rattle.cpp_conditions.specs.View.{formula}
use Rattle.atom_solver.specs.Solutions.{Finds}
use Rattle.family_names.specs.NameContexts.{plain}
use Rattle.family_names.specs.Judging.{is_met_again, taken_in}
use Rattle.family_names.proofs.Answering.{found_same}
use Rattle.family_names.proofs.faults.first_repeated.Goals as goal

pub returns : goal.returns
returns c =
    let asked = λ (values : List ℤ). true_on (vector_at c.args.context.now.atoms.now values) (formula c.in_ok-wanted.wanted) in
    let met = is_met_again (plain c.args.context.now) c.args.seen.now.groups (taken_in c.args.is_static c.args.seen.now) c.args.name in
    IfOk-weaker c.least_where.result (λ found. Finds c.args.context.now.model.now asked found) (λ found. Finds c.args.context.now.model.now met found)
    (λ found f. found_same c.args.context.now.model.now asked met (λ values. sym (c.in_ok-wanted.ensures.truth values)) found f) c.least_where.ensures.first
