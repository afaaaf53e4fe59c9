use Rattle.std.proofs.lemmas.Result.{IfOk-weaker}
use Rattle.std.proofs.Common.{ℤ, List, Option, length}
use Rattle.linear_atoms.specs.declared.atoms.Config.{Config}
use Rattle.cpp_conditions.specs.Numbering.{vector_at}
use Rattle.cpp_conditions.specs.Propositions.{true_at, true_on}
use Rattle.cpp_conditions.specs.View.{proposition, formula}
use Rattle.atom_solver.specs.Solutions.{Finds}
use Rattle.atom_solver.proofs.Wants.{formula_fit, found_where}
use Rattle.atom_solver.proofs.prepared.Prepared.least_where.Goals as goal

pub first-requires : goal.first-requires
first-requires c =
    formula_fit (length c.args.self.now.features) c.args.atoms.now (proposition c.in_ok-wanted.wanted) (formula c.args.wanted.now) c.requires.atoms c.in_ok-wanted.ensures

pub returns-clause-first : goal.returns-clause-first
returns-clause-first c =
    let p = proposition c.in_ok-wanted.wanted in
    let q = formula c.args.wanted.now in
    let m = c.args.self.now in
    let atoms = c.args.atoms.now in
    IfOk-weaker c.first.result (λ (found : Option Config). Finds m (λ (values : List ℤ). true_at values p) found) (λ (found : Option Config). Finds m (λ (values : List ℤ). true_on (vector_at atoms values) q) found)
    (λ found f. found_where m atoms p q found c.in_ok-wanted.ensures f)
    c.first.ensures.first
