use Rattle.std.proofs.lemmas.Result.{IfOk-weaker}
use Rattle.std.proofs.Common.{ℤ, List, Option, true, length, sym, subst}
use Rattle.linear_atoms.specs.declared.atoms.Config.{Config}
use Rattle.cpp_conditions.specs.Propositions.{Const, IsFit, true_at}
use Rattle.cpp_conditions.specs.View.{proposition}
use Rattle.atom_solver.specs.Solutions.{Finds, all_hold}
use Rattle.atom_solver.proofs.Wants.{literals_fit, found_least}
use Rattle.atom_solver.proofs.prepared.Prepared.least.Goals as goal

pub first-requires : goal.first-requires
first-requires c =
    let n = length c.args.self.now.features in
    subst (IsFit n) (sym c.in_ok-wanted.ensures) (literals_fit n c.args.literals.now (Const true) c.requires tt)

pub returns-clause-first : goal.returns-clause-first
returns-clause-first c =
    let p = proposition c.in_ok-wanted.wanted in
    let m = c.args.self.now in
    let ls = c.args.literals.now in
    IfOk-weaker c.first.result (λ (found : Option Config). Finds m (λ (values : List ℤ). true_at values p) found) (λ (found : Option Config). Finds m (λ (values : List ℤ). all_hold ls values) found)
    (λ found f. found_least m ls p found c.in_ok-wanted.ensures f)
    c.first.ensures.first
