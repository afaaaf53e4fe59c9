use Rattle.std.proofs.Common.{length, sym, subst, ap, ◌∙◌}
use Rattle.cpp_conditions.specs.Propositions.{IsFit, Not}
use Rattle.cpp_conditions.specs.View.{proposition}
use Rattle.atom_solver.specs.Wanted.{of_literal, of_literals}
use Rattle.atom_solver.proofs.Wants.{literals_fit, denial_fit, implied_is}
use Rattle.atom_solver.proofs.prepared.Prepared.implied.Goals as goal

pub first-requires : goal.first-requires
first-requires c =
    let n = length c.args.self.now.features in
    let e = c.in_ok-wanted.ensures ∙ ap (of_literals c.args.literals.now) c.in_ok-denied.ensures in
    subst (IsFit n) (sym e) (literals_fit n c.args.literals.now (Not (of_literal c.args.literal.now)) c.requires.literals (denial_fit n c.args.literal.now c.requires.literal))

pub returns : goal.returns
returns c =
    let e = c.in_ok-wanted.ensures ∙ ap (of_literals c.args.literals.now) c.in_ok-denied.ensures in
    implied_is c.args.self.now c.args.literals.now c.args.literal.now (proposition c.in_ok-wanted.wanted) c.in_ok-found.found c.is_none.result e c.is_none.ensures c.in_ok-found.ensures.first
