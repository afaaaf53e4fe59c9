use Rattle.std.proofs.Common.{subst, sym}
use Rattle.cpp_conditions.specs.View.{formula}
use Rattle.atom_solver.specs.Clauses.{AddsClauses}
use Rattle.atom_solver.specs.Facts.{AreMetWithin}
use Rattle.atom_solver.specs.Spans.{ranges}
use Rattle.atom_solver.proofs.Claused.{untrue_clauses}
use Rattle.atom_solver.proofs.branching.is_untrue_where.Goals as goal

pub returns : goal.returns
returns c done =
    let fs = ranges c.args.spans.now in
    let new = c.propagate.new.known in
    let p = formula c.args.asked.now in
    let ends = c.deref-4.result.now in
    let clauses = c.deref-5.result.now in
    let a : AddsClauses new p c.new-clauses.result.items clauses = subst (λ x. AddsClauses new p c.new-clauses.result.items x) (sym c.deref-5.ensures.value) c.in_ok-add_clauses.ensures in
    untrue_clauses fs ends c.args.atoms.now c.args.known.now new p clauses c.propagate.ensures
    (subst (λ x. AddsClauses new p x clauses) c.new-clauses.ensures.items a)
    (subst (λ x. AreMetWithin fs x) (sym c.deref-4.ensures.value) c.in_ok-ends.ensures) (c.in_ok-answer.ensures done)
