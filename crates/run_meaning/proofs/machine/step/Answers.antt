use Rattle.std.proofs.Common.{◌≡◌, subst, sym}
use Rattle.c_tree.specs.Run.{step_of, IsFit}
use Rattle.run_meaning.specs.View.{pile, below, nest, standing, left_by, performed}
use Rattle.run_meaning.proofs.Fits.{IsFit-left_by, IsFit-after}
use Rattle.run_meaning.proofs.machine.step.Goals as goal

pub returns-clause-fit : goal.returns-clause-fit
returns-clause-fit c =
    let inputs = c.args.inputs.now in
    let state = c.args.state.now in
    let levels = nest state.levels.items in
    let plan = c.in_ok-plan.plan in
    let done = subst (λ s. step_of c.args.mode inputs (pile state.todo.items) levels s state.taken ≡ performed plan (below state.todo.items) (pile state.todo.items) levels s state.taken) c.deref.ensures.value
    (subst (λ x. step_of c.args.mode inputs x levels c.deref.result.now state.taken ≡ performed plan (below state.todo.items) x levels c.deref.result.now state.taken) (sym c.in-Some.ensures) (c.in_ok-plan.ensures.does (below state.todo.items) levels)) in
    IsFit-after c.act.result (standing c.act.new.state) (standing state) (performed plan (below state.todo.items) (pile state.todo.items) levels state.store.items state.taken)
    (subst (λ o. IsFit (left_by o (standing state))) done (IsFit-left_by c.args.mode inputs (standing state) c.requires.ints c.requires.fit))
    c.requires.fit c.act.ensures.left c.act.ensures.err
