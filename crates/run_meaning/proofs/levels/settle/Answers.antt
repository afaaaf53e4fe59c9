use Rattle.std.proofs.Common.{rules, ◌≡◌, ◌∙◌, length}
use Rattle.run_meaning.specs.View.{pile, nest, level_of}
use Rattle.run_meaning.proofs.Stacks.{pile-none}
use Rattle.run_meaning.proofs.Nests.{settled-here, settled-up}
use Rattle.run_meaning.proofs.levels.settle.Goals as goal

pub over-preserved : goal.over-preserved
over-preserved c =
    let none : length c.over.state.todo.items ≡ 0 = search rules in
    settled-up (pile c.over.state.todo.items) (nest c.over.state.levels.items) (nest c.leave_level.new.levels.items) (level_of c.in-Some.level) c.over.state.store.items c.over.state.taken (pile-none c.over.state.todo.items none) c.in-Some.ensures.level ∙ c.over.invariant

pub returns : goal.returns
returns c = settled-here c.over.state.todo.items (nest c.over.state.levels.items) c.over.state.store.items c.over.state.taken (search rules) ∙ c.over.invariant
