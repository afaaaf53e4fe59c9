use Rattle.std.proofs.Common.{◌∙◌, [], ap, sym}
use Rattle.c_tree.specs.Tree.{Done, Break}
use Rattle.c_tree.specs.Run as run
use Rattle.run_meaning.specs.View.{pile, nest}
use Rattle.run_meaning.proofs.Stacks.{pile-empty}
use Rattle.run_meaning.proofs.Nests.{standing-same}
use Rattle.run_meaning.proofs.levels.break_loop.Goals as goal

pub returns-in-None : goal.returns-in-None
returns-in-None c =
    standing-same (pile c.clear.new.self.items) Done (nest c.leave_level.new.levels.items) [] c.args.state.now.store.items c.args.state.now.taken (ap pile c.clear.ensures.items ∙ pile-empty) c.in-None.ensures.level.1
    ∙ sym (ap (λ ls. run.left_by Break ls c.args.state.now.store.items c.args.state.now.taken) c.in-None.ensures.level.0)
