use Rattle.std.proofs.Common.{◌∙◌, [], ap}
use Rattle.c_tree.specs.Tree.{Done}
use Rattle.run_meaning.specs.View.{pile, nest}
use Rattle.run_meaning.proofs.Stacks.{pile-empty}
use Rattle.run_meaning.proofs.Nests.{nest-empty, standing-same}
use Rattle.run_meaning.proofs.levels.finish.Goals as goal

pub returns : goal.returns
returns c =
    standing-same (pile c.clear.new.self.items) Done (nest c.clear-2.new.self.items) [] c.args.state.now.store.items c.args.state.now.taken (ap pile c.clear.ensures.items ∙ pile-empty) (ap nest c.clear-2.ensures.items ∙ nest-empty)
