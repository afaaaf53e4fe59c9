use Rattle.std.proofs.Common.{rules, arith}
use Rattle.std.proofs.lemmas.Grind.{common_steps}
use Rattle.for_blocks.specs.Blocks.{unfolded, unfolded_from}
use Rattle.for_blocks.proofs.blocks.unfolded.Goals as goal

pub items-init : goal.items-init
unfolding unfolded
items-init c = search rules

pub items-preserved : goal.items-preserved
unfolding unfolded_from
items-preserved c = grind (arith, common_steps)

pub returns : goal.returns
unfolding unfolded_from
returns c = grind (arith, common_steps)
