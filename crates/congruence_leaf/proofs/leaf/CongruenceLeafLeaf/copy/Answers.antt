use Rattle.std.proofs.Common.{◌∙◌}
use Rattle.congruence_leaf.proofs.leaf.CongruenceLeafLeaf.copy.Goals as goal

pub returns : goal.returns
returns c = c.of.ensures ∙ c.in_ok-strides.ensures ∙ c.strides.ensures
