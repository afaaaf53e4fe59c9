use Rattle.std.proofs.Common.{ap, ◌∙◌}
use Rattle.leaf_domain.specs.Leaves.{is_nothing_of}
use Rattle.congruence_leaf.proofs.leaf.CongruenceLeafLeaf.is_nothing.Goals as goal

pub returns : goal.returns
returns c = c.is_nothing.ensures ∙ ap (λ u. is_nothing_of u) c.strides.ensures
