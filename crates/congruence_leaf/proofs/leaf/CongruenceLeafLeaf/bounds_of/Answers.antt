use Rattle.std.proofs.Common.{ap, ◌∙◌}
use Rattle.product_leaf.specs.StrideLeaves.{strides}
use Rattle.congruence_leaf.proofs.leaf.CongruenceLeafLeaf.bounds_of.Goals as goal

pub returns : goal.returns
returns c = c.bounds_of.ensures ∙ ap (λ u. strides.bounds_of u c.args.x) c.strides.ensures
