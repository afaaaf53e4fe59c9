use Rattle.std.proofs.Common.{ap, ◌∙◌}
use Rattle.product_leaf.specs.StrideLeaves.{strides}
use Rattle.congruence_leaf.proofs.leaf.CongruenceLeafLeaf.leq.Goals as goal

pub returns : goal.returns
returns c = c.leq.ensures ∙ ap (λ u. strides.leq u c.strides-2.result.now) c.strides.ensures ∙ ap (λ u. strides.leq c.args.self.now u) c.strides-2.ensures
