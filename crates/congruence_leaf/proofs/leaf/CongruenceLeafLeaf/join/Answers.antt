use Rattle.std.proofs.Common.{ap, ◌∙◌}
use Rattle.product_leaf.specs.StrideLeaves.{strides}
use Rattle.congruence_leaf.proofs.leaf.CongruenceLeafLeaf.join.Goals as goal

pub returns : goal.returns
returns c =
    c.of.ensures ∙ c.in_ok-strides.ensures ∙ ap (λ u. strides.join u c.strides-2.result.now) c.strides.ensures ∙ ap (λ u. strides.join c.args.self.now u) c.strides-2.ensures
