use Rattle.std.proofs.Common.{ap, ◌∙◌}
use Rattle.product_leaf.specs.StrideLeaves.{strides}
use Rattle.congruence_leaf.proofs.leaf.CongruenceLeafLeaf.set_form.Goals as goal

pub returns : goal.returns
returns c = c.of.ensures ∙ c.in_ok-strides.ensures ∙ ap (λ u. strides.set_form u c.args.x c.args.f.now c.args.r) c.strides.ensures
