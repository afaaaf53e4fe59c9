use Rattle.std.proofs.Common.{ap, ◌∙◌}
use Rattle.leaf_domain.specs.Leaves.{is_nothing_of}
use Rattle.paired_leaf.proofs.PairLemmas.{first_nothing}
use Rattle.sharp_leaf.proofs.reduced.ReducedLeafLeaf.is_nothing.Goals as goal

pub returns : goal.returns
returns c = c.is_nothing.ensures ∙ ap (λ v. is_nothing_of v) c.octagon.ensures.value ∙ first_nothing c.args.self.now
