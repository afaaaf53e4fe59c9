use Rattle.std.proofs.Common.{ap, ◌∙◌}
use Rattle.octagon_leaf.specs.Octagons.{octagons}
use Rattle.congruence_leaf.specs.Congruences.{congruences as strides}
use Rattle.paired_leaf.specs.Pairs.{first_of}
use Rattle.paired_leaf.specs.PairedLeaves.{both_bounds}
use Rattle.sharp_leaf.proofs.reduced.ReducedLeafLeaf.bounds_of.Goals as goal

pub returns : goal.returns
returns c =
    c.both_bounds.ensures ∙ ap (λ r. both_bounds r c.bounds_of-2.result) (c.bounds_of.ensures ∙ ap (λ u. octagons.bounds_of u c.args.x) c.octagon.ensures.value)
    ∙ ap (λ r. both_bounds (octagons.bounds_of (first_of c.args.self.now) c.args.x) r) (c.bounds_of-2.ensures ∙ ap (λ u. strides.bounds_of u c.args.x) c.strides.ensures.value)
