use Rattle.std.proofs.Common.{ap, ◌∙◌}
use Rattle.octagon_leaf.specs.Octagons.{octagons}
use Rattle.congruence_leaf.specs.Congruences.{congruences as strides}
use Rattle.paired_leaf.specs.Pairs.{first_of}
use Rattle.paired_leaf.specs.PairedLeaves.{both_ranges}
use Rattle.sharp_leaf.proofs.reduced.ReducedLeafLeaf.operation_range.Goals as goal

pub returns : goal.returns
returns c =
    c.both_ranges.ensures ∙ ap (λ r. both_ranges r c.operation_range-2.result) (c.operation_range.ensures ∙ ap (λ u. octagons.operation_range u c.args.p.now) c.octagon.ensures.value)
    ∙ ap (λ r. both_ranges (octagons.operation_range (first_of c.args.self.now) c.args.p.now) r) (c.operation_range-2.ensures ∙ ap (λ u. strides.operation_range u c.args.p.now) c.strides.ensures.value)
