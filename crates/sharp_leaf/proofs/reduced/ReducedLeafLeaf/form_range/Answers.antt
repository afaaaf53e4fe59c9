use Rattle.std.proofs.Common.{ap, ◌∙◌}
use Rattle.octagon_leaf.specs.Octagons.{octagons}
use Rattle.congruence_leaf.specs.Congruences.{congruences as strides}
use Rattle.paired_leaf.specs.Pairs.{first_of}
use Rattle.paired_leaf.specs.PairedLeaves.{both_ranges}
use Rattle.sharp_leaf.proofs.reduced.ReducedLeafLeaf.form_range.Goals as goal

pub returns : goal.returns
returns c =
    c.both_ranges.ensures ∙ ap (λ r. both_ranges r c.form_range-2.result) (c.form_range.ensures ∙ ap (λ u. octagons.form_range u c.args.f.now) c.octagon.ensures.value)
    ∙ ap (λ r. both_ranges (octagons.form_range (first_of c.args.self.now) c.args.f.now) r) (c.form_range-2.ensures ∙ ap (λ u. strides.form_range u c.args.f.now) c.strides.ensures.value)
