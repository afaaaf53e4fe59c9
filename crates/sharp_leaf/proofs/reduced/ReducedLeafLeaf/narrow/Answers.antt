use Rattle.std.proofs.Common.{◌≡◌, IfOk, subst, ◌∙◌}
use Rattle.leaf_domain.specs.Leaves.{LeafValue}
use Rattle.octagon_leaf.specs.Octagons.{octagons}
use Rattle.octagon_leaf.specs.Laws.{octagon_laws}
use Rattle.congruence_leaf.specs.Congruences.{congruences as strides}
use Rattle.congruence_leaf.specs.Laws.{congruence_laws as stride_laws}
use Rattle.paired_leaf.specs.Pairs.{first_of, second_of}
use Rattle.sharp_leaf.proofs.Answered.{same_count, pair_same, both_same, firsts_alike, seconds_alike}
use Rattle.sharp_leaf.proofs.reduced.ReducedLeafLeaf.narrow.Goals as goal

pub settled-requires : goal.settled-requires
settled-requires c =
    same_count c.args.self.now _ _ _ _
    (octagon_laws.narrow_answers c.args.thresholds.now (first_of c.args.self.now) (first_of c.args.other.now) (firsts_alike c.args.self.now c.args.other.now c.octagon.ensures.valid c.octagon-2.ensures.valid c.requires))
    (stride_laws.narrow_answers c.args.thresholds.now (second_of c.args.self.now) (second_of c.args.other.now) (seconds_alike c.args.self.now c.args.other.now c.octagon.ensures.valid c.octagon-2.ensures.valid c.requires))
    (c.in_ok-octagon.ensures ∙ both_same (octagons.narrow c.args.thresholds.now) _ _ _ _ c.octagon.ensures.value c.octagon-2.ensures.value)
    (c.in_ok-strides.ensures ∙ both_same (strides.narrow c.args.thresholds.now) _ _ _ _ c.strides.ensures.value c.strides-2.ensures.value)

pub returns : goal.returns
returns c =
    let P : LeafValue → Type 0 = λ u. IfOk c.settled.result (λ leaf. leaf ≡ u) in
    subst P
    (pair_same _ _ _ _
    (c.in_ok-octagon.ensures ∙ both_same (octagons.narrow c.args.thresholds.now) _ _ _ _ c.octagon.ensures.value c.octagon-2.ensures.value)
    (c.in_ok-strides.ensures ∙ both_same (strides.narrow c.args.thresholds.now) _ _ _ _ c.strides.ensures.value c.strides-2.ensures.value))
    c.settled.ensures
