use Rattle.std.proofs.Common.{◌≡◌, IfOk, ap, subst, ◌∙◌}
use Rattle.leaf_domain.specs.Leaves.{LeafValue}
use Rattle.octagon_leaf.specs.Octagons.{octagons}
use Rattle.octagon_leaf.specs.Laws.{octagon_laws}
use Rattle.congruence_leaf.specs.Congruences.{congruences as strides}
use Rattle.congruence_leaf.specs.Laws.{congruence_laws as stride_laws}
use Rattle.paired_leaf.specs.Pairs.{first_of, second_of}
use Rattle.sharp_leaf.proofs.Answered.{same_count, exchanged_same}
use Rattle.sharp_leaf.proofs.reduced.ReducedLeafLeaf.meet_range.Goals as goal

pub exchanged-requires : goal.exchanged-requires
exchanged-requires c =
    same_count c.args.self.now _ _ _ _
    (octagon_laws.meet_answers (first_of c.args.self.now) c.args.x c.args.r c.octagon.ensures.valid.first c.requires.x c.requires.r)
    (stride_laws.meet_answers (second_of c.args.self.now) c.args.x c.args.r c.octagon.ensures.valid.second c.requires.x c.requires.r)
    (c.in_ok-octagon.ensures ∙ ap (λ u. octagons.meet_range u c.args.x c.args.r) c.octagon.ensures.value)
    (c.in_ok-strides.ensures ∙ ap (λ u. strides.meet_range u c.args.x c.args.r) c.strides.ensures.value)

pub returns : goal.returns
returns c =
    let P : LeafValue → Type 0 = λ u. IfOk c.exchanged.result (λ leaf. leaf ≡ u) in
    subst P
    (exchanged_same _ _ _ _
    (c.in_ok-octagon.ensures ∙ ap (λ u. octagons.meet_range u c.args.x c.args.r) c.octagon.ensures.value)
    (c.in_ok-strides.ensures ∙ ap (λ u. strides.meet_range u c.args.x c.args.r) c.strides.ensures.value))
    c.exchanged.ensures
