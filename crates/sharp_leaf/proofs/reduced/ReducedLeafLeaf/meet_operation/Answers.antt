use Rattle.std.proofs.Common.{◌≡◌, IfOk, ap, subst, ◌∙◌}
use Rattle.leaf_domain.specs.Leaves.{LeafValue}
use Rattle.octagon_leaf.specs.Octagons.{octagons}
use Rattle.octagon_leaf.specs.Laws.{octagon_laws}
use Rattle.congruence_leaf.specs.Congruences.{congruences as strides}
use Rattle.congruence_leaf.specs.Laws.{congruence_laws as stride_laws}
use Rattle.paired_leaf.specs.Pairs.{first_of, second_of}
use Rattle.sharp_leaf.proofs.Answered.{same_count, exchanged_same}
use Rattle.sharp_leaf.proofs.reduced.ReducedLeafLeaf.meet_operation.Goals as goal

pub exchanged-requires : goal.exchanged-requires
exchanged-requires c =
    same_count c.args.self _ _ _ _
    (octagon_laws.meet_operation_answers (first_of c.args.self) c.args.p.now c.args.op c.args.r c.into_parts-first.ensures.valid.first c.requires.p c.requires.r)
    (stride_laws.meet_operation_answers (second_of c.args.self) c.args.p.now c.args.op c.args.r c.into_parts-first.ensures.valid.second c.requires.p c.requires.r)
    (c.in_ok-octagon.ensures ∙ ap (λ u. octagons.meet_operation u c.args.p.now c.args.op c.args.r) c.into_parts-first.ensures.first)
    (c.in_ok-strides.ensures ∙ ap (λ u. strides.meet_operation u c.args.p.now c.args.op c.args.r) c.into_parts-first.ensures.second)

pub returns : goal.returns
returns c =
    let P : LeafValue → Type 0 = λ u. IfOk c.exchanged.result (λ leaf. leaf ≡ u) in
    subst P
    (exchanged_same _ _ _ _
    (c.in_ok-octagon.ensures ∙ ap (λ u. octagons.meet_operation u c.args.p.now c.args.op c.args.r) c.into_parts-first.ensures.first)
    (c.in_ok-strides.ensures ∙ ap (λ u. strides.meet_operation u c.args.p.now c.args.op c.args.r) c.into_parts-first.ensures.second))
    c.exchanged.ensures
