-- Octagons together with intervals and strides are below both.
use Rattle.std.proofs.Common.{sym, ◌∙◌}
use Rattle.leaf_domain.specs.Leaves.{Alike, IsLeafLike}
use Rattle.octagon_leaf.specs.Octagons.{octagons}
use Rattle.octagon_leaf.specs.Laws.{octagon_laws}
use Rattle.octagon_leaf.proofs.Exactness.{leaf-exact, join-least}
use Rattle.product_leaf.specs.StrideLeaves.{strides}
use Rattle.product_leaf.specs.Laws.{stride_laws}
use Rattle.product_leaf.proofs.ExactLaws.{ordered_by_stores, join_least}
use Rattle.congruence_leaf.specs.Congruences.{congruences}
use Rattle.congruence_leaf.specs.Laws.{congruence_laws, alike}
use Rattle.congruence_leaf.proofs.Exactness.{congruences_exact}
use Rattle.paired_leaf.specs.Below.{JoinIsLeast, IsBelowParts}
use Rattle.paired_leaf.proofs.BelowLaws.{paired_below}
use Rattle.linearised_leaf.proofs.BelowLaws.{HasParts, linearised_below}
use Rattle.sharp_leaf.specs.SharpLeaves.{reduced, sharp}
use Rattle.sharp_leaf.specs.Laws.{reduced_laws}

stride_least : JoinIsLeast strides
stride_least a b c k p e f g s h =
    let i : Alike strides a c = record { first = k.first; second = p; same = sym e } in
    let j : Alike strides b c = record { first = k.second; second = p; same = sym k.same ∙ sym e } in
    let r : IsLeafLike strides a (strides.join a b) = stride_laws.join_answers a b k in
    let l : Alike strides (strides.join a b) c = record { first = r.valid; second = p; same = r.same ∙ sym e } in
    (ordered_by_stores (strides.join a b) c l).0 (join_least a b c i j ((ordered_by_stores a c i).1 f) ((ordered_by_stores b c j).1 g)) s h

pub congruence_least : JoinIsLeast congruences
congruence_least a b c k p e f g s h = stride_least a b c (alike a b k) p e f g s h

reduced_below : IsBelowParts octagons congruences reduced
reduced_below = paired_below octagons congruences octagon_laws congruence_laws leaf-exact congruences_exact join-least congruence_least

pub reduced_parts : HasParts octagons congruences reduced
reduced_parts v p = (p.first, p.second)

pub sharp_below : IsBelowParts octagons congruences sharp
sharp_below = linearised_below octagons congruences reduced reduced_laws leaf-exact congruences_exact reduced_below reduced_parts join-least congruence_least
