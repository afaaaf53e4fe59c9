use Rattle.std.proofs.Common.{◌≡◌, IfOk, subst}
use Rattle.leaf_domain.specs.Leaves.{LeafValue}
use Rattle.octagon_leaf.specs.Octagons.{octagons}
use Rattle.congruence_leaf.specs.Congruences.{congruences as strides}
use Rattle.paired_leaf.specs.PairedLeaves.{joined}
use Rattle.sharp_leaf.proofs.Answered.{both_same}
use Rattle.sharp_leaf.proofs.reduced.either_side.Goals as goal

pub returns : goal.returns
returns c =
    let P : LeafValue → Type 0 = λ u. IfOk c.join.result (λ leaf. leaf ≡ u) in
    subst P (both_same (joined octagons strides) _ _ _ _ c.in_ok-below.ensures.value c.in_ok-above.ensures.value) c.join.ensures
