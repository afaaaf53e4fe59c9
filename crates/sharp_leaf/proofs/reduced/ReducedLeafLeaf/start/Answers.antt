use Rattle.std.proofs.Common.{◌≡◌, ℕ, IfOk, ap, sym, subst, ◌∙◌}
use Rattle.leaf_domain.specs.Leaves.{LeafValue}
use Rattle.octagon_leaf.specs.Laws.{octagon_laws}
use Rattle.congruence_leaf.specs.Laws.{congruence_laws as stride_laws}
use Rattle.sharp_leaf.proofs.Answered.{pair_same}
use Rattle.sharp_leaf.proofs.reduced.ReducedLeafLeaf.start.Goals as goal

abbrev count_of : LeafValue → ℕ
count_of v = v.variables

pub settled-requires : goal.settled-requires
settled-requires c =
    ap count_of c.in_ok-octagon.ensures ∙ octagon_laws.start_variables c.args.values.now
    ∙ sym (ap count_of c.in_ok-strides.ensures ∙ stride_laws.start_variables c.args.values.now)

pub returns : goal.returns
returns c =
    let P : LeafValue → Type 0 = λ u. IfOk c.settled.result (λ leaf. leaf ≡ u) in
    subst P (pair_same _ _ _ _ c.in_ok-octagon.ensures c.in_ok-strides.ensures) c.settled.ensures
