use Rattle.std.proofs.Common.{◌≡◌, IfOk, sym, subst, ◌∙◌}
use Rattle.leaf_domain.specs.Leaves.{LeafValue}
use Rattle.octagon_leaf.specs.Octagons.{octagons}
use Rattle.octagon_leaf.specs.Laws.{octagon_laws}
use Rattle.congruence_leaf.specs.Congruences.{congruences as strides}
use Rattle.congruence_leaf.specs.Laws.{congruence_laws as stride_laws}
use Rattle.paired_leaf.specs.Pairs.{first_of, second_of}
use Rattle.sharp_leaf.proofs.Answered.{same_count, pair_same, both_same, firsts_alike, seconds_alike, joined_first_nothing, joined_second_nothing, joined_parts}
use Rattle.sharp_leaf.proofs.reduced.ReducedLeafLeaf.join.Goals as goal

pub settled-requires : goal.settled-requires
settled-requires c =
    same_count c.args.self.now _ _ _ _
    (octagon_laws.join_answers (first_of c.args.self.now) (first_of c.args.other.now) (firsts_alike c.args.self.now c.args.other.now c.octagon.ensures.valid c.octagon-2.ensures.valid c.requires))
    (stride_laws.join_answers (second_of c.args.self.now) (second_of c.args.other.now) (seconds_alike c.args.self.now c.args.other.now c.octagon.ensures.valid c.octagon-2.ensures.valid c.requires))
    (c.in_ok-octagon.ensures ∙ both_same octagons.join _ _ _ _ c.octagon.ensures.value c.octagon-2.ensures.value)
    (c.in_ok-strides.ensures ∙ both_same strides.join _ _ _ _ c.strides.ensures.value c.strides-2.ensures.value)

pub returns-then-is_nothing : goal.returns-then-is_nothing
returns-then-is_nothing c =
    let P : LeafValue → Type 0 = λ u. IfOk c.copy.result (λ leaf. leaf ≡ u) in
    subst P (joined_first_nothing c.args.self.now c.args.other.now (sym c.is_nothing.ensures ∙ c.if-is_nothing.true)) c.copy.ensures

pub returns-then-is_nothing-2 : goal.returns-then-is_nothing-2
returns-then-is_nothing-2 c =
    let P : LeafValue → Type 0 = λ u. IfOk c.copy-then-is_nothing-2.result (λ leaf. leaf ≡ u) in
    subst P (joined_second_nothing c.args.self.now c.args.other.now (sym c.is_nothing.ensures ∙ c.if-is_nothing.false) (sym c.is_nothing-2.ensures ∙ c.if-is_nothing-2.true)) c.copy-then-is_nothing-2.ensures

pub returns : goal.returns
returns c =
    let P : LeafValue → Type 0 = λ u. IfOk c.settled.result (λ leaf. leaf ≡ u) in
    subst P
    (pair_same _ _ _ _
    (c.in_ok-octagon.ensures ∙ both_same octagons.join _ _ _ _ c.octagon.ensures.value c.octagon-2.ensures.value)
    (c.in_ok-strides.ensures ∙ both_same strides.join _ _ _ _ c.strides.ensures.value c.strides-2.ensures.value)
    ∙ joined_parts c.args.self.now c.args.other.now (sym c.is_nothing.ensures ∙ c.if-is_nothing.false) (sym c.is_nothing-2.ensures ∙ c.if-is_nothing-2.false))
    c.settled.ensures
