use Rattle.std.proofs.Common.{◌≡◌, Bool, true, false, ◌&&◌, ap, sym, ◌∙◌}
use Rattle.leaf_domain.specs.Leaves.{same_leaf}
use Rattle.octagon_leaf.specs.Octagons.{octagons}
use Rattle.congruence_leaf.specs.Congruences.{congruences as strides}
use Rattle.paired_leaf.specs.Pairs.{first_of, second_of}
use Rattle.paired_leaf.proofs.PartLemmas.{pairs_same}
use Rattle.sharp_leaf.proofs.Answered.{both_same}
use Rattle.sharp_leaf.proofs.reduced.ReducedLeafPartialEq.eq.Goals as goal

pub returns-then-eq : goal.returns-then-eq
returns-then-eq c =
    let v = c.args.self.now in
    let w = c.args.other.now in
    let s : Bool = same_leaf (second_of v) (second_of w) in
    let e : true ≡ same_leaf (first_of v) (first_of w) = sym c.if-eq.true ∙ c.eq.ensures ∙ both_same same_leaf _ _ _ _ c.octagon.ensures.value c.octagon-2.ensures.value in
    c.eq-then-eq.ensures ∙ both_same same_leaf _ _ _ _ c.strides.ensures.value c.strides-then-eq.ensures.value ∙ ap (λ x. x && s) e
    ∙ pairs_same octagons strides v w c.octagon.ensures.valid c.octagon-2.ensures.valid

pub returns-else-eq : goal.returns-else-eq
returns-else-eq c =
    let v = c.args.self.now in
    let w = c.args.other.now in
    let s : Bool = same_leaf (second_of v) (second_of w) in
    let e : false ≡ same_leaf (first_of v) (first_of w) = sym c.if-eq.false ∙ c.eq.ensures ∙ both_same same_leaf _ _ _ _ c.octagon.ensures.value c.octagon-2.ensures.value in
    c.if-eq.false ∙ ap (λ x. x && s) e ∙ pairs_same octagons strides v w c.octagon.ensures.valid c.octagon-2.ensures.valid
