use Rattle.std.proofs.Common.{◌≡◌, ◌<◌, Bool, true, false, not, List, length, take, refl, sym, subst, ◌∙◌, arith}
use Rattle.family_names.specs.declared.groups.Group.{Group}
use Rattle.family_names.specs.declared.groups.Group.TheVariants.{First}
use Rattle.family_names.specs.contracts.groups.GroupPartialEq.TheImpl.{eq-value}
use Rattle.family_names.specs.Groups.{are_kept}
use lib.Pointwise.{pointwise}
use Rattle.family_names.proofs.Begun.{begun, begun_whole}
use Rattle.family_names.proofs.groups.Groups.begins.Goals as goal

equal : (b : Bool) → false ≡ not b → true ≡ b
equal true h = refl
equal false h = absurd cc

pub returns-then-count-others-2 : goal.returns-then-count-others-2
returns-then-count-others-2 c = λ _ truths h.
    let s : true ≡ pointwise eq-value.it (take (length c.items-groups.result.now) c.items-others.result.now) c.items-groups.result.now = equal _ c.if-ne.ensures in
    subst (λ (gs : List Group). are_kept truths gs ≡ true) c.items-groups.ensures.value
    (begun_whole c.items-groups.result.now c.items-others.result.now s c.if-count-others-2.true truths
    (subst (λ (gs : List Group). are_kept truths gs ≡ true) (sym c.items-others.ensures.value) h))

pub returns-else-count-others-2 : goal.returns-else-count-others-2
returns-else-count-others-2 c = λ first truths h.
    let s : true ≡ pointwise eq-value.it (take (length c.items-groups.result.now) c.items-others.result.now) c.items-groups.result.now = equal _ c.if-ne.ensures in
    let lt : length c.items-groups.result.now < length c.items-others.result.now = omega (arith, c.if-count-others.false, c.if-count-others-2.false) in
    subst (λ (gs : List Group). are_kept truths gs ≡ true) c.items-groups.ensures.value
    (begun c.items-groups.result.now c.items-others.result.now (First 0) s lt (sym c.is_first.ensures ∙ first) truths
    (subst (λ (gs : List Group). are_kept truths gs ≡ true) (sym c.items-others.ensures.value) h))
