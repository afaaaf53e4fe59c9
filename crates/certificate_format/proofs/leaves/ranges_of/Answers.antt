use Rattle.std.proofs.Common.{◌≡◌, List, sym, subst}
use Rattle.std.specs.Prelude.{Some}
use Rattle.leaf_domain.specs.declared.range.Range.{Range}
use Rattle.certificate_format.specs.Bounds.{bounds_text, AreIntBounds}
use Rattle.certificate_format.proofs.Ranging.{no_first, no_others, told_false}
use Rattle.certificate_format.proofs.leaves.ranges_of.Goals as goal

pub returns-in_default-item_before : goal.returns-in_default-item_before
returns-in_default-item_before c =
    subst (λ names. (ranges : List Range) → AreIntBounds names (Some ranges) → c.args.text.now ≡ bounds_text names (Some ranges) → ⊥) (sym c.in-Some.ensures)
    (no_first c.in-Some.name.now c.in-Some.names.now c.args.text.now c.in_default-item_before.ensures)

pub returns-else-branch : goal.returns-else-branch
returns-else-branch c =
    subst (λ names. (ranges : List Range) → AreIntBounds names (Some ranges) → c.args.text.now ≡ bounds_text names (Some ranges) → ⊥) (sym c.in-Some.ensures)
    (no_others c.in-Some.name.now c.in-Some.names.now c.args.text.now c.in-Some-item_before.range c.in-Some-item_before.text.now c.in-Some-item_before.ensures.0 c.in-Some-item_before.ensures.1
    (told_false _ _ c.if-branch.false c.in_ok-push_further.ensures))
