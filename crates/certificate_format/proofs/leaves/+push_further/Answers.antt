use Rattle.std.proofs.Common.{◌≡◌, ◌≢◌, ◌++◌, List, sym, subst}
use Rattle.std.specs.Prelude.{Some, MatchBool}
use Rattle.leaf_domain.specs.declared.range.Range.{Range}
use Rattle.certificate_format.specs.Bounds.{AreIntBounds}
use Rattle.certificate_format.specs.Forms.{further}
use Rattle.certificate_format.proofs.Ranging.{no_item, further_told}
use Rattle.certificate_format.proofs.leaves.+push_further.Goals as goal

pub returns-in_default-item_before : goal.returns-in_default-item_before
returns-in_default-item_before t c =
    subst (λ names. (more : List Range) → AreIntBounds names (Some more) → c.args.text.now ≡ further names more → ⊥) (sym c.in-Some.ensures)
    (no_item c.in-Some.name.now c.in-Some.names.now c.args.text.now c.in-Some-behind.text.now c.in-Some-behind.ensures c.in_default-item_before.ensures)

pub returns : goal.returns
returns t c =
    subst (λ names. MatchBool c.in_ok-whole.whole
    ((more : List Range) × (c.push_further.new.ranges.items ≡ c.args.ranges.now.items ++ more) × AreIntBounds names (Some more) × (c.args.text.now ≡ further names more))
    ((more : List Range) → AreIntBounds names (Some more) → c.args.text.now ≢ further names more)) (sym c.in-Some.ensures)
    (further_told c.args.ranges.now.items c.push.new.self.items c.push_further.new.ranges.items c.in-Some.name.now c.in-Some.names.now c.args.text.now c.in-Some-behind.text.now
    c.in-Some-item_before.range c.in-Some-item_before.text.now c.in_ok-whole.whole c.in-Some-behind.ensures c.in-Some-item_before.ensures.0 c.in-Some-item_before.ensures.1
    c.in_ok-push.ensures.items c.in_ok-whole.ensures)
