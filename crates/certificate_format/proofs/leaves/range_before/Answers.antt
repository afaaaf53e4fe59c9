use Rattle.std.proofs.Common.{◌≡◌, ◌++◌, true, false, sym, subst₂}
use Rattle.std.specs.Prelude.{int_lt}
use Rattle.alarm_report.specs.LeafTexts.{within_text}
use Rattle.certificate_format.specs.Bounds.{IsIntRange}
use Rattle.certificate_format.proofs.Digits.{int_fits}
use Rattle.certificate_format.proofs.Ranging.{no_high, no_range, range_is, int_range, not_less}
use Rattle.certificate_format.proofs.leaves.range_before.Goals as goal

pub returns-in_default-integer_before-2 : goal.returns-in_default-integer_before-2
returns-in_default-integer_before-2 c =
    no_high c.args.text.now c.in-Some.text.now c.in-Some-integer_before.low c.in-Some-integer_before.text.now c.in-Some-integer_before.ensures.1 c.in-Some.ensures c.in-Some-integer_before.ensures.0
    c.in_default-integer_before-2.ensures

pub returns-then-high-low : goal.returns-then-high-low
returns-then-high-low c =
    let low = c.in-Some-integer_before.ensures in
    let high = c.in-Some-integer_before-2.ensures in
    no_range c.args.text.now c.in-Some.text.now c.in-Some-integer_before.low c.in-Some-integer_before.text.now c.in-Some-integer_before-2.high c.in-Some-integer_before-2.text.now
    low.1 high.1 c.in-Some.ensures low.0 high.0
    (subst₂ (λ l h. int_lt h l ≡ true) (int_fits c.in-Some-integer_before.low low.1) (int_fits c.in-Some-integer_before-2.high high.1) c.if-high-low.true)

pub returns : goal.returns
returns c =
    let l = c.in-Some-integer_before.low in
    let h = c.in-Some-integer_before-2.high in
    let low = c.in-Some-integer_before.ensures in
    let high = c.in-Some-integer_before-2.ensures in
    subst₂ (λ a b. (c.args.text.now ≡ within_text (record { low = a; high = b }) ++ c.in-Some-integer_before-2.text.now) × IsIntRange (record { low = a; high = b }))
    (sym (int_fits l low.1)) (sym (int_fits h high.1)) (
      range_is c.args.text.now c.in-Some.text.now c.in-Some-integer_before.text.now c.in-Some-integer_before-2.text.now l h c.in-Some.ensures low.0 high.0,
      int_range l h low.1 high.1 (not_less h l (subst₂ (λ a b. int_lt b a ≡ false) (int_fits l low.1) (int_fits h high.1) c.if-high-low.false)),
    )
