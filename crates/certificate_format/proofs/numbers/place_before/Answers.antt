use Rattle.certificate_format.proofs.Placing.{no_column, no_zero_line, no_zero_column}
use Rattle.certificate_format.proofs.numbers.place_before.Goals as goal

pub returns-in_default-natural_before : goal.returns-in_default-natural_before
returns-in_default-natural_before c =
    no_column c.args.separator.now c.args.text.now c.in-Some.line c.in-Some.text.now c.in-Some.ensures.1 c.in-Some.ensures.0 c.in_default-natural_before.ensures

pub returns-then-line-eq0 : goal.returns-then-line-eq0
returns-then-line-eq0 c =
    no_zero_line c.args.separator.now c.args.text.now c.in-Some.line c.in-Some.text.now c.in-Some.ensures.1 c.in-Some.ensures.0 c.if-line-eq0.true

pub returns-then-column-eq0 : goal.returns-then-column-eq0
returns-then-column-eq0 c =
    no_zero_column c.args.separator.now c.args.text.now c.in-Some.line c.in-Some.text.now c.in-Some-natural_before.column c.in-Some-natural_before.behind.now c.requires
    c.in-Some.ensures.1 c.in-Some-natural_before.ensures.1 c.in-Some.ensures.0 c.in-Some-natural_before.ensures.0 c.if-column-eq0.true
