use Rattle.certificate_format.proofs.Shapes.{no_alarm_kind}
use Rattle.certificate_format.proofs.forms.alarm_of.Goals as goal

pub returns-in_default-kind_before : goal.returns-in_default-kind_before
returns-in_default-kind_before c =
    no_alarm_kind c.args.line.now c.in-Some.text.now c.in-Some-place_before.place c.in-Some-place_before.text.now c.in-Some.ensures c.in-Some-place_before.ensures.0 c.in-Some-place_before.ensures.1
    c.in_default-kind_before.ensures
