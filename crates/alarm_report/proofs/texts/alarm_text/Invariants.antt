use Rattle.std.proofs.Common.{◌≡◌, take}
use Rattle.std.specs.Prelude.{flat_map}
use Rattle.alarm_report.specs.Texts.{family_line}
use Rattle.alarm_report.proofs.texts.alarm_text.Given as goal

abbrev pub invariant-alarms : goal.invariant-alarms
invariant-alarms l = l.text.items ≡ flat_map (family_line l.regions l.features) (take l.alarm-index l.alarms)
