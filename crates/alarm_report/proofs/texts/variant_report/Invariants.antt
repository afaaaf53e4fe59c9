use Rattle.std.proofs.Common.{◌≡◌, take}
use Rattle.std.specs.Prelude.{flat_map}
use Rattle.alarm_report.specs.Texts.{alarm_line, HaveWordPlaces}
use Rattle.alarm_report.proofs.texts.variant_report.Given as goal

abbrev pub invariant-loop-alarm : goal.invariant-loop-alarm
invariant-loop-alarm l = (l.text.items ≡ flat_map alarm_line (take l.alarm-index l.alarms)) × HaveWordPlaces (take l.alarm-index l.alarms)
