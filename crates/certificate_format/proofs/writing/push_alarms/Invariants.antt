use Rattle.std.proofs.Common.{◌≡◌, ◌++◌, take}
use Rattle.std.specs.Prelude.{flat_map}
use Rattle.certificate_format.specs.Texts.{alarm_line}
use Rattle.certificate_format.proofs.writing.push_alarms.Given as goal

abbrev pub invariant-alarms : goal.invariant-alarms
invariant-alarms l = l.text.items ≡ l.initial.text.items ++ flat_map (alarm_line l.regions l.features) (take l.alarm-index l.alarms)
