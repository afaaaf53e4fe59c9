use Rattle.std.proofs.Common.{◌≡◌, map}
use Rattle.alarm_report.specs.Alarms.{alarm_in}
use Rattle.alarm_report.proofs.alarms.placed.Given as goal

abbrev pub invariant-regions : goal.invariant-regions
invariant-regions l = l.list.items ≡ map (alarm_in l.place l.kind) l.yielded
