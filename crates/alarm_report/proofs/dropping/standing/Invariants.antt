use Rattle.std.proofs.Common.{◌-◌, length}
use Rattle.alarm_report.proofs.Dropped.{Going}
use Rattle.alarm_report.proofs.dropping.standing.Given as goal

abbrev pub invariant-literals : goal.invariant-literals
invariant-literals l = Going l.prepared l.left.items l.place l.fn.literals.items

abbrev pub decreases-literals : goal.decreases-literals
decreases-literals l = length l.left.items - l.place
