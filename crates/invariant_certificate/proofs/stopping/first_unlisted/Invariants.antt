use Rattle.std.proofs.Common.{take}
use Rattle.invariant_certificate.specs.Failing.{AllHold}
use Rattle.invariant_certificate.specs.FirstFailing.{stop_holds}
use Rattle.invariant_certificate.proofs.stopping.first_unlisted.Given as goal

abbrev pub invariant-alarms : goal.invariant-alarms
invariant-alarms l = AllHold l.prepared (stop_holds l.atoms l.lines) (take l.alarm-index l.alarms)
