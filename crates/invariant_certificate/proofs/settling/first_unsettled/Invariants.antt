use Rattle.std.proofs.Common.{take}
use Rattle.invariant_certificate.specs.Failing.{AllHold}
use Rattle.invariant_certificate.specs.FirstFailing.{loop_holds}
use Rattle.invariant_certificate.proofs.settling.first_unsettled.Given as goal

abbrev pub invariant-loops : goal.invariant-loops
invariant-loops l = AllHold l.prepared (loop_holds l.atoms) (take l.one-index l.loops)
