use Rattle.alarm_report.proofs.Recalled.{none_known}
use Rattle.alarm_report.proofs.finding.regions_over.Goals as goal

pub regions_known-requires-clause-known : goal.regions_known-requires-clause-known
regions_known-requires-clause-known c = none_known c.args.prepared.now c.args.atoms.now c.new-known.result c.new-known.ensures
