use Rattle.report_laws.proofs.FamilyLines.{tell_alarms}
use Rattle.report_laws.proofs.families.reports_of_families_tell_their_alarms.Goals as goal

pub returns : goal.returns
returns c = tell_alarms
