use Rattle.certificate_format.specs.Rows.{row_of}
use Rattle.certificate_format.proofs.Certified.{strange_alarm, told_none}
use Rattle.certificate_format.proofs.reading.alarm_entry.Goals as goal

pub returns-in_default : goal.returns-in_default
returns-in_default c names line a =
    strange_alarm (row_of c.args.rows.now) names c.args.number c.args.parts.0 c.args.parts.1 c.args.parts.2.now (told_none _ _ c.in_default.is c.in_ok-region.ensures) line a
