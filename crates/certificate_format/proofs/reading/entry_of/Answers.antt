use Rattle.certificate_format.specs.Rows.{row_of}
use Rattle.certificate_format.proofs.Certified.{no_line}
use Rattle.certificate_format.proofs.reading.entry_of.Goals as goal

pub returns-in-Some-alarm_of : goal.returns-in-Some-alarm_of
returns-in-Some-alarm_of c = c.alarm_entry.ensures c.args.names.now c.args.line.now c.in-Some-alarm_of.ensures

pub returns-in-None : goal.returns-in-None
returns-in-None c = no_line (row_of c.args.rows.now) c.args.names.now c.args.line.now c.args.number c.in_default.ensures c.in-None.ensures
