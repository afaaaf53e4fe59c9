use Rattle.std.proofs.Common.{◌∙◌}
use Rattle.certificate_format.specs.Rows.{row_of}
use Rattle.certificate_format.proofs.Certified.{reached_more}
use Rattle.certificate_format.proofs.reading.read_lines.Goals as goal

pub lines-preserved : goal.lines-preserved
lines-preserved c = record {
  reached =
      reached_more (row_of c.args.rows.now) c.args.names.now c.args.text.now c.lines.rest.now c.lines.number c.lines.certificate.loops.items c.add_entry.new.certificate.loops.items
      c.lines.certificate.alarms.items c.add_entry.new.certificate.alarms.items c.in-Some.line.now c.in-Some.behind.now c.in_ok-entry.entry
      c.lines.invariant.reached c.in-Some.ensures c.in_ok-entry.ensures c.in_ok-add_entry.ensures.loops c.in_ok-add_entry.ensures.alarms;
  mode = c.in_ok-add_entry.ensures.mode ∙ c.lines.invariant.mode;
}
