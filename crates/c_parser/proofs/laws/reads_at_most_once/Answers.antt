use Rattle.c_parser.proofs.Readings.{reads_once}
use Rattle.c_parser.proofs.laws.reads_at_most_once.Goals as goal

pub returns : goal.returns
returns c = reads_once (record {
  reads = c.reads_within_the_limits.ensures.file;
  stops_wrong = c.reads_within_the_limits.ensures.wrong;
  stops_deep = c.reads_within_the_limits.ensures.deep;
})
