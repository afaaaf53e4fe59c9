use Rattle.std.proofs.Common.{◌∙◌, arith}
use Rattle.cpp_lines.proofs.Faulting.{last_at_newline, last_at_byte}
use Rattle.cpp_lines.proofs.without_comments.last_line_len.Goals as goal
use Rattle.cpp_lines.proofs.without_comments.last_line_len.Goals.{then-b-eq10, else-b-eq10}

pub loop-b-preserved : goal.loop-b-preserved
loop-b-preserved c = elim c.if-b-eq10.branch [
  | then-b-eq10 w ↦ record {
    value = w.len-is ∙ last_at_newline c.args.bytes.now c.loop-b.b-index c.loop-b-test.true w.if-b-eq10.true;
    within = omega arith;
  }
  | else-b-eq10 w ↦ record {
    value = w.len-is ∙ last_at_byte c.args.bytes.now c.loop-b.b-index c.loop-b.len c.loop-b-test.true w.if-b-eq10.false c.loop-b.invariant.value;
    within = omega arith;
  }
]
