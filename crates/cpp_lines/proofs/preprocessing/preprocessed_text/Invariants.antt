use Rattle.std.proofs.Common.{◌≡◌, ◌++◌, [], length}
use Rattle.cpp_lines.specs.Lines.{pieces}
use Rattle.cpp_lines.specs.Preprocessed.{kept_lines, with_newlines}
use Rattle.cpp_lines.proofs.KeptLines.{AreLeft}
use Rattle.cpp_lines.proofs.preprocessing.preprocessed_text.Given as goal

abbrev pub invariant-lines : goal.invariant-lines
invariant-lines l = record {
  text : l.out.items ++ with_newlines (kept_lines l.truths l.sections l.left (pieces l.rest)) ≡ with_newlines (kept_lines l.truths [] l.lines (pieces l.blanked));
  lines : AreLeft (pieces l.rest) l.left;
}

abbrev pub decreases-lines : goal.decreases-lines
decreases-lines l = length l.rest
