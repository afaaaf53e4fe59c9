use Rattle.std.proofs.Common.{◌≡◌, ◌++◌, length, map}
use Rattle.cpp_lines.specs.Code.{code_piece}
use Rattle.cpp_lines.specs.Lines.{pieces}
use Rattle.cpp_lines.specs.Preprocessed.{with_newlines}
use Rattle.cpp_lines.proofs.code.code_text.Given as goal

abbrev pub invariant-lines : goal.invariant-lines
invariant-lines l = l.code.items ++ with_newlines (map code_piece (pieces l.rest)) ≡ with_newlines (map code_piece (pieces l.blanked))

abbrev pub decreases-lines : goal.decreases-lines
decreases-lines l = length l.rest
