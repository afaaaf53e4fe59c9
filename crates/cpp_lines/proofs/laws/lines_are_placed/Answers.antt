use Rattle.std.proofs.Common.{refl, arith}
use Rattle.cpp_lines.specs.Lines.{pieces, plain_lines_of}
use Rattle.cpp_lines.proofs.Placed.{all_placed}
use Rattle.cpp_lines.proofs.laws.lines_are_placed.Goals as goal

pub returns : goal.returns
unfolding plain_lines_of
returns c = λ includes text lines e. all_placed includes text 0 (pieces text) lines e refl (omega arith)
