use Rattle.std.proofs.Common.{◌≡◌, ◌++◌, take}
use Rattle.cpp_lines.specs.Code.{code_bytes}
use Rattle.cpp_lines.proofs.code.add_bytes.Given as goal

abbrev pub invariant-loop-b : goal.invariant-loop-b
invariant-loop-b l = l.code.items ≡ l.fn.code.items ++ code_bytes l.leaves (take l.b-index l.bytes)
