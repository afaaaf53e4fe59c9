use Rattle.std.proofs.Common.{◌≡◌, ◌++◌, length}
use Rattle.cpp_lines.specs.Defined as specs
use Rattle.cpp_lines.specs.Lines.{pieces}
use Rattle.cpp_lines.specs.Taking.{plain_names}
use Rattle.cpp_lines.proofs.defined.names_of.Given as goal

abbrev pub invariant-lines : goal.invariant-lines
invariant-lines l = plain_names l.names.items ++ specs.names_of (pieces l.rest) ≡ specs.names_of (pieces l.blanked)

abbrev pub decreases-lines : goal.decreases-lines
decreases-lines l = length l.rest
