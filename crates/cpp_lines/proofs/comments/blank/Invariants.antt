use Rattle.std.proofs.Common.{◌≡◌, ◌++◌, length}
use Rattle.cpp_lines.specs.Comments.{blank_from, blank}
use Rattle.cpp_lines.proofs.comments.blank.Given as goal

abbrev pub invariant-blank : goal.invariant-blank
invariant-blank l = l.list.items ++ blank_from l.left l.rest ≡ blank l.bytes

abbrev pub decreases-blank : goal.decreases-blank
decreases-blank l = length l.rest
