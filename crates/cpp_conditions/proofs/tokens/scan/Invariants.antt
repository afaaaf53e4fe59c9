use Rattle.std.proofs.Common.{length, map}
use Rattle.cpp_conditions.specs.Scanning.{token}
use Rattle.cpp_conditions.proofs.Lexemes.{Scanning}
use Rattle.cpp_conditions.proofs.tokens.scan.Given as goal

abbrev pub invariant-scan : goal.invariant-scan
invariant-scan l = Scanning l.bytes (map token l.list.items) l.rest

abbrev pub decreases-scan : goal.decreases-scan
decreases-scan l = length l.rest
