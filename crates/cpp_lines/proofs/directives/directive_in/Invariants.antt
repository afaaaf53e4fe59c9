use Rattle.std.proofs.Common.{◌≡◌, drop}
use Rattle.std.specs.Prelude.{map}
use Rattle.cpp_lines.specs.Directives as specs
use Rattle.cpp_lines.proofs.directives.directive_in.Given as goal

abbrev pub invariant-loop-name : goal.invariant-loop-name
invariant-loop-name l = specs.directive_in (map (λ entry. (entry.0.now, entry.1)) l.table) l.word ≡ specs.directive_in (map (λ entry. (entry.0.now, entry.1)) (drop l.name-index l.table)) l.word
