use Rattle.std.proofs.Common.{◌≡◌, take}
use Rattle.c_grammar.specs.Grammar.{zeros}
use Rattle.item_reader.proofs.programs.zeros_of.Given as goal

abbrev pub invariant-loop-name : goal.invariant-loop-name
invariant-loop-name l = l.made.items ≡ zeros (take l._name-index l._name-items)
