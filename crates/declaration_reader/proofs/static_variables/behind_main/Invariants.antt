use Rattle.std.proofs.Common.{◌≡◌, drop}
use Rattle.c_grammar.specs.Statics.{behind_main}
use Rattle.declaration_reader.proofs.static_variables.behind_main.Given as goal

abbrev pub invariant-loop-position : goal.invariant-loop-position
invariant-loop-position l = behind_main (drop l.position l.items) ≡ behind_main l.items
