use Rattle.std.proofs.Common.{◌≡◌, ◌++◌, false, drop}
use Rattle.c_grammar.specs.Groups.{Outermost}
use Rattle.c_grammar.specs.Statics.{statics_from}
use Rattle.reading_states.specs.Views.{as_sections}
use Rattle.declaration_reader.proofs.static_variables.with_statics.Given as goal

-- the declarators so far, and those of the items that are left
abbrev pub invariant-loop-position : goal.invariant-loop-position
invariant-loop-position l =
    l.made.items ++ statics_from l.is_static l.declares (as_sections l.sections) (drop l.position l.items) ≡ l.fn.declared.items ++ statics_from false false Outermost l.items
