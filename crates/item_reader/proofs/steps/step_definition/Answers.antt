use Rattle.std.proofs.Common.{ℤ, w64, FitsSigned, subst, sym, rules}
use Rattle.std.proofs.lemmas.Int.{to_z-of_z}
use Rattle.c_grammar.specs.Machine as machine
use Rattle.reading_states.specs.declared.states.ReadingState.{ReadingState}
use Rattle.reading_states.specs.Views.{as_state, as_sections, Moves}
use Rattle.item_reader.proofs.steps.step_definition.Goals as goal

pub returns-in-Enclosed : goal.returns-in-Enclosed
returns-in-Enclosed c =
    let i = c.in-Enclosed in
    let fits : FitsSigned w64 i.value = search rules in
    subst (λ (state : ReadingState). Moves c.enclosed.result (machine.step (as_state state) c.args.place c.args.sign)) (sym i.is)
    (subst (λ (n : ℤ). Moves c.enclosed.result (machine.at_close (machine.defined_as i.name n (as_sections i.sections) i.declared.items) c.args.sign)) (to_z-of_z w64 i.value fits) c.enclosed.ensures)
