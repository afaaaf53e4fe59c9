use Rattle.std.proofs.Common.{◌≡◌, true, false, List, Some, sym, subst, ◌∙◌}
use Rattle.atom_solver.specs.Solutions.{Finds}
use Rattle.c_grammar.specs.Scoped.{still}
use Rattle.family_names.specs.declared.declarations.Declaration.{Declaration}
use Rattle.family_names.specs.Declarations.{has_one}
use Rattle.family_names.specs.Names.{is_value}
use Rattle.family_names.specs.NameContexts.{plain}
use Rattle.family_names.specs.Judging.{is_met_constant}
use Rattle.family_names.proofs.Holding.{changes_variable, changes_constant}
use Rattle.family_names.proofs.constants.change_fault.Goals as goal

pub returns-then-not-has_one : goal.returns-then-not-has_one
returns-then-not-has_one c = λ before k h.
    let main : c.args.seen.now.in_main ≡ true = cc in
    let change = sym (c.change.ensures before h.track) ∙ c.in-Some.is in
    let other : is_value (plain c.args.context.now) c.in-Some.name ≡ false = cc in
    let none : has_one (still 0 c.args.constants.now.declarations) c.in-Some.name ≡ false = cc in
    changes_variable (plain c.args.context.now) before c.args.seen.now c.args.constants.now c.args.item (c.in-Some.name, c.in-Some.place) k h main change other none

pub returns-in-Some-2 : goal.returns-in-Some-2
returns-in-Some-2 c = λ before k h.
    let main : c.args.seen.now.in_main ≡ true = cc in
    let change = sym (c.change.ensures before h.track) ∙ c.in-Some.is in
    changes_constant (plain c.args.context.now) before c.args.seen.now c.args.constants.now c.args.item (c.in-Some.name, c.in-Some.place) c.in-Some-2._config k h main change
    (subst (λ (ds : List Declaration). Finds c.args.context.now.model.now (is_met_constant (plain c.args.context.now) c.args.seen.now.groups ds c.in-Some.name) (Some c.in-Some-2._config)) c.items-declarations.ensures
    (subst (Finds c.args.context.now.model.now (is_met_constant (plain c.args.context.now) c.args.seen.now.groups c.items-declarations.result.now c.in-Some.name)) c.in-Some-2.is c.in_ok-_config.ensures))
