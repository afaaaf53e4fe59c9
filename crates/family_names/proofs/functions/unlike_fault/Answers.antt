use Rattle.std.proofs.Common.{◌≡◌, false, Some, None, refl, subst}
use Rattle.atom_solver.specs.Solutions.{Finds}
use Rattle.family_names.specs.Declarations.{has_one}
use Rattle.family_names.specs.NameContexts.{plain}
use Rattle.family_names.specs.Judging.{is_met_again}
use Rattle.family_names.proofs.Calling.{unlike_found, unlike_none}
use Rattle.family_names.proofs.functions.unlike_fault.Goals as goal

pub returns-then-not-has_one : goal.returns-then-not-has_one
returns-then-not-has_one c =
    let none : has_one c.declared-unlike.result.now c.args.function ≡ false = cc in
    unlike_none (plain c.args.context.now) c.args.groups.now c.args.functions.now c.args.is_void c.args.function c.declared-unlike.result.now c.function_fault.result c.declared-unlike.ensures none c.function_fault.ensures

pub returns-in-Some : goal.returns-in-Some
returns-in-Some c =
    unlike_found (plain c.args.context.now) c.args.groups.now c.args.functions.now c.args.is_void c.args.function c.declared-unlike.result.now (Some c.in-Some.config) _ c.declared-unlike.ensures
    (subst (Finds c.args.context.now.model.now (is_met_again (plain c.args.context.now) c.args.groups.now c.declared-unlike.result.now c.args.function)) c.in-Some.is c.in_ok-config.ensures) refl

pub returns-in-None : goal.returns-in-None
returns-in-None c =
    unlike_found (plain c.args.context.now) c.args.groups.now c.args.functions.now c.args.is_void c.args.function c.declared-unlike.result.now None c.function_fault-in-None.result c.declared-unlike.ensures
    (subst (Finds c.args.context.now.model.now (is_met_again (plain c.args.context.now) c.args.groups.now c.declared-unlike.result.now c.args.function)) c.in-None.is c.in_ok-config.ensures) c.function_fault-in-None.ensures
