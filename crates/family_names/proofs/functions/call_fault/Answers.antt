use Rattle.std.proofs.Common.{◌≡◌, true, false, Some, None, subst}
use Rattle.atom_solver.specs.Solutions.{Finds}
use Rattle.family_names.specs.Declarations.{has_one}
use Rattle.family_names.specs.NameContexts.{plain}
use Rattle.family_names.specs.Judging.{is_missed}
use Rattle.family_names.proofs.Calling.{call_found, call_unnamed, call_clear}
use Rattle.family_names.proofs.functions.call_fault.Goals as goal

pub returns-then-not-has_one : goal.returns-then-not-has_one
returns-then-not-has_one c =
    let none : has_one c.callable-callable.result.now c.args.function ≡ false = cc in
    call_unnamed (plain c.args.context.now) c.args.groups.now c.args.functions.now c.args.wants_value c.args.function c.callable-callable.result.now c.callable-callable.ensures none

pub returns-then-is_clear : goal.returns-then-is_clear
returns-then-is_clear c =
    let named : has_one c.callable-callable.result.now c.args.function ≡ true = cc in
    call_clear (plain c.args.context.now) c.args.groups.now c.args.functions.now c.args.wants_value c.args.function c.callable-callable.result.now c.callable-callable.ensures named (c.is_clear.ensures c.if-is_clear.true)

pub returns-in-Some : goal.returns-in-Some
returns-in-Some c =
    let named : has_one c.callable-callable.result.now c.args.function ≡ true = cc in
    call_found (plain c.args.context.now) c.args.groups.now c.args.functions.now c.args.wants_value c.args.function c.callable-callable.result.now (Some c.in-Some.config) c.callable-callable.ensures named
    (subst (Finds c.args.context.now.model.now (is_missed (plain c.args.context.now) c.args.groups.now c.callable-callable.result.now c.args.function)) c.in-Some.is c.in_ok-config.ensures)

pub returns-in-None : goal.returns-in-None
returns-in-None c =
    let named : has_one c.callable-callable.result.now c.args.function ≡ true = cc in
    call_found (plain c.args.context.now) c.args.groups.now c.args.functions.now c.args.wants_value c.args.function c.callable-callable.result.now None c.callable-callable.ensures named
    (subst (Finds c.args.context.now.model.now (is_missed (plain c.args.context.now) c.args.groups.now c.callable-callable.result.now c.args.function)) c.in-None.is c.in_ok-config.ensures)
