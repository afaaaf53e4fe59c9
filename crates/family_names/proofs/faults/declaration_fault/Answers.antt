use Rattle.std.proofs.Common.{◌≡◌, false}
use Rattle.family_names.specs.Declarations.{has_one}
use Rattle.family_names.specs.Judging.{taken_in}
use Rattle.family_names.specs.NameContexts.{plain}
use Rattle.family_names.proofs.LocalsBehind.{untaken}
use Rattle.family_names.proofs.faults.declaration_fault.Goals as goal

pub returns-then-not-is_taken : goal.returns-then-not-is_taken
returns-then-not-is_taken c =
    let none : has_one (taken_in c.args.is_static c.args.seen.now) c.args.name ≡ false = cc in
    untaken (plain c.args.context.now) c.args.seen.now c.args.values c.args.class c.args.is_static c.args.name c.new_name_fault.result none c.new_name_fault.ensures
