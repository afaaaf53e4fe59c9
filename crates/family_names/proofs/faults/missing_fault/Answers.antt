use Rattle.std.proofs.Common.{◌≡◌, true, List, subst}
use Rattle.std.specs.Option.{is_none}
use Rattle.family_names.specs.declared.declarations.Declaration.{Declaration}
use Rattle.family_names.specs.Declarations.{is_declared}
use Rattle.family_names.specs.Names.{truths_at}
use Rattle.atom_solver.specs.Solutions.{Finds}
use Rattle.c_grammar.specs.Scoped.{still}
use Rattle.family_names.specs.Judging.{is_missed}
use Rattle.family_names.specs.NameContexts.{plain}
use Rattle.family_names.proofs.Answering.{answered_none, never_missed, settle, settle_everywhere}
use Rattle.family_names.proofs.faults.missing_fault.Goals as goal
use Rattle.family_names.proofs.faults.missing_fault.Goals.{then-is_clear-via-then-is_clear, then-is_clear-via-else-is_clear+then-is_clear-2}

pub returns-then-is_clear : goal.returns-then-is_clear
returns-then-is_clear c = λ inside settled. never_missed (plain c.args.context.now) c.args.seen.now c.args.settled.now c.args.name settled
    (elim c.then-is_clear.branch [
      | then-is_clear-via-then-is_clear w ↦ λ values valid kept. subst (λ (ds : List Declaration). is_declared (truths_at (plain c.args.context.now) values) ds c.args.name ≡ true) c.items.ensures
          (c.is_clear.ensures w.if-is_clear.true (truths_at (plain c.args.context.now) values) kept)
      | then-is_clear-via-else-is_clear+then-is_clear-2 w ↦ λ values valid kept. settled.among 0 values c.args.name valid
          (subst (λ (ds : List Declaration). is_declared (truths_at (plain c.args.context.now) values) ds c.args.name ≡ true) w.items-else-is_clear.ensures
          (w.is_clear-else-is_clear.ensures w.if-is_clear-2.true (truths_at (plain c.args.context.now) values) kept))
    ])

pub returns-in_ok-add_declaration-in-None : goal.returns-in_ok-add_declaration-in-None
returns-in_ok-add_declaration-in-None c = λ inside settled. settle (plain c.args.context.now) c.args.seen.now c.args.settled.now c.add_declaration-in-None.new.declarations c.args.name inside settled
    (c.in_ok-add_declaration-in-None.ensures settled.sound)
    (subst (Finds c.args.context.now.model.now (is_missed (plain c.args.context.now) c.args.seen.now.groups (still 0 c.args.seen.now.declarations) c.args.name)) c.in-None.is c.in_ok-config.ensures)

pub returns-then-is_none : goal.returns-then-is_none
returns-then-is_none c = λ inside settled.
    let none : is_none c.in_ok-first_of_name.field-0 ≡ true = answered_none c.in_ok-first_of_name.field-0 c.is_none.result c.is_none.ensures c.if-is_none.true in
    settle_everywhere (plain c.args.context.now) c.args.seen.now c.args.settled.now c.add_declaration.new.declarations c.new-everywhere.result c.args.name c.in_ok-first_of_name.field-0 inside settled
    (c.in_ok-add_declaration.ensures settled.sound) c.in_ok-first_of_name.ensures none
