use Rattle.std.proofs.Common.{length, subst, sym, ap, ◌∙◌}
use Rattle.std.specs.List.{insert}
use Rattle.linear_atoms.specs.Atoms.{AreLiterals, IsAtom}
use Rattle.alarm_report.proofs.Dropped.{now_dropped, now_kept}
use Rattle.alarm_report.proofs.Fitting.{fit_removed, fit_at}
use Rattle.alarm_report.proofs.dropping.drop_implied.Goals as goal

pub implied-requires-clause-literals : goal.implied-requires-clause-literals
implied-requires-clause-literals c =
    let n = length c.args.prepared.now.features in
    subst (AreLiterals n) (sym (c.deref.ensures.value ∙ c.remove-literal.ensures.items)) (fit_removed n c.args.literals.now.items c.args.place c.requires.fit)

pub implied-requires-clause-literal : goal.implied-requires-clause-literal
implied-requires-clause-literal c =
    let n = length c.args.prepared.now.features in
    subst (λ l. IsAtom n l.atom) (sym c.remove-literal.ensures.value) (fit_at n c.args.literals.now.items c.args.place c.remove-literal.result c.requires.place c.requires.fit)

pub returns-then-branch : goal.returns-then-branch
returns-then-branch c =
    let m = c.args.prepared.now in
    let old = c.args.literals.now.items in
    now_dropped m c.args.place old c.remove-literal.new.self.items c.deref.result.now c.remove-literal.result c.in_ok-implied.field-0 c.requires.place
    c.remove-literal.ensures.value (c.deref.ensures.value ∙ c.remove-literal.ensures.items) c.remove-literal.ensures.items c.in_ok-implied.ensures c.if-branch.true

pub returns : goal.returns
returns c =
    let m = c.args.prepared.now in
    let old = c.args.literals.now.items in
    now_kept m c.args.place old c.insert.new.self.items c.deref.result.now c.remove-literal.result c.in_ok-implied.field-0 c.requires.place
    c.remove-literal.ensures.value (c.deref.ensures.value ∙ c.remove-literal.ensures.items)
    (c.in_ok-insert.ensures.items ∙ ap (λ xs. insert xs c.args.place c.remove-literal.result) c.remove-literal.ensures.items) c.in_ok-implied.ensures c.if-branch.false
