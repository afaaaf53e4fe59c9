use Rattle.std.proofs.Common.{◌≡◌, Err, sym, subst, rules}
use Rattle.fam_outer.proofs.Given.{given_so}
use Rattle.famlint_loads.specs.declared.fault.Failure.TheVariants as failure
use Rattle.famlint_loads.specs.Loads.{IsRight}
use Rattle.famlint_loads.specs.ProductLines.{ComesOfLine, IsLoadedFor}
use Rattle.famlint_loads.specs.Selected.{AreSelected, IsSelected}
use Rattle.famlint_loads.proofs.Right.{line_named, right_done, right_no_memory, right_of_line}
use Rattle.famlint_programs.specs.ProgramAnswers.{AnswersVariant, PromisedVariant}
use Rattle.famlint_programs.proofs.variant.variant.Goals as goal

pub returns-in_err-selected-clause-given : goal.returns-in_err-selected-clause-given
returns-in_err-selected-clause-given g c =
    let dialect = c.args.dialect in
    let s = c.in_err-selected.field-0.0 in
    let e : c.from_residual.result ≡ Err s = search rules in
    let failed = g.F.Files.failed c.select.new.files in
    given_so _ _ _ _ _ _ _ _ _ _ (line_named _ _ _ _ _ _ _ _ _ _ _ _ _ c.as_str.ensures c.as_str-2.ensures c.in_err-selected.ensures.given) (λ ok. absurd (search rules))
    (λ told came. subst (λ r. IsRight (AnswersVariant dialect c.args.task.now c.args.settings.now told) (PromisedVariant dialect c.args.task.now c.args.settings.now told)
    (IsLoadedFor dialect.unknown c.args.model.now c.args.file.now told.model) failed r) (sym e)
    (right_of_line (IsSelected dialect told.model told.file c.args.settings.now) _ _ dialect.unknown c.args.model.now c.args.file.now told.model failed s (λ fault h. h)
    (subst (λ ws. ComesOfLine (IsSelected dialect told.model told.file ws) dialect.unknown c.args.model.now c.args.file.now told.model failed (Err s)) c.items.ensures came)))

pub returns-in_err-done_for-clause-given : goal.returns-in_err-done_for-clause-given
returns-in_err-done_for-clause-given g c =
    let dialect = c.args.dialect in
    let e : c.from_residual-in_err-done_for.result ≡ Err failure.NoMemory = search rules in
    let failed = g.F.Files.failed c.select.new.files in
    given_so _ _ _ _ _ _ _ _ _ _ (line_named _ _ _ _ _ _ _ _ _ _ _ _ _ c.as_str.ensures c.as_str-2.ensures c.in_ok-selected.ensures.given) (λ ok. absurd (search rules))
    (λ told came. subst (λ r. IsRight (AnswersVariant dialect c.args.task.now c.args.settings.now told) (PromisedVariant dialect c.args.task.now c.args.settings.now told)
    (IsLoadedFor dialect.unknown c.args.model.now c.args.file.now told.model) failed r) (sym e) (right_no_memory _ _ _ failed))

pub returns-clause-given : goal.returns-clause-given
returns-clause-given g c =
    let s = c.in_ok-selected.selected in
    given_so _ _ _ _ _ _ _ _ _ _ (line_named _ _ _ _ _ _ _ _ _ _ _ _ _ c.as_str.ensures c.as_str-2.ensures c.in_ok-selected.ensures.given) (λ ok. search rules)
    (λ told came.
    let chosen = subst (λ ws. AreSelected c.args.dialect told.model told.file ws s) c.items.ensures came.comes in
    right_done _ _ _ _ c.in_ok-done_for.field-0 (s, chosen, c.in_ok-done_for.ensures.answer) (s, chosen, c.in_ok-done_for.ensures.promise))
