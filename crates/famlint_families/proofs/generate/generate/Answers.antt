use Rattle.std.specs.Prelude.{Result, Ok, Err, IfOk}
use Rattle.famlint_families.proofs.generate.generate.Goals as goal

then : {A E : Type 0} (r : Result A E) (P Q : A → Type 0) → ((x : A) → P x → Q x) → IfOk r P → IfOk r Q
then (Ok x) P Q f h = f x h
then (Err e) P Q f h = tt

pub returns-clause-answer : goal.returns-clause-answer
returns-clause-answer c = then c.report_by.result _ _ (λ done is. (c.in_ok-line.line, c.in_ok-line.ensures.line, is)) c.report_by.ensures.answer

pub returns-clause-promise : goal.returns-clause-promise
returns-clause-promise c = then c.report_by.result _ _ (λ done is. (c.in_ok-line.line, c.in_ok-line.ensures.line, is)) c.report_by.ensures.promise
