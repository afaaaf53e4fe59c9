use Rattle.std.proofs.Common.{◌∙◌, ap, length}
use Rattle.famlint_checks.specs.Checked.{verdict_text}
use Rattle.famlint_checks.proofs.check.check_done.Goals as goal

pub returns-clause-answer : goal.returns-clause-answer
returns-clause-answer c = λ bytes is.
    let l = c.args.line.now in
    let verdict = c.in_ok-verdict.verdict in
    let alarms = c.as_slice-alarms.result.now in
    record {
      certificate = c.args.certificate.now;
      is = is;
      verdict = verdict;
      verdict_is = c.in_ok-verdict.ensures.verdict;
      text = c.in_ok-verdict_line.ensures
          ∙ (ap (λ fs. verdict_text fs (length alarms) verdict) c.items.ensures
          ∙ ap (λ lines. verdict_text l.model.features (length lines) verdict) c.as_slice-alarms.ensures.value);
      status = c.verdict_status.ensures.value;
    }

pub returns-clause-promise : goal.returns-clause-promise
returns-clause-promise c = λ bytes is.
    let l = c.args.line.now in
    let verdict = c.in_ok-verdict.verdict in
    let alarms = c.as_slice-alarms.result.now in
    record {
      certificate = c.args.certificate.now;
      is = is;
      verdict = verdict;
      holds = c.in_ok-verdict.ensures.promised;
      text_is = c.in_ok-verdict_line.ensures
          ∙ (ap (λ fs. verdict_text fs (length alarms) verdict) c.items.ensures
          ∙ ap (λ lines. verdict_text l.model.features (length lines) verdict) c.as_slice-alarms.ensures.value);
      status_is = c.verdict_status.ensures.value;
    }
