use Rattle.famlint_core.specs.Answers.{Answers}
use Rattle.famlint_core.proofs.Ended.{exactly}
use Rattle.famlint_core.proofs.Running.{never_at}
use Rattle.famlint_core.proofs.steady.famlint_over_steady.Goals as goal

pub returns-clause-exact : goal.returns-clause-exact
returns-clause-exact c = λ request e told is_told eight.
    let six = never_at 6 c.famlint.result c.famlint.ensures.loads_counted in
    let seven = never_at 7 c.famlint.result c.famlint.ensures.writes_counted in
    exactly (Answers request told) _ _ _ _ (c.famlint.ensures.answer request e told is_told) six seven eight

pub returns-clause-read : goal.returns-clause-read
returns-clause-read c = never_at 6 c.famlint.result c.famlint.ensures.loads_counted

pub returns-clause-write : goal.returns-clause-write
returns-clause-write c = never_at 7 c.famlint.result c.famlint.ensures.writes_counted
