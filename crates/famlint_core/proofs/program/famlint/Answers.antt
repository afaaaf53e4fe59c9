use Rattle.std.proofs.Common.{◌≡◌, Some, rules}
use Rattle.command_words.specs.Arguments.{texts_of}
use Rattle.famlint_requests.specs.Requests.{reading}
use Rattle.famlint_core.proofs.Certified.{certified}
use Rattle.famlint_core.proofs.Ended.{completed, same_request}
use Rattle.famlint_core.proofs.Running.{given_told, loads_counted, risen_at, run_before_loads, run_given}
use Rattle.famlint_core.proofs.program.famlint.Goals as goal

pub returns-in-Err-NoMemory-clause-given : goal.returns-in-Err-NoMemory-clause-given
returns-in-Err-NoMemory-clause-given g c = λ asked e.
    run_before_loads g.F.Files.loads (g.F.Files.content c.args.files.now) c.args.files.now asked (g.F.Files.failed c.args.files.now) c.give_up.result _ _ c.give_up.ensures.status

pub returns-in-Ok-clause-given : goal.returns-in-Ok-clause-given
returns-in-Ok-clause-given g c = λ asked e.
    let mine = c.in-Ok.request in
    let read : reading (texts_of c.args.words.now) ≡ Some mine = search rules in
    run_given g.F.Files.loads (g.F.Files.content c.args.files.now) c.args.files.now c.work-came.new.files mine asked c.work-came.result
    (g.F.Files.failed c.work-came.new.files) c.role-failed.result c.end.result _ _
    (same_request (reading (texts_of c.args.words.now)) mine asked read e) (search rules) c.end.ensures c.work-came.ensures.given

pub returns-in-Ok-clause-answer : goal.returns-in-Ok-clause-answer
returns-in-Ok-clause-answer g c = λ asked e told is.
    (given_told _ _ _ _ asked _ _ told (returns-in-Ok-clause-given g c asked e) is).answer

pub returns-in-Ok-clause-promise : goal.returns-in-Ok-clause-promise
returns-in-Ok-clause-promise g c = λ asked e told is.
    (given_told _ _ _ _ asked _ _ told (returns-in-Ok-clause-given g c asked e) is).promise

pub returns-in-Ok-clause-order : goal.returns-in-Ok-clause-order
returns-in-Ok-clause-order g c = λ asked e told is.
    (given_told _ _ _ _ asked _ _ told (returns-in-Ok-clause-given g c asked e) is).order

pub returns-in-Ok-clause-loads_counted : goal.returns-in-Ok-clause-loads_counted
returns-in-Ok-clause-loads_counted g c = loads_counted c.work-came.result c.role-failed.result c.end.result _ _ _ _ c.end.ensures c.work-came.ensures.read.counted

pub returns-in-Ok-clause-certified : goal.returns-in-Ok-clause-certified
returns-in-Ok-clause-certified g c = λ asked e told is question no_load no_write.
    certified c.certificates_are_accepted.ensures asked told _ _ _ _ question (returns-in-Ok-clause-answer g c asked e told is)
    (λ six. no_load (risen_at 6 _ _ _ (returns-in-Ok-clause-loads_counted g c) six)) (λ seven. no_write (risen_at 7 _ _ _ c.end.ensures.writes seven))

pub returns-in-Ok-clause-complete : goal.returns-in-Ok-clause-complete
returns-in-Ok-clause-complete g c = λ asked e told is accepted no_load no_write.
    completed asked told _ _ _ _ accepted (returns-in-Ok-clause-answer g c asked e told is)
    (λ six. no_load (risen_at 6 _ _ _ (returns-in-Ok-clause-loads_counted g c) six)) (λ seven. no_write (risen_at 7 _ _ _ c.end.ensures.writes seven))
