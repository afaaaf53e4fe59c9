use Rattle.tree_questions.proofs.Before.{improves_yes, improves_no}
use Rattle.tree_questions.proofs.comparing.improves.Goals as goal

pub returns-in-Some-clause-yes : goal.returns-in-Some-clause-yes
returns-in-Some-clause-yes c = λ e.
    improves_yes c.args.best.now c.args.config.now c.in-Some.best c.items.result.now c.items-in-Some.result.now c.in-Some.is c.items.ensures c.items-in-Some.ensures (c.is_before.ensures.before e)

pub returns-in-Some-clause-no : goal.returns-in-Some-clause-no
returns-in-Some-clause-no c = λ e.
    improves_no c.args.best.now c.args.config.now c.in-Some.best c.items.result.now c.items-in-Some.result.now c.in-Some.is c.items.ensures c.items-in-Some.ensures (c.is_before.ensures.behind e)
