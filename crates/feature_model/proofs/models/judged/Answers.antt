use Rattle.std.proofs.Common.{ℤ, List, [], subst, rules}
use Rattle.atom_solver.specs.Solutions.{Finds, all_hold}
use Rattle.feature_model.proofs.Ending.{many_atoms, some_valid, none_valid}
use Rattle.feature_model.proofs.models.judged.Goals as goal

pub returns-then-not-are_few-clause-judged : goal.returns-then-not-are_few-clause-judged
returns-then-not-are_few-clause-judged c = many_atoms c.args.model c.items.result.now c.items.ensures (c.in_ok-are_few.ensures.more (search rules))

pub returns-in-Some-clause-judged : goal.returns-in-Some-clause-judged
returns-in-Some-clause-judged c = some_valid c.args.model c.items.result.now c.in-Some.field-0 c.items.ensures (c.in_ok-are_few.ensures.few (search rules))
    (subst (λ o. Finds c.args.model (λ (values : List ℤ). all_hold [] values) o) c.in-Some.is c.in_ok-found.ensures.first)

pub returns-in-None-clause-judged : goal.returns-in-None-clause-judged
returns-in-None-clause-judged c = none_valid c.args.model c.items.result.now c.items.ensures (c.in_ok-are_few.ensures.few (search rules))
    (subst (λ o. Finds c.args.model (λ (values : List ℤ). all_hold [] values) o) c.in-None.is c.in_ok-found.ensures.first)
