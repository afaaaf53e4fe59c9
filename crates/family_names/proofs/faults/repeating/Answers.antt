use Rattle.std.proofs.Common.{◌≡◌, length}
use Rattle.std.proofs.lemmas.Result.{IfOk-weaker}
use Rattle.cpp_conditions.specs.Propositions.{IsBelow, And}
use Rattle.cpp_conditions.specs.View.{formula}
use Rattle.family_names.proofs.Answering.{below_both}
use Rattle.family_names.proofs.faults.repeating.Goals as goal

pub returns-clause-below : goal.returns-clause-below
returns-clause-below c =
    let count = length c.args.context.now.atoms.now in
    IfOk-weaker c.both.result (λ made. formula made ≡ And (formula c.in_ok-kept.kept) (formula c.in_ok-taken.taken)) (λ made. IsBelow (length c.args.context.now.atoms.now) (formula made))
    (λ made e. below_both count made c.in_ok-kept.kept c.in_ok-taken.taken e (c.in_ok-kept.ensures.below count c.requires.conditions) (c.in_ok-taken.ensures.below count c.requires.conditions)) c.both.ensures
