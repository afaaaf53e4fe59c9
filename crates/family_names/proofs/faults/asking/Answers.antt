use Rattle.std.proofs.Common.{◌≡◌, length}
use Rattle.std.proofs.lemmas.Result.{IfOk-weaker}
use Rattle.cpp_conditions.specs.Propositions.{IsBelow, Not, And}
use Rattle.cpp_conditions.specs.View.{formula}
use Rattle.family_names.proofs.Answering.{below_both, below_none}
use Rattle.family_names.proofs.faults.asking.Goals as goal

pub returns-in-Undeclared-clause-below : goal.returns-in-Undeclared-clause-below
returns-in-Undeclared-clause-below c =
    let count = length c.args.context.now.atoms.now in
    IfOk-weaker c.negation.result (λ made. formula made ≡ Not (formula c.in_ok-declared.declared)) (λ made. IsBelow (length c.args.context.now.atoms.now) (formula made))
    (λ made e. below_none count made c.in_ok-declared.declared e (c.in_ok-declared.ensures.below count c.requires.conditions)) c.negation.ensures

pub returns-in_ok-kept-in-Missed-clause-below : goal.returns-in_ok-kept-in-Missed-clause-below
returns-in_ok-kept-in-Missed-clause-below c =
    let count = length c.args.context.now.atoms.now in
    IfOk-weaker c.both.result (λ made. formula made ≡ And (formula c.in_ok-kept-in-Missed.kept) (formula c.in_ok-none-in-Missed.none)) (λ made. IsBelow (length c.args.context.now.atoms.now) (formula made))
    (λ made e. below_both count made c.in_ok-kept-in-Missed.kept c.in_ok-none-in-Missed.none e (c.in_ok-kept-in-Missed.ensures.below count c.requires.conditions)
    (below_none count c.in_ok-none-in-Missed.none c.in_ok-declared.declared c.in_ok-none-in-Missed.ensures (c.in_ok-declared.ensures.below count c.requires.conditions))) c.both.ensures

pub returns-in_ok-kept-in-MetAgain-clause-below : goal.returns-in_ok-kept-in-MetAgain-clause-below
returns-in_ok-kept-in-MetAgain-clause-below c =
    let count = length c.args.context.now.atoms.now in
    IfOk-weaker c.both-in-MetAgain.result (λ made. formula made ≡ And (formula c.in_ok-kept-in-MetAgain.kept) (formula c.in_ok-declared.declared)) (λ made. IsBelow (length c.args.context.now.atoms.now) (formula made))
    (λ made e. below_both count made c.in_ok-kept-in-MetAgain.kept c.in_ok-declared.declared e (c.in_ok-kept-in-MetAgain.ensures.below count c.requires.conditions)
    (c.in_ok-declared.ensures.below count c.requires.conditions)) c.both-in-MetAgain.ensures
