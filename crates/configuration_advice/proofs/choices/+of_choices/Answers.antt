use Rattle.std.proofs.Common.{◌≡◌, ℕ, ◌+◌, ◌*◌, ◌≤◌, length}
use Rattle.std.proofs.lemmas.Result.{IfOk-weaker}
use Rattle.cpp_conditions.specs.Propositions.{IsBelow, And}
use Rattle.cpp_conditions.specs.View.{formula}
use Rattle.configuration_advice.proofs.Belows.{room_behind, kept_below, changed_below}
use Rattle.configuration_advice.proofs.choices.+of_choices.Goals as goal

pub returns-in-Open-clause-below : goal.returns-in-Open-clause-below
returns-in-Open-clause-below t c = λ count room last.
    c.in_ok-others-in-Some.ensures.below count (room_behind c.args.test count c.args.choices.now c.in-Some.behind.now c.in-Some.choice.now c.in-Some.ensures room) last

pub returns-in_ok-one-in-Kept-clause-below : goal.returns-in_ok-one-in-Kept-clause-below
returns-in_ok-one-in-Kept-clause-below t c =
    let others = formula c.in_ok-others-in-Some.others in
    let one = formula c.in_ok-one-in-Kept.one in
    IfOk-weaker c.both.result (λ made. formula made ≡ And one others) (λ made. (count : ℕ) → c.args.test + 2 * length c.args.choices.now ≤ count → IsBelow count (formula c.args.last) → IsBelow count (formula made))
    (λ made e count room last.
    kept_below c.args.test count c.args.choices.now c.in-Some.behind.now c.in-Some.choice.now c.in-Some.ensures room one others (formula made) c.in_ok-one-in-Kept.ensures e
    (c.in_ok-others-in-Some.ensures.below count (room_behind c.args.test count c.args.choices.now c.in-Some.behind.now c.in-Some.choice.now c.in-Some.ensures room) last))
    c.both.ensures

pub returns-in_ok-denied-in-Changed-clause-below : goal.returns-in_ok-denied-in-Changed-clause-below
returns-in_ok-denied-in-Changed-clause-below t c =
    let others = formula c.in_ok-others-in-Some.others in
    let one = formula c.in_ok-one-in-Changed.one in
    let denied = formula c.in_ok-denied-in-Changed.denied in
    IfOk-weaker c.both-in-Changed.result (λ made. formula made ≡ And denied others) (λ made. (count : ℕ) → c.args.test + 2 * length c.args.choices.now ≤ count → IsBelow count (formula c.args.last) → IsBelow count (formula made))
    (λ made e count room last.
    changed_below c.args.test count c.args.choices.now c.in-Some.behind.now c.in-Some.choice.now c.in-Some.ensures room one denied others (formula made) c.in_ok-one-in-Changed.ensures c.in_ok-denied-in-Changed.ensures e
    (c.in_ok-others-in-Some.ensures.below count (room_behind c.args.test count c.args.choices.now c.in-Some.behind.now c.in-Some.choice.now c.in-Some.ensures room) last))
    c.both-in-Changed.ensures
