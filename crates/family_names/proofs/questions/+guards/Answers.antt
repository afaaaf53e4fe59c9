use Rattle.std.proofs.Common.{◌≡◌, ◌<◌, Bool, List, length, reverse, arith}
use Rattle.std.proofs.lemmas.Result.{IfOk-weaker}
use Rattle.cpp_conditions.specs.Propositions.{And, true_on}
use Rattle.cpp_conditions.specs.View.{formula}
use Rattle.family_names.specs.declared.groups.Group.TheVariants.{First}
use Rattle.family_names.specs.Groups.{are_as_asked}
use Rattle.family_names.specs.Names.{truths_on}
use Rattle.family_names.proofs.Asked.{halved}
use Rattle.family_names.proofs.questions.+guards.Goals as goal

pub returns-in_ok-back-in_default-clause-truth : goal.returns-in_ok-back-in_default-clause-truth
returns-in_ok-back-in_default-clause-truth t c =
    let some : 0 < length c.split_at.result.1.now = omega (arith, c.in_default.len_at_least, c.split_at.ensures.back_len) in
    IfOk-weaker c.both.result (λ made. formula made ≡ And (formula c.in_ok-front-in_default.front) (formula c.in_ok-back-in_default.back))
    (λ made. (v : List Bool) → are_as_asked (truths_on c.args.conditions.now v) c.args.asked (reverse c.args.groups.now) ≡ true_on v (formula made))
    (λ made both. halved c.args.conditions.now c.args.asked c.is_first.result c.args.groups.now c.split_at.result.0.now c.split_at.result.1.now (First 0) c.in_ok-front-in_default.front c.in_ok-back-in_default.back made
    c.split_at.ensures.by_index.0 some c.is_first.ensures c.in_ok-front-in_default.ensures.truth c.in_ok-back-in_default.ensures.truth both)
    c.both.ensures
