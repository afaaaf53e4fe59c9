use Rattle.std.proofs.Common.{◌≡◌, ℕ, not, ◌||◌, List, Bool, ap, ◌∙◌}
use Rattle.std.specs.List.{All}
use Rattle.std.proofs.lemmas.Result.{IfOk-weaker}
use Rattle.cpp_conditions.specs.Propositions.{IsBelow, true_on}
use Rattle.cpp_conditions.specs.View.{formula}
use Rattle.certificate_format.specs.declared.certificates.AlarmLine.{AlarmLine}
use Rattle.decision_tree.specs.Plain.{TestsBelow, leaf_of}
use Rattle.decision_tree.specs.View.{plain}
use Rattle.invariant_certificate.specs.Passes.{is_listed}
use Rattle.invariant_certificate.proofs.Covering.{leaf_numbered}
use Rattle.invariant_certificate.proofs.listing.covered.Goals as goal

pub returns-then-is_never-clause-numbered : goal.returns-then-is_never-clause-numbered
returns-then-is_never-clause-numbered c = leaf_numbered c.leaf.result _ c.leaf.ensures

pub quiet_or_listed-requires-clause-listed : goal.quiet_or_listed-requires-clause-listed
quiet_or_listed-requires-clause-listed c = c.in_ok-listed.ensures.below 320 c.requires.lines

pub returns-clause-truth : goal.returns-clause-truth
returns-clause-truth c =
    let tree = plain c.args.alarm.now.tree in
    IfOk-weaker c.quiet_or_listed.result (λ t. (v : List Bool) → leaf_of (plain t) v ≡ (not (leaf_of tree v) || true_on v (formula c.in_ok-listed.listed)))
    (λ t. (v : List Bool) → leaf_of (plain t) v ≡ (not (leaf_of tree v) || is_listed c.args.lines.now (c.args.alarm.now.place, c.args.alarm.now.kind) v))
    (λ t h v. h v ∙ ap (λ b. not (leaf_of tree v) || b) (c.in_ok-listed.ensures.truth v))
    c.quiet_or_listed.ensures.truth

pub returns-clause-tests : goal.returns-clause-tests
returns-clause-tests c =
    let tree = plain c.args.alarm.now.tree in
    IfOk-weaker c.quiet_or_listed.result (λ t. (count : ℕ) → TestsBelow count tree → IsBelow count (formula c.in_ok-listed.listed) → TestsBelow count (plain t))
    (λ t. (count : ℕ) → TestsBelow count tree → All (λ (l : AlarmLine). IsBelow count (formula l.region)) c.args.lines.now → TestsBelow count (plain t))
    (λ t h count below lines. h count below (c.in_ok-listed.ensures.below count lines))
    c.quiet_or_listed.ensures.tests
