use Rattle.std.proofs.Common.{◌≡◌, ℕ, not, ◌&&◌, ◌∙◌, List, Bool, map, ap, sym, subst}
use Rattle.std.specs.List.{All}
use Rattle.std.proofs.lemmas.Result.{IfOk-weaker}
use Rattle.std.proofs.lemmas.List.Elements.{All-take, All-drop}
use Rattle.decision_tree.specs.declared.tree.Tree.{Tree}
use Rattle.decision_tree.specs.Plain.{leaf_of, TestsBelow}
use Rattle.decision_tree.specs.View.{plain}
use Rattle.configuration_advice.specs.Nearest.{are_false}
use Rattle.configuration_advice.proofs.Untrue.{halves_of}
use Rattle.configuration_advice.proofs.costs.+any_in.Goals as goal

pub returns-in_ok-right-in_default-clause-truth : goal.returns-in_ok-right-in_default-clause-truth
returns-in_ok-right-in_default-clause-truth g t c =
    let left = plain c.in_ok-left-in_default.left in
    let right = plain c.in_ok-right-in_default.right in
    IfOk-weaker c.either_in.result (λ (made : Tree Bool). (v : List Bool) → not (leaf_of (plain made) v) ≡ (not (leaf_of left v) && not (leaf_of right v)))
    (λ (made : Tree Bool). (v : List Bool) → not (leaf_of (plain made) v) ≡ are_false (map plain c.args.trees.now) v)
    (λ made e v. e v ∙ halves_of c.args.trees.now _ _ _ v (not (leaf_of left v)) (not (leaf_of right v)) (c.in_ok-left-in_default.ensures.truth v) (c.in_ok-right-in_default.ensures.truth v) c.split_at.ensures.front c.split_at.ensures.back)
    c.either_in.ensures.truth

pub returns-in_ok-right-in_default-clause-tests : goal.returns-in_ok-right-in_default-clause-tests
returns-in_ok-right-in_default-clause-tests g t c =
    let left = plain c.in_ok-left-in_default.left in
    let right = plain c.in_ok-right-in_default.right in
    IfOk-weaker c.either_in.result (λ (made : Tree Bool). (count : ℕ) → TestsBelow count left → TestsBelow count right → TestsBelow count (plain made))
    (λ (made : Tree Bool). (count : ℕ) → All (λ (u : Tree Bool). TestsBelow count (plain u)) c.args.trees.now → TestsBelow count (plain made))
    (λ made b count all.
    let P : Tree Bool → Type 0 = λ u. TestsBelow count (plain u) in
    b count (c.in_ok-left-in_default.ensures.tests count (subst (All P) (sym c.split_at.ensures.front) (All-take P _ c.args.trees.now all)))
    (c.in_ok-right-in_default.ensures.tests count (subst (All P) (sym c.split_at.ensures.back) (All-drop P _ c.args.trees.now all))))
    c.either_in.ensures.tests
