use Rattle.std.proofs.Common.{◌≡◌, ℕ, ◌&&◌, ◌∙◌, List, Bool, map, sym, subst, arith}
use Rattle.std.specs.List.{All}
use Rattle.std.proofs.lemmas.Result.{IfOk-weaker}
use Rattle.std.proofs.lemmas.List.Elements.{All-take, All-drop}
use Rattle.cpp_conditions.specs.Propositions.{IsBelow, true_on}
use Rattle.cpp_conditions.specs.View.{formula}
use Rattle.decision_tree.specs.declared.tree.Tree.{Tree}
use Rattle.decision_tree.specs.Plain.{TestsBelow}
use Rattle.decision_tree.specs.View.{plain}
use Rattle.configuration_advice.specs.Nearest.{are_false}
use Rattle.configuration_advice.proofs.Untrue.{halves_of}
use Rattle.configuration_advice.proofs.quietness.+quiet.Goals as goal

pub returns-in-len1-clause-below : goal.returns-in-len1-clause-below
returns-in-len1-clause-below t c =
    let tree = c.tree-item.result in
    IfOk-weaker c.untrue.result (λ made. (count : ℕ) → TestsBelow count (plain tree) → IsBelow count (formula made)) (λ made. (count : ℕ) → All (λ (t' : Tree Bool). TestsBelow count (plain t')) c.args.trees.now → IsBelow count (formula made))
    (λ made b count all. b count (subst (λ (t' : Tree Bool). TestsBelow count (plain t')) (sym c.tree-item.is) (all 0 tree (omega (arith, c.in-len1.len_at_least)))))
    c.untrue.ensures.below

pub returns-in_ok-right-in_default-clause-truth : goal.returns-in_ok-right-in_default-clause-truth
returns-in_ok-right-in_default-clause-truth t c =
    let left = formula c.in_ok-left-in_default.left in
    let right = formula c.in_ok-right-in_default.right in
    IfOk-weaker c.conjunction.result (λ made. (v : List Bool) → true_on v (formula made) ≡ (true_on v left && true_on v right)) (λ made. (v : List Bool) → true_on v (formula made) ≡ are_false (map plain c.args.trees.now) v)
    (λ made e v. e v ∙ halves_of c.args.trees.now _ _ _ v (true_on v left) (true_on v right) (c.in_ok-left-in_default.ensures.truth v) (c.in_ok-right-in_default.ensures.truth v) c.split_at.ensures.front c.split_at.ensures.back)
    c.conjunction.ensures.truth

pub returns-in_ok-right-in_default-clause-below : goal.returns-in_ok-right-in_default-clause-below
returns-in_ok-right-in_default-clause-below t c =
    let left = formula c.in_ok-left-in_default.left in
    let right = formula c.in_ok-right-in_default.right in
    IfOk-weaker c.conjunction.result (λ made. (count : ℕ) → IsBelow count left → IsBelow count right → IsBelow count (formula made)) (λ made. (count : ℕ) → All (λ (t' : Tree Bool). TestsBelow count (plain t')) c.args.trees.now → IsBelow count (formula made))
    (λ made b count all.
    let P : Tree Bool → Type 0 = λ t'. TestsBelow count (plain t') in
    b count (c.in_ok-left-in_default.ensures.below count (subst (All P) (sym c.split_at.ensures.front) (All-take P _ c.args.trees.now all)))
    (c.in_ok-right-in_default.ensures.below count (subst (All P) (sym c.split_at.ensures.back) (All-drop P _ c.args.trees.now all))))
    c.conjunction.ensures.below
