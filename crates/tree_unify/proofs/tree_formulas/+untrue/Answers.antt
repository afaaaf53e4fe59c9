use Rattle.std.proofs.Common.{ℕ, ◌<◌, Bool, sym, subst}
use Rattle.std.proofs.lemmas.Result.{IfOk-weaker}
use Rattle.cpp_conditions.specs.Propositions.{IsBelow}
use Rattle.cpp_conditions.specs.View.{formula}
use Rattle.decision_tree.specs.declared.tree.Node.{Node}
use Rattle.decision_tree.specs.Plain.{TestsBelow}
use Rattle.decision_tree.specs.View.{plain}
use Rattle.tree_unify.proofs.tree_formulas.+untrue.Goals as goal

pub returns-in_ok-yes-in-Node-clause-below : goal.returns-in_ok-yes-in-Node-clause-below
returns-in_ok-yes-in-Node-clause-below t c =
    let from = formula c.in_ok-no-in-Node.no in
    let to = formula c.in_ok-yes-in-Node.yes in
    IfOk-weaker c.by_test.result (λ made. (count : ℕ) → c.deref-in-Node-3.result.now.test < count → IsBelow count from → IsBelow count to → IsBelow count (formula made))
    (λ made. (count : ℕ) → TestsBelow count (plain c.args.tree.now) → IsBelow count (formula made))
    (λ made b count h. let k = rw c.in-Node.is at h in
    b count (subst (λ (n : Node Bool). n.test < count) (sym c.deref-in-Node-3.ensures) k.0)
    (c.in_ok-no-in-Node.ensures.below count (subst (λ (n : Node Bool). TestsBelow count (plain n.no)) (sym c.deref-in-Node.ensures) k.1))
    (c.in_ok-yes-in-Node.ensures.below count (subst (λ (n : Node Bool). TestsBelow count (plain n.yes)) (sym c.deref-in-Node-2.ensures) k.2)))
    c.by_test.ensures.below
