use Rattle.std.proofs.Common.{rules, true, false, [], ◌∷◌, ap, ◌≡◌}
use Rattle.cpp_conditions.specs.Propositions.{Not, And, Or}
use Rattle.cpp_conditions.specs.View.{formula}
use Rattle.decision_tree.specs.View.{plain}
use Rattle.tree_unify.specs.Formulas.{operators}
use Rattle.tree_unify.proofs.FormulaTrees.{negated_made, conjoined_made, disjoined_made, reduced_in, all_truths, steps_of_one, steps_of_two}
use Rattle.tree_unify.proofs.formulas.+test_tree_in.Goals as goal

pub returns-in_ok-inner-in-Not-clause-means : goal.returns-in_ok-inner-in-Not-clause-means
returns-in_ok-inner-in-Not-clause-means g t c =
    negated_made c.map_in.result _ (formula c.args.f.now) (formula c.deref.result.now) (plain c.in_ok-inner-in-Not.inner) (search rules) (λ a b h. let k = h.says in let e = h.shows in search rules) c.in_ok-inner-in-Not.ensures.means c.map_in.ensures.mapped (reduced_in c.map_in.result _ c.map_in.ensures.tree) c.map_in.ensures.tests

pub returns-in_ok-inner-in-Not-clause-steps : goal.returns-in_ok-inner-in-Not-clause-steps
returns-in_ok-inner-in-Not-clause-steps g t c =
    let e : formula c.args.f.now ≡ Not (formula c.deref.result.now) = search rules in
    steps_of_one _ (operators (formula c.deref.result.now)) c.args.steps.now _ _ (ap operators e) c.in_ok-inner-in-Not.ensures.steps (c.map_in.ensures.steps (true ∷ (false ∷ [])) (all_truths (plain c.in_ok-inner-in-Not.inner)))

pub returns-in_ok-right-in-And-clause-means : goal.returns-in_ok-right-in-And-clause-means
returns-in_ok-right-in-And-clause-means g t c =
    conjoined_made c.unify_in.result _ (formula c.args.f.now) (formula c.deref-in-And.result.now) (formula c.deref-in-And-2.result.now) (plain c.in_ok-left-in-And.left) (plain c.in_ok-right-in-And.right) (search rules) (λ a b d h. h) c.in_ok-left-in-And.ensures.means c.in_ok-right-in-And.ensures.means c.unify_in.ensures.unified (reduced_in c.unify_in.result _ c.unify_in.ensures.tree) c.unify_in.ensures.tests

pub returns-in_ok-right-in-And-clause-steps : goal.returns-in_ok-right-in-And-clause-steps
returns-in_ok-right-in-And-clause-steps g t c =
    let e : formula c.args.f.now ≡ And (formula c.deref-in-And.result.now) (formula c.deref-in-And-2.result.now) = search rules in
    steps_of_two _ (operators (formula c.deref-in-And.result.now)) (operators (formula c.deref-in-And-2.result.now)) c.args.steps.now _ _ _ (ap operators e) c.in_ok-left-in-And.ensures.steps c.in_ok-right-in-And.ensures.steps (c.unify_in.ensures.steps (true ∷ (false ∷ [])) (true ∷ (false ∷ [])) (all_truths (plain c.in_ok-left-in-And.left)) (all_truths (plain c.in_ok-right-in-And.right)))

pub returns-in_ok-right-in-Or-clause-means : goal.returns-in_ok-right-in-Or-clause-means
returns-in_ok-right-in-Or-clause-means g t c =
    disjoined_made c.unify_in-in-Or.result _ (formula c.args.f.now) (formula c.deref-in-Or.result.now) (formula c.deref-in-Or-2.result.now) (plain c.in_ok-left-in-Or.left) (plain c.in_ok-right-in-Or.right) (search rules) (λ a b d h. h) c.in_ok-left-in-Or.ensures.means c.in_ok-right-in-Or.ensures.means c.unify_in-in-Or.ensures.unified (reduced_in c.unify_in-in-Or.result _ c.unify_in-in-Or.ensures.tree) c.unify_in-in-Or.ensures.tests

pub returns-in_ok-right-in-Or-clause-steps : goal.returns-in_ok-right-in-Or-clause-steps
returns-in_ok-right-in-Or-clause-steps g t c =
    let e : formula c.args.f.now ≡ Or (formula c.deref-in-Or.result.now) (formula c.deref-in-Or-2.result.now) = search rules in
    steps_of_two _ (operators (formula c.deref-in-Or.result.now)) (operators (formula c.deref-in-Or-2.result.now)) c.args.steps.now _ _ _ (ap operators e) c.in_ok-left-in-Or.ensures.steps c.in_ok-right-in-Or.ensures.steps (c.unify_in-in-Or.ensures.steps (true ∷ (false ∷ [])) (true ∷ (false ∷ [])) (all_truths (plain c.in_ok-left-in-Or.left)) (all_truths (plain c.in_ok-right-in-Or.right)))
