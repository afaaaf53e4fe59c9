-- A tree restricted to where a test has one truth.
use Rattle.std.proofs.Common.{◌≡◌, ℕ, ◌<◌, Bool, true, false, List, Result, IfOk, sym, ap, subst, ◌∙◌}
use Rattle.std.proofs.lemmas.Result.{IfOk-weaker}
use Rattle.cpp_conditions.specs.Propositions.{Proposition, IsBelow, true_on}
use Rattle.decision_tree.specs.declared.tree.Tree.{Tree}
use Rattle.decision_tree.specs.Listed.{IsNumberedTree, IsTreeIn}
use Rattle.decision_tree.specs.Plain.{Plain, leaf_of, HasTest, TestsBelow}
use Rattle.decision_tree.specs.View.{numbered, plain}
use Rattle.decision_tree.proofs.Numbers.{numbered_tree}
use Rattle.decision_tree.proofs.Reduced.{tests_below, test_below}
use Rattle.tree_unify.specs.Formulas.{IsTreeOf}
use Rattle.tree_unify.specs.Leafwise.{IsMapped, TestsAreOf}
use Rattle.tree_questions.specs.Least.{literal}
use Rattle.tree_questions.proofs.Sides.{LeadsAlike, says_truth}

literal_below : (count test : ℕ) (truth : Bool) → test < count → IsBelow count (literal test truth)
literal_below count test true h = h
literal_below count test false h = h

pub below_as : (count test : ℕ) (truth : Bool) (p : Proposition ℕ) → p ≡ literal test truth → test < count → IsBelow count p
below_as count test truth p e h = subst (IsBelow count) (sym e) (literal_below count test truth h)

module _ {E : Type 0} (made : Result (Tree Bool) E) (tree own : Plain Bool) where
  -- it leads where the tree does, since a copy of the tree was restricted
  pub leads_as : (P : Bool → Bool → Type 0) (care : Plain Bool) (p : Proposition ℕ) (test : ℕ) (truth : Bool) → ((a b : Bool) → P a b → b ≡ a) → IsMapped P tree own → p ≡ literal test truth → IsTreeOf p care
      → IfOk made (λ r. (v : List Bool) → leaf_of care v ≡ true → leaf_of (plain r) v ≡ leaf_of own v) → IfOk made (λ r. LeadsAlike test truth (plain r) tree)
  leads_as P care p test truth same mapped e is =
      IfOk-weaker made (λ r. (v : List Bool) → leaf_of care v ≡ true → leaf_of (plain r) v ≡ leaf_of own v) (λ r. LeadsAlike test truth (plain r) tree)
      (λ r h v k. h v (is.truth v ∙ ap (true_on v) e ∙ says_truth v test truth k) ∙ same (leaf_of tree v) (leaf_of own v) (mapped.at_each v))

  pub tests_as : TestsAreOf tree own → IfOk made (λ r. (k : ℕ) → HasTest k (plain r) → HasTest k own) → IfOk made (λ r. (count : ℕ) → TestsBelow count tree → TestsBelow count (plain r))
  tests_as of =
      IfOk-weaker made (λ r. (k : ℕ) → HasTest k (plain r) → HasTest k own) (λ r. (count : ℕ) → TestsBelow count tree → TestsBelow count (plain r))
      (λ r h count b. tests_below count (plain r) (λ k x. test_below count k tree b (of.each k (h k x))))

pub numbered_as : {E : Type 0} (made : Result (Tree Bool) E) (forest : List (Plain Bool)) → IfOk made (λ r. IsTreeIn 0 320 forest (numbered r)) → IfOk made (λ r. IsNumberedTree 0 320 (numbered r))
numbered_as made forest = IfOk-weaker made (λ r. IsTreeIn 0 320 forest (numbered r)) (λ r. IsNumberedTree 0 320 (numbered r)) (λ r h. numbered_tree 0 320 forest (numbered r) h)
