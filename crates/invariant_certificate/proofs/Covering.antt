-- The tree of the vectors at which another one is false or a formula true.
use Rattle.std.proofs.Common.{◌≡◌, inl, inr, ℕ, Bool, not, ◌||◌, List, Result, IfOk, sym, ap, subst, ◌∙◌}
use Rattle.std.proofs.lemmas.Result.{IfOk-weaker}
use Rattle.cpp_conditions.specs.Propositions.{Proposition, IsBelow, true_on}
use Rattle.decision_tree.specs.declared.tree.Tree.{Tree}
use Rattle.decision_tree.specs.Listed.{IsNumberedTree, IsTreeIn}
use Rattle.decision_tree.specs.Numbered.{kept, erase}
use Rattle.decision_tree.specs.Plain.{Plain, leaf_of, IsReducedFrom, TestsBelow}
use Rattle.decision_tree.specs.View.{numbered, plain}
use Rattle.decision_tree.proofs.Numbers.{numbered_tree}
use Rattle.decision_tree.proofs.Reduced.{tests_below, test_below}
use Rattle.tree_unify.specs.Formulas.{IsTreeOf}
use Rattle.tree_unify.specs.Leafwise.{IsUnified, TestsAreOfEither}
use Rattle.tree_unify.proofs.FormulaTrees.{tree_below}
use Rattle.tree_unify.proofs.Within.{numbered_leaf}

module _ {E : Type 0} (made : Result (Tree Bool) E) (tree region : Plain Bool) (listed : Proposition ℕ) (is : IsTreeOf listed region) where
  pub covers : (P : Bool → Bool → Bool → Type 0) → ((a b d : Bool) → P a b d → d ≡ (not a || b)) → IfOk made (λ r. IsUnified P tree region (plain r))
      → IfOk made (λ r. (v : List Bool) → leaf_of (plain r) v ≡ (not (leaf_of tree v) || true_on v listed))
  covers P says =
      IfOk-weaker made (λ r. IsUnified P tree region (plain r)) (λ r. (v : List Bool) → leaf_of (plain r) v ≡ (not (leaf_of tree v) || true_on v listed))
      (λ r h v. says (leaf_of tree v) (leaf_of region v) (leaf_of (plain r) v) (h.at_each v) ∙ ap (λ b. not (leaf_of tree v) || b) (is.truth v))

  pub covers_below : IfOk made (λ r. TestsAreOfEither tree region (plain r)) → IfOk made (λ r. (count : ℕ) → TestsBelow count tree → IsBelow count listed → TestsBelow count (plain r))
  covers_below =
      IfOk-weaker made (λ r. TestsAreOfEither tree region (plain r)) (λ r. (count : ℕ) → TestsBelow count tree → IsBelow count listed → TestsBelow count (plain r))
      (λ r h count b f. tests_below count (plain r) (λ k x. elim (h.each k x) [
        | inl w ↦ test_below count k tree b w
        | inr w ↦ test_below count k region (tree_below count listed region f is) w
      ]))

pub numbered_in_forest : {E : Type 0} (made : Result (Tree Bool) E) (forest : List (Plain Bool)) → IfOk made (λ r. IsTreeIn 0 320 forest (numbered r)) → IfOk made (λ r. IsNumberedTree 0 320 (numbered r))
numbered_in_forest made forest = IfOk-weaker made (λ r. IsTreeIn 0 320 forest (numbered r)) (λ r. IsNumberedTree 0 320 (numbered r)) (λ r h. numbered_tree 0 320 forest (numbered r) h)

-- a single leaf is numbered
pub leaf_numbered : {E : Type 0} (made : Result (Tree Bool) E) (b : Bool) → IfOk made (λ t. numbered t ≡ kept 0 b) → IfOk made (λ t. IsNumberedTree 0 320 (numbered t))
leaf_numbered made b =
    IfOk-weaker made (λ t. numbered t ≡ kept 0 b) (λ t. IsNumberedTree 0 320 (numbered t))
    (λ t e. record { reduced = subst (λ n. IsReducedFrom 0 (erase n)) (sym e) tt; small = subst (λ n. TestsBelow 320 (erase n)) (sym e) tt; numbered = numbered_leaf (numbered t) 0 b e })
