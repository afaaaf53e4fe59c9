-- Trees of formulas, made of those of their parts.
use Rattle.std.specs.List.{Contains}
use Rattle.std.proofs.Common.{◌≡◌, ◌⊎◌, inl, inr, ℕ, ◌+◌, ◌*◌, ◌<◌, ◌≤◌, Bool, true, false, not, ◌&&◌, ◌||◌, List, [], ◌∷◌, arith, ap, sym, ◌∙◌, subst, refl, Result, Ok, Err, IfOk}
use Rattle.std.proofs.lemmas.Result.{IfOk-weaker}
use Rattle.decision_tree.specs.declared.tree.Tree.{Tree}
use Rattle.decision_tree.specs.Plain.{Plain, leaf_of, HasTest, IsReduced, TestsBelow}
use Rattle.decision_tree.specs.View.{numbered, plain}
use Rattle.decision_tree.specs.Listed.{IsTreeIn}
use Rattle.decision_tree.proofs.Reduced.{tests_below}
use Rattle.cpp_conditions.specs.Propositions.{Proposition, Const, Test, Not, And, Or, true_on, IsBelow}
use Rattle.tree_unify.specs.Formulas.{HasNumber, IsTreeOf}
use Rattle.tree_unify.specs.Leaves.{HoldsLeaves}
use Rattle.tree_unify.specs.Leafwise.{IsMapped, IsUnified, TestsAreOf, TestsAreOfEither}

-- a number of a formula is below what bounds all of them
pub number_below : (n k : ℕ) (p : Proposition ℕ) → IsBelow n p → HasNumber k p → k < n
number_below n k (Const b) h w = absurd w
number_below n k (Test m) h w = subst (λ (j : ℕ). j < n) (sym w) h
number_below n k (Not p) h w = number_below n k p h w
number_below n k (And p q) h (inl w) = number_below n k p h.0 w
number_below n k (And p q) h (inr w) = number_below n k q h.1 w
number_below n k (Or p q) h (inl w) = number_below n k p h.0 w
number_below n k (Or p q) h (inr w) = number_below n k q h.1 w

pub tree_below : (n : ℕ) (p : Proposition ℕ) (t : Plain Bool) → IsBelow n p → IsTreeOf p t → TestsBelow n t
tree_below n p t h w = tests_below n t (λ k x. number_below n k p h (w.tests k x))

pub negated : (P : Bool → Bool → Type 0) (p : Proposition ℕ) (t r : Plain Bool) → ((a b : Bool) → P a b → b ≡ not a) → IsTreeOf p t → IsMapped P t r → IsReduced r → TestsAreOf t r → IsTreeOf (Not p) r
negated P p t r says w m reduced tests = record {
  truth = λ v. says (leaf_of t v) (leaf_of r v) (m.at_each v) ∙ ap not (w.truth v);
  reduced = reduced;
  tests = λ k x. w.tests k (tests.each k x);
}

tests_of_either : (p q : Proposition ℕ) (t u r : Plain Bool) → IsTreeOf p t → IsTreeOf q u → TestsAreOfEither t u r → (k : ℕ) → HasTest k r → HasNumber k p ⊎ HasNumber k q
tests_of_either p q t u r w x tests k h = chosen (tests.each k h)
  where
    chosen : HasTest k t ⊎ HasTest k u → HasNumber k p ⊎ HasNumber k q
    chosen (inl y) = inl (w.tests k y)
    chosen (inr y) = inr (x.tests k y)

pub conjoined : (P : Bool → Bool → Bool → Type 0) (p q : Proposition ℕ) (t u r : Plain Bool) → ((a b c : Bool) → P a b c → c ≡ (a && b)) → IsTreeOf p t → IsTreeOf q u → IsUnified P t u r
    → IsReduced r → TestsAreOfEither t u r → IsTreeOf (And p q) r
conjoined P p q t u r says w x m reduced tests = record {
  truth = λ v. says (leaf_of t v) (leaf_of u v) (leaf_of r v) (m.at_each v) ∙ ap (λ a. a && leaf_of u v) (w.truth v) ∙ ap (λ b. true_on v p && b) (x.truth v);
  reduced = reduced;
  tests = λ k h. tests_of_either p q t u r w x tests k h;
}

pub disjoined : (P : Bool → Bool → Bool → Type 0) (p q : Proposition ℕ) (t u r : Plain Bool) → ((a b c : Bool) → P a b c → c ≡ (a || b)) → IsTreeOf p t → IsTreeOf q u → IsUnified P t u r
    → IsReduced r → TestsAreOfEither t u r → IsTreeOf (Or p q) r
disjoined P p q t u r says w x m reduced tests = record {
  truth = λ v. says (leaf_of t v) (leaf_of u v) (leaf_of r v) (m.at_each v) ∙ ap (λ a. a || leaf_of u v) (w.truth v) ∙ ap (λ b. true_on v p || b) (x.truth v);
  reduced = reduced;
  tests = λ k h. tests_of_either p q t u r w x tests k h;
}

-- ---- the same of what a call answers

pub negated_made : {E : Type 0} (made : Result (Tree Bool) E) (P : Bool → Bool → Type 0) (f p : Proposition ℕ) (t : Plain Bool) → f ≡ Not p → ((a b : Bool) → P a b → b ≡ not a) → IsTreeOf p t → IfOk made (λ r. IsMapped P t (plain r))
    → IfOk made (λ r. IsReduced (plain r)) → IfOk made (λ r. TestsAreOf t (plain r)) → IfOk made (λ r. IsTreeOf f (plain r))
negated_made (Ok r) P f p t e says w m reduced tests = subst (λ (g : Proposition ℕ). IsTreeOf g (plain r)) (sym e) (negated P p t (plain r) says w m reduced tests)
negated_made (Err i) P f p t e says w m reduced tests = tt

pub conjoined_made : {E : Type 0} (made : Result (Tree Bool) E) (P : Bool → Bool → Bool → Type 0) (f p q : Proposition ℕ) (t u : Plain Bool) → f ≡ And p q → ((a b c : Bool) → P a b c → c ≡ (a && b)) → IsTreeOf p t → IsTreeOf q u → IfOk made (λ r. IsUnified P t u (plain r))
    → IfOk made (λ r. IsReduced (plain r)) → IfOk made (λ r. TestsAreOfEither t u (plain r)) → IfOk made (λ r. IsTreeOf f (plain r))
conjoined_made (Ok r) P f p q t u e says w x m reduced tests = subst (λ (g : Proposition ℕ). IsTreeOf g (plain r)) (sym e) (conjoined P p q t u (plain r) says w x m reduced tests)
conjoined_made (Err i) P f p q t u e says w x m reduced tests = tt

pub disjoined_made : {E : Type 0} (made : Result (Tree Bool) E) (P : Bool → Bool → Bool → Type 0) (f p q : Proposition ℕ) (t u : Plain Bool) → f ≡ Or p q → ((a b c : Bool) → P a b c → c ≡ (a || b)) → IsTreeOf p t → IsTreeOf q u → IfOk made (λ r. IsUnified P t u (plain r))
    → IfOk made (λ r. IsReduced (plain r)) → IfOk made (λ r. TestsAreOfEither t u (plain r)) → IfOk made (λ r. IsTreeOf f (plain r))
disjoined_made (Ok r) P f p q t u e says w x m reduced tests = subst (λ (g : Proposition ℕ). IsTreeOf g (plain r)) (sym e) (disjoined P p q t u (plain r) says w x m reduced tests)
disjoined_made (Err i) P f p q t u e says w x m reduced tests = tt

-- ---- in a forest

pub reduced_in : {E L : Type 0} (made : Result (Tree L) E) (forest : List (Plain L)) → IfOk made (λ r. IsTreeIn 0 320 forest (numbered r)) → IfOk made (λ r. IsReduced (plain r))
reduced_in made forest = IfOk-weaker made (λ r. IsTreeIn 0 320 forest (numbered r)) (λ r. IsReduced (plain r)) (λ r h. h.reduced)

-- two values are all leaves that a tree of truths may have
pub all_truths : (t : Plain Bool) → HoldsLeaves (true ∷ (false ∷ [])) t
all_truths t = record { each = λ x w. elim x as (λ b. Contains (true ∷ (false ∷ [])) b) [ true ↦ (0, omega arith, refl) | false ↦ (1, omega arith, refl) ] }

-- at most two steps for the leaves of one tree of truths, and four for those of two
pub steps_of_one : (n p s a b : ℕ) → n ≡ p + 1 → a ≤ s + 4 * p → b ≤ a + 2 → b ≤ s + 4 * n
steps_of_one n p s a b e h i = omega arith

pub steps_of_two : (n p q s a b d : ℕ) → n ≡ p + q + 1 → a ≤ s + 4 * p → b ≤ a + 4 * q → d ≤ b + 4 → d ≤ s + 4 * n
steps_of_two n p q s a b d e h i j = omega arith
