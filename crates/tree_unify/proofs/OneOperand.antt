-- A map as an operation whose second operand is one leaf without a value.
use Rattle.std.proofs.Common.{◌≡◌, ℕ, ◌+◌, ◌*◌, ◌≤◌, [], ◌∷◌, length, refl, sym, subst, inl, inr, arith, Result, Ok, Err, IfOk}
use Rattle.std.specs.Borrow.{Bor}
use Rattle.std.specs.Fn.{Shared, FnReturnsAt}
use Rattle.std.proofs.lemmas.Fn.{says_at}
use Rattle.std.proofs.lemmas.Result.{IfOk-weaker}
use Rattle.decision_tree.specs.declared.tree.Tree.{Tree}
use Rattle.decision_tree.specs.Plain.{Plain, leaf, leaf_of, HasTest}
use Rattle.decision_tree.specs.View.{plain}
use Rattle.tree_unify.specs.Leafwise.{IsMapped, IsUnified, LeavesComeFrom, LeavesComeFromBoth, TestsAreOf, TestsAreOfEither}
use Rattle.tree_unify.specs.Leaves.{HoldsLeaves}
use Rattle.tree_unify.specs.Subtrees.{HoldsSubtrees}

pub all_units : (u : Plain (Unit {0})) → HoldsLeaves (tt ∷ []) u
all_units u = record { each = λ x w. (0, omega arith, refl) }

-- a leaf has no subtree but itself
pub the_unit : (u : Plain (Unit {0})) → u ≡ leaf tt → HoldsSubtrees (leaf tt ∷ []) u
the_unit u e = subst (HoldsSubtrees (leaf tt ∷ [])) (sym e) (record { each = λ s w. (0, omega arith, sym w) })

pub one_column : {X : Type 0} (n s d : ℕ) (x : X) → d ≤ s + n * length (x ∷ []) → d ≤ s + n
one_column n s d x h = omega arith

pub given_by_map : {F A B E : Type 0} (g : Shared F (Bor A × Unit {0}) (Result B E)) (f : F) (p : Bor A) (r : Result B E) → g.post f (p, tt) r → IfOk r (λ b. FnReturnsAt g f p.now (Ok b))
given_by_map g f p (Ok b) h = says_at g h refl
given_by_map g f p (Err e) h = tt

module _ {A B E : Type 0} (made : Result (Tree B) E) (t : Plain A) (u : Plain (Unit {0})) where
  pub tests_of_one : u ≡ leaf tt → IfOk made (λ r. TestsAreOfEither t u (plain r)) → IfOk made (λ r. TestsAreOf t (plain r))
  tests_of_one e h =
      IfOk-weaker made (λ r. TestsAreOfEither t u (plain r)) (λ r. TestsAreOf t (plain r))
      (λ r m. record { each = λ k w. elim (m.each k w) [ inl x ↦ x | inr y ↦ absurd (subst (HasTest k) e y) ] }) h

  pub mapped_of_one : (P : A → Unit {0} → B → Type 0) (Q : A → B → Type 0) → ((a : A) (x : Unit {0}) (b : B) → P a x b → Q a b) → IfOk made (λ r. IsUnified P t u (plain r)) → IfOk made (λ r. IsMapped Q t (plain r))
  mapped_of_one P Q f h =
      IfOk-weaker made (λ r. IsUnified P t u (plain r)) (λ r. IsMapped Q t (plain r))
      (λ r m. record { at_each = λ v. f (leaf_of t v) (leaf_of u v) (leaf_of (plain r) v) (m.at_each v) }) h

  pub leaves_of_one : (P : A → Unit {0} → B → Type 0) (Q : A → B → Type 0) → ((a : A) (x : Unit {0}) (b : B) → P a x b → Q a b) → IfOk made (λ r. LeavesComeFromBoth P t u (plain r)) → IfOk made (λ r. LeavesComeFrom Q t (plain r))
  leaves_of_one P Q f h =
      IfOk-weaker made (λ r. LeavesComeFromBoth P t u (plain r)) (λ r. LeavesComeFrom Q t (plain r))
      (λ r m. record { each = λ b w. let x = m.each b w in (x.0, x.2, f x.0 x.1 b x.4) }) h
