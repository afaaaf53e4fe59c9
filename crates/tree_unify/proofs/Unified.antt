-- What the two sides of a test say of two trees and the tree that is made of them.
use Rattle.std.proofs.Common.{◌≡◌, ◌⊎◌, ℕ, Bool, true, false, List, cond, slice_index_or, refl, sym, subst, inl, inr}
use Rattle.decision_tree.specs.Plain.{Plain, node, leaf_of, HasTest, IsNodeOf}
use Rattle.tree_unify.specs.Leafwise.{IsUnified, TestsAreOfEither}

-- at a test, t leads on to low or to high
pub record IsSplit {A : Type 0} (k : ℕ) (t low high : Plain A) : Type 0 where
  pub leads : (v : List Bool) → leaf_of t v ≡ cond (slice_index_or v k false) (leaf_of high v) (leaf_of low v)
  pub low_tests : (j : ℕ) → HasTest j low → HasTest j t
  pub high_tests : (j : ℕ) → HasTest j high → HasTest j t

pub split_node : {A : Type 0} (t : Plain A) (k : ℕ) (low high : Plain A) → t ≡ node k low high → IsSplit k t low high
split_node t k low high e =
    subst (λ x. IsSplit k x low high) (sym e) (record { leads = λ v. refl; low_tests = λ j w. inr (inl w); high_tests = λ j w. inr (inr w) })

same_cond : {A : Type 0} (b : Bool) (x : A) → x ≡ cond b x x
same_cond true x = refl
same_cond false x = refl

pub split_same : {A : Type 0} (k : ℕ) (t : Plain A) → IsSplit k t t t
split_same k t = record { leads = λ v. same_cond (slice_index_or v k false) (leaf_of t v); low_tests = λ j w. w; high_tests = λ j w. w }

module _ {A B C : Type 0} where
  at_sides : {P : A → B → C → Type 0} (k : ℕ) (t t0 t1 : Plain A) (u u0 u1 : Plain B) (p q : Plain C) → IsSplit k t t0 t1 → IsSplit k u u0 u1 → IsUnified P t0 u0 p → IsUnified P t1 u1 q → (v : List Bool) → P (leaf_of t v) (leaf_of u v) (leaf_of (node k p q) v)
  at_sides {P} k t t0 t1 u u0 u1 p q a b f g v =
      let here : P (cond (slice_index_or v k false) (leaf_of t1 v) (leaf_of t0 v)) (cond (slice_index_or v k false) (leaf_of u1 v) (leaf_of u0 v)) (cond (slice_index_or v k false) (leaf_of q v) (leaf_of p v)) =
      elim (slice_index_or v k false) as (λ b. P (cond b (leaf_of t1 v) (leaf_of t0 v)) (cond b (leaf_of u1 v) (leaf_of u0 v)) (cond b (leaf_of q v) (leaf_of p v))) [ true ↦ g.at_each v | false ↦ f.at_each v ] in
      subst (λ x. P x (leaf_of u v) (leaf_of (node k p q) v)) (sym (a.leads v)) (subst (λ y. P (cond (slice_index_or v k false) (leaf_of t1 v) (leaf_of t0 v)) y (leaf_of (node k p q) v)) (sym (b.leads v)) here)

  pub unified_of_sides : {P : A → B → C → Type 0} (k : ℕ) (t t0 t1 : Plain A) (u u0 u1 : Plain B) (p q r : Plain C) → IsSplit k t t0 t1 → IsSplit k u u0 u1 → IsUnified P t0 u0 p → IsUnified P t1 u1 q → ((v : List Bool) → leaf_of r v ≡ leaf_of (node k p q) v) → IsUnified P t u r
  unified_of_sides {P} k t t0 t1 u u0 u1 p q r a b f g e = record { at_each = λ v. subst (P (leaf_of t v) (leaf_of u v)) (sym (e v)) (at_sides {P = P} k t t0 t1 u u0 u1 p q a b f g v) }

  pub tests_of_made : (k : ℕ) (t t0 t1 : Plain A) (u u0 u1 : Plain B) (p q r : Plain C) → IsSplit k t t0 t1 → IsSplit k u u0 u1 → HasTest k t ⊎ HasTest k u → TestsAreOfEither t0 u0 p → TestsAreOfEither t1 u1 q → IsNodeOf k p q r → (j : ℕ) → HasTest j r → HasTest j t ⊎ HasTest j u
  tests_of_made k t t0 t1 u u0 u1 p q r a b here f g (inl h) j w =
      elim (f.each j (subst (HasTest j) h.1 w)) [ inl x ↦ inl (a.low_tests j x) | inr y ↦ inr (b.low_tests j y) ]
  tests_of_made k t t0 t1 u u0 u1 p q r a b here f g (inr h) j w =
      let has : HasTest j (node k p q) = subst (HasTest j) h.1 w in
      elim has [
        | inl same ↦ subst (λ i. HasTest i t ⊎ HasTest i u) (sym same) here
        | inr (inl x) ↦ elim (f.each j x) [ inl y ↦ inl (a.low_tests j y) | inr y ↦ inr (b.low_tests j y) ]
        | inr (inr x) ↦ elim (g.each j x) [ inl y ↦ inl (a.high_tests j y) | inr y ↦ inr (b.high_tests j y) ]
      ]
