-- Trees of guards and of start values.
use Rattle.std.proofs.Common.{◌≡◌, ℕ, ◌∙◌, ◌&&◌, List, [], ◌∷◌, Bool, true, false, if◌then◌else◌, length, ap, sym, subst, refl, inl, inr, Result, Ok, Err, IfOk}
use Rattle.std.specs.Prelude.{ℤ, All, slice_index_or}
use Rattle.std.specs.Cmp.Rules.{signed_items}
use Rattle.std.specs.Cmp.Lexicographic.{pointwise}
use Rattle.std.proofs.lemmas.Bool.{eqb-true}
use lib.Dec.{eqb}
use Rattle.c_tree.specs.declared.lists.Declared.{Declared}
use Rattle.c_tree.specs.declared.lists.Guard.{Guard}
use Rattle.c_tree.specs.contracts.lists.GuardPartialEq.TheImpl.{eq-value as same-guards}
use Rattle.c_tree.specs.Project.{projected_start}
use Rattle.c_tree.specs.Value.{IsInt}
use Rattle.c_tree.specs.Whole.{IsDeclaredOf}
use Rattle.c_tree.proofs.Starts.{length-start, ints-start}
use Rattle.decision_tree.specs.declared.tree.Tree.{Tree}
use Rattle.decision_tree.specs.Plain.{Plain, leaf, leaf_of, HasTest, HasLeaf}
use Rattle.decision_tree.specs.Listed.{IsTreeIn}
use Rattle.decision_tree.specs.View.{numbered, plain}
use Rattle.decision_tree.proofs.Numbers.{numbered_tree}
use Rattle.decision_tree.proofs.Reached.{reached}
use Rattle.leaf_domain.specs.Leaves.{LeafValue, LeafMeaning, LeafLaws, nothing_of}
use Rattle.tree_unify.specs.Leafwise.{IsMapped, IsUnified, LeavesComeFrom, TestsAreOf, TestsAreOfEither}
use Rattle.lifted_analysis.specs.declared.family_context.FamilyContext.{FamilyContext}
use Rattle.lifted_analysis.specs.declared.start.Beginning.{Beginning}
use Rattle.lifted_analysis.specs.declared.start.Beginning.TheVariants.{Nothing, Values}
use Rattle.lifted_analysis.specs.contracts.start.BeginningPartialEq.TheImpl.{eq-value}
use Rattle.lifted_analysis.specs.Start.{IsTreeAt, IsBeginningOf, set_where, declared_by, begins_with, begins_at, leaf_with, start_at}
use Rattle.lifted_analysis.specs.States.{IsState, IsTruth, truths_in}

module _ (family : FamilyContext) where
  pub tree_made : {A B C : Type 0} (P : A → B → C → Type 0) (op : A → B → C) (f : List Bool → A) (g : List Bool → B) (forest : List (Plain C)) (t : Tree A) (u : Tree B) (r : Tree C)
      → ((a : A) (b : B) (c : C) → P a b c → c ≡ op a b) → IsTreeAt family f t → IsTreeAt family g u
      → IsUnified P (plain t) (plain u) (plain r) → TestsAreOfEither (plain t) (plain u) (plain r) → IsTreeIn 0 320 forest (numbered r)
      → IsTreeAt family (λ v. op (f v) (g v)) r
  tree_made P op f g forest t u r says h k m q own = record {
    tree = numbered_tree 0 320 forest (numbered r) own;
    tests = λ j w. elim (q.each j w) [ inl x ↦ h.tests j x | inr y ↦ k.tests j y ];
    at_each = λ v. says (leaf_of (plain t) v) (leaf_of (plain u) v) (leaf_of (plain r) v) (m.at_each v) ∙ (ap (λ a. op a (leaf_of (plain u) v)) (h.at_each v) ∙ ap (op (f v)) (k.at_each v));
  }

  -- of one tree
  pub tree_mapped : {A B E : Type 0} (made : Result (Tree B) E) (P : A → B → Type 0) (op : A → B) (f : List Bool → A) (forest : List (Plain B)) (t : Tree A)
      → ((a : A) (b : B) → P a b → b ≡ op a) → IsTreeAt family f t
      → IfOk made (λ r. IsMapped P (plain t) (plain r)) → IfOk made (λ r. TestsAreOf (plain t) (plain r)) → IfOk made (λ r. IsTreeIn 0 320 forest (numbered r))
      → IfOk made (λ r. IsTreeAt family (λ v. op (f v)) r)
  tree_mapped (Ok r) P op f forest t says h m q own = record {
    tree = numbered_tree 0 320 forest (numbered r) own;
    tests = λ k w. h.tests k (q.each k w);
    at_each = λ v. says (leaf_of (plain t) v) (leaf_of (plain r) v) (m.at_each v) ∙ ap op (h.at_each v);
  }
  tree_mapped (Err e) P op f forest t says h m q own = tt

  pub truth_tree : (t : Tree Bool) → IsTruth family (numbered t) → IsTreeAt family (λ v. leaf_of (plain t) v) t
  truth_tree t h = record { tree = h.tree; tests = h.tests; at_each = λ v. refl }

  pub tree_as : {A : Type 0} (f g : List Bool → A) (t : Tree A) → ((v : List Bool) → f v ≡ g v) → IsTreeAt family f t → IsTreeAt family g t
  tree_as f g t e h = record { tree = h.tree; tests = h.tests; at_each = λ v. h.at_each v ∙ e v }

  pub no_test : {A : Type 0} (t : Plain A) (x : A) (k : ℕ) → t ≡ leaf x → HasTest k t → ⊥
  no_test t x k e h = subst (HasTest k) e h

  pub leaf_tree : {A : Type 0} (forest : List (Plain A)) (t : Tree A) (x : A) → plain t ≡ leaf x → IsTreeIn 0 320 forest (numbered t) → IsTreeAt family (λ v. x) t
  leaf_tree forest t x e own = record {
    tree = numbered_tree 0 320 forest (numbered t) own;
    tests = λ k h. absurd (no_test (plain t) x k e h);
    at_each = λ v. ap (λ u. leaf_of u v) e;
  }

  pub choice_tree : (number : ℕ) (t : Tree Bool) → IsTruth family (numbered t) → ((v : List Bool) → leaf_of (plain t) v ≡ slice_index_or (truths_in family.choices.now v) number false)
      → IsTreeAt family (λ v. slice_index_or (truths_in family.choices.now v) number false) t
  choice_tree number t h e = record { tree = h.tree; tests = h.tests; at_each = e }

  pub truth_of_tree : (f : List Bool → Bool) (t : Tree Bool) → IsTreeAt family f t → IsTruth family (numbered t)
  truth_of_tree f t h = record { tree = h.tree; tests = h.tests }

  -- what begins somewhere has as many values as variables, within `int`
  fits_where : (b : Bool) (values : List ℤ) → length values ≡ family.variables → All IsInt values → IsBeginningOf family.variables (begins_with values b)
  fits_where true values e ints = (e, ints)
  fits_where false values e ints = tt

  pub start_fits : (start : List ℤ) (declared : List Declared) (t : Tree Beginning) → IsTreeAt family (begins_at family start declared) t
      → length start ≡ family.variables → All IsInt start → All (IsDeclaredOf family.variables) declared → (x : Beginning) → HasLeaf x (plain t) → IsBeginningOf family.variables x
  start_fits start declared t h n ints ds x w =
      let r = reached 320 (plain t) x h.tree.reduced h.tree.small w in
      let ts = truths_in family.choices.now r.0 in
      subst (IsBeginningOf family.variables) (sym (h.at_each r.0) ∙ r.2)
      (fits_where (leaf_of (plain family.plausible.now) r.0) (projected_start ts declared start) (length-start ts declared 0 start ∙ n) (ints-start ts declared family.variables 0 start ds ints))

-- what the tests for equality find equal is
pub beginnings_exact : (a b : Beginning) → eq-value.it a b ≡ true → a ≡ b
beginnings_exact Nothing Nothing e = refl
beginnings_exact Nothing (Values ys) e = absurd cc
beginnings_exact (Values xs) Nothing e = absurd cc
beginnings_exact (Values xs) (Values ys) e = ap Values ((signed_items xs ys).0 e)

abbrev guard_of : ℕ → Bool → Guard
guard_of n truth = record { number = n; positive = truth }

first_of_both : (x y : Bool) → (x && y) ≡ true → x ≡ true
first_of_both true y e = refl
first_of_both false y e = absurd cc

second_of_both : (x y : Bool) → (x && y) ≡ true → y ≡ true
second_of_both true y e = e
second_of_both false y e = absurd cc

same_guard : (n m : ℕ) (p q : Bool) → same-guards.it (guard_of n p) (guard_of m q) ≡ true → guard_of n p ≡ guard_of m q
same_guard n m true true e = ap (λ k. guard_of k true) (eqb-true n m (first_of_both (eqb n m) true e))
same_guard n m true false e = let f : false ≡ true = second_of_both (eqb n m) false e in absurd cc
same_guard n m false true e = let f : false ≡ true = second_of_both (eqb n m) false e in absurd cc
same_guard n m false false e = ap (λ k. guard_of k false) (eqb-true n m (first_of_both (eqb n m) true e))

pub guards_exact : (xs ys : List Guard) → pointwise same-guards.it xs ys ≡ true → xs ≡ ys
guards_exact [] [] e = refl
guards_exact [] (y ∷ ys) e = absurd cc
guards_exact (x ∷ xs) [] e = absurd cc
guards_exact (x ∷ xs) (y ∷ ys) e =
    let head : x ≡ y = same_guard x.number y.number x.positive y.positive (first_of_both (same-guards.it x y) (pointwise same-guards.it xs ys) e) in
    let tail : xs ≡ ys = guards_exact xs ys (second_of_both (same-guards.it x y) (pointwise same-guards.it xs ys) e) in
    ap (λ (z : Guard). z ∷ xs) head ∙ ap (λ (zs : List Guard). y ∷ zs) tail

-- a declarator of what begins somewhere
pub declared_where : (truth b : Bool) (x : ℕ) (n : ℤ) (values : List ℤ) → declared_by truth x n (begins_with values b) ≡ begins_with (set_where truth x n values) b
declared_where truth true x n values = refl
declared_where truth false x n values = refl

module _ {L : Type 0} (value : L → LeafValue) (M : LeafMeaning) (laws : LeafLaws M) (family : FamilyContext) where
  with_variables : (x : Beginning) → IsBeginningOf family.variables x → (leaf_with M family.variables x).variables ≡ family.variables
  with_variables Nothing h = refl
  with_variables (Values values) h = laws.start_variables values ∙ h.0

  leaf_where : (b : Bool) (values : List ℤ) → leaf_with M family.variables (begins_with values b) ≡ (if b then M.start values else nothing_of family.variables)
  leaf_where true values = refl
  leaf_where false values = refl

  -- the tree of their leaves
  pub begun : {E : Type 0} (made : Result (Tree L) E) (start : List ℤ) (declared : List Declared) (t : Tree Beginning) (P : Beginning → L → Type 0) (forest : List (Plain L)) → ((a : Beginning) (b : L) → P a b → value b ≡ leaf_with M family.variables a)
      → IsTreeAt family (begins_at family start declared) t → length start ≡ family.variables → All IsInt start → All (IsDeclaredOf family.variables) declared
      → IfOk made (λ r. LeavesComeFrom P (plain t) (plain r)) → IfOk made (λ r. TestsAreOf (plain t) (plain r)) → IfOk made (λ r. IsTreeIn 0 320 forest (numbered r)) → IfOk made (λ r. IsState value family forest (numbered r))
  begun (Ok r) start declared t P forest says h n ints ds l q own = record {
    tree = own;
    tests = λ k w. h.tests k (q.each k w);
    leaves = λ y w. let x = l.each y w in ap (λ (u : LeafValue). u.variables) (says x.0 y x.2) ∙ with_variables x.0 (start_fits family start declared t h n ints ds x.0 x.1);
  }
  begun (Err e) start declared t P forest says h n ints ds l q own = tt

  pub started : {E : Type 0} (made : Result (Tree L) E) (start : List ℤ) (declared : List Declared) (t : Tree Beginning) (P : Beginning → L → Type 0) → ((a : Beginning) (b : L) → P a b → value b ≡ leaf_with M family.variables a)
      → IsTreeAt family (begins_at family start declared) t → IfOk made (λ r. IsMapped P (plain t) (plain r))
      → IfOk made (λ r. (v : List Bool) → value (leaf_of (plain r) v) ≡ start_at M family start declared v)
  started (Ok r) start declared t P says h m = λ v.
      let d = projected_start (truths_in family.choices.now v) declared start in
      says (leaf_of (plain t) v) (leaf_of (plain r) v) (m.at_each v) ∙ (ap (leaf_with M family.variables) (h.at_each v) ∙ leaf_where (leaf_of (plain family.plausible.now) v) d)
  started (Err e) start declared t P says h m = tt
