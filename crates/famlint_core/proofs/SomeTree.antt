-- Each function of vectors is told by a tree.
use Rattle.std.proofs.Common.{◌≡◌, ◌≢◌, ◌↔◌, ◌⊎◌, ℕ, Bool, true, false, List, [], ◌∷◌, refl, ap, ◌∙◌, inl, inr, arith}
use Rattle.std.proofs.lemmas.Bool.{cases_order}
use Rattle.linear_atoms.specs.declared.regions.Regions.{Regions}
use Rattle.linear_atoms.specs.declared.regions.Regions.TheVariants.{Paths, Merged}
use Rattle.cpp_conditions.specs.Propositions.{Proposition, true_on}
use Rattle.decision_tree.specs.Plain.{Plain, leaf, node, IsNodeOf}
use Rattle.leaf_domain.specs.Leaves.{LeafValue, same_leaf}
use Rattle.leaf_domain.proofs.LeafEquality.{leaf_decides}
use Rattle.lifted_analysis.specs.Canon.{IsTreeOf}
use Rattle.lifted_analysis.proofs.CanonLaws.{leaf_trees, some_leaf_tree, truth_trees, some_truth_tree}
use Rattle.tree_restrict.specs.Restricted.{is_false, never, afters}
use Rattle.merged_findings.specs.Restricting.{IsLeft, IsRestrictedBy, IsOwn}
use Rattle.famlint_families.specs.Told.{IsToldTree}

-- the same, or not
abbrev IsTold : {X : Type 0} → X → X → Type 0
IsTold x y = (x ≡ y) ⊎ (x ≢ y)

-- two truths, two leaf values
told_truth : (a b : Bool) → IsTold a b
told_truth true true = inl refl
told_truth true false = inr (λ e. cc)
told_truth false true = inr (λ e. cc)
told_truth false false = inl refl

told_by : {X : Type 0} (test : X → X → Bool) → ((x y : X) → (test x y ≡ true) ↔ (x ≡ y)) → (x y : X) (b : Bool) → test x y ≡ b → IsTold x y
told_by test decides x y true e = inl ((decides x y).0 e)
told_by test decides x y false e = inr (λ same. let k = (decides x y).1 same in cc)

told_leaf : (a b : LeafValue) → IsTold a b
told_leaf a b = told_by same_leaf (λ x y. leaf_decides x y) a b (same_leaf a b) refl

-- ---- restricted trees

module _ {A : Type 0} (told : (a b : A) → IsTold a b) where
  told_leaves : (a b : A) → IsTold a b → IsTold (leaf a) (leaf b)
  told_leaves a b (inl e) = inl (ap (λ (x : A). leaf x) e)
  told_leaves a b (inr n) = inr (λ e. n (let k : a ≡ b = cc in k))

  told_nodes : (i j : ℕ) (p q r s : Plain A) → IsTold p r → IsTold q s → IsTold (node i p q) (node j r s)
  told_nodes i j p q r s (inl e) (inl g) = elim (cases_order i j) [
    | inl h ↦ inl (ap (λ n. node n p q) h ∙ (ap (λ x. node j x q) e ∙ ap (node j r) g))
    | inr (inl h) ↦ inr (λ k. let n : i ≡ j = cc in omega arith)
    | inr (inr h) ↦ inr (λ k. let n : i ≡ j = cc in omega arith)
  ]
  told_nodes i j p q r s (inr e) g = inr (λ k. e (let n : p ≡ r = cc in n))
  told_nodes i j p q r s (inl e) (inr g) = inr (λ k. g (let n : q ≡ s = cc in n))

  told_tree : (t u : Plain A) → IsTold t u
  told_tree (leaf a) (leaf b) = told_leaves a b (told a b)
  told_tree (leaf a) (node j r s) = inr (λ h. cc)
  told_tree (node i p q) (leaf b) = inr (λ h. cc)
  told_tree (node i p q) (node j r s) = told_nodes i j p q r s (told_tree p r) (told_tree q s)

  node_by : (test : ℕ) (low high : Plain A) → IsTold low high → (t : Plain A) × IsNodeOf test low high t
  node_by test low high (inl e) = (low, inl (e, refl))
  node_by test low high (inr n) = (node test low high, inr (n, refl))

  some_left : (test : ℕ) (n y : Bool) (No Yes : Plain A → Type 0) → (t : Plain A) × No t → (t : Plain A) × Yes t → (t : Plain A) × IsLeft test n y No Yes t
  some_left test true y No Yes low high = high
  some_left test false true No Yes low high = low
  some_left test false false No Yes low high = let made = node_by test low.0 high.0 (told_tree low.0 high.0) in (made.0, (low.0, high.0, low.1, high.1, made.1))

  some_restricted : (whole : Plain A) (cs : List (Plain Bool)) → (t : Plain A) × IsRestrictedBy whole cs t
  some_restricted (leaf x) cs = (leaf x, refl)
  some_restricted (node test low high) cs =
      some_left test (never (afters test false cs)) (never (afters test true cs)) (IsRestrictedBy low (afters test false cs)) (IsRestrictedBy high (afters test true cs))
      (some_restricted low (afters test false cs)) (some_restricted high (afters test true cs))

  some_own : (b : Bool) (whole : Plain A) (cs : List (Plain Bool)) → (t : Plain A) × IsOwn b whole cs t
  some_own true whole cs = (whole, refl)
  some_own false whole cs = some_restricted whole cs

-- ---- what is told

truth_tree : (m : ℕ) (f : List Bool → Bool) → (t : Plain Bool) × IsTreeOf m f t
truth_tree m f = let made = some_truth_tree m f in (made.0, (truth_trees m f made.0).1 made.1)

leaf_tree : (m : ℕ) (f : List Bool → LeafValue) → (t : Plain LeafValue) × IsTreeOf m f t
leaf_tree m f = let made = some_leaf_tree m f in (made.0, (leaf_trees m f made.0).1 made.1)

module _ {A : Type 0} (told : (a b : A) → IsTold a b) (tree_of : (m : ℕ) (f : List Bool → A) → (t : Plain A) × IsTreeOf m f t) (m : ℕ) (f : List Bool → A) (plausible : Proposition ℕ) where
  some_told : (r : Regions) → (t : Plain A) × IsToldTree r m f plausible t
  some_told Paths = tree_of m f
  some_told Merged =
      let whole = tree_of m f in
      let care = truth_tree m (λ v. true_on v plausible) in
      let merged = some_own told (is_false care.0) whole.0 (care.0 ∷ []) in
      (merged.0, record { whole = whole.0; care = care.0; whole_is = whole.1; care_is = care.1; merged = merged.1 })

pub some_stop_tree : (r : Regions) (m : ℕ) (f : List Bool → Bool) (plausible : Proposition ℕ) → (t : Plain Bool) × IsToldTree r m f plausible t
some_stop_tree r m f plausible = some_told told_truth truth_tree m f plausible r

pub some_place_tree : (r : Regions) (m : ℕ) (f : List Bool → LeafValue) (plausible : Proposition ℕ) → (t : Plain LeafValue) × IsToldTree r m f plausible t
some_place_tree r m f plausible = some_told told_leaf leaf_tree m f plausible r
