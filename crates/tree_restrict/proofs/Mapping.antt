-- Restriction of trees whose leaves are replaced, and bounds of tests.
use Rattle.std.proofs.Common.{◌≡◌, ℕ, Bool, true, false, cond, ◌&&◌, ◌==◌, List, [], ◌∷◌, refl, sym, ◌∙◌, ap}
use Rattle.decision_tree.specs.Plain.{Plain, leaf, node, TestsBelow}
use Rattle.decision_tree.proofs.Reduced.{tests_below, test_below}
use Rattle.tree_restrict.specs.Mapped.{ReplacesLeaves, AgreeThrough}
use Rattle.tree_restrict.specs.Restricted.{is_false, never, afters, same, joined, sides_left, restricted_by, restricted}
use Rattle.tree_restrict.proofs.Restricting.{sides_same, tests_of}

-- a bound of the tests of t bounds those of the restricted tree
pub below_of : {L : Type 0} (eq : L → L → Bool) (t : Plain L) (c : Plain Bool) (m : ℕ) → TestsBelow m t → TestsBelow m (restricted eq t c)
below_of eq t c m h = tests_below m (restricted eq t c) (λ k w. test_below m k t h (tests_of eq t c k w))

at_both : {A B C : Type 0} (f : A → B → C) (a p : A) (b q : B) → a ≡ p → b ≡ q → f a b ≡ f p q
at_both f a p b q d e = cc

module _ {A B : Type 0} (eq : A → A → Bool) (other : B → B → Bool) (f : A → B) (g : Plain A → Plain B) (agree : AgreeThrough f eq other) (maps : ReplacesLeaves f g) where
  same_mapped : (t u : Plain A) → same other (g t) (g u) ≡ same eq t u
  same_mapped (leaf a) (leaf b) = at_both (same other) _ _ _ _ (maps.leaves a) (maps.leaves b) ∙ agree a b
  same_mapped (leaf a) (node k p q) = at_both (same other) _ _ _ _ (maps.leaves a) (maps.nodes k p q)
  same_mapped (node j l h) (leaf b) = at_both (same other) _ _ _ _ (maps.nodes j l h) (maps.leaves b)
  same_mapped (node j l h) (node k p q) =
      at_both (same other) _ _ _ _ (maps.nodes j l h) (maps.nodes k p q)
      ∙ ap (λ b. (j == k) && b) (at_both (λ x y. x && y) _ _ _ _ (same_mapped l p) (same_mapped h q))

  joined_mapped : (k : ℕ) (l h : Plain A) → g (joined eq k l h) ≡ joined other k (g l) (g h)
  joined_mapped k l h = by (same eq l h) ∙ ap (λ b. cond b (g l) (node k (g l) (g h))) (sym (same_mapped l h))
    where
      by : (b : Bool) → g (cond b l (node k l h)) ≡ cond b (g l) (node k (g l) (g h))
      by true = refl
      by false = maps.nodes k l h

  sides_mapped : (k : ℕ) (a b : Bool) (x y : Plain A) → g (sides_left eq k a b x y) ≡ sides_left other k a b (g x) (g y)
  sides_mapped k true b x y = refl
  sides_mapped k false true x y = refl
  sides_mapped k false false x y = joined_mapped k x y

  mapped_by : (t : Plain A) (cs : List (Plain Bool)) → g (restricted_by eq t cs) ≡ restricted_by other (g t) cs
  mapped_by (leaf x) cs = maps.leaves x ∙ sym (ap (λ u. restricted_by other u cs) (maps.leaves x))
  mapped_by (node k l h) cs =
      sides_mapped k (never (afters k false cs)) (never (afters k true cs)) (restricted_by eq l (afters k false cs)) (restricted_by eq h (afters k true cs))
      ∙ (sides_same other k _ _ _ _ _ _ _ _ refl refl (mapped_by l (afters k false cs)) (mapped_by h (afters k true cs))
      ∙ sym (ap (λ u. restricted_by other u cs) (maps.nodes k l h)))

  pub mapped_of : (t : Plain A) (c : Plain Bool) → g (restricted eq t c) ≡ restricted other (g t) c
  mapped_of t c = by (is_false c)
    where
      by : (b : Bool) → g (cond b t (restricted_by eq t (c ∷ []))) ≡ cond b (g t) (restricted_by other (g t) (c ∷ []))
      by true = refl
      by false = mapped_by t (c ∷ [])
