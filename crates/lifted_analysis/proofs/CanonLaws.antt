-- The one tree of a function, of leaf values and of truths.
use Rattle.std.proofs.Common.{◌≡◌, ◌↔◌, ℕ, Bool, true, false, List, refl}
use Rattle.decision_tree.specs.Plain.{Plain}
use Rattle.leaf_domain.specs.Leaves.{LeafValue, same_leaf}
use Rattle.leaf_domain.proofs.LeafEquality.{leaf_decides}
use Rattle.lifted_analysis.specs.Canon.{IsTreeOf, IsCanon}
use Rattle.lifted_analysis.proofs.Canonical.{canon_of_tree, tree_of_canon, canon_is_one, canon_is_there}

pub leaf_trees : (m : ℕ) (f : List Bool → LeafValue) (t : Plain LeafValue) → (IsTreeOf m f t) ↔ (IsCanon m f t)
leaf_trees m f t = (canon_of_tree f m t, tree_of_canon f m t)

pub one_leaf_tree : (m : ℕ) (f : List Bool → LeafValue) (t u : Plain LeafValue) → IsCanon m f t → IsCanon m f u → t ≡ u
one_leaf_tree m f t u h k = canon_is_one f m t u h k

pub some_leaf_tree : (m : ℕ) (f : List Bool → LeafValue) → (t : Plain LeafValue) × IsCanon m f t
some_leaf_tree m f = canon_is_there f same_leaf (λ a b. leaf_decides a b) m

pub truth_trees : (m : ℕ) (f : List Bool → Bool) (t : Plain Bool) → (IsTreeOf m f t) ↔ (IsCanon m f t)
truth_trees m f t = (canon_of_tree f m t, tree_of_canon f m t)

pub one_truth_tree : (m : ℕ) (f : List Bool → Bool) (t u : Plain Bool) → IsCanon m f t → IsCanon m f u → t ≡ u
one_truth_tree m f t u h k = canon_is_one f m t u h k

same_truth : Bool → Bool → Bool
same_truth true b = b
same_truth false true = false
same_truth false false = true

truth_decides : (a b : Bool) → (same_truth a b ≡ true) ↔ (a ≡ b)
unfolding same_truth
truth_decides true true = ((λ e. refl), (λ e. refl))
truth_decides true false = ((λ e. cc), (λ e. cc))
truth_decides false true = ((λ e. cc), (λ e. cc))
truth_decides false false = ((λ e. refl), (λ e. refl))

pub some_truth_tree : (m : ℕ) (f : List Bool → Bool) → (t : Plain Bool) × IsCanon m f t
some_truth_tree m f = canon_is_there f same_truth truth_decides m
