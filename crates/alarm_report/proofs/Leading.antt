-- The paths of trees of leaves.
use Rattle.std.proofs.Common.{◌≡◌, ℕ, Bool, true, false, List, [], ◌∷◌, ◌++◌, map, refl, ap, sym, ◌∙◌, cond}
use Rattle.std.specs.List.{filter}
use Rattle.decision_tree.specs.Paths.{paths_from, paths_of}
use Rattle.decision_tree.specs.Plain.{Plain, leaf, node, leaf_of, TestsBelow}
use Rattle.leaf_domain.specs.Leaves.{LeafValue}
use Rattle.lifted_analysis.specs.Promises.{valued}

-- paths with the leaves' values
abbrev pub values_of : {L : Type 0} → (L → LeafValue) → List (List (ℕ × Bool) × L) → List (List (ℕ × Bool) × LeafValue)
values_of {L} value ps = map (λ (p : List (ℕ × Bool) × L). (p.0, value p.1)) ps

pub map_joined : {X Y : Type 0} (f : X → Y) (xs ys : List X) → map f (xs ++ ys) ≡ map f xs ++ map f ys
map_joined f [] ys = refl
map_joined f (x ∷ xs) ys = ap (λ zs. f x ∷ zs) (map_joined f xs ys)

both : {X : Type 0} (a b c d : List X) → a ≡ b → c ≡ d → a ++ c ≡ b ++ d
both a b c d e f = ap (λ x. x ++ c) e ∙ ap (λ y. b ++ y) f

pub valued_from : {L : Type 0} (value : L → LeafValue) (turns : List (ℕ × Bool)) (t : Plain L) → paths_from turns (valued value t) ≡ values_of value (paths_from turns t)
valued_from value turns (leaf x) = refl
valued_from {L} value turns (node test low high) =
    let f : List (ℕ × Bool) × L → List (ℕ × Bool) × LeafValue = λ p. (p.0, value p.1) in
    both _ _ _ _ (valued_from value (turns ++ (test, false) ∷ []) low) (valued_from value (turns ++ (test, true) ∷ []) high)
    ∙ sym (map_joined f (paths_from (turns ++ (test, false) ∷ []) low) (paths_from (turns ++ (test, true) ∷ []) high))

pub paths_valued : {L : Type 0} (value : L → LeafValue) (t : Plain L) → paths_of (valued value t) ≡ values_of value (paths_of t)
paths_valued value t = valued_from value [] t

pub below_valued : {L : Type 0} (value : L → LeafValue) (m : ℕ) (t : Plain L) → TestsBelow m t → TestsBelow m (valued value t)
below_valued value m (leaf x) h = tt
below_valued value m (node test low high) h = (h.0, below_valued value m low h.1, below_valued value m high h.2)

-- ---- the same tree with true at each leaf

abbrev pub everywhere : {L : Type 0} → Plain L → Plain Bool
everywhere (leaf x) = leaf true
everywhere (node test low high) = node test (everywhere low) (everywhere high)

abbrev pub as_true : {L : Type 0} → List (ℕ × Bool) × L → List (ℕ × Bool) × Bool
as_true p = (p.0, true)

either_true : (b x y : Bool) → x ≡ true → y ≡ true → cond b y x ≡ true
either_true true x y e f = f
either_true false x y e f = e

pub true_there : {L : Type 0} (t : Plain L) (v : List Bool) → leaf_of (everywhere t) v ≡ true
true_there (leaf x) v = refl
true_there (node test low high) v = either_true _ _ _ (true_there low v) (true_there high v)

pub everywhere_from : {L : Type 0} (turns : List (ℕ × Bool)) (t : Plain L) → paths_from turns (everywhere t) ≡ map (as_true {L = L}) (paths_from turns t)
everywhere_from turns (leaf x) = refl
everywhere_from {L} turns (node test low high) =
    both _ _ _ _ (everywhere_from (turns ++ (test, false) ∷ []) low) (everywhere_from (turns ++ (test, true) ∷ []) high)
    ∙ sym (map_joined (as_true {L = L}) (paths_from (turns ++ (test, false) ∷ []) low) (paths_from (turns ++ (test, true) ∷ []) high))

pub below_everywhere : {L : Type 0} (m : ℕ) (t : Plain L) → TestsBelow m t → TestsBelow m (everywhere t)
below_everywhere m (leaf x) h = tt
below_everywhere m (node test low high) h = (h.0, below_everywhere m low h.1, below_everywhere m high h.2)

-- its paths to true are all paths
pub all_to_true : {L : Type 0} (ps : List (List (ℕ × Bool) × L))
    → map (λ (p : List (ℕ × Bool) × Bool). p.0) (filter (λ (p : List (ℕ × Bool) × Bool). p.1) (map (as_true {L = L}) ps)) ≡ map (λ (p : List (ℕ × Bool) × L). p.0) ps
all_to_true [] = refl
all_to_true (p ∷ ps) = ap (λ xs. p.0 ∷ xs) (all_to_true ps)
