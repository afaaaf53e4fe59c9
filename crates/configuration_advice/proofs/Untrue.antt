-- The formula that trees are false.
use Rattle.std.proofs.Common.{◌≡◌, ℕ, zero, suc, Bool, true, false, not, ◌&&◌, List, [], ◌∷◌, map, take, drop, refl, ap, sym, ◌∙◌}
use Rattle.decision_tree.specs.declared.tree.Tree.{Tree}
use Rattle.decision_tree.specs.Plain.{leaf_of}
use Rattle.decision_tree.specs.View.{plain}
use Rattle.configuration_advice.specs.Nearest.{are_false}

true_end : (b : Bool) → (b && true) ≡ b
true_end true = refl
true_end false = refl

pub and_assoc : (a b c : Bool) → (a && (b && c)) ≡ ((a && b) && c)
and_assoc true b c = refl
and_assoc false b c = refl

pub by_halves : (trees : List (Tree Bool)) (k : ℕ) (v : List Bool) → (are_false (map plain (take k trees)) v && are_false (map plain (drop k trees)) v) ≡ are_false (map plain trees) v
by_halves [] zero v = refl
by_halves [] (suc k) v = refl
by_halves (t ∷ trees) zero v = refl
by_halves (t ∷ trees) (suc k) v =
    sym (and_assoc (not (leaf_of (plain t) v)) (are_false (map plain (take k trees)) v) (are_false (map plain (drop k trees)) v))
    ∙ ap (λ b. not (leaf_of (plain t) v) && b) (by_halves trees k v)

pub halves_of : (trees first second : List (Tree Bool)) (k : ℕ) (v : List Bool) (l r : Bool) → l ≡ are_false (map plain first) v → r ≡ are_false (map plain second) v → first ≡ take k trees → second ≡ drop k trees
    → (l && r) ≡ are_false (map plain trees) v
halves_of trees first second k v l r e f g h =
    ap (λ b. b && r) (e ∙ ap (λ xs. are_false (map plain xs) v) g) ∙ ap (λ b. are_false (map plain (take k trees)) v && b) (f ∙ ap (λ xs. are_false (map plain xs) v) h) ∙ by_halves trees k v

pub alone : (t : Tree Bool) (v : List Bool) → not (leaf_of (plain t) v) ≡ are_false (map plain (t ∷ [])) v
alone t v = sym (true_end (not (leaf_of (plain t) v)))
