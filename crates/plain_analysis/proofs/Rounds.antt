-- Rounds of a loop, one by one, and a leaf that stays.
use Rattle.std.proofs.Common.{◌≡◌, ℕ, zero, suc, ◌+◌, ◌-◌, ◌<◌, true, false, if◌then◌else◌, nat_lt, ℤ, List, refl, ap, sym, ◌∙◌, arith}
use Rattle.leaf_domain.specs.Leaves.{LeafValue, LeafMeaning}
use Rattle.plain_analysis.specs.Loops.{rounds_of, narrowing_of, narrowings_of}

pub rounds_stay : (M : LeafMeaning) (ts : List ℤ) (delay : ℕ) (G : LeafValue → LeafValue) (m k : ℕ) (x : LeafValue) → M.leq (G x) x ≡ true → rounds_of M ts delay G m k x ≡ x
rounds_stay M ts delay G zero k x e = refl
rounds_stay M ts delay G (suc m) k x e =
    ap (λ t. rounds_of M ts delay G m (k + 1) (if t then x else (if nat_lt k delay then M.join x (G x) else M.widen ts x (G x)))) e ∙ rounds_stay M ts delay G m (k + 1) x e

rounds_step : (M : LeafMeaning) (ts : List ℤ) (delay : ℕ) (G : LeafValue → LeafValue) (n k : ℕ) (x y : LeafValue) → k < n → M.leq (G x) x ≡ false → y ≡ (if nat_lt k delay then M.join x (G x) else M.widen ts x (G x))
    → rounds_of M ts delay G (n - (k + 1)) (k + 1) y ≡ rounds_of M ts delay G (n - k) k x
rounds_step M ts delay G n k x y l e f =
    let g : suc (n - (k + 1)) ≡ n - k = omega arith in
    ap (λ v. rounds_of M ts delay G (n - (k + 1)) (k + 1) v) (f ∙ sym (ap (λ t. if t then x else (if nat_lt k delay then M.join x (G x) else M.widen ts x (G x))) e))
    ∙ ap (λ m. rounds_of M ts delay G m k x) g

-- the same, for a name of what comes in
pub rounds_move : (M : LeafMeaning) (ts : List ℤ) (delay : ℕ) (G : LeafValue → LeafValue) (n k : ℕ) (x w y z : LeafValue) → k < n → w ≡ G x → M.leq w x ≡ false → y ≡ (if nat_lt k delay then M.join x w else M.widen ts x w)
    → rounds_of M ts delay G (n - k) k x ≡ z → rounds_of M ts delay G (n - (k + 1)) (k + 1) y ≡ z
rounds_move M ts delay G n k x w y z l e f g h =
    rounds_step M ts delay G n k x y l (ap (λ v. M.leq v x) (sym e) ∙ f) (g ∙ ap (λ v. if nat_lt k delay then M.join x v else M.widen ts x v) e) ∙ h

pub narrowings_stay : (M : LeafMeaning) (ts : List ℤ) (G : LeafValue → LeafValue) (m : ℕ) (x : LeafValue) → narrowing_of M ts G x ≡ x → narrowings_of M ts G m x ≡ x
narrowings_stay M ts G zero x e = refl
narrowings_stay M ts G (suc m) x e = ap (narrowings_of M ts G m) e ∙ narrowings_stay M ts G m x e

pub narrowings_move : (M : LeafMeaning) (ts : List ℤ) (G : LeafValue → LeafValue) (n k : ℕ) (x y z : LeafValue) → k < n → narrowing_of M ts G x ≡ y → narrowings_of M ts G (n - k) x ≡ z → narrowings_of M ts G (n - (k + 1)) y ≡ z
narrowings_move M ts G n k x y z l e f =
    let g : suc (n - (k + 1)) ≡ n - k = omega arith in
    ap (narrowings_of M ts G (n - (k + 1))) (sym e) ∙ (ap (λ m. narrowings_of M ts G m x) g ∙ f)
