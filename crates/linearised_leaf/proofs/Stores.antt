-- A store with a variable replaced.
use Rattle.std.proofs.Common.{◌≡◌, ◌≢◌, ℕ, zero, suc, nat_eq, ◌<◌, ℤ, ◌+ℤ◌, ◌*ℤ◌, Bool, true, false, ◌||◌, List, [], ◌∷◌, length, slice_set, refl, ap, ◌∙◌, arith}
use Rattle.std.proofs.lemmas.Bool.Decides.{nat_tests}
use Rattle.leaf_domain.specs.Forms.{terms_at}
use Rattle.leaf_domain.specs.Leaves.{at_store}
use Rattle.linearised_leaf.specs.Tightened.{has_variable}

pub set_at : (s : List ℤ) (x : ℕ) (n : ℤ) → x < length s → at_store (slice_set s x n) x ≡ n
set_at [] x n l = absurd (omega arith)
set_at (a ∷ s) zero n l = refl
set_at (a ∷ s) (suc x) n l = set_at s x n (omega arith)

pub set_other : (s : List ℤ) (x y : ℕ) (n : ℤ) → x ≢ y → at_store (slice_set s x n) y ≡ at_store s y
set_other [] x y n d = refl
set_other (a ∷ s) zero zero n d = absurd (d refl)
set_other (a ∷ s) zero (suc y) n d = refl
set_other (a ∷ s) (suc x) zero n d = refl
set_other (a ∷ s) (suc x) (suc y) n d = set_other s x y n (λ e. d (ap suc e))

neither : (p q : Bool) → (p || q) ≡ false → (p ≡ false) × (q ≡ false)
neither true q e = cc
neither false q e = (refl, e)

pub differs : (x y : ℕ) → nat_eq x y ≡ false → x ≢ y
differs x y e h = grind (arith, nat_tests)

-- a variable that the terms do not have
pub terms_other : (ts : List (ℕ × ℤ)) (s : List ℤ) (x : ℕ) (n : ℤ) → has_variable x ts ≡ false → terms_at ts (slice_set s x n) ≡ terms_at ts s
terms_other [] s x n e = refl
terms_other (t ∷ ts) s x n e =
    let q = neither (nat_eq x t.0) (has_variable x ts) e in
    ap (λ a. (t.1 *ℤ a) +ℤ terms_at ts (slice_set s x n)) (set_other s x t.0 n (differs x t.0 q.0))
    ∙ ap (λ b. (t.1 *ℤ at_store s t.0) +ℤ b) (terms_other ts s x n q.1)
