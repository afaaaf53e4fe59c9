-- What lines list, by halves.
use Rattle.std.proofs.Common.{◌≡◌, ℕ, zero, suc, Bool, true, false, ◌||◌, List, [], ◌∷◌, ◌++◌, take, drop, length, get_or, ◌<◌, ◌+◌, refl, ap, sym, subst, ◌∙◌, arith, suc-add}
use Rattle.fam_outer.specs.declared.faults.Place.{Place}
use Rattle.c_tree.specs.declared.tree.Kind.{Kind}
use Rattle.certificate_format.specs.declared.certificates.AlarmLine.{AlarmLine}
use Rattle.invariant_certificate.specs.Passes.{lists, is_listed}

or_assoc : (a b c : Bool) → (a || (b || c)) ≡ ((a || b) || c)
or_assoc true b c = refl
or_assoc false b c = refl

or_end : (b : Bool) → (b || false) ≡ b
or_end true = refl
or_end false = refl

pub by_halves : (lines : List AlarmLine) (k : ℕ) (at : Place × Kind) (v : List Bool) → (is_listed (take k lines) at v || is_listed (drop k lines) at v) ≡ is_listed lines at v
by_halves [] zero at v = refl
by_halves [] (suc k) at v = refl
by_halves (l ∷ lines) zero at v = refl
by_halves (l ∷ lines) (suc k) at v =
    sym (or_assoc (lists l at v) (is_listed (take k lines) at v) (is_listed (drop k lines) at v)) ∙ ap (λ b. lists l at v || b) (by_halves lines k at v)

pub halves_of : (lines first second : List AlarmLine) (k : ℕ) (at : Place × Kind) (v : List Bool) (l r : Bool) → l ≡ is_listed first at v → r ≡ is_listed second at v
    → first ≡ take k lines → second ≡ drop k lines → (l || r) ≡ is_listed lines at v
halves_of lines first second k at v l r e f g h =
    ap (λ b. b || r) (e ∙ ap (λ xs. is_listed xs at v) g) ∙ ap (λ b. is_listed (take k lines) at v || b) (f ∙ ap (λ xs. is_listed xs at v) h) ∙ by_halves lines k at v

pub alone : (l : AlarmLine) (at : Place × Kind) (v : List Bool) → lists l at v ≡ is_listed (l ∷ []) at v
alone l at v = sym (or_end (lists l at v))

pub splits_at : {X : Type 0} (xs : List X) (i : ℕ) (x : X) → i < length xs → x ≡ get_or xs i x → xs ≡ take i xs ++ (x ∷ drop (i + 1) xs)
splits_at [] i x h e = absurd (omega (arith, h))
splits_at (y ∷ xs) zero x h e = ap (λ z. z ∷ xs) (sym e)
splits_at (y ∷ xs) (suc i) x h e =
    subst (λ k. y ∷ xs ≡ take (suc i) (y ∷ xs) ++ (x ∷ drop k (y ∷ xs))) (sym (suc-add i 1)) (ap (λ l. y ∷ l) (splits_at xs i x (omega (arith, h)) e))
