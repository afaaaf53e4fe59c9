-- Well-formed literals, taken out of a list and put into it.
use Rattle.std.proofs.Common.{◌≡◌, ◌<◌, ◌≤◌, ℕ, zero, suc, List, [], ◌∷◌, ◌++◌, length, take, drop, refl, arith, slice_index_or, ap}
use Rattle.std.specs.Prelude.{slice_get, Some}
use Rattle.std.specs.List.{remove, insert}
use Rattle.linear_atoms.specs.declared.atoms.Literal.{Literal}
use Rattle.linear_atoms.specs.Atoms.{AreLiterals, IsAtom}

pub fit_removed : (n : ℕ) (ls : List Literal) (i : ℕ) → AreLiterals n ls → AreLiterals n (remove ls i)
fit_removed n [] zero h = h
fit_removed n [] (suc i) h = h
fit_removed n (l ∷ ls) zero h = h.1
fit_removed n (l ∷ ls) (suc i) h = (h.0, fit_removed n ls i h.1)

pub fit_at : (n : ℕ) (ls : List Literal) (i : ℕ) (l : Literal) → i < length ls → AreLiterals n ls → IsAtom n (slice_index_or ls i l).atom
fit_at n [] i l within h = absurd (omega (arith, within))
fit_at n (k ∷ ls) zero l within h = h.0
fit_at n (k ∷ ls) (suc i) l within h = fit_at n ls i l (omega (arith, within)) h.1

-- what is taken out and put back is as it was
pub put_back : {X : Type 0} (xs : List X) (i : ℕ) (x : X) → i < length xs → insert (remove xs i) i (slice_index_or xs i x) ≡ xs
put_back [] i x within = absurd (omega (arith, within))
put_back (y ∷ xs) zero x within = refl
put_back (y ∷ xs) (suc i) x within = ap (λ zs. y ∷ zs) (put_back xs i x (omega (arith, within)))

pub got : {X : Type 0} (xs : List X) (i : ℕ) (x : X) → i < length xs → slice_get xs i ≡ Some (slice_index_or xs i x)
got [] i x within = absurd (omega (arith, within))
got (y ∷ xs) zero x within = refl
got (y ∷ xs) (suc i) x within = got xs i x (omega (arith, within))

-- ---- a list at a place

pub behind : {X : Type 0} (xs : List X) (i : ℕ) (x : X) → slice_get xs i ≡ Some x → drop i xs ≡ x ∷ drop (suc i) xs
behind [] i x e = cc
behind (y ∷ xs) zero x e = let f : y ≡ x = cc in ap (λ z. z ∷ xs) f
behind (y ∷ xs) (suc i) x e = behind xs i x e

pub one_more : {X : Type 0} (xs : List X) (i : ℕ) (x : X) → slice_get xs i ≡ Some x → take (suc i) xs ≡ take i xs ++ x ∷ []
one_more [] i x e = cc
one_more (y ∷ xs) zero x e = let f : y ≡ x = cc in ap (λ z. z ∷ []) f
one_more (y ∷ xs) (suc i) x e = ap (λ zs. y ∷ zs) (one_more xs i x e)

pub front_removed : {X : Type 0} (xs : List X) (i : ℕ) → take i (remove xs i) ≡ take i xs
front_removed [] zero = refl
front_removed [] (suc i) = refl
front_removed (y ∷ xs) zero = refl
front_removed (y ∷ xs) (suc i) = ap (λ zs. y ∷ zs) (front_removed xs i)

pub behind_removed : {X : Type 0} (xs : List X) (i : ℕ) → drop i (remove xs i) ≡ drop (suc i) xs
behind_removed [] zero = refl
behind_removed [] (suc i) = refl
behind_removed (y ∷ xs) zero = refl
behind_removed (y ∷ xs) (suc i) = behind_removed xs i

pub still_within : {X : Type 0} (xs : List X) (i : ℕ) → i < length xs → i ≤ length (remove xs i)
still_within [] i h = absurd (omega (arith, h))
still_within (x ∷ xs) zero h = omega arith
still_within (x ∷ xs) (suc i) h = let k = still_within xs i (omega (arith, h)) in omega (arith, k)
