-- What holds of each number below one, by evaluation of each.
use Rattle.std.proofs.Common.{◌≡◌, ◌⊎◌, inl, inr, ℕ, zero, suc, ◌<◌, List, [], ◌∷◌, map, nat_eq, true, false, refl, ap, subst, sym, arith}
use Rattle.std.proofs.lemmas.Bool.Decides.{nat_tests}

abbrev pub first_numbers : ℕ → List ℕ
first_numbers zero = []
first_numbers (suc n) = n ∷ first_numbers n

abbrev head_or : {X : Type 0} → X → List X → X
head_or x [] = x
head_or x (y ∷ ys) = y

abbrev tail_of : {X : Type 0} → List X → List X
tail_of [] = []
tail_of (y ∷ ys) = ys

same : (k n : ℕ) → nat_eq k n ≡ true → k ≡ n
same k n e = grind (arith, nat_tests)

other : (k n : ℕ) → nat_eq k n ≡ false → k < suc n → k < n
other k n e lt = grind (arith, nat_tests)

pub last_or_below : (n k : ℕ) → k < suc n → (k ≡ n) ⊎ (k < n)
last_or_below n k lt = elim (nat_eq k n) as (λ t. nat_eq k n ≡ t → (k ≡ n) ⊎ (k < n)) [
  | true ↦ λ e. inl (same k n e)
  | false ↦ λ e. inr (other k n e lt)
] refl

pub each_below : {X : Type 0} (f g : ℕ → X) (n : ℕ) → map f (first_numbers n) ≡ map g (first_numbers n) → (k : ℕ) → k < n → f k ≡ g k
each_below f g zero e k lt = absurd (omega arith)
each_below f g (suc n) e k lt = elim (last_or_below n k lt) [
  | inl is ↦ subst (λ m. f m ≡ g m) (sym is) (ap (head_or (f n)) e)
  | inr less ↦ each_below f g n (ap tail_of e) k less
]
