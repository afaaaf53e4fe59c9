-- The terms of the first variables, as a set that grows by one variable.
use Rattle.std.proofs.Common.{◌≡◌, ◌⊎◌, inl, inr, ℕ, ℤ, ◌+◌, ◌*◌, ◌<◌, arith, Bool, true, ◌||◌, nat_eq, nat_lt}
use Rattle.std.proofs.lemmas.Bool.Decides.{nat_tests}
use Rattle.octagon_matrix.specs.Terms.{opposite}
use Rattle.octagon_closure.proofs.Octagons.{IsClosedBy}
use Rattle.octagon_closure.proofs.Extending.{with_pair, pair_here, pair_there}

opposite-double : (k : ℕ) → opposite (2 * k) ≡ 2 * k + 1
unfolding opposite
opposite-double k = omega arith

less_tells : (a b : ℕ) → nat_lt a b ≡ true → a < b
less_tells a b h = grind (arith, nat_tests)

tells_less : (a b : ℕ) → a < b → nat_lt a b ≡ true
tells_less a b h = grind (arith, nat_tests)

term-cases : (k b : ℕ) → b < 2 * (k + 1) → (b < 2 * k) ⊎ ((b ≡ 2 * k) ⊎ (b ≡ opposite (2 * k)))
term-cases k b h = rw (opposite-double k) (grind arith)

or-last : (i j : Bool) → (i || (j || true)) ≡ true
or-last i j = grind arith

pub below-more : (k b : ℕ) → nat_lt b (2 * (k + 1)) ≡ true → with_pair (2 * k) (λ c. nat_lt c (2 * k)) b ≡ true
below-more k b h =
    elim (term-cases k b (less_tells b (2 * (k + 1)) h)) [
      | inl i ↦ rw (tells_less b (2 * k) i) (or-last (nat_eq b (2 * k)) (nat_eq b (opposite (2 * k))))
      | inr y ↦ elim y [
        | inl e ↦ rw (e) (pair_here (2 * k) (λ c. nat_lt c (2 * k)))
        | inr e ↦ rw (e) (pair_there (2 * k) (λ c. nat_lt c (2 * k)))
      ]
    ]

pub below-all : (n k b : ℕ) → k ≡ n → b < 2 * n → nat_lt b (2 * k) ≡ true
below-all n k b e h = tells_less b (2 * k) (omega arith)

pub below-none : (n : ℕ) (m : ℕ → ℕ → ℤ) → IsClosedBy n m (λ b. nat_lt b (2 * 0))
below-none n m = record { by = λ a b c h j u k. absurd (omega (arith, less_tells b (2 * 0) u)) }
