-- Well-formed atoms of one term and of a difference.
use Rattle.std.proofs.Common.{◌≡◌, ◌≢◌, ℕ, ◌≤◌, ◌<◌, ℤ, pos, negsuc, unsigned_abs, List, [], ◌∷◌, refl, sym, subst, arith}
use Rattle.std.proofs.lemmas.Int.{ints}
use Rattle.linear_atoms.specs.Atoms.{IsAtom}
use Rattle.linear_atoms.specs.Divisors.{common_divisor}

one_nonzero : pos 1 ≢ pos 0
one_nonzero = λ e. omega (arith, ints)

less_nonzero : negsuc 0 ≢ pos 0
less_nonzero = λ e. omega (arith, ints)

pub small_zero : unsigned_abs (pos 0) ≤ 2147483649
small_zero = omega (arith, ints)

pub small_one : unsigned_abs (pos 1) ≤ 2147483649
small_one = omega (arith, ints)

pub single : (count n : ℕ) (ts : List (ℕ × ℤ)) → ts ≡ (n, pos 1) ∷ [] → n < count → IsAtom count (record { terms = ts; bound = pos 1 })
unfolding common_divisor
single count n ts e h =
    subst (λ x. IsAtom count (record { terms = x; bound = pos 1 })) (sym e)
    (record { rising = (omega arith, one_nonzero, tt); coprime = refl; small = refl; positive = omega (arith, ints); below = (h, tt); bounded = small_one })

pub gap : (count m n : ℕ) (ts : List (ℕ × ℤ)) (b : ℤ) → unsigned_abs b ≤ 2147483649 → ts ≡ (m, pos 1) ∷ (n, negsuc 0) ∷ [] → m < n → n < count → IsAtom count (record { terms = ts; bound = b })
unfolding common_divisor
gap count m n ts b k e g h =
    subst (λ x. IsAtom count (record { terms = x; bound = b })) (sym e)
    (record { rising = (omega arith, one_nonzero, (g, less_nonzero, tt)); coprime = refl; small = refl; positive = omega (arith, ints); below = (omega arith, (h, tt)); bounded = k })

-- the first feature less the two behind it
pub spare : (ts : List (ℕ × ℤ)) → ts ≡ (0, pos 1) ∷ (1, negsuc 0) ∷ (2, negsuc 0) ∷ [] → IsAtom 5 (record { terms = ts; bound = pos 0 })
unfolding common_divisor
spare ts e =
    subst (λ x. IsAtom 5 (record { terms = x; bound = pos 0 })) (sym e)
    (record { rising = (omega arith, one_nonzero, (omega arith, less_nonzero, (omega arith, less_nonzero, tt))); coprime = refl; small = refl; positive = omega (arith, ints); below = (omega arith, (omega arith, (omega arith, tt))); bounded = small_zero })
