-- Well-formed atoms over three features.
use Rattle.std.specs.Prelude.{negsuc}
use Rattle.std.proofs.Common.{◌≢◌, ℕ, ◌≤◌, ◌<◌, pos, [], ◌∷◌, refl, arith}
use Rattle.std.proofs.lemmas.Int.{ints}
use Rattle.linear_atoms.specs.Atoms.{IsAtom}
use Rattle.linear_atoms.specs.Divisors.{common_divisor}

one_nonzero : pos 1 ≢ pos 0
one_nonzero = λ e. omega (arith, ints)

less_two_nonzero : negsuc 1 ≢ pos 0
less_two_nonzero = λ e. omega (arith, ints)

-- a feature is at least a bound
pub single : (n : ℕ) (b : ℕ) → n < 3 → b ≤ 5 → IsAtom 3 (record { terms = (n, pos 1) ∷ []; bound = pos b })
unfolding common_divisor
single n b h k = record {
  rising = (omega arith, one_nonzero, tt);
  coprime = refl;
  small = refl;
  positive = omega (arith, ints);
  below = (h, tt);
  bounded = omega (arith, k);
}

-- `N - 2*M` is at least 3
pub difference : IsAtom 3 (record { terms = (1, pos 1) ∷ (2, negsuc 1) ∷ []; bound = pos 3 })
unfolding common_divisor
difference = record {
  rising = (omega arith, one_nonzero, (omega arith, less_two_nonzero, tt));
  coprime = refl;
  small = refl;
  positive = omega (arith, ints);
  below = (omega arith, (omega arith, tt));
  bounded = omega arith;
}
