-- Well-formed atoms over four features.
use Rattle.std.proofs.Common.{◌≡◌, ◌≢◌, ℕ, ◌≤◌, ◌<◌, ℤ, pos, unsigned_abs, [], ◌∷◌, refl, sym, subst, arith}
use Rattle.std.proofs.lemmas.Int.{ints}
use Rattle.linear_atoms.specs.Atoms.{IsAtom}
use Rattle.linear_atoms.specs.Divisors.{common_divisor}

one_nonzero : pos 1 ≢ pos 0
one_nonzero = λ e. omega (arith, ints)

two_nonzero : pos 2 ≢ pos 0
two_nonzero = λ e. omega (arith, ints)

near : (b c : ℤ) → c ≡ b → unsigned_abs b ≤ 10 → unsigned_abs c ≤ 2147483649
near b c f k = subst (λ x. unsigned_abs x ≤ 2147483649) (sym f) (omega arith)

-- a feature is at least a bound
pub single : (n : ℕ) (b c : ℤ) → n < 4 → c ≡ b → unsigned_abs b ≤ 10 → IsAtom 4 (record { terms = (n, pos 1) ∷ []; bound = c })
unfolding common_divisor
single n b c h f k = record {
  rising = (omega arith, one_nonzero, tt);
  coprime = refl;
  small = refl;
  positive = omega (arith, ints);
  below = (h, tt);
  bounded = near b c f k;
}

-- `2*N + M` is
pub double : (b c : ℤ) → c ≡ b → unsigned_abs b ≤ 10 → IsAtom 4 (record { terms = (2, pos 2) ∷ (3, pos 1) ∷ []; bound = c })
unfolding common_divisor
double b c f k = record {
  rising = (omega arith, two_nonzero, (omega arith, one_nonzero, tt));
  coprime = refl;
  small = refl;
  positive = omega (arith, ints);
  below = (omega arith, (omega arith, tt));
  bounded = near b c f k;
}
