use Rattle.std.proofs.Common.{◌≢◌, pos, [], ◌∷◌, refl, arith}
use Rattle.std.proofs.lemmas.Int.{ints}
use Rattle.linear_atoms.specs.Atoms.{IsAtom}
use Rattle.linear_atoms.specs.Divisors.{common_divisor}
use Rattle.report_tests.proofs.certificates_read.atoms.Goals as goal

one_nonzero : pos 1 ≢ pos 0
one_nonzero = λ e. omega (arith, ints)

switch_is : IsAtom 1 (record { terms = (0, pos 1) ∷ []; bound = pos 1 })
unfolding common_divisor
switch_is = record {
  rising = (omega arith, one_nonzero, tt);
  coprime = refl;
  small = refl;
  positive = omega (arith, ints);
  below = (omega arith, tt);
  bounded = omega arith;
}

pub atom-requires : goal.atom-requires
atom-requires c = switch_is
