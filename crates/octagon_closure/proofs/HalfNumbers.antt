-- Halves rounded down.
use Rattle.std.proofs.Common.{ℤ, pos, negsuc, ◌+ℤ◌, ◌≤ℤ◌, arith}
use Rattle.std.proofs.lemmas.Int.{ints}
use Rattle.octagon_closure.specs.Sweeps.{half}

pub half-below : (x : ℤ) → (half x +ℤ half x) ≤ℤ x
unfolding half
half-below (pos a) = omega (arith, ints)
half-below (negsuc a) = omega (arith, ints)

pub half-above : (x : ℤ) → x ≤ℤ (half x +ℤ half x +ℤ pos 1)
unfolding half
half-above (pos a) = omega (arith, ints)
half-above (negsuc a) = omega (arith, ints)
