-- A number brought within `int`, by its remainder.
use Rattle.std.proofs.Common.{◌≡◌, ◌%◌, ◌/◌, ◌<◌, ℤ, pos, negsuc, ◌+ℤ◌, ◌-ℤ◌, ◌*ℤ◌, ◌≤ℤ◌, ◌<ℤ◌, int_le, Bool, false, if◌then◌else◌, ap, arith}
use Rattle.std.specs.Int.{int_rem_euclid}
use Rattle.std.proofs.lemmas.Int.{ints}
use Rattle.c_tree.specs.Value.{greatest, IsInt, wrapped}
use Rattle.c_tree.proofs.Values.{IsInt-wrapped, wrapped_differs}
use Rattle.leaf_domain.specs.Ranges.{range_at, whole_int, upward_of}

record IsRest (n r : ℤ) : Type 0 where
  low : pos 0 ≤ℤ r
  high : r ≤ℤ pos 4294967295
  times : ℤ
  is : n ≡ r +ℤ (pos 4294967296 *ℤ times)

rest_is : (n : ℤ) → IsRest n (int_rem_euclid n (pos 4294967296))
rest_is (pos a) = let h : a % 4294967296 < 4294967296 = omega arith in record { low = omega (arith, ints); high = omega (arith, ints); times = pos (a / 4294967296); is = omega (arith, ints) }
rest_is (negsuc a) = let h : a % 4294967296 < 4294967296 = omega arith in record { low = omega (arith, ints); high = omega (arith, ints); times = negsuc (a / 4294967296); is = omega (arith, ints) }

pub small_rest : (n : ℤ) → int_rem_euclid n (pos 4294967296) ≤ℤ pos 2147483647 → int_rem_euclid n (pos 4294967296) ≡ wrapped n
small_rest n h =
    let r = rest_is n in let w = IsInt-wrapped n in let d = wrapped_differs n in
    omega (arith, ints, r.low, r.high, r.is, w.low, w.high, d.1)

pub great_rest : (n : ℤ) → pos 2147483647 <ℤ int_rem_euclid n (pos 4294967296) → int_rem_euclid n (pos 4294967296) -ℤ pos 4294967296 ≡ wrapped n
great_rest n h =
    let r = rest_is n in let w = IsInt-wrapped n in let d = wrapped_differs n in
    omega (arith, ints, r.low, r.high, r.is, w.low, w.high, d.1)

-- where the width is greater than 64 bits hold, the range does not fit
pub too_wide : (l width : ℤ) → IsInt l → pos 9223372036854775807 <ℤ width → upward_of l width ≡ whole_int
too_wide l width h k = let e : int_le width (greatest -ℤ l) ≡ false = grind (arith, ints, h.low, h.high) in ap (λ (b : Bool). if b then range_at l (l +ℤ width) else whole_int) e
