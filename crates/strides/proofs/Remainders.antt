-- Remainders that are not negative, and the least number of a stride from a place on.
use Rattle.std.proofs.Common.{◌≡◌, ℕ, suc, ◌+◌, ◌-◌, ◌*◌, ◌/◌, ◌%◌, ◌<◌, ℤ, pos, negsuc, neg_ℤ, ◌-ℤ◌, ◌*ℤ◌, ◌≤ℤ◌, ◌<ℤ◌, sym, ◌∙◌, arith}
use Rattle.std.specs.Int.{int_rem_euclid}
use Rattle.std.proofs.lemmas.Int.{ints}
use Rattle.std.proofs.Math.Nat.{div-add-mod, mod-lt}
use Rattle.std.proofs.Math.IntN.{pos-*ℤ-pos, negsuc-*ℤ-pos}
use Rattle.strides.specs.Divisors.{IsMultiple}

pub record IsRemainder (m : ℕ) (z r : ℤ) : Type 0 where
  pub low : pos 0 ≤ℤ r
  pub high : r <ℤ pos m
  pub rest : IsMultiple m (z -ℤ r)

pub remainder_is : (m : ℕ) (z : ℤ) → 0 < m → IsRemainder m z (int_rem_euclid z (pos m))
remainder_is m (pos a) h =
    let p : a % m < m = mod-lt a h in
    let q : m * (a / m) + a % m ≡ a = div-add-mod a m in
    let e : pos (a / m) *ℤ pos m ≡ pos ((a / m) * m) = pos-*ℤ-pos (a / m) m in
    let f : pos a -ℤ pos (a % m) ≡ pos ((a / m) * m) = omega (arith, ints) in
    record { low = omega (arith, ints); high = omega (arith, ints); rest = record { times = pos (a / m); value = f ∙ sym e } }
remainder_is m (negsuc a) h =
    let p : a % m < m = mod-lt a h in
    let q : m * (a / m) + a % m ≡ a = div-add-mod a m in
    let e : negsuc (a / m) *ℤ pos m ≡ neg_ℤ (pos (suc (a / m) * m)) = negsuc-*ℤ-pos (a / m) m in
    let f : negsuc a -ℤ pos (m - 1 - a % m) ≡ neg_ℤ (pos (suc (a / m) * m)) = omega (arith, ints) in
    record { low = omega (arith, ints); high = omega (arith, ints); rest = record { times = negsuc (a / m); value = f ∙ sym e } }

-- of the numbers from 0 on that differ from a remainder by multiples, the remainder is the least
pub least_offset : (m : ℕ) (r d : ℤ) → pos 0 ≤ℤ d → r <ℤ pos m → IsMultiple m (d -ℤ r) → r ≤ℤ d
least_offset m r d h k i = by_times i.times i.value
  where
    by_times : (t : ℤ) → d -ℤ r ≡ t *ℤ pos m → r ≤ℤ d
    by_times (pos n) e = let f : d -ℤ r ≡ pos (n * m) = e ∙ pos-*ℤ-pos n m in omega (arith, ints)
    by_times (negsuc n) e = let f : d -ℤ r ≡ neg_ℤ (pos (suc n * m)) = e ∙ negsuc-*ℤ-pos n m in omega (arith, ints)
