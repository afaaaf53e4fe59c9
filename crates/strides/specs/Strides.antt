-- Strides: a residue, and the numbers that differ from it by multiples of a modulus.
use Rattle.std.specs.Prelude.{ℕ, zero, suc, ◌-◌, ◌/◌, ◌^◌, ◌≤◌, ◌<◌, nat_eq, ℤ, pos, neg_ℤ, ◌+ℤ◌, ◌-ℤ◌, ◌≤ℤ◌, ◌<ℤ◌, Bool, ◌&&◌, if◌then◌else◌, unsigned_abs}
use Rattle.std.specs.Int.{int_min, int_max, int_rem_euclid}
use Rattle.strides.specs.declared.stride.Stride.{Stride}
use Rattle.strides.specs.Divisors.{gcd, divides, IsMultiple}

abbrev pub stride_at : ℕ → ℤ → Stride
stride_at m c = record { modulus = m; residue = c }

-- the number has the stride; where the modulus is 0, it is the residue
abbrev pub HasStride : Stride → ℤ → Type 0
HasStride s n = IsMultiple s.modulus (n -ℤ s.residue)

-- the residue is from 0 to the modulus minus 1, unless the modulus is 0
pub record IsReduced (s : Stride) : Type 0 where
  pub low : 0 < s.modulus → pos 0 ≤ℤ s.residue
  pub high : 0 < s.modulus → s.residue <ℤ pos s.modulus

-- its numbers leave room for sums in 128 bits
pub record IsWide (s : Stride) : Type 0 where
  pub modulus : s.modulus ≤ 2 ^ 100
  pub low : neg_ℤ (pos (2 ^ 100)) ≤ℤ s.residue
  pub high : s.residue ≤ℤ pos (2 ^ 100)

-- the first number from a low on that has the stride; where the modulus is 0 and there is none, the low, which lies above the
-- residue
unfoldable pub first_from : ℤ → Stride → ℤ
first_from l s = if nat_eq s.modulus 0 then int_max l s.residue else l +ℤ int_rem_euclid (s.residue -ℤ l) (pos s.modulus)

-- the last number up to a high that has the stride; where the modulus is 0 and there is none, the high, which lies below the
-- residue
unfoldable pub last_to : ℤ → Stride → ℤ
last_to h s = if nat_eq s.modulus 0 then int_min h s.residue else h -ℤ int_rem_euclid (h -ℤ s.residue) (pos s.modulus)

-- the stride of a modulus that has the number; the residue is reduced by the modulus, unless that is 0
unfoldable pub stride_of : ℕ → ℤ → Stride
stride_of m c = stride_at m (if nat_eq m 0 then c else int_rem_euclid c (pos m))

-- how far apart the residues are
abbrev pub distance : Stride → Stride → ℕ
distance s t = unsigned_abs (s.residue -ℤ t.residue)

-- the stride of the greatest modulus that has the numbers of both
abbrev pub joined_stride : Stride → Stride → Stride
joined_stride s t = stride_of (gcd (gcd s.modulus t.modulus) (distance s t)) s.residue

-- whether each number of the first stride is one of the second
abbrev pub lies_in_stride : Stride → Stride → Bool
lies_in_stride s t = divides t.modulus s.modulus && divides t.modulus (distance s t)

-- the number of binary digits, with so many steps at most; 0 has none
abbrev pub digits_to : ℕ → ℕ → ℕ
digits_to zero n = 0
digits_to (suc f) n = if nat_eq n 0 then 0 else suc (digits_to f (n / 2))

unfoldable pub binary_digits : ℕ → ℕ
binary_digits n = digits_to n n

-- how often a modulus can still become a divisor of its own, at most
unfoldable pub stride_count : ℕ → ℕ
stride_count m = if nat_eq m 0 then 33 else binary_digits (m - 1)
