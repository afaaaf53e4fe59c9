-- Numbers that have two strides: they have one stride of their own, of the least common multiple of both moduli (the Chinese remainder theorem).
use Rattle.std.specs.Prelude.{ℕ, zero, suc, ◌*◌, ◌/◌, ◌≤◌, ℤ, pos, ◌+ℤ◌, ◌-ℤ◌, ◌*ℤ◌, unsigned_abs, Bool, if◌then◌else◌, Option, Some, None}
use Rattle.leaf_domain.specs.Ranges.{empty_range}
use Rattle.strides.specs.declared.stride.Stride.{Stride}
use Rattle.strides.specs.declared.strided.Strided.{Strided}
use Rattle.strides.specs.Divisors.{gcd, divides, IsMultiple}
use Rattle.strides.specs.Strides.{stride_of, lies_in_stride}
use Rattle.strides.specs.Strided.{strided_at}
use Rattle.product_leaf.specs.StrideLeaves.{part_in}

-- the least common multiple
unfoldable pub common_multiple : ℕ → ℕ → ℕ
common_multiple m n = m * (n / gcd m n)

-- whether a number has a stride
abbrev pub is_of : Stride → ℤ → Bool
is_of s n = divides s.modulus (unsigned_abs (n -ℤ s.residue))

-- the first of so many numbers, one step from another, that has a stride
abbrev pub first_of : ℕ → ℤ → ℕ → Stride → Option ℤ
first_of zero n m t = None
first_of (suc k) n m t = if is_of t n then Some n else first_of k (n +ℤ pos m) m t

-- a number of the first stride that has the second: if any has, one of so many in a row as the modulus of the second
unfoldable pub common_number : Stride → Stride → Option ℤ
common_number s t = first_of t.modulus s.residue s.modulus t

abbrev pub stride_through : Stride → Stride → Option ℤ → Option Stride
stride_through s t None = None
stride_through s t (Some n) = Some (stride_of (common_multiple s.modulus t.modulus) n)

-- the stride of the numbers that have both
unfoldable pub common_stride : Stride → Stride → Option Stride
common_stride s t =
    if lies_in_stride s t then Some s else (if lies_in_stride t s then Some t else stride_through s t (common_number s t))

-- the numbers from the low to the high that have the stride, where there is one
abbrev pub part_by : Strided → Option Stride → Strided
part_by b None = part_in empty_range
part_by b (Some s) = strided_at b.low b.high s

-- the numbers that have a stride too
unfoldable pub strided_met : Strided → Stride → Strided
strided_met b t = part_by b (common_stride b.stride t)

-- ---- what the code and its proofs speak of
-- a modulus and a residue of few bits
pub record HasFewBits (s : Stride) : Type 0 where
  pub modulus : s.modulus ≤ 4294967295
  pub residue : unsigned_abs s.residue ≤ 4294967296

-- a times x leaves what b leaves, when it is divided by m
abbrev pub IsSolution : ℕ → ℕ → ℕ → ℤ → Type 0
IsSolution a b m x = IsMultiple m ((pos a *ℤ x) -ℤ pos b)
