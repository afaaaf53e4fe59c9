-- The numbers from a low to a high that have a stride.
use Rattle.std.specs.Prelude.{◌≡◌, ℕ, ◌+◌, ◌≤◌, nat_eq, ℤ, ◌≤ℤ◌, int_lt, int_le, Bool, false, ◌&&◌, if◌then◌else◌, List, Option, Some, None}
use Rattle.std.specs.Int.{int_min, int_max}
use Rattle.std.specs.Ordering.{int_eq}
pub use Rattle.c_tree.specs.Value.{least, greatest}
use Rattle.leaf_domain.specs.declared.range.Range.{Range}
use Rattle.leaf_domain.specs.Ranges.{range_at}
use Rattle.leaf_domain.specs.Ends.{widened_range, narrowed_range, ends_left}
use Rattle.strides.specs.declared.stride.Stride.{Stride}
use Rattle.strides.specs.declared.strided.Strided.{Strided}
use Rattle.strides.specs.Strides.{HasStride, IsReduced, stride_at, first_from, last_to, joined_stride, lies_in_stride, stride_count}

abbrev pub strided_at : ℤ → ℤ → Stride → Strided
strided_at l h s = record { low = l; high = h; stride = s }

-- the number is one of them
pub record Has (b : Strided) (n : ℤ) : Type 0 where
  pub low : b.low ≤ℤ n
  pub high : n ≤ℤ b.high
  pub stride : HasStride b.stride n

-- there is no number
abbrev pub is_bare : Strided → Bool
is_bare b = int_lt (last_to b.high b.stride) (first_from b.low b.stride)

abbrev pub point_at : ℤ → Strided
point_at n = strided_at n n (stride_at 0 n)

-- from one number of a stride to another
abbrev pub between : ℤ → ℤ → Stride → Strided
between l h s = if int_eq l h then point_at l else strided_at l h s

-- the same numbers, with the first as the low and the last as the high, and the modulus 0 where they are the same; where
-- there is no number, it stays as it is
unfoldable pub reduced : Strided → Strided
reduced b = if is_bare b then b else between (first_from b.low b.stride) (last_to b.high b.stride) b.stride

-- the numbers by their best bounds, where there are some
abbrev pub best_part : Strided → Option Strided
best_part b = if is_bare b then None else Some (reduced b)

-- what a leaf has for a variable
pub record IsOwn (b : Strided) : Type 0 where
  pub low : least ≤ℤ b.low
  pub high : b.high ≤ℤ greatest
  pub modulus : b.stride.modulus ≤ 4294967295
  pub residue : IsReduced b.stride
  pub some : is_bare b ≡ false

-- the lesser low, the greater high, and the stride that has both
abbrev pub joined : Strided → Strided → Strided
joined a b = strided_at (int_min a.low b.low) (int_max a.high b.high) (joined_stride a.stride b.stride)

-- whether each of the three parts of a lies in that of b
abbrev pub lies_in : Strided → Strided → Bool
lies_in a b = int_le b.low a.low && (int_le a.high b.high && lies_in_stride a.stride b.stride)

-- the range from the low to the high
abbrev pub range_of : Strided → Range
range_of b = range_at b.low b.high

-- the numbers of a range that have a stride
abbrev pub strided_in : Range → Stride → Strided
strided_in r s = strided_at r.low r.high s

-- an end that g moves steps to a threshold, and the stride has both
abbrev pub widened : List ℤ → Strided → Strided → Strided
widened ts x g = strided_in (widened_range ts (range_of x) (range_of g)) (joined_stride x.stride g.stride)

-- an end that may come of a step and a stride that has all numbers become those of g
abbrev pub narrowed : List ℤ → Strided → Strided → Strided
narrowed ts x g = strided_in (narrowed_range ts (range_of x) (range_of g)) (if nat_eq x.stride.modulus 1 then g.stride else x.stride)

-- how many steps the bounds have left, the stride counted by its modulus
abbrev pub steps_left : List ℤ → Strided → ℕ
steps_left ts b = ends_left ts (range_of b) + stride_count b.stride.modulus
