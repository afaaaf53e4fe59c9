-- The squares of the numbers of a stride, after Granger's rules for arithmetical congruences.
use Rattle.std.specs.Prelude.{ℕ, ◌*◌, ℤ, pos, ◌*ℤ◌, int_le, unsigned_abs, ◌&&◌, if◌then◌else◌}
use Rattle.std.specs.Int.{int_min, int_max}
use Rattle.leaf_domain.specs.declared.range.Range.{Range}
use Rattle.leaf_domain.specs.Ranges.{range_at}
use Rattle.strides.specs.declared.stride.Stride.{Stride}
use Rattle.strides.specs.declared.strided.Strided.{Strided}
use Rattle.strides.specs.Divisors.{gcd}
use Rattle.strides.specs.Strides.{stride_of}
use Rattle.strides.specs.Strided.{strided_in, range_of}

-- the least square of the numbers from a low to a high: 0, where 0 is one of them
abbrev pub least_square : ℤ → ℤ → ℤ
least_square l h = if int_le l (pos 0) && int_le (pos 0) h then pos 0 else int_min (l *ℤ l) (h *ℤ h)

-- from the least square of a range to the greatest, which is that of an end
abbrev pub squares_range : Range → Range
squares_range a = range_at (least_square a.low a.high) (int_max (a.low *ℤ a.low) (a.high *ℤ a.high))

-- the stride of the squares of the numbers l + k * m: such a square is l * l + k * (2 * l * m) + k * k * (m * m)
unfoldable pub square_stride : ℤ → ℕ → Stride
square_stride l m = stride_of (gcd (2 * (unsigned_abs l * m)) (m * m)) (l *ℤ l)

-- the squares of numbers of which the low is one
unfoldable pub strided_squares : Strided → Strided
strided_squares d = strided_in (squares_range (range_of d)) (square_stride d.low d.stride.modulus)
