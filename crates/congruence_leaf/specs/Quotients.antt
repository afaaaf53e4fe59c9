-- The quotients of the numbers of a stride by a constant, after Granger's rules for arithmetical congruences.
use Rattle.std.specs.Prelude.{◌/◌, ℤ, pos, int_div, unsigned_abs, if◌then◌else◌}
use Rattle.c_tree.specs.declared.tree.Op.TheVariants.{Div}
use Rattle.leaf_domain.specs.Ranges.{range_at, arithmetic_range}
use Rattle.strides.specs.declared.stride.Stride.{Stride}
use Rattle.strides.specs.declared.strided.Strided.{Strided}
use Rattle.strides.specs.Strides.{stride_at, stride_of, lies_in_stride}
use Rattle.strides.specs.Strided.{strided_in, range_of}

-- the stride of the quotients by m: that of the numbers divided by m, where all of them are multiples of m, else that of all numbers
unfoldable pub quotient_stride : ℤ → Stride → Stride
quotient_stride m s =
    if lies_in_stride s (stride_at (unsigned_abs m) (pos 0)) then stride_of (s.modulus / unsigned_abs m) (int_div s.residue m)
    else stride_of 1 (pos 0)

-- the quotients of the numbers by m: the range is that of the quotients of the interval, one number where all have one quotient
unfoldable pub strided_quotients : Strided → ℤ → Strided
strided_quotients d m = strided_in (arithmetic_range Div (range_of d) (range_at m m)) (quotient_stride m d.stride)
