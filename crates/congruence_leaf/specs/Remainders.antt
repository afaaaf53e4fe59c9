-- What remains of the numbers of a stride behind a division, after Granger's rules for arithmetical congruences.
use Rattle.std.specs.Prelude.{ℤ, pos, ◌+ℤ◌, ◌-ℤ◌, int_div, int_rem, unsigned_abs, Bool, false, ◌&&◌, if◌then◌else◌}
use Rattle.std.specs.Ordering.{int_eq}
use Rattle.c_tree.specs.declared.tree.Op.TheVariants.{Rem}
use Rattle.leaf_domain.specs.declared.range.Range.{Range}
use Rattle.leaf_domain.specs.declared.compare.Compare.{Compare}
use Rattle.leaf_domain.specs.declared.compare.Compare.TheVariants.{Ne}
use Rattle.leaf_domain.specs.Ranges.{range_at, is_single, arithmetic_range}
use Rattle.leaf_domain.specs.Compares.{cut_of}
use Rattle.strides.specs.declared.stride.Stride.{Stride}
use Rattle.strides.specs.declared.strided.Strided.{Strided}
use Rattle.strides.specs.Divisors.{gcd}
use Rattle.strides.specs.Strides.{stride_of}
use Rattle.strides.specs.Strided.{strided_at, strided_in, range_of}

-- the stride of the numbers with so much taken from each
unfoldable pub stride_less : ℤ → Stride → Stride
stride_less k s = stride_of s.modulus (s.residue -ℤ k)

-- the stride of all numbers that differ from one of a stride by a multiple of m
unfoldable pub stride_modulo : ℤ → Stride → Stride
stride_modulo m s = stride_of (gcd s.modulus (unsigned_abs m)) s.residue

-- the numbers with so much taken from each
abbrev pub strided_less : ℤ → Strided → Strided
strided_less k d = strided_at (d.low -ℤ k) (d.high -ℤ k) (stride_less k d.stride)

-- the remainders of numbers by m: where all have one quotient, the numbers less m so often; else those of the range that the
-- remainders of the interval have, which differ from one of the stride by a multiple of m
unfoldable pub strided_remainders : Strided → ℤ → Strided
strided_remainders d m =
    if int_eq (int_div d.low m) (int_div d.high m) then strided_less (d.low -ℤ int_rem d.low m) d
    else strided_in (arithmetic_range Rem (range_of d) (range_at m m)) (stride_modulo m d.stride)

-- ---- what is left where a comparison holds
-- a number is left out, and there are only its two neighbours beside it
abbrev pub leaves_neighbours : Compare → Range → Range → Bool
leaves_neighbours Ne a r = is_single r && (int_eq (a.low +ℤ pos 1) r.low && int_eq (a.high -ℤ pos 1) r.low)
leaves_neighbours op a r = false

-- neighbours of one number have stride 2
abbrev pub cut_stride : Compare → Strided → Range → Stride
cut_stride op b r = if leaves_neighbours op (range_of b) r then stride_of 2 b.low else b.stride

-- the numbers for which the comparison with some number of the range holds
unfoldable pub strided_cut : Compare → Strided → Range → Strided
strided_cut op b r = strided_in (cut_of op (range_of b) r) (cut_stride op b r)
