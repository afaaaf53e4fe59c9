-- Lows, highs and strides meet the laws of a domain of one variable.
use Rattle.std.proofs.Common.{◌≡◌, ℤ, pos, ◌-ℤ◌, ◌*ℤ◌, ◌≤ℤ◌, List, refl, arith}
use Rattle.std.proofs.lemmas.Int.{ints, clamps}
use Rattle.leaf_domain.specs.declared.form.Form.{Form}
use Rattle.leaf_domain.specs.declared.range.Range.{Range}
use Rattle.leaf_domain.specs.Ranges.{Within, IsInInt, empty_range}
use Rattle.nonrelational_leaf.specs.PartLaws.{PartLaws}
use Rattle.strides.specs.declared.strided.Strided.{Strided}
use Rattle.strides.specs.Strides.{stride_at, HasStride}
use Rattle.strides.specs.Strided.{least, greatest, strided_in, Has, IsOwn, range_of}
use Rattle.strides.proofs.StridedLaws.{first_of, first_in, has_not_bare, reduced_keeps, reduced_back, point_own, point_has, point_alone, reduced_own, joined_has_first, joined_has_second, joined_own}
use Rattle.strides.proofs.WideningLaws.{has_wider, widened_has_first, widened_has_second, widened_own, widened_falls, widened_fewer, steps_few, narrowed_own, narrowed_has}
use Rattle.product_leaf.specs.StrideLeaves.{stride_parts, part_in, met_part, form_stride}
use Rattle.product_leaf.specs.Laws.Parts.{fours_numbers, IsLimited, limited_best}
use Rattle.product_leaf.specs.Laws.FormStrides.{form_has, form_reduced}

-- each number has the stride of modulus 1
all_have : (n : ℤ) → HasStride (stride_at 1 (pos 0)) n
all_have n = record { times = n; value = times_one n }
  where
    times_one : (n : ℤ) → n -ℤ pos 0 ≡ n *ℤ pos 1
    times_one n = omega (arith, ints)

in_range : (r : Range) (n : ℤ) → Within n r → Has (part_in r) n
in_range r n w = record { low = w.low; high = w.high; stride = all_have n }

pub range_limited : (r : Range) → IsInInt r → IsLimited (part_in r)
range_limited r i = record { low = i.low.low; high = i.high.high; residue = record { low = λ p. omega (arith, ints); high = λ p. omega (arith, ints) } }

pub meet_limited : (b : Strided) (r : Range) → IsOwn b → IsInInt r → IsLimited (met_part b r)
meet_limited b r h i =
    let p : least ≤ℤ b.low = h.low in
    let q : b.high ≤ℤ greatest = h.high in
    record { low = omega (arith, ints, clamps); high = omega (arith, ints, clamps); residue = h.residue }

met_has : (b : Strided) (r : Range) (n : ℤ) → Has b n → Within n r → Has (met_part b r) n
met_has b r n h w =
    let p : b.low ≤ℤ n = h.low in
    let q : n ≤ℤ b.high = h.high in
    record { low = omega (arith, ints, clamps); high = omega (arith, ints, clamps); stride = h.stride }

pub form_limited : (bs : List Strided) (f : Form) (r : Range) → IsInInt r → IsLimited (strided_in r (form_stride bs f))
form_limited bs f r i = record { low = i.low.low; high = i.high.high; residue = form_reduced bs f }

-- ---- the range of a part
own_order : (b : Strided) → IsOwn b → b.low ≤ℤ b.high
own_order b i =
    let h : Has b (first_of b) = first_in b i.some in
    let p : b.low ≤ℤ first_of b = h.low in
    let q : first_of b ≤ℤ b.high = h.high in
    omega (arith, ints)

own_in_int : (b : Strided) → IsOwn b → IsInInt (range_of b)
own_in_int b h =
    let o : b.low ≤ℤ b.high = own_order b h in
    let p : least ≤ℤ b.low = h.low in
    let q : b.high ≤ℤ greatest = h.high in
    record { low = record { low = p; high = omega (arith, ints) }; high = record { low = omega (arith, ints); high = q } }

empty_in_int : IsInInt (range_of (part_in empty_range))
empty_in_int = record { low = record { low = omega (arith, ints); high = omega (arith, ints) }; high = record { low = omega (arith, ints); high = omega (arith, ints) } }

has_within : (b : Strided) (n : ℤ) → Has b n → Within n (range_of b)
has_within b n h = record { low = h.low; high = h.high }

pub stride_part_laws : PartLaws stride_parts
stride_part_laws = record {
  parts_told = fours_numbers;
  point_own = λ n h. point_own n h.low h.high;
  point_has = λ n. point_has n n refl;
  point_alone = point_alone;
  number = λ b. first_of b;
  own_has = λ b h. first_in b h.some;
  has_not_bare = has_not_bare;
  best_own = λ b h. reduced_own b h.low h.high h.residue h.some;
  best_has = λ b n. (reduced_back b n, reduced_keeps b n);
  leq_has = has_wider;
  join_own = joined_own;
  join_first = joined_has_first;
  join_second = joined_has_second;
  widen_own = widened_own;
  widen_first = widened_has_first;
  widen_second = widened_has_second;
  widen_falls = widened_falls;
  widen_fewer = widened_fewer;
  steps_few = steps_few;
  narrow_own = narrowed_own;
  narrow_has = narrowed_has;
  range_in_int = own_in_int;
  range_has = has_within;
  bare_in_int = empty_in_int;
  bare_is_empty = refl;
  meet_own = λ b r h i. limited_best (met_part b r) (meet_limited b r h i);
  meet_has = met_has;
  range_own = λ r i. limited_best (part_in r) (range_limited r i);
  in_range = in_range;
  form_own = λ bs f r i. limited_best (strided_in r (form_stride bs f)) (form_limited bs f r i);
  form_has = λ bs f r s g h w. record { low = w.low; high = w.high; stride = form_has bs f s g h };
}
