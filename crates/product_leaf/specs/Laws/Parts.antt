-- Facts on lists of parts.
use Rattle.std.proofs.Common.{◌≡◌, ℕ, zero, suc, ◌<◌, ℤ, pos, ◌≤ℤ◌, false, List, [], ◌∷◌, length, map, slice_index_or, refl, ap}
use Rattle.leaf_domain.proofs.Variables.{each_read, held_read}
use Rattle.strides.specs.declared.strided.Strided.{Strided}
use Rattle.strides.specs.Strides.{IsReduced}
use Rattle.strides.specs.Strided.{least, greatest, Has, is_bare, point_at, reduced, IsOwn}
use Rattle.strides.proofs.StridedLaws.{reduced_own}
use Rattle.product_leaf.specs.StrideLeaves.{numbers_of, fours_of, AllOwn, AllHave, part_at}

pub fours_numbers : (bs : List Strided) → fours_of (numbers_of bs) ≡ bs
fours_numbers [] = refl
fours_numbers (b ∷ bs) = ap (λ x. b ∷ x) (fours_numbers bs)

-- where it has a number, its best bounds are a leaf's
pub record IsLimited (b : Strided) : Type 0 where
  pub low : least ≤ℤ b.low
  pub high : b.high ≤ℤ greatest
  pub residue : IsReduced b.stride

pub limited_best : (b : Strided) → IsLimited b → is_bare b ≡ false → IsOwn (reduced b)
limited_best b h e = reduced_own b h.low h.high h.residue e

-- ---- one variable
pub read_has : (bs : List Strided) (s : List ℤ) (x : ℕ) → x < length bs → AllHave bs s → Has (part_at bs x) (slice_index_or s x (pos 0))
read_has bs s x p h = held_read Has (point_at (pos 0)) bs s x p h

pub read_own : (bs : List Strided) (x : ℕ) → x < length bs → AllOwn bs → IsOwn (part_at bs x)
read_own bs x p h = each_read IsOwn (point_at (pos 0)) bs x p h

pub read_residue : (bs : List Strided) (x : ℕ) → slice_index_or (map (λ (b : Strided). b.stride.residue) bs) x (pos 0) ≡ (part_at bs x).stride.residue
read_residue [] x = refl
read_residue (b ∷ bs) zero = refl
read_residue (b ∷ bs) (suc x) = read_residue bs x
