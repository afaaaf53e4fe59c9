-- A leaf with a low, a high and a stride for each variable.
use Rattle.std.specs.Prelude.{ℕ, ◌*◌, ℤ, pos, unsigned_abs, nat_eq, Bool, ◌&&◌, List, [], ◌∷◌, Option, Some, slice_index_or, map, zip}
use Rattle.std.specs.List.{list_all}
use Rattle.std.specs.Int.{int_min, int_max}
use Rattle.std.specs.Ordering.{int_eq}
use Rattle.leaf_domain.specs.declared.form.Form.{Form}
use Rattle.leaf_domain.specs.declared.range.Range.{Range}
use Rattle.leaf_domain.specs.Forms.{form_at}
use Rattle.leaf_domain.specs.Ranges.{empty_range}
use Rattle.leaf_domain.specs.Leaves.{LeafValue, LeafMeaning}
use Rattle.nonrelational_leaf.specs.Parts.{PartMeaning}
use Rattle.nonrelational_leaf.specs.Lifted as lifted
use Rattle.strides.specs.declared.stride.Stride.{Stride}
use Rattle.strides.specs.declared.strided.Strided.{Strided}
use Rattle.strides.specs.Divisors.{gcd}
use Rattle.strides.specs.Strides.{stride_at, stride_of}
use Rattle.strides.specs.Strided.{strided_at, strided_in, Has, is_bare, point_at, reduced, IsOwn, joined, lies_in, range_of, widened, narrowed, steps_left}

-- a low, a high, a modulus and a residue for each variable, as one list of numbers
abbrev pub numbers_of : List Strided → List ℤ
numbers_of [] = []
numbers_of (b ∷ bs) = b.low ∷ b.high ∷ pos b.stride.modulus ∷ b.stride.residue ∷ numbers_of bs

abbrev pub fours_of : List ℤ → List Strided
fours_of [] = []
fours_of (l ∷ []) = []
fours_of (l ∷ h ∷ []) = []
fours_of (l ∷ h ∷ m ∷ []) = []
fours_of (l ∷ h ∷ m ∷ c ∷ ns) = strided_at l h (stride_at (unsigned_abs m) c) ∷ fours_of ns

-- the four numbers of both are the same
abbrev pub same_part : Strided → Strided → Bool
same_part a b = int_eq a.low b.low && (int_eq a.high b.high && (nat_eq a.stride.modulus b.stride.modulus && int_eq a.stride.residue b.stride.residue))

abbrev pub all_same_parts : List Strided → List Strided → Bool
all_same_parts us bs = list_all (λ (a, b). same_part a b) (zip us bs)

-- ---- the stride of a form
abbrev pub part_at : List Strided → ℕ → Strided
part_at bs x = slice_index_or bs x (point_at (pos 0))

-- the greatest common divisor of a number and of each coefficient times its variable's modulus
abbrev pub common_modulus : ℕ → List Strided → List (ℕ × ℤ) → ℕ
common_modulus g bs [] = g
common_modulus g bs (t ∷ ts) = common_modulus (gcd g (unsigned_abs t.1 * (part_at bs t.0).stride.modulus)) bs ts

abbrev pub residues_of : List Strided → List ℤ
residues_of bs = map (λ (b : Strided). b.stride.residue) bs

-- its modulus is the greatest common divisor of each coefficient times its variable's modulus, 0 where there is no term, and it
-- has the form's value at the residues
abbrev pub form_stride : List Strided → Form → Stride
form_stride bs f = stride_of (common_modulus 0 bs f.terms) (form_at f (residues_of bs))

-- ---- the operations
abbrev pub met_part : Strided → Range → Strided
met_part b r = strided_at (int_max b.low r.low) (int_min b.high r.high) b.stride

-- all numbers of a range
abbrev pub part_in : Range → Strided
part_in r = strided_in r (stride_at 1 (pos 0))

-- lows, highs and strides as the parts of a leaf
abbrev pub stride_parts : PartMeaning Strided
stride_parts = record {
  own = IsOwn;
  has = Has;
  numbers = numbers_of;
  parts = fours_of;
  point = point_at;
  bare = part_in empty_range;
  is_bare = is_bare;
  reduction = Some reduced;
  leq = lies_in;
  join = joined;
  widen = widened;
  narrow = narrowed;
  bound_count = 35;
  steps_left = steps_left;
  range = range_of;
  meet_range = met_part;
  of_range = part_in;
  of_form = λ bs f r. strided_in r (form_stride bs f);
}

abbrev pub strides : LeafMeaning
strides = lifted.lifted stride_parts

-- ---- what the code and its proofs speak of
-- the leaf of these parts, one for each variable
abbrev pub leaf_of : List Strided → LeafValue
leaf_of bs = lifted.leaf_of stride_parts bs

-- the parts of a leaf that is not Nothing
abbrev pub parts_of : LeafValue → List Strided
parts_of v = lifted.parts_of stride_parts v

-- the best parts of a leaf
abbrev pub best_parts : LeafValue → List Strided
best_parts v = lifted.best_parts stride_parts v

abbrev pub AllOwn : List Strided → Type 0
AllOwn bs = lifted.AllOwn stride_parts bs

abbrev pub IsStrideContent : ℕ → Option (List ℤ) → Type 0
IsStrideContent n c = lifted.IsContent stride_parts n c

abbrev pub IsStrideLeaf : LeafValue → Type 0
IsStrideLeaf v = lifted.IsLeaf stride_parts v

-- each variable is one of the numbers of its part
abbrev pub AllHave : List Strided → List ℤ → Type 0
AllHave bs ns = lifted.AllHave stride_parts bs ns

-- the leaf of these parts as they stand; Nothing where one has no number
abbrev pub settled : List Strided → LeafValue
settled bs = lifted.settled stride_parts bs

abbrev pub joined_all : List Strided → List Strided → List Strided
joined_all us bs = lifted.joined_all stride_parts us bs

abbrev pub all_lie_in : List Strided → List Strided → Bool
all_lie_in us bs = lifted.all_leq stride_parts us bs

abbrev pub widened_all : List ℤ → List Strided → List Strided → List Strided
widened_all ts xs gs = lifted.widened_all stride_parts ts xs gs

abbrev pub narrowed_all : List ℤ → List Strided → List Strided → List Strided
narrowed_all ts xs gs = lifted.narrowed_all stride_parts ts xs gs

abbrev pub stride_best : LeafValue → LeafValue
stride_best v = lifted.best_leaf stride_parts v

abbrev pub stride_leq : LeafValue → LeafValue → Bool
stride_leq g x = lifted.leaf_leq stride_parts g x

abbrev pub stride_join : LeafValue → LeafValue → LeafValue
stride_join a b = lifted.joined_leaf stride_parts a b

abbrev pub stride_widen : List ℤ → LeafValue → LeafValue → LeafValue
stride_widen ts x g = lifted.widened_leaf stride_parts ts x g

abbrev pub stride_narrow : List ℤ → LeafValue → LeafValue → LeafValue
stride_narrow ts x g = lifted.narrowed_leaf stride_parts ts x g

abbrev pub stride_bounds : LeafValue → ℕ → Range
stride_bounds v x = lifted.bounds_at stride_parts v x

-- the leaf with this part for x, by its best bounds; Nothing where the part has no number
abbrev pub stride_with : LeafValue → ℕ → Strided → LeafValue
stride_with v x b = lifted.leaf_with stride_parts v x b

abbrev pub stride_meet : LeafValue → ℕ → Range → LeafValue
stride_meet v x r = lifted.met_leaf stride_parts v x r
