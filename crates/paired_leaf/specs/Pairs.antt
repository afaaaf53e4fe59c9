-- Two leaves of two kinds as one leaf, which holds the stores of both.
use Rattle.std.specs.Prelude.{◌≡◌, ℤ, pos, unsigned_abs, List, [], ◌∷◌, ◌++◌, Option, Some, None, length, take, drop}
use Rattle.leaf_domain.specs.Leaves.{LeafValue, LeafMeaning, is_nothing_of}

-- how many numbers the first has, its numbers, and those of the second; Nothing where one of both is
abbrev pub pair_content : Option (List ℤ) → Option (List ℤ) → Option (List ℤ)
pair_content None d = None
pair_content (Some ns) None = None
pair_content (Some ns) (Some ms) = Some (pos (length ns) ∷ (ns ++ ms))

-- the leaf of two leaves with as many variables
abbrev pub pair_of : LeafValue → LeafValue → LeafValue
pair_of a b = record { variables = a.variables; content = pair_content a.content b.content }

abbrev pub first_numbers : List ℤ → List ℤ
first_numbers [] = []
first_numbers (n ∷ ns) = take (unsigned_abs n) ns

abbrev pub second_numbers : List ℤ → List ℤ
second_numbers [] = []
second_numbers (n ∷ ns) = drop (unsigned_abs n) ns

abbrev pub part_content : (List ℤ → List ℤ) → Option (List ℤ) → Option (List ℤ)
part_content part None = None
part_content part (Some ns) = Some (part ns)

-- the first leaf of a pair
abbrev pub first_of : LeafValue → LeafValue
first_of v = record { variables = v.variables; content = part_content first_numbers v.content }

-- the second leaf of a pair
abbrev pub second_of : LeafValue → LeafValue
second_of v = record { variables = v.variables; content = part_content second_numbers v.content }

-- the pair of a leaf of the one kind and a leaf of the other
pub record IsPair (A B : LeafMeaning) (v : LeafValue) : Type 0 where
  pub first : A.valid (first_of v)
  pub second : B.valid (second_of v)
  pub is : pair_of (first_of v) (second_of v) ≡ v

-- a store that both hold
abbrev pub HoldsBoth : LeafMeaning → LeafMeaning → LeafValue → List ℤ → Type 0
HoldsBoth A B v s = A.holds (first_of v) s × B.holds (second_of v) s

-- the two leaves of a pair: both are Nothing, or none
pub record AreParts (A B : LeafMeaning) (a b : LeafValue) : Type 0 where
  pub first : A.valid a
  pub second : B.valid b
  pub same : a.variables ≡ b.variables
  pub alike : is_nothing_of a ≡ is_nothing_of b
