-- Hulls and meets of ranges, by the numbers that they have.
use Rattle.std.specs.Prelude.{◌≡◌, ◌⊎◌, ◌↔◌, ℤ, false}
use Rattle.leaf_domain.specs.declared.range.Range.{Range}
use Rattle.leaf_domain.specs.Ranges.{Within, is_empty_range, hull_of, cover_of, meet_of}
use Rattle.range_laws.specs.Ends.{IsLeastWith}

-- the number lies in one of the ranges
abbrev pub IsInEither : Range → Range → ℤ → Type 0
IsInEither a b n = Within n a ⊎ Within n b

-- the range has both ranges, and each range that has both has it
pub record IsLeastOfBoth (a b r : Range) : Type 0 where
  pub holds : (n : ℤ) → IsInEither a b n → Within n r
  pub least : IsLeastWith (IsInEither a b) r

abbrev pub HullIsLeast : Type 0
HullIsLeast = (a b : Range) → IsLeastOfBoth a b (hull_of a b)

-- so is the cover of two ranges that are not empty
abbrev pub CoverIsLeast : Type 0
CoverIsLeast = (a b : Range) → is_empty_range a ≡ false → is_empty_range b ≡ false → IsLeastOfBoth a b (cover_of a b)

-- the meet has just the numbers of both
abbrev pub MeetIsExact : Type 0
MeetIsExact = (a b : Range) (n : ℤ) → Within n (meet_of a b) ↔ (Within n a × Within n b)
