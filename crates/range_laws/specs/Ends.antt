-- What the two ends of a range are, and when no range has less.
use Rattle.std.specs.Prelude.{◌≡◌, ℤ, false}
use Rattle.leaf_domain.specs.declared.range.Range.{Range}
use Rattle.leaf_domain.specs.Ranges.{Within, is_empty_range}

-- both ends are such numbers, where the range is not empty
abbrev pub EndsAre : (ℤ → Type 0) → Range → Type 0
EndsAre P r = is_empty_range r ≡ false → P r.low × P r.high

-- each range that has all such numbers has those of this one
abbrev pub IsLeastWith : (ℤ → Type 0) → Range → Type 0
IsLeastWith P r = (c : Range) → ((n : ℤ) → P n → Within n c) → (n : ℤ) → Within n r → Within n c
