-- The bounds of a loop's variables, and their text.
use Rattle.std.specs.Prelude.{◌≡◌, ⊤, ℕ, ◌≤ℤ◌, List, [], ◌∷◌, ◌++◌, codes, length, Option, Some, None}
use Rattle.std.specs.List.{All}
use Rattle.leaf_domain.specs.declared.range.Range.{Range}
use Rattle.leaf_domain.specs.Ranges.{IsInInt}
use Rattle.alarm_report.specs.Texts.{joined}
use Rattle.alarm_report.specs.LeafTexts.{within_text}

-- `x in [l,h]` of each name with its range
abbrev pub items : List (List ℕ) → List Range → List (List ℕ)
items [] ranges = []
items (name ∷ names) [] = []
items (name ∷ names) (r ∷ ranges) = (name ++ within_text r) ∷ items names ranges

-- the items, or `reachable` where there is no name; and `unreachable` without bounds
abbrev pub bounds_text : List (List ℕ) → Option (List Range) → List ℕ
bounds_text names None = codes "unreachable"
bounds_text [] (Some ranges) = codes "reachable"
bounds_text (name ∷ names) (Some ranges) = joined (codes ", ") (items (name ∷ names) ranges)

-- a range that is not empty, within `int`
pub record IsIntRange (r : Range) : Type 0 where
  pub int : IsInInt r
  pub some : r.low ≤ℤ r.high

-- a range for each name, where there are bounds
abbrev pub AreIntBounds : List (List ℕ) → Option (List Range) → Type 0
AreIntBounds names None = ⊤
AreIntBounds names (Some ranges) = (length ranges ≡ length names) × All IsIntRange ranges
