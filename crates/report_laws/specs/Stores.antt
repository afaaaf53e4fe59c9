-- What the text of a leaf says of a store that the leaf holds.
use Rattle.std.specs.Prelude.{◌≡◌, ◌≤◌, ℕ, ℤ, ◌+ℤ◌, ◌-ℤ◌, List, [], ◌∷◌, ◌++◌, codes, length, take, slice_get, Some}
use Rattle.std.specs.List.{AllByRecursion}
use Rattle.leaf_domain.specs.declared.range.Range.{Range}
use Rattle.leaf_domain.specs.Leaves.{LeafValue, LeafMeaning, IsStepsFrom, at_store}
use Rattle.leaf_domain.specs.Ranges.{Within}
use Rattle.alarm_report.specs.LeafTexts.{within_text, step_text, leaf_text}
use Rattle.alarm_report.specs.Texts.{joined}

-- the item is so of the store, over the names of its variables: a variable lies in its range, so many steps from its low end, or the
-- difference or the sum of two lies in theirs
pub data IsSo (names : List (List ℕ)) (store : List ℤ) : List ℕ → Type 0 where
  variable : (x : ℕ) (name : List ℕ) (r : Range) (k : ℕ) → slice_get names x ≡ Some name → Within (at_store store x) r → IsStepsFrom r.low k (at_store store x)
      → IsSo names store ((name ++ within_text r) ++ step_text k)
  difference : (x y : ℕ) (first second : List ℕ) (r : Range) → slice_get names x ≡ Some first → slice_get names y ≡ Some second → Within (at_store store x -ℤ at_store store y) r
      → IsSo names store ((first ++ codes "-" ++ second) ++ within_text r)
  sum : (x y : ℕ) (first second : List ℕ) (r : Range) → slice_get names x ≡ Some first → slice_get names y ≡ Some second → Within (at_store store x +ℤ at_store store y) r
      → IsSo names store ((first ++ codes "+" ++ second) ++ within_text r)

-- the items, joined; `reachable` where there is none
abbrev pub told_as : List (List ℕ) → List ℕ
told_as [] = codes "reachable"
told_as (item ∷ items) = joined (codes ", ") (item ∷ items)

-- each item of the text is so of the store, and the first of them have each variable with a range in which it lies, and a step
pub record TellsStore (names : List (List ℕ)) (store : List ℤ) (text : List ℕ) : Type 0 where
  pub items : List (List ℕ)
  pub text_is : text ≡ told_as items
  pub each : AllByRecursion (IsSo names store) items
  pub variables : (x : ℕ) (name : List ℕ) → slice_get names x ≡ Some name → (r : Range) × (k : ℕ) × (slice_get items x ≡ Some ((name ++ within_text r) ++ step_text k)) × Within (at_store store x) r × IsStepsFrom r.low k (at_store store x)

-- the text of a leaf tells each store that the leaf holds
abbrev pub LeafTextsTellStores : LeafMeaning → Type 0
LeafTextsTellStores M = (names : List (List ℕ)) (v : LeafValue) (store : List ℤ) → M.valid v → M.holds v store → v.variables ≤ length names → TellsStore (take v.variables names) store (leaf_text M names v)
