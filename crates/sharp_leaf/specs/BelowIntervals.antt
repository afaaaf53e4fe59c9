-- When a kind of leaf with strides is below intervals: no operation of it knows less than that of intervals, from leaves that know no less.
use Rattle.std.specs.Prelude.{◌≡◌, ℕ, ◌<◌, ◌≤◌, ℤ, List, length, map, All}
use Rattle.c_tree.specs.Value.{IsInt}
use Rattle.leaf_domain.specs.declared.form.Form.{Form}
use Rattle.leaf_domain.specs.declared.operation.Operation.{Operation}
use Rattle.leaf_domain.specs.declared.range.Range.{Range}
use Rattle.leaf_domain.specs.declared.compare.Compare.{Compare}
use Rattle.leaf_domain.specs.Forms.{IsForm}
use Rattle.leaf_domain.specs.Operations.{IsOperation}
use Rattle.leaf_domain.specs.Ranges.{Within, IsInInt}
use Rattle.leaf_domain.specs.Leaves.{LeafValue, LeafMeaning, nothing_of}
use Rattle.interval_leaf.specs.Intervals.{intervals, ranges_of}
use Rattle.strides.specs.Strided.{range_of}
use Rattle.product_leaf.specs.StrideLeaves.{strides, parts_of}

-- A leaf of the kind P and a leaf of intervals with as many variables: each store of the strides of the first is one of the second. Stores of
-- the first alone would not do: parts that have not told each other their ranges, as widening leaves them, each join with what the other excludes.
pub record IsUnder (P : LeafMeaning) (strides_in : LeafValue → LeafValue) (v w : LeafValue) : Type 0 where
  pub first : P.valid v
  pub second : intervals.valid w
  pub same : v.variables ≡ w.variables
  pub stores : (s : List ℤ) → strides.holds (strides_in v) s → intervals.holds w s

-- the strides' lows and highs, as they stand, are the ranges of a leaf of intervals
abbrev pub HasRanges : (LeafValue → LeafValue) → LeafValue → LeafValue → Type 0
HasRanges strides_in v w = map range_of (parts_of (strides_in v)) ≡ ranges_of w

-- Of each operation of the kind P: where its leaves are under leaves of intervals, so is its answer. Widening and narrowing are so where
-- the leaf that is widened or narrowed has the very ranges of the other: neither is monotone in it. Intervals have no range of a form or of
-- an operation, and no step but 1.
pub record IsBelowIntervals (P : LeafMeaning) (strides_in : LeafValue → LeafValue) : Type 0 where
  pub holds : (v w : LeafValue) (s : List ℤ) → IsUnder P strides_in v w → P.holds v s → intervals.holds w s
  pub start : (s : List ℤ) → length s ≤ 48 → All IsInt s → IsUnder P strides_in (P.start s) (intervals.start s)
  pub nothing : (n : ℕ) → n ≤ 48 → IsUnder P strides_in (nothing_of n) (nothing_of n)
  pub best : (v w : LeafValue) → IsUnder P strides_in v w → IsUnder P strides_in (P.best v) (intervals.best w)
  pub join : (v w x y : LeafValue) → IsUnder P strides_in v w → IsUnder P strides_in x y → v.variables ≡ x.variables → IsUnder P strides_in (P.join v x) (intervals.join w y)
  pub widen : (ts : List ℤ) (v w x y : LeafValue) → IsUnder P strides_in v w → IsUnder P strides_in x y → v.variables ≡ x.variables → HasRanges strides_in v w → IsUnder P strides_in (P.widen ts v x) (intervals.widen ts w y)
  pub narrow : (ts : List ℤ) (v w x y : LeafValue) → IsUnder P strides_in v w → IsUnder P strides_in x y → v.variables ≡ x.variables → HasRanges strides_in v w → IsUnder P strides_in (P.narrow ts v x) (intervals.narrow ts w y)
  pub bounds : (v w : LeafValue) (x : ℕ) (s : List ℤ) (n : ℤ) → IsUnder P strides_in v w → x < v.variables → P.holds v s → Within n (P.bounds_of v x) → Within n (intervals.bounds_of w x)
  pub meet_range : (v w : LeafValue) (x : ℕ) (r : Range) → IsUnder P strides_in v w → x < v.variables → IsInInt r → IsUnder P strides_in (P.meet_range v x r) (intervals.meet_range w x r)
  pub meet_form : (v w : LeafValue) (f : Form) (op : Compare) → IsUnder P strides_in v w → IsForm v.variables f → IsUnder P strides_in (P.meet_form v f op) (intervals.meet_form w f op)
  pub set_range : (v w : LeafValue) (x : ℕ) (r : Range) → IsUnder P strides_in v w → x < v.variables → IsInInt r → IsUnder P strides_in (P.set_range v x r) (intervals.set_range w x r)
  pub set_form : (v w : LeafValue) (x : ℕ) (f : Form) (r : Range) → IsUnder P strides_in v w → x < v.variables → IsForm v.variables f → IsInInt r → IsUnder P strides_in (P.set_form v x f r) (intervals.set_form w x f r)
  pub meet_operation : (v w : LeafValue) (p : Operation) (op : Compare) (r : Range) → IsUnder P strides_in v w → IsOperation v.variables p → IsInInt r → IsUnder P strides_in (P.meet_operation v p op r) (intervals.meet_operation w p op r)
  pub set_operation : (v w : LeafValue) (x : ℕ) (p : Operation) (r : Range) → IsUnder P strides_in v w → x < v.variables → IsOperation v.variables p → IsInInt r → IsUnder P strides_in (P.set_operation v x p r) (intervals.set_operation w x p r)
