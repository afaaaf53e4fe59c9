-- How exact octagons are, beyond what every kind of leaf keeps.
use Rattle.std.specs.Prelude.{◌≡◌, ◌≢◌, ◌↔◌, ℕ, ◌<◌, ℤ, pos, negsuc, Bool, true, false, ◌&&◌, ◌||◌, List, [], ◌∷◌, Some, slice_set}
use Rattle.std.specs.Ordering.{int_eq}
use Rattle.leaf_domain.specs.declared.form.Form.{Form}
use Rattle.leaf_domain.specs.declared.range.Range.{Range}
use Rattle.leaf_domain.specs.declared.compare.Compare.{Compare}
use Rattle.leaf_domain.specs.declared.compare.Compare.TheVariants.{Ne}
use Rattle.leaf_domain.specs.Compares.{holds_between}
use Rattle.leaf_domain.specs.Forms.{form_at, IsForm}
use Rattle.leaf_domain.specs.Ranges.{Within, IsInInt}
use Rattle.leaf_domain.specs.Leaves.{LeafValue, Alike, is_nothing_of, at_store}
use Rattle.octagon_leaf.specs.Octagons.{octagons, IsOctagon, octagon_holds, octagon_leq, octagon_join, octagon_bounds, octagon_form_range, octagon_meet_form, octagon_set_form}

-- ---- forms: said anew, and not by the shapes that an octagon sees, so that the laws hold of no fewer forms than these
-- 1 or -1
abbrev pub is_plus_or_minus_one : ℤ → Bool
is_plus_or_minus_one k = int_eq k (pos 1) || int_eq k (negsuc 0)

-- a constant, or one variable or its negation, with a constant
abbrev pub has_one_unit : List (ℕ × ℤ) → Bool
has_one_unit [] = true
has_one_unit (t ∷ []) = is_plus_or_minus_one t.1
has_one_unit (t ∷ u ∷ ts) = false

-- that, or the sum or difference of two variables or its negation, with a constant
abbrev pub has_two_units : List (ℕ × ℤ) → Bool
has_two_units [] = true
has_two_units (t ∷ []) = is_plus_or_minus_one t.1
has_two_units (t ∷ u ∷ []) = is_plus_or_minus_one t.1 && is_plus_or_minus_one u.1
has_two_units (t ∷ u ∷ v ∷ ts) = false

-- ---- the laws
-- `leq` is inclusion of the stores
abbrev pub LeqIsInclusion : Type 0
LeqIsInclusion = (a b : LeafValue) → Alike octagons a b → (octagon_leq a b ≡ true) ↔ ((s : List ℤ) → octagon_holds a s → octagon_holds b s)

-- each octagon that holds the stores of both holds those of `join`
abbrev pub JoinIsLeast : Type 0
JoinIsLeast = (a b c : LeafValue) → Alike octagons a b → IsOctagon c → c.variables ≡ a.variables
    → ((s : List ℤ) → octagon_holds a s → octagon_holds c s) → ((s : List ℤ) → octagon_holds b s → octagon_holds c s)
    → (s : List ℤ) → octagon_holds (octagon_join a b) s → octagon_holds c s

-- of an octagonal form, `meet_form` holds just the stores at which the comparison holds, unless that is `!=`
abbrev pub MeetFormIsExact : Type 0
MeetFormIsExact = (a : LeafValue) (f : Form) (op : Compare) (s : List ℤ) → IsOctagon a → IsForm a.variables f → has_two_units f.terms ≡ true
    → op ≢ Ne
    → octagon_holds (octagon_meet_form a f op) s ↔ (octagon_holds a s × (holds_between op (form_at f s) (pos 0) ≡ true))

-- the store is one of the leaf's with a variable put as the value of a form there, which lies in the range
pub record IsFormPut (a : LeafValue) (x : ℕ) (f : Form) (r : Range) (s : List ℤ) : Type 0 where
  pub store : List ℤ
  pub held : octagon_holds a store
  pub within : Within (form_at f store) r
  pub put : s ≡ slice_set store x (form_at f store)

-- of a variable or its negation and a constant, or a constant, `set_form` holds just the stores put so
abbrev pub SetFormIsExact : Type 0
SetFormIsExact = (a : LeafValue) (x : ℕ) (f : Form) (r : Range) (s : List ℤ) → IsOctagon a → x < a.variables → IsForm a.variables f → IsInInt r
    → has_one_unit f.terms ≡ true
    → octagon_holds (octagon_set_form a x f r) s ↔ IsFormPut a x f r s

-- at a store of the leaf the value is the number
pub record IsReached (a : LeafValue) (value : List ℤ → ℤ) (number : ℤ) : Type 0 where
  pub store : List ℤ
  pub held : octagon_holds a store
  pub reached : value store ≡ number

-- each end of a variable's bounds is its value at a store of the leaf
abbrev pub BoundsAreReached : Type 0
BoundsAreReached = (a : LeafValue) (x : ℕ) → IsOctagon a → is_nothing_of a ≡ false → x < a.variables
    → IsReached a (λ s. at_store s x) (octagon_bounds a x).low × IsReached a (λ s. at_store s x) (octagon_bounds a x).high

-- so is each end of the range of a form that has one
abbrev pub FormRangesAreReached : Type 0
FormRangesAreReached = (a : LeafValue) (f : Form) (r : Range) → IsOctagon a → is_nothing_of a ≡ false → IsForm a.variables f
    → octagon_form_range a f ≡ Some r
    → IsReached a (form_at f) r.low × IsReached a (form_at f) r.high
