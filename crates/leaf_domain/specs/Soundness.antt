-- What transfer keeps, over the laws of a kind of leaf.
use Rattle.std.specs.Prelude.{◌≡◌, ℕ, ◌<◌, ℤ, pos, Bool, true, false, List, Some, Ok, slice_set}
use Rattle.fam_outer.specs.declared.faults.Place.{Place}
use Rattle.c_tree.specs.declared.tree.Kind.{Kind}
use Rattle.c_tree.specs.declared.tree.Mode.{Mode}
use Rattle.c_tree.specs.declared.tree.Mode.TheVariants.{Stop, Wrap}
use Rattle.c_tree.specs.Tree.{Term, Code}
use Rattle.c_tree.specs.Value.{value_of, IsInt}
use Rattle.c_tree.specs.Fit.{IsTermOf, IsCodeOf}
use Rattle.c_tree.specs.Run.{Level, step_of, Stopped}
use Rattle.leaf_domain.specs.declared.form.Form.{Form}
use Rattle.leaf_domain.specs.Ranges.{Within, IsInInt, empty_range}
use Rattle.leaf_domain.specs.Forms.{form_of_term, IsForm}
use Rattle.leaf_domain.specs.Leaves.{LeafValue, LeafMeaning, IsLeafLike, is_nothing_of}
use Rattle.leaf_domain.specs.Transfer.{range_of_term, fits_term, assumed, assigned, valued, forgotten}
use Rattle.leaf_domain.specs.Stops.{may_at}

-- whether a number is not 0, or is 0, as wanted
abbrev pub IsWanted : Bool → ℤ → Type 0
IsWanted true n = n ≡ pos 0 → ⊥
IsWanted false n = n ≡ pos 0

-- a leaf of the kind and an expression over its variables
pub record Suits (M : LeafMeaning) (e : Term) (v : LeafValue) : Type 0 where
  pub valid : M.valid v
  pub term : IsTermOf v.variables e

-- the form of an expression is a form over its variables
abbrev pub FormsAreForms : Type 0
FormsAreForms = (count : ℕ) (e : Term) (f : Form) → IsTermOf count e → form_of_term e ≡ Some f → IsForm count f

-- the transfer functions answer leaves of the kind, and ranges within `int`; on Nothing they answer Nothing
pub record TransferAnswers (M : LeafMeaning) (mode : Mode) : Type 0 where
  pub range_in_int : (e : Term) (v : LeafValue) → Suits M e v → IsInInt (range_of_term M mode e v)
  pub assumed_answers : (e : Term) (want : Bool) (v : LeafValue) → Suits M e v → IsLeafLike M v (assumed M mode e want v)
  pub assigned_answers : (x : ℕ) (e : Term) (v : LeafValue) → x < v.variables → Suits M e v → IsLeafLike M v (assigned M mode x e v)
  pub valued_answers : (e : Term) (v : LeafValue) → Suits M e v → IsLeafLike M v (valued M mode e v)
  pub forgotten_answers : (x : ℕ) (v : LeafValue) → x < v.variables → M.valid v → IsLeafLike M v (forgotten M x v)
  pub range_of_nothing : (e : Term) (v : LeafValue) → is_nothing_of v ≡ true → range_of_term M mode e v ≡ empty_range
  pub assumed_of_nothing : (e : Term) (want : Bool) (v : LeafValue) → is_nothing_of v ≡ true → assumed M mode e want v ≡ v
  pub assigned_of_nothing : (x : ℕ) (e : Term) (v : LeafValue) → is_nothing_of v ≡ true → is_nothing_of (assigned M mode x e v) ≡ true
  pub valued_of_nothing : (e : Term) (v : LeafValue) → is_nothing_of v ≡ true → is_nothing_of (valued M mode e v) ≡ true
  pub forgotten_of_nothing : (x : ℕ) (v : LeafValue) → is_nothing_of v ≡ true → is_nothing_of (forgotten M x v) ≡ true

-- no statement may stop at Nothing
abbrev pub NothingStops : LeafMeaning → Mode → Type 0
NothingStops M mode = (kind : Kind) (c : Code) (v : LeafValue) → is_nothing_of v ≡ true → may_at M mode kind c v ≡ false

-- each value of an expression is in its range; each store at which it is as wanted is kept; the leaf after an assignment and
-- after an input holds each store that these leave, and that where an expression has a value each store at which it has one; where a store stops, the statement may stop; and where an expression
-- fits in wrapping mode, no store makes a sum or a product in it leave `int`: it has the value that it has where overflows stop
pub record TransferHolds (M : LeafMeaning) (mode : Mode) : Type 0 where
  pub range_holds : (e : Term) (v : LeafValue) (s : List ℤ) (n : ℤ) → Suits M e v → M.holds v s → value_of e s mode ≡ Ok n → Within n (range_of_term M mode e v)
  pub assumed_holds : (e : Term) (want : Bool) (v : LeafValue) (s : List ℤ) (n : ℤ) → Suits M e v → M.holds v s → value_of e s mode ≡ Ok n → IsWanted want n → M.holds (assumed M mode e want v) s
  pub assigned_holds : (x : ℕ) (e : Term) (v : LeafValue) (s : List ℤ) (n : ℤ) → x < v.variables → Suits M e v → M.holds v s → value_of e s mode ≡ Ok n → M.holds (assigned M mode x e v) (slice_set s x n)
  pub valued_holds : (e : Term) (v : LeafValue) (s : List ℤ) (n : ℤ) → Suits M e v → M.holds v s → value_of e s mode ≡ Ok n → M.holds (valued M mode e v) s
  pub forgotten_holds : (x : ℕ) (v : LeafValue) (s : List ℤ) (n : ℤ) → x < v.variables → M.valid v → M.holds v s → IsInt n → M.holds (forgotten M x v) (slice_set s x n)
  pub may_holds : (c : Code) (v : LeafValue) (levels : List Level) (s inputs : List ℤ) (taken : ℕ) (place : Place) (kind : Kind) → M.valid v → IsCodeOf v.variables c → M.holds v s
      → step_of mode inputs c levels s taken ≡ Stopped place kind → may_at M mode kind c v ≡ true
  pub fits_holds : (e : Term) (v : LeafValue) (s : List ℤ) → Suits M e v → M.holds v s → mode ≡ Wrap → fits_term M mode e v ≡ true
      → (n : ℤ) × (value_of e s Stop ≡ Ok n) × (value_of e s Wrap ≡ Ok n)
