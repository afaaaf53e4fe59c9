-- What a leaf is, what its operations mean, and the laws of their meanings.
use Rattle.std.specs.Ordering.{int_eq}
use Rattle.std.specs.Prelude.{◌≡◌, ◌==◌, ◌&&◌, [], ◌∷◌, ◌⊎◌, ℕ, ◌+◌, ◌*◌, ◌<◌, ◌≤◌, ℤ, pos, ◌+ℤ◌, ◌*ℤ◌, Bool, true, false, List, Option, Some, None, length, slice_index_or, slice_set, is_none, All, ◌↔◌}
use Rattle.leaf_domain.specs.declared.form.Form.{Form}
use Rattle.leaf_domain.specs.declared.operation.Operation.{Operation}
use Rattle.leaf_domain.specs.declared.range.Range.{Range}
use Rattle.leaf_domain.specs.declared.compare.Compare.{Compare}
use Rattle.leaf_domain.specs.Compares.{holds_between}
use Rattle.leaf_domain.specs.Forms.{IsForm, form_at}
use Rattle.leaf_domain.specs.Operations.{IsOperation, Operates}
use Rattle.leaf_domain.specs.Ranges.{Within, IsInInt, is_empty_range}
use Rattle.c_tree.specs.Value.{IsInt}

-- a number of variables, together with Nothing or a list of whole numbers
pub record LeafValue : Type 0 where
  pub variables : ℕ
  pub content : Option (List ℤ)

abbrev pub nothing_of : ℕ → LeafValue
nothing_of n = record { variables = n; content = None }

abbrev pub is_nothing_of : LeafValue → Bool
is_nothing_of v = is_none v.content

-- the value of a variable at a store
abbrev pub at_store : List ℤ → ℕ → ℤ
at_store s x = slice_index_or s x (pos 0)

-- a number is so many steps from another
pub record IsStepsFrom (low : ℤ) (step : ℕ) (n : ℤ) : Type 0 where
  pub steps : ℤ
  pub value : n ≡ low +ℤ steps *ℤ pos step

-- what the operations of a kind of leaf mean
pub record LeafMeaning : Type 1 where
  -- the values that leaves of the kind have
  pub valid : LeafValue → Type 0
  pub holds : LeafValue → List ℤ → Type 0
  pub start : List ℤ → LeafValue
  pub bound_count : ℕ → ℕ
  -- how many steps to these thresholds and to the type's bounds its bounds can still take in all
  pub steps_left : List ℤ → LeafValue → ℕ
  pub best : LeafValue → LeafValue
  pub leq : LeafValue → LeafValue → Bool
  pub join : LeafValue → LeafValue → LeafValue
  pub widen : List ℤ → LeafValue → LeafValue → LeafValue
  pub narrow : List ℤ → LeafValue → LeafValue → LeafValue
  pub bounds_of : LeafValue → ℕ → Range
  pub step_of : LeafValue → ℕ → ℕ
  pub form_range : LeafValue → Form → Option Range
  pub meet_range : LeafValue → ℕ → Range → LeafValue
  pub meet_form : LeafValue → Form → Compare → LeafValue
  pub set_range : LeafValue → ℕ → Range → LeafValue
  pub set_form : LeafValue → ℕ → Form → Range → LeafValue
  pub operation_range : LeafValue → Operation → Option Range
  pub meet_operation : LeafValue → Operation → Compare → Range → LeafValue
  pub set_operation : LeafValue → ℕ → Operation → Range → LeafValue

-- two leaves of one call
pub record Alike (M : LeafMeaning) (a b : LeafValue) : Type 0 where
  pub first : M.valid a
  pub second : M.valid b
  pub same : a.variables ≡ b.variables

-- a leaf that an operation answers for a leaf
pub record IsLeafLike (M : LeafMeaning) (a r : LeafValue) : Type 0 where
  pub valid : M.valid r
  pub same : r.variables ≡ a.variables

-- the laws that every kind of leaf keeps
pub record LeafLaws (M : LeafMeaning) : Type 0 where
  -- values that leaves have, the leaf of one store, and Nothing, which holds no store
  pub valid_few : (a : LeafValue) → M.valid a → a.variables ≤ 48
  pub start_valid : (s : List ℤ) → length s ≤ 48 → All IsInt s → M.valid (M.start s)
  pub start_variables : (s : List ℤ) → (M.start s).variables ≡ length s
  pub start_holds : (s t : List ℤ) → (M.holds (M.start s) t) ↔ (t ≡ s)
  pub nothing_valid : (n : ℕ) → n ≤ 48 → M.valid (nothing_of n)
  pub nothing_holds : (n : ℕ) (s : List ℤ) → M.holds (nothing_of n) s → ⊥
  pub holds_length : (a : LeafValue) (s : List ℤ) → M.valid a → M.holds a s → length s ≡ a.variables
  -- the same stores
  pub best_answers : (a : LeafValue) → M.valid a → IsLeafLike M a (M.best a)
  pub best_holds : (a : LeafValue) (s : List ℤ) → M.valid a → (M.holds (M.best a) s) ↔ (M.holds a s)
  pub best_nothing : (n : ℕ) → is_nothing_of (M.best (nothing_of n)) ≡ true
  -- each store of the lesser leaf; Nothing is below all, and alone below Nothing
  pub leq_holds : (a b : LeafValue) (s : List ℤ) → Alike M a b → M.leq a b ≡ true → M.holds a s → M.holds b s
  pub nothing_leq : (n : ℕ) (a : LeafValue) → M.leq (nothing_of n) a ≡ true
  pub leq_nothing : (n : ℕ) (a : LeafValue) → M.leq a (nothing_of n) ≡ true → is_nothing_of a ≡ true
  -- each store of either, and not Nothing where the first is not; Nothing is the unit of `join`, number for number
  pub join_answers : (a b : LeafValue) → Alike M a b → IsLeafLike M a (M.join a b)
  pub join_holds : (a b : LeafValue) (s : List ℤ) → Alike M a b → M.holds a s ⊎ M.holds b s → M.holds (M.join a b) s
  pub join_some : (a b : LeafValue) → Alike M a b → is_nothing_of a ≡ false → is_nothing_of (M.join a b) ≡ false
  pub join_nothing : (a : LeafValue) → M.join (nothing_of a.variables) a ≡ a
  pub nothing_join : (a : LeafValue) → M.join a (nothing_of a.variables) ≡ a
  -- each store of either, and not Nothing where the first is not; a leaf that does not hold the other has fewer steps left after it
  pub widen_answers : (ts : List ℤ) (a b : LeafValue) → Alike M a b → IsLeafLike M a (M.widen ts a b)
  pub widen_holds : (ts : List ℤ) (a b : LeafValue) (s : List ℤ) → Alike M a b → M.holds a s ⊎ M.holds b s → M.holds (M.widen ts a b) s
  pub widen_some : (ts : List ℤ) (a b : LeafValue) → Alike M a b → is_nothing_of a ≡ false → is_nothing_of (M.widen ts a b) ≡ false
  pub widen_grows : (ts : List ℤ) (a b : LeafValue) → Alike M a b → is_nothing_of a ≡ false → is_nothing_of b ≡ false → M.leq b a ≡ false → M.steps_left ts (M.widen ts a b) < M.steps_left ts a
  pub steps_few : (ts : List ℤ) (a : LeafValue) → M.valid a → M.steps_left ts a ≤ M.bound_count a.variables * (length ts + 1)
  -- each store of the second, where it is below the first
  pub narrow_answers : (ts : List ℤ) (a b : LeafValue) → Alike M a b → IsLeafLike M a (M.narrow ts a b)
  pub narrow_holds : (ts : List ℤ) (a b : LeafValue) (s : List ℤ) → Alike M a b → M.leq b a ≡ true → M.holds b s → M.holds (M.narrow ts a b) s
  pub narrow_nothing : (ts : List ℤ) (n : ℕ) (a : LeafValue) → is_nothing_of (M.narrow ts (nothing_of n) a) ≡ true
  -- the values at each store; a range is empty at Nothing alone
  pub bounds_in_int : (a : LeafValue) (x : ℕ) → M.valid a → x < a.variables → IsInInt (M.bounds_of a x)
  pub bounds_hold : (a : LeafValue) (x : ℕ) (s : List ℤ) → M.valid a → x < a.variables → M.holds a s → Within (at_store s x) (M.bounds_of a x)
  pub bounds_some : (a : LeafValue) (x : ℕ) → M.valid a → x < a.variables → is_nothing_of a ≡ false → is_empty_range (M.bounds_of a x) ≡ false
  pub bounds_nothing : (n x : ℕ) → is_empty_range (M.bounds_of (nothing_of n) x) ≡ true
  pub step_holds : (a : LeafValue) (x : ℕ) (s : List ℤ) → M.valid a → x < a.variables → M.holds a s → IsStepsFrom (M.bounds_of a x).low (M.step_of a x) (at_store s x)
  pub form_holds : (a : LeafValue) (f : Form) (r : Range) (s : List ℤ) → M.valid a → IsForm a.variables f → M.holds a s → M.form_range a f ≡ Some r → Within (form_at f s) r
  pub form_nothing : (n : ℕ) (f : Form) (r : Range) → M.form_range (nothing_of n) f ≡ Some r → is_empty_range r ≡ true
  -- each store that meets the range or the comparison with 0
  pub meet_answers : (a : LeafValue) (x : ℕ) (r : Range) → M.valid a → x < a.variables → IsInInt r → IsLeafLike M a (M.meet_range a x r)
  pub meet_holds : (a : LeafValue) (x : ℕ) (r : Range) (s : List ℤ) → M.valid a → x < a.variables → IsInInt r → M.holds a s → Within (at_store s x) r → M.holds (M.meet_range a x r) s
  pub meet_nothing : (n x : ℕ) (r : Range) → M.meet_range (nothing_of n) x r ≡ nothing_of n
  pub meet_form_answers : (a : LeafValue) (f : Form) (op : Compare) → M.valid a → IsForm a.variables f → IsLeafLike M a (M.meet_form a f op)
  pub meet_form_holds : (a : LeafValue) (f : Form) (op : Compare) (s : List ℤ) → M.valid a → IsForm a.variables f → M.holds a s → holds_between op (form_at f s) (pos 0) ≡ true → M.holds (M.meet_form a f op) s
  pub meet_form_nothing : (n : ℕ) (f : Form) (op : Compare) → M.meet_form (nothing_of n) f op ≡ nothing_of n
  -- each store with a variable replaced by a number of the range, or by the value of the form
  pub set_answers : (a : LeafValue) (x : ℕ) (r : Range) → M.valid a → x < a.variables → IsInInt r → IsLeafLike M a (M.set_range a x r)
  pub set_holds : (a : LeafValue) (x : ℕ) (r : Range) (s : List ℤ) (n : ℤ) → M.valid a → x < a.variables → IsInInt r → M.holds a s → Within n r → M.holds (M.set_range a x r) (slice_set s x n)
  pub set_nothing : (n x : ℕ) (r : Range) → M.set_range (nothing_of n) x r ≡ nothing_of n
  pub set_form_answers : (a : LeafValue) (x : ℕ) (f : Form) (r : Range) → M.valid a → x < a.variables → IsForm a.variables f → IsInInt r → IsLeafLike M a (M.set_form a x f r)
  pub set_form_holds : (a : LeafValue) (x : ℕ) (f : Form) (r : Range) (s : List ℤ) → M.valid a → x < a.variables → IsForm a.variables f → IsInInt r → M.holds a s → Within (form_at f s) r → M.holds (M.set_form a x f r) (slice_set s x (form_at f s))
  pub set_form_nothing : (n x : ℕ) (f : Form) (r : Range) → M.set_form (nothing_of n) x f r ≡ nothing_of n
  -- what an operator gives on two forms: the values at each store, each store at which one compares so with a number of the
  -- range, and each store with a variable replaced by one
  pub operation_holds : (a : LeafValue) (p : Operation) (r : Range) (s : List ℤ) (n : ℤ) → M.valid a → IsOperation a.variables p → M.holds a s → Operates p s n → M.operation_range a p ≡ Some r → Within n r
  pub meet_operation_answers : (a : LeafValue) (p : Operation) (op : Compare) (r : Range) → M.valid a → IsOperation a.variables p → IsInInt r → IsLeafLike M a (M.meet_operation a p op r)
  pub meet_operation_holds : (a : LeafValue) (p : Operation) (op : Compare) (r : Range) (s : List ℤ) (n m : ℤ) → M.valid a → IsOperation a.variables p → IsInInt r → M.holds a s → Operates p s n → Within m r → holds_between op n m ≡ true → M.holds (M.meet_operation a p op r) s
  pub meet_operation_nothing : (n : ℕ) (p : Operation) (op : Compare) (r : Range) → M.meet_operation (nothing_of n) p op r ≡ nothing_of n
  pub set_operation_answers : (a : LeafValue) (x : ℕ) (p : Operation) (r : Range) → M.valid a → x < a.variables → IsOperation a.variables p → IsInInt r → IsLeafLike M a (M.set_operation a x p r)
  pub set_operation_holds : (a : LeafValue) (x : ℕ) (p : Operation) (r : Range) (s : List ℤ) (n : ℤ) → M.valid a → x < a.variables → IsOperation a.variables p → IsInInt r → M.holds a s → Operates p s n → Within n r → M.holds (M.set_operation a x p r) (slice_set s x n)
  pub set_operation_nothing : (n x : ℕ) (p : Operation) (r : Range) → M.set_operation (nothing_of n) x p r ≡ nothing_of n

-- whether two lists of numbers are the same
abbrev pub same_numbers : List ℤ → List ℤ → Bool
same_numbers [] [] = true
same_numbers (n ∷ ns) (m ∷ ms) = int_eq n m && same_numbers ns ms
same_numbers ns ms = false

abbrev pub same_content : Option (List ℤ) → Option (List ℤ) → Bool
same_content None None = true
same_content (Some ns) (Some ms) = same_numbers ns ms
same_content c d = false

-- whether two leaves are the same, number for number
abbrev pub same_leaf : LeafValue → LeafValue → Bool
same_leaf a b = (a.variables == b.variables) && same_content a.content b.content
