-- How exact the operations of a kind of leaf are: which stores they do not add.
use Rattle.std.specs.Prelude.{◌≡◌, ℕ, ◌<◌, ℤ, true, false, List, slice_set}
use Rattle.leaf_domain.specs.declared.form.Form.{Form}
use Rattle.leaf_domain.specs.declared.range.Range.{Range}
use Rattle.leaf_domain.specs.declared.compare.Compare.{Compare}
use Rattle.leaf_domain.specs.Forms.{IsForm}
use Rattle.leaf_domain.specs.Ranges.{Within, IsInInt}
use Rattle.leaf_domain.specs.Leaves.{LeafValue, LeafMeaning, Alike, is_nothing_of, at_store}

-- the store is one of the leaf's with a variable put as a number of the range
pub record IsStorePut (M : LeafMeaning) (a : LeafValue) (x : ℕ) (r : Range) (s : List ℤ) : Type 0 where
  pub store : List ℤ
  pub held : M.holds a store
  pub number : ℤ
  pub within : Within number r
  pub put : s ≡ slice_set store x number

-- the laws of exactness; with those of `LeafLaws`, `meet_range` and `set_range` hold just these stores
pub record LeafExactness (M : LeafMeaning) : Type 0 where
  -- Nothing alone holds no store
  pub some_holds : (a : LeafValue) → M.valid a → is_nothing_of a ≡ false → (s : List ℤ) × M.holds a s
  -- only stores of the leaf at which the variable lies in the range
  pub meet_only : (a : LeafValue) (x : ℕ) (r : Range) (s : List ℤ) → M.valid a → x < a.variables → IsInInt r → M.holds (M.meet_range a x r) s → M.holds a s × Within (at_store s x) r
  -- only stores of the leaf
  pub meet_form_only : (a : LeafValue) (f : Form) (op : Compare) (s : List ℤ) → M.valid a → IsForm a.variables f → M.holds (M.meet_form a f op) s → M.holds a s
  -- only stores of the leaf with the variable put as a number of the range
  pub set_only : (a : LeafValue) (x : ℕ) (r : Range) (s : List ℤ) → M.valid a → x < a.variables → IsInInt r → M.holds (M.set_range a x r) s → IsStorePut M a x r s
  -- where the second is below the first, only stores of the first
  pub narrow_only : (ts : List ℤ) (a b : LeafValue) (s : List ℤ) → Alike M a b → M.leq b a ≡ true → M.holds (M.narrow ts a b) s → M.holds a s
