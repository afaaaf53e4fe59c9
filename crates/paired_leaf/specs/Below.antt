-- When a kind of leaf that pairs two others is below both: no operation of it knows less than that of one of the two.
use Rattle.std.specs.Prelude.{◌≡◌, ℕ, ◌<◌, ℤ, true, List, Option, IfSome}
use Rattle.leaf_domain.specs.declared.form.Form.{Form}
use Rattle.leaf_domain.specs.declared.operation.Operation.{Operation}
use Rattle.leaf_domain.specs.declared.range.Range.{Range}
use Rattle.leaf_domain.specs.declared.compare.Compare.{Compare}
use Rattle.leaf_domain.specs.Forms.{IsForm}
use Rattle.leaf_domain.specs.Operations.{IsOperation}
use Rattle.leaf_domain.specs.Ranges.{Within, IsInInt}
use Rattle.leaf_domain.specs.Leaves.{LeafValue, LeafMeaning, Alike}
use Rattle.paired_leaf.specs.Pairs.{first_of, second_of}

-- each leaf that holds the stores of two leaves holds those of their join
abbrev pub JoinIsLeast : LeafMeaning → Type 0
JoinIsLeast M = (a b c : LeafValue) → Alike M a b → M.valid c → c.variables ≡ a.variables
    → ((s : List ℤ) → M.holds a s → M.holds c s) → ((s : List ℤ) → M.holds b s → M.holds c s)
    → (s : List ℤ) → M.holds (M.join a b) s → M.holds c s

-- the parts of a leaf hold no store that a leaf of the one kind, or one of the other, lacks
pub record IsBelow (A B : LeafMeaning) (v a b : LeafValue) : Type 0 where
  pub first : (s : List ℤ) → A.holds (first_of v) s → A.holds a s
  pub second : (s : List ℤ) → B.holds (second_of v) s → B.holds b s

-- a number that lies in a range, where there is one, lies in two others, where there are these
abbrev pub IsNarrower : Option Range → Option Range → Option Range → Type 0
IsNarrower o p q = (n : ℤ) → IfSome o (Within n) → IfSome p (Within n) × IfSome q (Within n)

-- of each operation of the kind P: its answer holds no store that the answer of A or B lacks for its part of the leaf, and no number
pub record IsBelowParts (A B P : LeafMeaning) : Type 0 where
  pub start : (s : List ℤ) → IsBelow A B (P.start s) (A.start s) (B.start s)
  pub best : (v : LeafValue) → P.valid v → IsBelow A B (P.best v) (A.best (first_of v)) (B.best (second_of v))
  pub leq : (v w : LeafValue) → A.leq (first_of v) (first_of w) ≡ true → B.leq (second_of v) (second_of w) ≡ true → P.leq v w ≡ true
  pub join : (v w : LeafValue) → Alike P v w → IsBelow A B (P.join v w) (A.join (first_of v) (first_of w)) (B.join (second_of v) (second_of w))
  pub widen : (ts : List ℤ) (v w : LeafValue) → Alike P v w → IsBelow A B (P.widen ts v w) (A.widen ts (first_of v) (first_of w)) (B.widen ts (second_of v) (second_of w))
  pub narrow : (ts : List ℤ) (v w : LeafValue) → Alike P v w → IsBelow A B (P.narrow ts v w) (A.narrow ts (first_of v) (first_of w)) (B.narrow ts (second_of v) (second_of w))
  pub bounds : (v : LeafValue) (x : ℕ) (s : List ℤ) (n : ℤ) → P.valid v → x < v.variables → P.holds v s → Within n (P.bounds_of v x) → Within n (A.bounds_of (first_of v) x) × Within n (B.bounds_of (second_of v) x)
  pub form_range : (v : LeafValue) (f : Form) → IsNarrower (P.form_range v f) (A.form_range (first_of v) f) (B.form_range (second_of v) f)
  pub meet_range : (v : LeafValue) (x : ℕ) (r : Range) → P.valid v → x < v.variables → IsInInt r → IsBelow A B (P.meet_range v x r) (A.meet_range (first_of v) x r) (B.meet_range (second_of v) x r)
  pub meet_form : (v : LeafValue) (f : Form) (op : Compare) → P.valid v → IsForm v.variables f → IsBelow A B (P.meet_form v f op) (A.meet_form (first_of v) f op) (B.meet_form (second_of v) f op)
  pub set_range : (v : LeafValue) (x : ℕ) (r : Range) → P.valid v → x < v.variables → IsInInt r → IsBelow A B (P.set_range v x r) (A.set_range (first_of v) x r) (B.set_range (second_of v) x r)
  pub set_form : (v : LeafValue) (x : ℕ) (f : Form) (r : Range) → P.valid v → x < v.variables → IsForm v.variables f → IsInInt r → IsBelow A B (P.set_form v x f r) (A.set_form (first_of v) x f r) (B.set_form (second_of v) x f r)
  pub operation_range : (v : LeafValue) (p : Operation) → IsNarrower (P.operation_range v p) (A.operation_range (first_of v) p) (B.operation_range (second_of v) p)
  pub meet_operation : (v : LeafValue) (p : Operation) (op : Compare) (r : Range) → P.valid v → IsOperation v.variables p → IsInInt r → IsBelow A B (P.meet_operation v p op r) (A.meet_operation (first_of v) p op r) (B.meet_operation (second_of v) p op r)
  pub set_operation : (v : LeafValue) (x : ℕ) (p : Operation) (r : Range) → P.valid v → x < v.variables → IsOperation v.variables p → IsInInt r → IsBelow A B (P.set_operation v x p r) (A.set_operation (first_of v) x p r) (B.set_operation (second_of v) x p r)
