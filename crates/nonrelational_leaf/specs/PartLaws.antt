-- The laws that a domain of one variable must meet.
use Rattle.std.specs.Prelude.{◌≡◌, ℕ, ◌+◌, ◌*◌, ◌<◌, ◌≤◌, ℤ, Bool, true, false, List, length, ◌↔◌}
use Rattle.c_tree.specs.Value.{IsInt}
use Rattle.leaf_domain.specs.declared.form.Form.{Form}
use Rattle.leaf_domain.specs.declared.range.Range.{Range}
use Rattle.leaf_domain.specs.Forms.{IsForm, form_at}
use Rattle.leaf_domain.specs.Ranges.{Within, IsInInt, is_empty_range}
use Rattle.nonrelational_leaf.specs.Parts.{PartMeaning}
use Rattle.nonrelational_leaf.specs.Lifted.{AllHave, best_part}

-- what the laws of leaves rest on
pub record PartLaws {P : Type 0} (D : PartMeaning P) : Type 0 where
  pub parts_told : (ps : List P) → D.parts (D.numbers ps) ≡ ps
  -- the numbers of a part
  pub point_own : (n : ℤ) → IsInt n → D.own (D.point n)
  pub point_has : (n : ℤ) → D.has (D.point n) n
  pub point_alone : (n m : ℤ) → D.has (D.point n) m → m ≡ n
  pub number : P → ℤ
  pub own_has : (p : P) → D.own p → D.has p (number p)
  pub has_not_bare : (p : P) (n : ℤ) → D.has p n → D.is_bare p ≡ false
  pub best_own : (p : P) → D.own p → D.own (best_part D p)
  pub best_has : (p : P) (n : ℤ) → (D.has (best_part D p) n) ↔ (D.has p n)
  -- each number of the lesser part, and of either
  pub leq_has : (a b : P) (n : ℤ) → D.leq a b ≡ true → D.has a n → D.has b n
  pub join_own : (a b : P) → D.own a → D.own b → D.own (D.join a b)
  pub join_first : (a b : P) (n : ℤ) → D.has a n → D.has (D.join a b) n
  pub join_second : (a b : P) (n : ℤ) → D.has b n → D.has (D.join a b) n
  -- each number of either; a part that is not above the other has fewer steps left after it
  pub widen_own : (ts : List ℤ) (a b : P) → D.own a → D.own b → D.own (D.widen ts a b)
  pub widen_first : (ts : List ℤ) (a b : P) (n : ℤ) → D.own a → D.own b → D.has a n → D.has (D.widen ts a b) n
  pub widen_second : (ts : List ℤ) (a b : P) (n : ℤ) → D.own a → D.own b → D.has b n → D.has (D.widen ts a b) n
  pub widen_falls : (ts : List ℤ) (a b : P) → D.own a → D.own b → D.steps_left ts (D.widen ts a b) ≤ D.steps_left ts a
  pub widen_fewer : (ts : List ℤ) (a b : P) → D.own a → D.own b → D.leq b a ≡ false → D.steps_left ts (D.widen ts a b) < D.steps_left ts a
  pub steps_few : (ts : List ℤ) (p : P) → D.own p → D.steps_left ts p ≤ D.bound_count * (length ts + 1)
  -- each number of the second, where it is below the first
  pub narrow_own : (ts : List ℤ) (a b : P) → D.own a → D.own b → D.is_bare (D.narrow ts a b) ≡ false → D.own (D.narrow ts a b)
  pub narrow_has : (ts : List ℤ) (a b : P) (n : ℤ) → D.leq b a ≡ true → D.has b n → D.has (D.narrow ts a b) n
  -- the range of a part
  pub range_in_int : (p : P) → D.own p → IsInInt (D.range p)
  pub range_has : (p : P) (n : ℤ) → D.has p n → Within n (D.range p)
  pub bare_in_int : IsInInt (D.range D.bare)
  pub bare_is_empty : is_empty_range (D.range D.bare) ≡ true
  -- the numbers that lie in a range too, those of a range, and the value of a form
  pub meet_own : (p : P) (r : Range) → D.own p → IsInInt r → D.is_bare (D.meet_range p r) ≡ false → D.own (best_part D (D.meet_range p r))
  pub meet_has : (p : P) (r : Range) (n : ℤ) → D.has p n → Within n r → D.has (D.meet_range p r) n
  pub range_own : (r : Range) → IsInInt r → D.is_bare (D.of_range r) ≡ false → D.own (best_part D (D.of_range r))
  pub in_range : (r : Range) (n : ℤ) → Within n r → D.has (D.of_range r) n
  pub form_own : (ps : List P) (f : Form) (r : Range) → IsInInt r → D.is_bare (D.of_form ps f r) ≡ false → D.own (best_part D (D.of_form ps f r))
  pub form_has : (ps : List P) (f : Form) (r : Range) (s : List ℤ) → IsForm (length ps) f → AllHave D ps s → Within (form_at f s) r → D.has (D.of_form ps f r) (form_at f s)

-- what the laws of exactness rest on
pub record PartExactness {P : Type 0} (D : PartMeaning P) : Type 0 where
  -- only numbers of the part that lie in the range, only those of the range, and, where the second is below the first, only those of the first
  pub meet_only : (p : P) (r : Range) (n : ℤ) → D.is_bare (D.meet_range p r) ≡ false → D.has (D.meet_range p r) n → D.has p n × Within n r
  pub range_only : (r : Range) (n : ℤ) → D.has (D.of_range r) n → Within n r
  pub narrow_only : (ts : List ℤ) (a b : P) (n : ℤ) → D.leq b a ≡ true → D.has (D.narrow ts a b) n → D.has a n
  -- a part by its best bounds is below each that has its numbers, and the join of two such is the least above both
  pub inside_leq : (a b : P) → D.own a → ((n : ℤ) → D.has (best_part D a) n → D.has b n) → D.leq (best_part D a) b ≡ true
  pub join_best : (a b : P) → D.own a → D.own b → best_part D (D.join (best_part D a) (best_part D b)) ≡ D.join (best_part D a) (best_part D b)
  pub join_least : (a b c : P) → D.own a → D.own b → D.leq a c ≡ true → D.leq b c ≡ true → D.leq (D.join a b) c ≡ true
