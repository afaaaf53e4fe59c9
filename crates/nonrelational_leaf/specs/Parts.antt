-- What is known of one variable, and what the operations on it mean.
use Rattle.std.specs.Prelude.{ℕ, ℤ, Bool, List, Option}
use Rattle.leaf_domain.specs.declared.form.Form.{Form}
use Rattle.leaf_domain.specs.declared.range.Range.{Range}

-- a domain of one variable, whose elements are the parts of a leaf
pub record PartMeaning (P : Type 0) : Type 1 where
  -- the parts that leaves have, and the numbers of a part
  pub own : P → Type 0
  pub has : P → ℤ → Type 0
  -- parts as plain numbers, and back
  pub numbers : List P → List ℤ
  pub parts : List ℤ → List P
  pub point : ℤ → P
  -- a part that has no number, and whether one has none
  pub bare : P
  pub is_bare : P → Bool
  -- the same numbers by the bounds that are best, where a part may have others
  pub reduction : Option (P → P)
  pub leq : P → P → Bool
  pub join : P → P → P
  pub widen : List ℤ → P → P → P
  pub narrow : List ℤ → P → P → P
  -- how many bounds a part has, and how many steps these can still take
  pub bound_count : ℕ
  pub steps_left : List ℤ → P → ℕ
  pub range : P → Range
  pub meet_range : P → Range → P
  pub of_range : Range → P
  -- the value of a form, which lies in the range, where the variables have these parts
  pub of_form : List P → Form → Range → P
