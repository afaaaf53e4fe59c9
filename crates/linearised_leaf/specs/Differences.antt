-- What an assignment of a form that has the variable itself, as `x = x + y` or `x = 2 * x - y + 3`, says of the variable and each other term
-- with 1 or -1: their difference is the rest of the form, which lies in the range that it had before, at the old value of the variable.
use Rattle.std.specs.Prelude.{ℕ, nat_eq, nat_lt, ℤ, pos, negsuc, ◌-ℤ◌, Bool, not, ◌&&◌, if◌then◌else◌, List, [], ◌∷◌, Option, Some, None}
use Rattle.leaf_domain.specs.declared.form.Form.{Form}
use Rattle.leaf_domain.specs.Forms.{multiple_form}
use Rattle.leaf_domain.specs.Sums.{kept_number}
use Rattle.leaf_domain.specs.Leaves.{LeafValue, LeafMeaning, is_nothing_of}
use Rattle.linearised_leaf.specs.LeastValues.{least_term, least_value}
use Rattle.linearised_leaf.specs.Sides.{is_unit, met_pair}

-- another variable, times 1 or -1
abbrev pub is_other_unit : ℕ → ℕ × ℤ → Bool
is_other_unit x t = not (nat_eq x t.0) && is_unit t.1

-- two terms and a constant being at most 0, the lower variable first
abbrev pub met_in_order : LeafMeaning → LeafValue → Option ℤ → ℕ × ℤ → ℕ × ℤ → LeafValue
met_in_order M w o t u = if nat_lt t.0 u.0 then met_pair M w o t u else met_pair M w o u t

-- the terms of a form: v is the leaf before, n the form's least value there, and `own` is the variable times 1 or -1, so that its new value
-- is the form's negated
module _ (M : LeafMeaning) (v : LeafValue) (n : ℤ) (own : ℕ × ℤ) where
  -- a term and the least value of the rest of the form are at most the form
  abbrev pub difference_met : ℕ × ℤ → LeafValue → LeafValue
  difference_met t w = if is_other_unit own.0 t then met_in_order M w (kept_number (n -ℤ least_term M v t)) own t else w

  -- each term
  abbrev pub differences_met : List (ℕ × ℤ) → LeafValue → LeafValue
  differences_met [] w = w
  differences_met (t ∷ ts) w = differences_met ts (difference_met t w)

-- each term of a form that is the negated new value of `own`
abbrev pub form_met : LeafMeaning → LeafValue → ℕ × ℤ → Form → LeafValue → LeafValue
form_met M v own f w = differences_met M v (least_value M v f (pos 0)) own f.terms w

-- the same of the negated form, where there is one, which is the negated variable
abbrev pub negated_met : LeafMeaning → LeafValue → ℕ → Option Form → LeafValue → LeafValue
negated_met M v x None w = w
negated_met M v x (Some g) w = form_met M v (x, pos 1) g w

-- w, which is the leaf v with a variable set to a form, met with what the form says of the variable and of each other term
unfoldable pub set_met : LeafMeaning → LeafValue → ℕ → Form → LeafValue → LeafValue
set_met M v x f w =
    if is_nothing_of w then w else negated_met M v x (multiple_form (negsuc 0) (Some f)) (form_met M v (x, negsuc 0) f w)
