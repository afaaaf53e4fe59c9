-- Linear forms in the variables of a program.
use Rattle.std.specs.Prelude.{◌≢◌, ℕ, ◌+◌, ◌<◌, ◌≤◌, ℤ, pos, negsuc, ◌+ℤ◌, ◌*ℤ◌, ◌≤ℤ◌, Bool, true, false, ◌&&◌, if◌then◌else◌, List, [], ◌∷◌, Option, Some, None, ⊤}
use Rattle.c_tree.specs.declared.tree.Op.{Op}
use Rattle.c_tree.specs.declared.tree.Op.TheVariants.{Add, Sub, Mul}
use Rattle.c_tree.specs.Tree.{Term, Number, Var, Neg, Not, Binary}
use Rattle.leaf_domain.specs.declared.form.Form.{Form}
use Rattle.linear_terms.specs.Terms.{sum_at, terms_sum, terms_by, is_within, are_within}

-- the sum of the terms at a store
abbrev pub terms_at : List (ℕ × ℤ) → List ℤ → ℤ
terms_at ts s = sum_at ts s

-- the value of a form at a store
abbrev pub form_at : Form → List ℤ → ℤ
form_at f s = terms_at f.terms s +ℤ f.constant

-- a number of a form is at most 2^40 in size
pub record IsFormNumber (n : ℤ) : Type 0 where
  pub low : negsuc 1099511627775 ≤ℤ n
  pub high : n ≤ℤ pos 1099511627776

-- terms of variables from one on and below a count, by rising numbers, no coefficient 0
abbrev pub AreTerms : ℕ → ℕ → List (ℕ × ℤ) → Type 0
AreTerms from count [] = ⊤
AreTerms from count (t ∷ ts) = (from ≤ t.0) × (t.0 < count) × (t.1 ≢ pos 0) × IsFormNumber t.1 × AreTerms (t.0 + 1) count ts

-- a form over so many variables
pub record IsForm (count : ℕ) (f : Form) : Type 0 where
  pub terms : AreTerms 0 count f.terms
  pub constant : IsFormNumber f.constant

-- ---- sums and multiples

abbrev pub constant_form : ℤ → Form
constant_form n = record { terms = []; constant = n }

abbrev pub variable_form : ℕ → Form
variable_form x = record { terms = (x, pos 1) ∷ []; constant = pos 0 }

abbrev pub form_sum : Form → Form → Form
form_sum f g = record { terms = terms_sum f.terms g.terms; constant = f.constant +ℤ g.constant }

abbrev pub form_by : ℤ → Form → Form
form_by k f = record { terms = terms_by k f.terms; constant = f.constant *ℤ k }

-- ---- the form of an expression

-- at most 2^40 in size
abbrev pub is_form_number : ℤ → Bool
is_form_number n = is_within 1099511627776 n

-- no coefficient passes 2^40 in size
abbrev pub are_form_numbers : List (ℕ × ℤ) → Bool
are_form_numbers ts = are_within 1099511627776 ts

-- the form, where none of its numbers passes 2^40 in size
abbrev pub kept_form : Form → Option Form
kept_form f = if are_form_numbers f.terms && is_form_number f.constant then Some f else None

abbrev pub sum_form : Option Form → Option Form → Option Form
sum_form (Some f) (Some g) = kept_form (form_sum f g)
sum_form f g = None

abbrev pub multiple_form : ℤ → Option Form → Option Form
multiple_form k (Some f) = kept_form (form_by k f)
multiple_form k None = None

abbrev pub difference_form : Option Form → Option Form → Option Form
difference_form f g = sum_form f (multiple_form (negsuc 0) g)

abbrev pub has_no_term : List (ℕ × ℤ) → Bool
has_no_term [] = true
has_no_term (t ∷ ts) = false

-- a product in which one side's form has no term
abbrev pub product_of : Form → Form → Option Form
product_of f g =
    if has_no_term f.terms then multiple_form f.constant (Some g) else (if has_no_term g.terms then multiple_form g.constant (Some f) else None)

abbrev pub product_form : Option Form → Option Form → Option Form
product_form (Some f) (Some g) = product_of f g
product_form f g = None

abbrev pub binary_form : Op → Option Form → Option Form → Option Form
binary_form Add f g = sum_form f g
binary_form Sub f g = difference_form f g
binary_form Mul f g = product_form f g
binary_form op f g = None

-- the linear form of an expression; none where it is not linear, or a number on the way passes 2^40 in size
abbrev pub form_of_term : Term → Option Form
form_of_term (Number n) = kept_form (constant_form n)
form_of_term (Var x) = Some (variable_form x)
form_of_term (Neg a) = multiple_form (negsuc 0) (form_of_term a)
form_of_term (Not a) = None
form_of_term (Binary op a b) = binary_form op (form_of_term a) (form_of_term b)
