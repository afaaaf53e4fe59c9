-- What the parts of the arithmetic of forms answer.
use Rattle.std.specs.Prelude.{ℕ, ℤ, List, Option, Some, None, IfSome}
use Rattle.leaf_domain.specs.declared.form.Form.{Form}
use Rattle.leaf_domain.specs.Forms.{IsForm}
use Rattle.linear_terms.specs.Terms.{number_within}

-- the number, where it does not pass 2^40 in size
abbrev pub kept_number : ℤ → Option ℤ
kept_number n = number_within 1099511627776 n

-- a form over so many variables, where there is one
abbrev pub HasForm : ℕ → Option Form → Type 0
HasForm count f = IfSome f (IsForm count)

-- the form of these terms and this constant, where there are both
abbrev pub formed : Option (List (ℕ × ℤ)) → Option ℤ → Option Form
formed (Some ts) (Some n) = Some (record { terms = ts; constant = n })
formed ts n = None
