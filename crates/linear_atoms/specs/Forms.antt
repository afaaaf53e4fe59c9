-- Linear forms over features: terms by rising feature number, no coefficient 0, and a constant.
use Rattle.std.specs.Prelude.{◌≡◌, ⊤, ℕ, ℤ, pos, ◌+ℤ◌, ◌*ℤ◌, Bool, true, false, ◌&&◌, List, [], ◌∷◌, Result, Ok, Err}
use Rattle.linear_atoms.specs.declared.forms.Linear.{Linear}
use Rattle.linear_atoms.specs.declared.linear_fault.LinearFault.{LinearFault}
use Rattle.linear_atoms.specs.declared.linear_fault.LinearFault.TheVariants as faults
use Rattle.linear_terms.specs.Terms.{is_within, are_within}
pub use Rattle.linear_terms.specs.Terms.{RisesFrom, IsRising, sum_at, one, placed, with_term, terms_sum, terms_by}

-- the value at the values of the features
abbrev pub form_at : Linear → List ℤ → ℤ
form_at form values = sum_at form.terms values +ℤ form.constant

-- ---- sums and multiples

abbrev pub constant_form : ℤ → Linear
constant_form n = record { terms = []; constant = n }

abbrev pub feature_form : ℕ → Linear
feature_form n = record { terms = (n, pos 1) ∷ []; constant = pos 0 }

abbrev pub form_sum : Linear → Linear → Linear
form_sum a b = record { terms = terms_sum a.terms b.terms; constant = a.constant +ℤ b.constant }

abbrev pub form_by : ℤ → Linear → Linear
form_by k a = record { terms = terms_by k a.terms; constant = a.constant *ℤ k }

-- ---- sizes

-- at most 2^31 in size
abbrev pub is_small : ℤ → Bool
is_small n = is_within 2147483648 n

-- no coefficient passes 2^31 in size
abbrev pub are_small : List (ℕ × ℤ) → Bool
are_small ts = are_within 2147483648 ts

-- no number of the form passes 2^31 in size
abbrev pub is_small_form : Linear → Bool
is_small_form a = are_small a.terms && is_small a.constant

-- the form, where no number of it is too large; and TooLarge where one is
abbrev pub FormsWithin : Result Linear LinearFault → Linear → Type 0
FormsWithin (Ok made) a = (made ≡ a) × (is_small_form a ≡ true)
FormsWithin (Err faults.NoMemory) a = ⊤
FormsWithin (Err faults.TooLarge) a = is_small_form a ≡ false

abbrev pub NumberWithin : Result ℤ LinearFault → ℤ → Type 0
NumberWithin (Ok made) n = (made ≡ n) × (is_small n ≡ true)
NumberWithin (Err faults.NoMemory) n = ⊥
NumberWithin (Err faults.TooLarge) n = is_small n ≡ false
