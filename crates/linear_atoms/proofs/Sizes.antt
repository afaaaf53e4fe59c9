-- Forms whose terms and constant are small.
use Rattle.std.proofs.Common.{◌≡◌, ℕ, ℤ, true, ◌&&◌, List, ap, refl, ◌∙◌}
use Rattle.linear_atoms.specs.declared.forms.Linear.{Linear}
use Rattle.linear_atoms.specs.Forms.{is_small, are_small, is_small_form}

pub made_small : (a : Linear) (ts : List (ℕ × ℤ)) (k : ℤ) → (ts ≡ a.terms) × (are_small a.terms ≡ true) → k ≡ a.constant → is_small a.constant ≡ true → (record { terms = ts; constant = k } ≡ a) × (is_small_form a ≡ true)
made_small a ts k e f s = (rw (e.0, f) refl, ap (λ b. b && is_small a.constant) e.1 ∙ s)
