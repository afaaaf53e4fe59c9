-- Forms of two variables are forms.
use Rattle.std.proofs.Common.{◌≢◌, ◌<◌, ℕ, ℤ, pos, negsuc, sym, subst, arith, inl, inr}
use Rattle.std.proofs.lemmas.Int.{ints}
use Rattle.leaf_domain.specs.Forms.{IsForm, IsFormNumber}
use Rattle.alarm_report.specs.Forming.{IsSign}
use Rattle.alarm_report.specs.LeafTexts.{pair_form}

one_number : IsFormNumber (pos 1)
one_number = record { low = omega (arith, ints); high = omega (arith, ints) }

zero_number : IsFormNumber (pos 0)
zero_number = record { low = omega (arith, ints); high = omega (arith, ints) }

less_number : IsFormNumber (negsuc 0)
less_number = record { low = omega (arith, ints); high = omega (arith, ints) }

sign_number : (k : ℤ) → IsSign k → IsFormNumber k
sign_number k (inl e) = subst IsFormNumber (sym e) less_number
sign_number k (inr e) = subst IsFormNumber (sym e) one_number

one_nonzero : pos 1 ≢ pos 0
one_nonzero = λ e. omega (arith, ints)

less_nonzero : negsuc 0 ≢ pos 0
less_nonzero = λ e. omega (arith, ints)

sign_nonzero : (k : ℤ) → IsSign k → k ≢ pos 0
sign_nonzero k (inl e) = subst (λ x. x ≢ pos 0) (sym e) less_nonzero
sign_nonzero k (inr e) = subst (λ x. x ≢ pos 0) (sym e) one_nonzero

pub pair_is_form : (n x y : ℕ) (k : ℤ) → x < y → y < n → IsSign k → IsForm n (pair_form x y k)
pair_is_form n x y k before within sign = record {
  terms = (omega arith, omega (arith, before, within), one_nonzero, one_number, (omega (arith, before), within, sign_nonzero k sign, sign_number k sign, tt));
  constant = zero_number;
}
