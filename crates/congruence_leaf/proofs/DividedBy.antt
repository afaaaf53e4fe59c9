-- The divisor that the code finds is that of the definition, and functions have the divisors that they need.
use Rattle.std.proofs.Common.{◌≡◌, ℕ, ℤ, pos, negsuc, ◌≤◌, ◌≤ℤ◌, unsigned_abs, Bool, true, false, ◌&&◌, if◌then◌else◌, List, [], ◌∷◌, Option, Some, None, IfSome, to_z, of_z, w64, refl, ap, sym, subst, ◌∙◌, arith}
use Rattle.std.proofs.lemmas.Int.{ints}
use Rattle.leaf_domain.specs.declared.form.Form.{Form}
use Rattle.leaf_domain.specs.Forms.{IsFormNumber, has_no_term}
use Rattle.congruence_leaf.specs.declared.functions.Function.{Function}
use Rattle.congruence_leaf.specs.Congruences.{is_divisor, divisor_of, quotient_by, remainder_by, HasDivisor}
use Rattle.congruence_leaf.specs.Laws.Results.{divisor_told}

pub number_back : (n : ℤ) → IsFormNumber n → to_z w64 (of_z w64 n) ≡ n
number_back n h =
    let p : negsuc 1099511627775 ≤ℤ n = h.low in
    let q : n ≤ℤ pos 1099511627776 = h.high in
    omega (arith, ints)

pub number_small : (n : ℤ) → IsFormNumber n → unsigned_abs n ≤ 1099511627776
number_small n h =
    let p : negsuc 1099511627775 ≤ℤ n = h.low in
    let q : n ≤ℤ pos 1099511627776 = h.high in
    omega (arith, ints)

by_terms : (f : Form) (t : Bool) → has_no_term f.terms ≡ true → is_divisor f.constant ≡ t → divisor_of f ≡ (if t then Some f.constant else None)
unfolding divisor_of
by_terms f t e g = ap (λ b. if b && is_divisor f.constant then Some f.constant else None) e ∙ ap (λ b. if b then Some f.constant else None) g

no_term : (us ts : List (ℕ × ℤ)) → us ≡ ts → us ≡ [] → has_no_term ts ≡ true
no_term us ts e f = subst (λ xs. has_no_term xs ≡ true) (sym f ∙ e) refl

pub divisor_some : (f : Form) (us : List (ℕ × ℤ)) (t : Bool) (y : ℤ) → us ≡ f.terms → us ≡ [] → t ≡ is_divisor y → t ≡ true → y ≡ f.constant → Some y ≡ divisor_of f
divisor_some f us t y e g h i j =
    ap (λ n. Some n) j ∙ sym (by_terms f true (no_term us f.terms e g) (sym (ap is_divisor j) ∙ sym h ∙ i))

pub divisor_none : (f : Form) (us : List (ℕ × ℤ)) (t : Bool) (y : ℤ) → us ≡ f.terms → us ≡ [] → t ≡ is_divisor y → t ≡ false → y ≡ f.constant → None ≡ divisor_of f
divisor_none f us t y e g h i j = sym (by_terms f false (no_term us f.terms e g) (sym (ap is_divisor j) ∙ sym h ∙ i))

pub divisor_more : (f : Form) (us vs : List (ℕ × ℤ)) (x : ℕ) (a : ℤ) → us ≡ f.terms → us ≡ (x, a) ∷ vs → None ≡ divisor_of f
unfolding divisor_of
divisor_more f us vs x a e g = ap (λ b. if b && is_divisor f.constant then Some f.constant else None) (subst (λ ts. false ≡ has_no_term ts) (sym g ∙ e) refl)

-- a function by a divisor that was found has the divisor that it needs
pub quotient_divisor : (f : Form) (o : Option ℤ) (r : Option Function) → o ≡ divisor_of f → r ≡ quotient_by o → IfSome r HasDivisor
quotient_divisor f None r e g = subst (λ x. IfSome x HasDivisor) (sym g) tt
quotient_divisor f (Some m) r e g = let d = divisor_told f m (sym e) in subst (λ x. IfSome x HasDivisor) (sym g) (d.int, d.some)

pub remainder_divisor : (f : Form) (o : Option ℤ) (r : Option Function) → o ≡ divisor_of f → r ≡ remainder_by o → IfSome r HasDivisor
remainder_divisor f None r e g = subst (λ x. IfSome x HasDivisor) (sym g) tt
remainder_divisor f (Some m) r e g = let d = divisor_told f m (sym e) in subst (λ x. IfSome x HasDivisor) (sym g) (d.int, d.some)
