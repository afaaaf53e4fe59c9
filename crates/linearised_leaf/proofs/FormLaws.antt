-- The values of the forms that linearising meets, and that they are forms.
use Rattle.std.proofs.Common.{◌≡◌, ℕ, ◌+◌, ◌<◌, ◌≤◌, ℤ, pos, negsuc, neg_ℤ, ◌+ℤ◌, ◌-ℤ◌, ◌*ℤ◌, Bool, true, false, ◌&&◌, if◌then◌else◌, List, [], ◌∷◌, Option, Some, None, IfSome, subst, arith}
use Rattle.std.proofs.lemmas.Int.{ints}
use Rattle.leaf_domain.specs.declared.form.Form.{Form}
use Rattle.leaf_domain.specs.Forms.{AreTerms, IsForm, form_at, terms_at, form_by, multiple_form, kept_form, is_form_number, are_form_numbers}
use Rattle.leaf_domain.specs.Sums.{HasForm}
use Rattle.leaf_domain.specs.Leaves.{at_store}
use Rattle.leaf_domain.proofs.FormLemmas.{Rises, rises_of, kept_is_form, multiple_is_form}
use Rattle.linear_terms.specs.Terms.{terms_sum, terms_by}
use Rattle.linear_terms.proofs.Values.{terms_sum_at, terms_by_at}
use Rattle.linear_terms.proofs.Sums.{terms_sum_rises}
use Rattle.linear_terms.proofs.Bounds.{terms_sum_below}
use Rattle.linearised_leaf.specs.Tightened.{form_less_variable}

-- ---- values of forms
kept_by : (t : Bool) (f g : Form) (P : Form → Type 0) → (if t then Some f else None) ≡ Some g → P f → P g
kept_by true f g P e h = subst P (same f g e) h
  where
    same : (f g : Form) → Some f ≡ Some g → f ≡ g
    same f g e = cc
kept_by false f g P e h = cc

-- the form that is kept is the form
pub kept_value : (f g : Form) (s : List ℤ) (n : ℤ) → kept_form f ≡ Some g → form_at f s ≡ n → form_at g s ≡ n
kept_value f g s n e h = kept_by (are_form_numbers f.terms && is_form_number f.constant) f g (λ k. form_at k s ≡ n) e h

pub negated_value : (f g : Form) (s : List ℤ) → multiple_form (negsuc 0) (Some f) ≡ Some g → form_at g s ≡ neg_ℤ (form_at f s)
negated_value f g s e =
    kept_value (form_by (negsuc 0) f) g s (neg_ℤ (form_at f s)) e
    (minus (terms_at (terms_by (negsuc 0) f.terms) s) (terms_at f.terms s) f.constant (terms_by_at s (negsuc 0) f.terms))
  where
    minus : (x a c : ℤ) → x ≡ a *ℤ negsuc 0 → x +ℤ (c *ℤ negsuc 0) ≡ neg_ℤ (a +ℤ c)
    minus x a c e = omega (arith, ints, e)

pub less_value : (x : ℕ) (f g : Form) (s : List ℤ) → form_less_variable x f ≡ Some g → form_at g s ≡ form_at f s -ℤ at_store s x
less_value x f g s e =
    kept_value (record { terms = terms_sum ((x, negsuc 0) ∷ []) f.terms; constant = f.constant }) g s (form_at f s -ℤ at_store s x) e
    (minus (terms_at (terms_sum ((x, negsuc 0) ∷ []) f.terms) s) (at_store s x) (terms_at f.terms s) f.constant (terms_sum_at s ((x, negsuc 0) ∷ []) f.terms))
  where
    minus : (t a b c : ℤ) → t ≡ ((negsuc 0 *ℤ a) +ℤ pos 0) +ℤ b → t +ℤ c ≡ (b +ℤ c) -ℤ a
    minus t a b c e = omega (arith, ints, e)

-- ---- forms
some_is : {X : Type 0} (o : Option X) (x : X) (P : X → Type 0) → IfSome o P → o ≡ Some x → P x
some_is o x P h e = subst (λ q. IfSome q P) e h

pub negated_is : (count : ℕ) (f g : Form) → IsForm count f → multiple_form (negsuc 0) (Some f) ≡ Some g → IsForm count g
negated_is count f g i e = some_is (multiple_form (negsuc 0) (Some f)) g (IsForm count) (multiple_is_form count (negsuc 0) (Some f) i) e

pub less_has : (count x : ℕ) (f : Form) → x < count → IsForm count f → HasForm count (form_less_variable x f)
less_has count x f l i =
    let r : Rises count f.terms = rises_of count f.terms i.terms in
    let one : Rises count ((x, negsuc 0) ∷ []) = record { rising = (omega arith, (λ e. omega (arith, ints, e)), tt); below = (l, tt) } in
    kept_is_form count (record { terms = terms_sum ((x, negsuc 0) ∷ []) f.terms; constant = f.constant })
    (record { rising = terms_sum_rises 0 ((x, negsuc 0) ∷ []) f.terms one.rising r.rising; below = terms_sum_below count ((x, negsuc 0) ∷ []) f.terms one.below r.below })

pub less_is : (count x : ℕ) (f g : Form) → x < count → IsForm count f → form_less_variable x f ≡ Some g → IsForm count g
less_is count x f g l i e = some_is (form_less_variable x f) g (IsForm count) (less_has count x f l i) e

-- over more variables
terms_more : (from n m : ℕ) (ts : List (ℕ × ℤ)) → n ≤ m → AreTerms from n ts → AreTerms from m ts
terms_more from n m [] l a = tt
terms_more from n m (t ∷ ts) l a = let p : t.0 < n = a.1 in (a.0, omega (arith, p, l), a.2, a.3, terms_more (t.0 + 1) n m ts l a.4)

pub form_more : (n m : ℕ) (f : Form) → n ≤ m → IsForm n f → IsForm m f
form_more n m f l i = record { terms = terms_more 0 n m f.terms l i.terms; constant = i.constant }
