-- Sums and multiples of rising terms rise, and the form of an expression is a form over its variables.
use Rattle.std.proofs.Common.{◌≡◌, ℕ, suc, ◌+◌, ◌<◌, ◌≤◌, ℤ, negsuc, unsigned_abs, Bool, true, false, ◌&&◌, if◌then◌else◌, List, [], ◌∷◌, subst, refl, arith, Option, Some, None, IfOk, Result, Ok, Err}
use Rattle.std.proofs.lemmas.Bool.Decides.{nat_tests}
use Rattle.std.proofs.lemmas.Int.{ints}
use Rattle.fam_outer.specs.declared.text.NoMemory.{NoMemory}
use Rattle.c_tree.specs.declared.tree.Op.{Op}
use Rattle.c_tree.specs.declared.tree.Op.TheVariants.{Add, Sub, Mul, Div, Rem, Lt, Le, Gt, Ge, Eq, Ne, And, Or}
use Rattle.c_tree.specs.Tree.{Term, Number, Var, Neg, Not, Binary}
use Rattle.c_tree.specs.Fit.{IsTermOf}
use Rattle.leaf_domain.specs.declared.form.Form.{Form}
use Rattle.leaf_domain.specs.declared.operation.Operation.{Operation}
use Rattle.leaf_domain.specs.Operations.{HasOperation, operation_where, operation_if, kept_operation}
use Rattle.linear_terms.specs.Terms.{RisesFrom, IsRising, AreBelow, terms_sum, terms_by}
use Rattle.linear_terms.proofs.Bounds.{terms_sum_below, terms_by_below}
use Rattle.linear_terms.proofs.Sums.{rises_lower, terms_sum_rises, terms_by_rises}
use Rattle.leaf_domain.specs.Forms.{IsFormNumber, AreTerms, IsForm, constant_form, variable_form, form_sum, form_by, is_form_number, are_form_numbers, kept_form, sum_form, multiple_form, difference_form, has_no_term, product_form, binary_form, form_of_term}
use Rattle.leaf_domain.specs.Sums.{HasForm}
use Rattle.leaf_domain.specs.Soundness.{FormsAreForms}

-- ---- terms over variables, whatever the size of their coefficients

-- the terms rise, and their variables are below a count
pub record Rises (count : ℕ) (ts : List (ℕ × ℤ)) : Type 0 where
  pub rising : IsRising ts
  pub below : AreBelow count ts

rising_of : (from count : ℕ) (ts : List (ℕ × ℤ)) → AreTerms from count ts → RisesFrom from ts
rising_of from count [] r = tt
rising_of from count (t ∷ ts) r = (r.0, r.2, rises_lower (t.0 + 1) (suc t.0) ts (omega arith) (rising_of (t.0 + 1) count ts r.4))

below_of : (from count : ℕ) (ts : List (ℕ × ℤ)) → AreTerms from count ts → AreBelow count ts
below_of from count [] r = tt
below_of from count (t ∷ ts) r = (r.1, below_of (t.0 + 1) count ts r.4)

pub rises_of : (count : ℕ) (ts : List (ℕ × ℤ)) → AreTerms 0 count ts → Rises count ts
rises_of count ts r = record { rising = rising_of 0 count ts r; below = below_of 0 count ts r }

pub form_rises : (count : ℕ) (f : Form) → IsForm count f → IsRising f.terms
form_rises count f h = rising_of 0 count f.terms h.terms

sum_rises : (count : ℕ) (ts us : List (ℕ × ℤ)) → Rises count ts → Rises count us → Rises count (terms_sum ts us)
sum_rises count ts us r q = record { rising = terms_sum_rises 0 ts us r.rising q.rising; below = terms_sum_below count ts us r.below q.below }

multiple_rises : (k : ℤ) (count : ℕ) (ts : List (ℕ × ℤ)) → Rises count ts → Rises count (terms_by k ts)
multiple_rises k count ts r = record { rising = terms_by_rises k 0 ts r.rising; below = terms_by_below k count ts r.below }

-- ---- the test of sizes

both : (a b : Bool) → (a && b) ≡ true → (a ≡ true) × (b ≡ true)
both true true e = (refl, refl)
both true false e = cc
both false b e = cc

size_is : (n : ℤ) → is_form_number n ≡ true → unsigned_abs n ≤ 1099511627776
size_is n e = grind (arith, nat_tests)

pub number_is : (n : ℤ) → is_form_number n ≡ true → IsFormNumber n
number_is n e = let p = size_is n e in record { low = omega (arith, ints); high = omega (arith, ints) }

terms_are : (from count : ℕ) (ts : List (ℕ × ℤ)) → RisesFrom from ts → AreBelow count ts → are_form_numbers ts ≡ true → AreTerms from count ts
terms_are from count [] r b e = tt
terms_are from count (t ∷ ts) r b e =
    let p = both (is_form_number t.1) (are_form_numbers ts) e in
    (r.0, b.0, r.1, number_is t.1 p.0, terms_are (t.0 + 1) count ts (rises_lower (suc t.0) (t.0 + 1) ts (omega arith) r.2) b.1 p.1)

kept_by : (b : Bool) (count : ℕ) (f : Form) → (are_form_numbers f.terms && is_form_number f.constant) ≡ b → Rises count f.terms → HasForm count (if b then Some f else None)
kept_by true count f e r =
    let p = both (are_form_numbers f.terms) (is_form_number f.constant) e in
    record { terms = terms_are 0 count f.terms r.rising r.below p.0; constant = number_is f.constant p.1 }
kept_by false count f e r = tt

pub kept_is_form : (count : ℕ) (f : Form) → Rises count f.terms → HasForm count (kept_form f)
kept_is_form count f r = kept_by (are_form_numbers f.terms && is_form_number f.constant) count f refl r

-- ---- operations on forms

pub sum_is_form : (count : ℕ) (f g : Option Form) → HasForm count f → HasForm count g → HasForm count (sum_form f g)
sum_is_form count None g h k = tt
sum_is_form count (Some f) None h k = tt
sum_is_form count (Some f) (Some g) h k = kept_is_form count (form_sum f g) (sum_rises count f.terms g.terms (rises_of count f.terms h.terms) (rises_of count g.terms k.terms))

pub multiple_is_form : (count : ℕ) (k : ℤ) (f : Option Form) → HasForm count f → HasForm count (multiple_form k f)
multiple_is_form count k None h = tt
multiple_is_form count k (Some f) h = kept_is_form count (form_by k f) (multiple_rises k count f.terms (rises_of count f.terms h.terms))

pub difference_is_form : (count : ℕ) (f g : Option Form) → HasForm count f → HasForm count g → HasForm count (difference_form f g)
difference_is_form count f g h k = sum_is_form count f (multiple_form (negsuc 0) g) h (multiple_is_form count (negsuc 0) g k)

choice : (b : Bool) (count : ℕ) (f g : Option Form) → HasForm count f → HasForm count g → HasForm count (if b then f else g)
choice true count f g h k = h
choice false count f g h k = k

pub product_is_form : (count : ℕ) (f g : Option Form) → HasForm count f → HasForm count g → HasForm count (product_form f g)
product_is_form count None g h k = tt
product_is_form count (Some f) None h k = tt
product_is_form count (Some f) (Some g) h k =
    choice (has_no_term f.terms) count (multiple_form f.constant (Some g)) (if has_no_term g.terms then multiple_form g.constant (Some f) else None)
    (multiple_is_form count f.constant (Some g) k)
    (choice (has_no_term g.terms) count (multiple_form g.constant (Some f)) None (multiple_is_form count g.constant (Some f) h) tt)

pub binary_is_form : (count : ℕ) (op : Op) (f g : Option Form) → HasForm count f → HasForm count g → HasForm count (binary_form op f g)
binary_is_form count Add f g h k = sum_is_form count f g h k
binary_is_form count Sub f g h k = difference_is_form count f g h k
binary_is_form count Mul f g h k = product_is_form count f g h k
binary_is_form count Div f g h k = tt
binary_is_form count Rem f g h k = tt
binary_is_form count Lt f g h k = tt
binary_is_form count Le f g h k = tt
binary_is_form count Gt f g h k = tt
binary_is_form count Ge f g h k = tt
binary_is_form count Eq f g h k = tt
binary_is_form count Ne f g h k = tt
binary_is_form count And f g h k = tt
binary_is_form count Or f g h k = tt

pub constant_is_form : (count : ℕ) (n : ℤ) → HasForm count (kept_form (constant_form n))
constant_is_form count n = kept_is_form count (constant_form n) (record { rising = tt; below = tt })

variable_is_form : (count x : ℕ) → x < count → IsForm count (variable_form x)
variable_is_form count x h = record {
  terms = (omega arith, h, (λ e. omega (arith, ints)), record { low = omega (arith, ints); high = omega (arith, ints) }, tt);
  constant = record { low = omega (arith, ints); high = omega (arith, ints) };
}

-- the form of an expression over so many variables
pub term_is_form : (count : ℕ) (e : Term) → IsTermOf count e → HasForm count (form_of_term e)
term_is_form count (Number n) h = constant_is_form count n
term_is_form count (Var x) h = variable_is_form count x h
term_is_form count (Neg a) h = multiple_is_form count (negsuc 0) (form_of_term a) (term_is_form count a h)
term_is_form count (Not a) h = tt
term_is_form count (Binary op a b) h = binary_is_form count op (form_of_term a) (form_of_term b) (term_is_form count a h.0) (term_is_form count b h.1)

pub forms_are_forms : FormsAreForms
forms_are_forms count e f h i = subst (λ o. HasForm count o) i (term_is_form count e h)

-- what is known of the form that a function answers for an expression
pub answered_form : (r : Result (Option Form) NoMemory) (e : Term) → IfOk r (λ f. f ≡ form_of_term e) → (count : ℕ) → IsTermOf count e → IfOk r (HasForm count)
answered_form (Ok f) e i count h = rw i (term_is_form count e h)
answered_form (Err fault) e i count h = tt

pub more_variables : (n m : ℕ) (e : Term) → n ≤ m → IsTermOf n e → IsTermOf m e
more_variables n m (Number k) l h = h
more_variables n m (Var x) l h = let i : x < n = h in let g : x < m = omega arith in g
more_variables n m (Neg a) l h = more_variables n m a l h
more_variables n m (Not a) l h = more_variables n m a l h
more_variables n m (Binary op a b) l h = (more_variables n m a l h.0, more_variables n m b l h.1)

pub answered_difference : (count : ℕ) (r : Result (Option Form) NoMemory) (f g : Option Form) → IfOk r (λ k. k ≡ difference_form f g) → HasForm count f → HasForm count g → IfOk r (HasForm count)
answered_difference count (Ok k) f g i h j = rw i (difference_is_form count f g h j)
answered_difference count (Err fault) f g i h j = tt

-- ---- operations

pub where_is_operation : (count : ℕ) (t : Bool) (op : Op) (g h : Option Form) → HasForm count g → HasForm count h → HasOperation count (operation_where t op g h)
where_is_operation count true op (Some g) (Some h) i j = record { left = i; right = j }
where_is_operation count true op (Some g) None i j = tt
where_is_operation count true op None h i j = tt
where_is_operation count false op g h i j = tt

if_is_operation : (count : ℕ) (t : Bool) (p : Option Operation) → HasOperation count p → HasOperation count (operation_if t p)
if_is_operation count true None h = tt
if_is_operation count false None h = tt
if_is_operation count true (Some p) h = h
if_is_operation count false (Some p) h = tt

pub kept_is_operation : (count : ℕ) (op : Op) (t : Bool) (p : Option Operation) → HasOperation count p → HasOperation count (kept_operation op t p)
kept_is_operation count Div t p h = h
kept_is_operation count Rem t p h = h
kept_is_operation count Add t p h = if_is_operation count t p h
kept_is_operation count Sub t p h = if_is_operation count t p h
kept_is_operation count Mul t p h = if_is_operation count t p h
kept_is_operation count Lt t p h = if_is_operation count t p h
kept_is_operation count Le t p h = if_is_operation count t p h
kept_is_operation count Gt t p h = if_is_operation count t p h
kept_is_operation count Ge t p h = if_is_operation count t p h
kept_is_operation count Eq t p h = if_is_operation count t p h
kept_is_operation count Ne t p h = if_is_operation count t p h
kept_is_operation count And t p h = if_is_operation count t p h
kept_is_operation count Or t p h = if_is_operation count t p h
