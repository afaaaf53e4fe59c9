-- Forms as the code makes them.
use Rattle.std.proofs.Common.{◌≡◌, ℕ, ◌<◌, ℤ, negsuc, ◌*ℤ◌, Bool, true, false, not, ◌&&◌, List, [], ◌∷◌, length, Some, Result, Ok, Err, refl, sym, ap, subst, ◌∙◌}
use Rattle.std.proofs.lemmas.Bool.{false≢true}
use Rattle.std.proofs.lemmas.List.{nil_from_length}
use Rattle.std.proofs.Math.IntN.{*ℤ_comm}
use Rattle.linear_atoms.specs.declared.atoms.Feature.{Feature}
use Rattle.linear_atoms.specs.declared.forms.Linear.{Linear}
use Rattle.linear_atoms.specs.declared.linear_fault.LinearFault.{LinearFault}
use Rattle.linear_atoms.specs.declared.linear_fault.LinearFault.TheVariants as faults
use Rattle.linear_atoms.specs.Forms.{feature_form, form_sum, form_by, terms_by, is_small_form, FormsWithin}
use Rattle.cpp_conditions.specs.declared.operators.Operator.{Operator}
use Rattle.cpp_conditions.specs.declared.operators.Operator.TheVariants.{Times, Plus, Minus, Less, AtMost, Greater, AtLeast, Equal, Differs, Both, Either}
use Rattle.cpp_conditions.specs.declared.operators.Prefix.{Prefix}
use Rattle.cpp_conditions.specs.declared.operators.Prefix.TheVariants.{Positive, Negative, Inverse}
use Rattle.cpp_conditions.specs.Expressions.{Expression, Unary, Binary, found}
use Rattle.cpp_conditions.specs.Forming.{IsNumber, IsOver, IsSmallOver, Forms, product_by, combined}
use Rattle.cpp_conditions.specs.Grammar.{are_small_forms, is_small_operator}
use Rattle.cpp_conditions.specs.Meaning.{is_truth, is_linear, names_feature, name_form, difference, form_before, form_between, form}
use Rattle.cpp_conditions.proofs.Meanings.{plain_form}
use Rattle.cpp_conditions.proofs.Sizes.{and_true, and_left, and_right, false_left, false_right, small_negated, over_feature, over_by, over_sum, over_difference, over_small, found_below}

not_true : (a : Bool) → not a ≡ true → a ≡ false
not_true true e = sym e
not_true false e = refl

small_over : (fs : List Feature) (a made : Linear) → IsOver fs a → made ≡ a → is_small_form a ≡ true → IsSmallOver fs made
small_over fs a made o e s = subst (IsSmallOver fs) (sym e) (record { rising = o.rising; below = o.below; small = s })

formed : (fs : List Feature) (a : Linear) (r : Result Linear LinearFault) → IsOver fs a → FormsWithin r a → Forms fs r a (is_small_form a)
formed fs a (Ok made) o w = (w.0, w.1, small_over fs a made o w.0 w.1)
formed fs a (Err faults.NoMemory) o w = tt
formed fs a (Err faults.TooLarge) o w = w

-- ---- leaves

formed_feature : (fs : List Feature) (n : ℕ) (made : Linear) → n < length fs → made ≡ feature_form n → IsSmallOver fs made
formed_feature fs n made h e = small_over fs (feature_form n) made (over_feature fs n h) e refl

pub formed_name : (fs : List Feature) (name : List ℕ) (n : ℕ) (made : Linear) → Some n ≡ found name fs → made ≡ feature_form n → Forms fs (Ok made) (name_form (found name fs)) true
formed_name fs name n made f e = (e ∙ ap name_form f, refl, formed_feature fs n made (found_below name fs n (sym f)) e)

-- ---- operators

pub formed_negative : (fs : List Feature) (u : Prefix) (a : Linear) (r : Result Linear LinearFault) → IsSmallOver fs a → u ≡ Negative → FormsWithin r (form_by (negsuc 0) a) → Forms fs r (form_before u a) (is_small_form (form_before u a))
formed_negative fs u a r o e w = subst (λ v. Forms fs r (form_before v a) (is_small_form (form_before v a))) (sym e) (formed fs (form_by (negsuc 0) a) r (over_by fs (negsuc 0) a (over_small fs a o)) w)

formed_as : (fs : List Feature) (a b : Linear) (r : Result Linear LinearFault) → a ≡ b → Forms fs r a (is_small_form a) → Forms fs r b (is_small_form b)
formed_as fs a b r e f = subst (λ x. Forms fs r x (is_small_form x)) e f

product_empty : (ts : List (ℕ × ℤ)) (a b : Linear) → ts ≡ [] → product_by ts a b ≡ form_by a.constant b
product_empty [] a b e = refl
product_empty (t ∷ ts) a b e = absurd cc

product_full : (ts : List (ℕ × ℤ)) (a b : Linear) → (length ts ≡ 0 → ⊥) → product_by ts a b ≡ form_by b.constant a
product_full [] a b n = absurd (n refl)
product_full (t ∷ ts) a b n = refl

pub formed_product : (fs : List Feature) (a b : Linear) (k : ℤ) (r : Result Linear LinearFault) → IsSmallOver fs b → length a.terms ≡ 0 → k ≡ a.constant → FormsWithin r (form_by k b) → Forms fs r (product_by a.terms a b) (is_small_form (product_by a.terms a b))
formed_product fs a b k r o e is w = formed_as fs (form_by a.constant b) (product_by a.terms a b) r (sym (product_empty a.terms a b (nil_from_length _ e))) (formed fs (form_by a.constant b) r (over_by fs a.constant b (over_small fs b o)) (subst (λ i. FormsWithin r (form_by i b)) is w))

pub formed_multiple : (fs : List Feature) (a b : Linear) (k : ℤ) (r : Result Linear LinearFault) → IsSmallOver fs a → (length a.terms ≡ 0 → ⊥) → k ≡ b.constant → FormsWithin r (form_by k a) → Forms fs r (product_by a.terms a b) (is_small_form (product_by a.terms a b))
formed_multiple fs a b k r o n is w = formed_as fs (form_by b.constant a) (product_by a.terms a b) r (sym (product_full a.terms a b n)) (formed fs (form_by b.constant a) r (over_by fs b.constant a (over_small fs a o)) (subst (λ i. FormsWithin r (form_by i a)) is w))

pub formed_plus : (fs : List Feature) (op : Operator) (a b : Linear) (r : Result Linear LinearFault) → IsSmallOver fs a → IsSmallOver fs b → op ≡ Plus → FormsWithin r (form_sum a b) → Forms fs r (combined op a b) (is_small_form (combined op a b))
formed_plus fs op a b r o p e w = formed_as fs (form_sum a b) (combined op a b) r (ap (λ x. combined x a b) (sym e)) (formed fs (form_sum a b) r (over_sum fs a b (over_small fs a o) (over_small fs b p)) w)

combined_other : (op : Operator) (a b : Linear) → (op ≡ Times → ⊥) → (op ≡ Plus → ⊥) → difference a b ≡ combined op a b
combined_other Times a b n m = absurd (n refl)
combined_other Plus a b n m = absurd (m refl)
combined_other Minus a b n m = refl
combined_other Less a b n m = refl
combined_other AtMost a b n m = refl
combined_other Greater a b n m = refl
combined_other AtLeast a b n m = refl
combined_other Equal a b n m = refl
combined_other Differs a b n m = refl
combined_other Both a b n m = refl
combined_other Either a b n m = refl

pub formed_difference : (fs : List Feature) (op : Operator) (a b back : Linear) (r : Result Linear LinearFault) → IsSmallOver fs a → IsSmallOver fs b → (op ≡ Times → ⊥) → (op ≡ Plus → ⊥) → back ≡ form_by (negsuc 0) b → FormsWithin r (form_sum a back) → Forms fs r (combined op a b) (is_small_form (combined op a b))
formed_difference fs op a b back r o p n m e w =
    formed_as fs (difference a b) (combined op a b) r (combined_other op a b n m) (formed fs (difference a b) r (over_difference fs a b (over_small fs a o) (over_small fs b p)) (subst (λ x. FormsWithin r (form_sum a x)) e w))

-- the opposite of a small form is small
pub formed_back : (fs : List Feature) (fault : LinearFault) (b x : Linear) (small : Bool) → IsSmallOver fs b → FormsWithin (Err fault) (form_by (negsuc 0) b) → Forms fs (Err fault) x small
formed_back fs faults.NoMemory b x small o w = tt
formed_back fs faults.TooLarge b x small o w = absurd (false≢true (sym w ∙ small_negated b ∙ o.small))

-- ---- expressions that are numbers

-- behind a prefix that is not `!`
under_prefix : (fs : List Feature) (u : Prefix) (e : Expression) → IsNumber fs (Unary u e) → IsNumber fs e
under_prefix fs Positive e n = record { number = not_true (is_truth e) (and_right (is_linear fs e) (not (is_truth e)) n.linear); linear = and_left (is_linear fs e) (not (is_truth e)) n.linear }
under_prefix fs Negative e n = record { number = not_true (is_truth e) (and_right (is_linear fs e) (not (is_truth e)) n.linear); linear = and_left (is_linear fs e) (not (is_truth e)) n.linear }
under_prefix fs Inverse e n = absurd (false≢true (sym n.number))

small_before : (fs : List Feature) (u : Prefix) (e : Expression) → IsNumber fs (Unary u e) → are_small_forms fs (Unary u e) ≡ (are_small_forms fs e && is_small_form (form fs (Unary u e)))
small_before fs Positive e n = refl
small_before fs Negative e n = refl
small_before fs Inverse e n = absurd (false≢true (sym n.number))

formed_prefix : (fs : List Feature) (u : Prefix) (e : Expression) (operand : Linear) (r : Result Linear LinearFault) → IsNumber fs (Unary u e) → Forms fs (Ok operand) (form fs e) (are_small_forms fs e)
    → Forms fs r (form_before u operand) (is_small_form (form_before u operand)) → Forms fs r (form fs (Unary u e)) (are_small_forms fs (Unary u e))
formed_prefix fs u e operand r n inner f =
    let g : Forms fs r (form fs (Unary u e)) (is_small_form (form fs (Unary u e))) = subst (λ x. Forms fs r (form_before u x) (is_small_form (form_before u x))) inner.0 f in
    subst (Forms fs r (form fs (Unary u e))) (sym (small_before fs u e n ∙ ap (λ v. v && is_small_form (form fs (Unary u e))) inner.1)) g

fails : (fs : List Feature) (fault : LinearFault) (a b : Linear) (v w : Bool) → (v ≡ false → w ≡ false) → Forms fs (Err fault) a v → Forms fs (Err fault) b w
fails fs faults.NoMemory a b v w f h = tt
fails fs faults.TooLarge a b v w f h = f h

prefix_fails : (fs : List Feature) (u : Prefix) (e : Expression) (fault : LinearFault) → IsNumber fs (Unary u e) → Forms fs (Err fault) (form fs e) (are_small_forms fs e) → Forms fs (Err fault) (form fs (Unary u e)) (are_small_forms fs (Unary u e))
prefix_fails fs u e fault n h = fails fs fault (form fs e) (form fs (Unary u e)) (are_small_forms fs e) (are_small_forms fs (Unary u e)) (λ s. small_before fs u e n ∙ false_left (are_small_forms fs e) (is_small_form (form fs (Unary u e))) s) h

-- a product, a sum or a difference
pub record AreNumbers (fs : List Feature) (op : Operator) (a b : Expression) : Type 0 where
  pub left : IsNumber fs a
  pub right : IsNumber fs b
  pub is_form : combined op (form fs a) (form fs b) ≡ form fs (Binary op a b)
  pub is_small : is_small_operator fs op a b ≡ is_small_form (form fs (Binary op a b))

left_is : (fs : List Feature) (a b : Expression) → ((is_linear fs a && is_linear fs b) && (not (is_truth a) && not (is_truth b))) ≡ true → IsNumber fs a
left_is fs a b l = record {
  number = not_true (is_truth a) (and_left (not (is_truth a)) (not (is_truth b)) (and_right (is_linear fs a && is_linear fs b) (not (is_truth a) && not (is_truth b)) l));
  linear = and_left (is_linear fs a) (is_linear fs b) (and_left (is_linear fs a && is_linear fs b) (not (is_truth a) && not (is_truth b)) l);
}

right_is : (fs : List Feature) (a b : Expression) → ((is_linear fs a && is_linear fs b) && (not (is_truth a) && not (is_truth b))) ≡ true → IsNumber fs b
right_is fs a b l = record {
  number = not_true (is_truth b) (and_right (not (is_truth a)) (not (is_truth b)) (and_right (is_linear fs a && is_linear fs b) (not (is_truth a) && not (is_truth b)) l));
  linear = and_right (is_linear fs a) (is_linear fs b) (and_left (is_linear fs a && is_linear fs b) (not (is_truth a) && not (is_truth b)) l);
}

pub compared_sides : (fs : List Feature) (a b : Expression) → ((is_linear fs a && is_linear fs b) && (not (is_truth a) && not (is_truth b))) ≡ true → IsNumber fs a × IsNumber fs b
compared_sides fs a b l = (left_is fs a b l, right_is fs a b l)

constants_swap : (a b : Linear) → a.terms ≡ [] → b.terms ≡ [] → form_by a.constant b ≡ form_by b.constant a
constants_swap a b p q =
    let e : terms_by a.constant b.terms ≡ terms_by b.constant a.terms = ap (terms_by a.constant) q ∙ sym (ap (terms_by b.constant) p) in
    let f : b.constant *ℤ a.constant ≡ a.constant *ℤ b.constant = *ℤ_comm b.constant a.constant in
    λ i. record { terms = e i; constant = f i }

named_product : (ts : List (ℕ × ℤ)) (a b : Linear) → a.terms ≡ ts → b.terms ≡ [] → product_by ts a b ≡ form_by b.constant a
named_product [] a b p q = constants_swap a b p q
named_product (t ∷ ts) a b p q = refl

product_is : (named : Bool) (a b : Linear) → (named ≡ false → a.terms ≡ []) → (named ≡ true → b.terms ≡ []) → product_by a.terms a b ≡ form_between Times named a b
product_is false a b p q = product_empty a.terms a b (p refl)
product_is true a b p q = named_product a.terms a b refl (q refl)

regroup : (a b c : Bool) → (a && (b && c)) ≡ true → (a && b) ≡ true
regroup true true c e = refl
regroup true false c e = e
regroup false b c e = e

apart : (p q : Bool) → not (p && q) ≡ true → p ≡ true → q ≡ false
apart true true h e = absurd (false≢true h)
apart true false h e = refl
apart false q h e = absurd (false≢true e)

pub operands : (fs : List Feature) (op : Operator) (a b : Expression) → IsNumber fs (Binary op a b) → AreNumbers fs op a b
operands fs Times a b n =
    let l = regroup (is_linear fs a && is_linear fs b) (not (is_truth a) && not (is_truth b)) (not (names_feature fs a && names_feature fs b)) n.linear in
    let s = and_right (not (is_truth a) && not (is_truth b)) (not (names_feature fs a && names_feature fs b)) (and_right (is_linear fs a && is_linear fs b) ((not (is_truth a) && not (is_truth b)) && not (names_feature fs a && names_feature fs b)) n.linear) in
    record {
      left = left_is fs a b l;
      right = right_is fs a b l;
      is_form = product_is (names_feature fs a) (form fs a) (form fs b) (plain_form fs a) (λ e. plain_form fs b (apart (names_feature fs a) (names_feature fs b) s e));
      is_small = refl;
    }
operands fs Plus a b n = record { left = left_is fs a b n.linear; right = right_is fs a b n.linear; is_form = refl; is_small = refl }
operands fs Minus a b n = record { left = left_is fs a b n.linear; right = right_is fs a b n.linear; is_form = refl; is_small = refl }
operands fs Less a b n = absurd (false≢true (sym n.number))
operands fs AtMost a b n = absurd (false≢true (sym n.number))
operands fs Greater a b n = absurd (false≢true (sym n.number))
operands fs AtLeast a b n = absurd (false≢true (sym n.number))
operands fs Equal a b n = absurd (false≢true (sym n.number))
operands fs Differs a b n = absurd (false≢true (sym n.number))
operands fs Both a b n = absurd (false≢true (sym n.number))
operands fs Either a b n = absurd (false≢true (sym n.number))

formed_binary : (fs : List Feature) (op : Operator) (a b : Expression) (left right : Linear) (r : Result Linear LinearFault) → IsNumber fs (Binary op a b)
    → Forms fs (Ok left) (form fs a) (are_small_forms fs a) → Forms fs (Ok right) (form fs b) (are_small_forms fs b) → Forms fs r (combined op left right) (is_small_form (combined op left right))
    → Forms fs r (form fs (Binary op a b)) (are_small_forms fs (Binary op a b))
formed_binary fs op a b left right r n p q f =
    let o = operands fs op a b n in
    let e : combined op left right ≡ form fs (Binary op a b) = ap (λ x. combined op x right) p.0 ∙ ap (λ x. combined op (form fs a) x) q.0 ∙ o.is_form in
    let g : Forms fs r (form fs (Binary op a b)) (is_small_form (form fs (Binary op a b))) = formed_as fs (combined op left right) (form fs (Binary op a b)) r e f in
    let s : are_small_forms fs (Binary op a b) ≡ is_small_form (form fs (Binary op a b)) = ap (λ v. v && is_small_operator fs op a b) (and_true (are_small_forms fs a) (are_small_forms fs b) p.1 q.1) ∙ o.is_small in
    subst (Forms fs r (form fs (Binary op a b))) (sym s) g

left_fails : (fs : List Feature) (op : Operator) (a b : Expression) (fault : LinearFault) → Forms fs (Err fault) (form fs a) (are_small_forms fs a) → Forms fs (Err fault) (form fs (Binary op a b)) (are_small_forms fs (Binary op a b))
left_fails fs op a b fault h = fails fs fault (form fs a) (form fs (Binary op a b)) (are_small_forms fs a) (are_small_forms fs (Binary op a b))
    (λ s. false_left (are_small_forms fs a && are_small_forms fs b) (is_small_operator fs op a b) (false_left (are_small_forms fs a) (are_small_forms fs b) s)) h

right_fails : (fs : List Feature) (op : Operator) (a b : Expression) (fault : LinearFault) → Forms fs (Err fault) (form fs b) (are_small_forms fs b) → Forms fs (Err fault) (form fs (Binary op a b)) (are_small_forms fs (Binary op a b))
right_fails fs op a b fault h = fails fs fault (form fs b) (form fs (Binary op a b)) (are_small_forms fs b) (are_small_forms fs (Binary op a b))
    (λ s. false_left (are_small_forms fs a && are_small_forms fs b) (is_small_operator fs op a b) (false_right (are_small_forms fs a) (are_small_forms fs b) s)) h

-- ---- by the tree

pub prefix_case_fails : (fs : List Feature) (x : Expression) (u : Prefix) (e : Expression) (fault : LinearFault) → x ≡ Unary u e → (IsNumber fs e → Forms fs (Err fault) (form fs e) (are_small_forms fs e)) → IsNumber fs x → Forms fs (Err fault) (form fs x) (are_small_forms fs x)
prefix_case_fails fs x u e fault is inner n =
    let m : IsNumber fs (Unary u e) = subst (IsNumber fs) is n in
    subst (λ y. Forms fs (Err fault) (form fs y) (are_small_forms fs y)) (sym is) (prefix_fails fs u e fault m (inner (under_prefix fs u e m)))

pub prefix_case : (fs : List Feature) (x : Expression) (u : Prefix) (e : Expression) (operand : Linear) (r : Result Linear LinearFault) → x ≡ Unary u e → (IsNumber fs e → Forms fs (Ok operand) (form fs e) (are_small_forms fs e))
    → Forms fs r (form_before u operand) (is_small_form (form_before u operand)) → IsNumber fs x → Forms fs r (form fs x) (are_small_forms fs x)
prefix_case fs x u e operand r is inner f n =
    let m : IsNumber fs (Unary u e) = subst (IsNumber fs) is n in
    subst (λ y. Forms fs r (form fs y) (are_small_forms fs y)) (sym is) (formed_prefix fs u e operand r m (inner (under_prefix fs u e m)) f)

pub left_case_fails : (fs : List Feature) (x : Expression) (op : Operator) (a b : Expression) (fault : LinearFault) → x ≡ Binary op a b → (IsNumber fs a → Forms fs (Err fault) (form fs a) (are_small_forms fs a)) → IsNumber fs x → Forms fs (Err fault) (form fs x) (are_small_forms fs x)
left_case_fails fs x op a b fault is left n =
    let o = operands fs op a b (subst (IsNumber fs) is n) in
    subst (λ y. Forms fs (Err fault) (form fs y) (are_small_forms fs y)) (sym is) (left_fails fs op a b fault (left o.left))

pub right_case_fails : (fs : List Feature) (x : Expression) (op : Operator) (a b : Expression) (fault : LinearFault) → x ≡ Binary op a b → (IsNumber fs b → Forms fs (Err fault) (form fs b) (are_small_forms fs b)) → IsNumber fs x → Forms fs (Err fault) (form fs x) (are_small_forms fs x)
right_case_fails fs x op a b fault is right n =
    let o = operands fs op a b (subst (IsNumber fs) is n) in
    subst (λ y. Forms fs (Err fault) (form fs y) (are_small_forms fs y)) (sym is) (right_fails fs op a b fault (right o.right))

pub binary_case : (fs : List Feature) (x : Expression) (op : Operator) (a b : Expression) (left right : Linear) (r : Result Linear LinearFault) → x ≡ Binary op a b → (IsNumber fs a → Forms fs (Ok left) (form fs a) (are_small_forms fs a))
    → (IsNumber fs b → Forms fs (Ok right) (form fs b) (are_small_forms fs b)) → Forms fs r (combined op left right) (is_small_form (combined op left right)) → IsNumber fs x → Forms fs r (form fs x) (are_small_forms fs x)
binary_case fs x op a b left right r is p q f n =
    let m : IsNumber fs (Binary op a b) = subst (IsNumber fs) is n in
    let o = operands fs op a b m in
    subst (λ y. Forms fs r (form fs y) (are_small_forms fs y)) (sym is) (formed_binary fs op a b left right r m (p o.left) (q o.right) f)
