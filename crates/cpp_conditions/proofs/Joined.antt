-- Conditions of truth values as the code makes them.
use Rattle.std.proofs.Common.{◌≡◌, Bool, true, false, ◌&&◌, List, Result, Ok, Err, refl, sym, ap, subst, ◌∙◌}
use Rattle.linear_atoms.specs.declared.atoms.Atom.{Atom}
use Rattle.linear_atoms.specs.declared.atoms.Feature.{Feature}
use Rattle.linear_atoms.specs.declared.linear_fault.LinearFault.{LinearFault}
use Rattle.linear_atoms.specs.declared.linear_fault.LinearFault.TheVariants as faults
use Rattle.cpp_conditions.specs.declared.conditions.Condition.{Condition}
use Rattle.cpp_conditions.specs.declared.operators.Operator.{Operator}
use Rattle.cpp_conditions.specs.declared.operators.Operator.TheVariants.{Times, Plus, Minus, Less, AtMost, Greater, AtLeast, Equal, Differs, Both, Either}
use Rattle.cpp_conditions.specs.declared.operators.Prefix.{Prefix}
use Rattle.cpp_conditions.specs.declared.operators.Prefix.TheVariants.{Inverse}
use Rattle.cpp_conditions.specs.Expressions.{Expression, Unary, Binary}
use Rattle.cpp_conditions.specs.Forming.{IsNumber, Means, IsOverFeatures}
use Rattle.cpp_conditions.specs.Grammar.{are_small_forms, is_small_truth, is_small_compared, is_small_condition}
use Rattle.cpp_conditions.specs.Meaning.{is_linear, difference, form, compared, cond}
use Rattle.cpp_conditions.specs.Propositions.{Proposition, Not, And, Or}
use Rattle.cpp_conditions.specs.View.{proposition}
use Rattle.cpp_conditions.proofs.Formed.{compared_sides}
use Rattle.cpp_conditions.proofs.Sizes.{and_true, and_left, and_right, false_left, false_right}

and_same : (b : Bool) → (b && true) ≡ b
and_same true = refl
and_same false = refl

fails : (fs : List Feature) (fault : LinearFault) (p q : Proposition Atom) (v w : Bool) → (v ≡ false → w ≡ false) → Means fs (Err fault) p v → Means fs (Err fault) q w
fails fs faults.NoMemory p q v w f h = tt
fails fs faults.TooLarge p q v w f h = f h

-- ---- `!`

pub inverse_made : (fs : List Feature) (x : Expression) (u : Prefix) (e : Expression) (inner made : Condition) → x ≡ Unary u e → u ≡ Inverse → (is_linear fs e ≡ true → Means fs (Ok inner) (cond fs e) (is_small_condition fs e))
    → proposition made ≡ Not (proposition inner) → is_linear fs x ≡ true → Means fs (Ok made) (cond fs x) (is_small_condition fs x)
inverse_made fs x u e inner made is inv f made_is l =
    let q : x ≡ Unary Inverse e = is ∙ ap (λ v. Unary v e) inv in
    let m : is_linear fs (Unary Inverse e) ≡ true = subst (λ y. is_linear fs y ≡ true) q l in
    let h = f (and_left (is_linear fs e) true m) in
    subst (λ y. Means fs (Ok made) (cond fs y) (is_small_condition fs y)) (sym q) (made_is ∙ ap Not h.0, and_same (is_small_condition fs e) ∙ h.1, record { fit = h.2.fit; undecided = h.2.undecided })

-- ---- `&&` and `||`

pub record Joins (fs : List Feature) (x a b : Expression) (join : Proposition Atom → Proposition Atom → Proposition Atom) : Type 0 where
  pub left : is_linear fs x ≡ true → is_linear fs a ≡ true
  pub right : is_linear fs x ≡ true → is_linear fs b ≡ true
  pub is : cond fs x ≡ join (cond fs a) (cond fs b)
  pub small : is_small_condition fs x ≡ (is_small_condition fs a && is_small_condition fs b)

shuffle : (p q r s : Bool) → (((p && q) && (r && s)) && true) ≡ ((p && r) && (q && s))
shuffle true true true true = refl
shuffle true true true false = refl
shuffle true true false s = refl
shuffle true false true s = refl
shuffle true false false s = refl
shuffle false q r s = refl

sides : (fs : List Feature) (a b : Expression) → ((is_linear fs a && is_linear fs b) && true) ≡ true → (is_linear fs a ≡ true) × (is_linear fs b ≡ true)
sides fs a b l = let k = and_left (is_linear fs a && is_linear fs b) true l in (and_left (is_linear fs a) (is_linear fs b) k, and_right (is_linear fs a) (is_linear fs b) k)

pub both_joins : (fs : List Feature) (x : Expression) (op : Operator) (a b : Expression) → x ≡ Binary op a b → op ≡ Both → Joins fs x a b And
both_joins fs x op a b is e = subst (λ y. Joins fs y a b And) (sym (is ∙ ap (λ o. Binary o a b) e)) (record {
  left = λ l. (sides fs a b l).0;
  right = λ l. (sides fs a b l).1;
  is = refl;
  small = shuffle (are_small_forms fs a) (are_small_forms fs b) (is_small_truth fs a) (is_small_truth fs b);
})

pub either_joins : (fs : List Feature) (x : Expression) (op : Operator) (a b : Expression) → x ≡ Binary op a b → op ≡ Either → Joins fs x a b Or
either_joins fs x op a b is e = subst (λ y. Joins fs y a b Or) (sym (is ∙ ap (λ o. Binary o a b) e)) (record {
  left = λ l. (sides fs a b l).0;
  right = λ l. (sides fs a b l).1;
  is = refl;
  small = shuffle (are_small_forms fs a) (are_small_forms fs b) (is_small_truth fs a) (is_small_truth fs b);
})

pub left_fails : (fs : List Feature) (x a b : Expression) (join : Proposition Atom → Proposition Atom → Proposition Atom) (fault : LinearFault) → Joins fs x a b join → (is_linear fs a ≡ true → Means fs (Err fault) (cond fs a) (is_small_condition fs a)) → is_linear fs x ≡ true
    → Means fs (Err fault) (cond fs x) (is_small_condition fs x)
left_fails fs x a b join fault j f l = fails fs fault (cond fs a) (cond fs x) (is_small_condition fs a) (is_small_condition fs x) (λ s. j.small ∙ false_left (is_small_condition fs a) (is_small_condition fs b) s) (f (j.left l))

pub right_fails : (fs : List Feature) (x a b : Expression) (join : Proposition Atom → Proposition Atom → Proposition Atom) (fault : LinearFault) → Joins fs x a b join → (is_linear fs b ≡ true → Means fs (Err fault) (cond fs b) (is_small_condition fs b)) → is_linear fs x ≡ true
    → Means fs (Err fault) (cond fs x) (is_small_condition fs x)
right_fails fs x a b join fault j f l = fails fs fault (cond fs b) (cond fs x) (is_small_condition fs b) (is_small_condition fs x) (λ s. j.small ∙ false_right (is_small_condition fs a) (is_small_condition fs b) s) (f (j.right l))

pub both_made : (fs : List Feature) (x a b : Expression) (left right made : Condition) → Joins fs x a b And → (is_linear fs a ≡ true → Means fs (Ok left) (cond fs a) (is_small_condition fs a)) → (is_linear fs b ≡ true → Means fs (Ok right) (cond fs b) (is_small_condition fs b))
    → proposition made ≡ And (proposition left) (proposition right) → is_linear fs x ≡ true → Means fs (Ok made) (cond fs x) (is_small_condition fs x)
both_made fs x a b left right made j f g made_is l =
    let h = f (j.left l) in
    let k = g (j.right l) in
    let o : IsOverFeatures fs (And (cond fs a) (cond fs b)) = record { fit = (h.2.fit, k.2.fit); undecided = (h.2.undecided, k.2.undecided) } in
    (made_is ∙ ap (λ p. And p (proposition right)) h.0 ∙ ap (λ p. And (cond fs a) p) k.0 ∙ sym j.is, j.small ∙ and_true (is_small_condition fs a) (is_small_condition fs b) h.1 k.1, subst (IsOverFeatures fs) (sym j.is) o)

pub either_made : (fs : List Feature) (x a b : Expression) (left right made : Condition) → Joins fs x a b Or → (is_linear fs a ≡ true → Means fs (Ok left) (cond fs a) (is_small_condition fs a)) → (is_linear fs b ≡ true → Means fs (Ok right) (cond fs b) (is_small_condition fs b))
    → proposition made ≡ Or (proposition left) (proposition right) → is_linear fs x ≡ true → Means fs (Ok made) (cond fs x) (is_small_condition fs x)
either_made fs x a b left right made j f g made_is l =
    let h = f (j.left l) in
    let k = g (j.right l) in
    let o : IsOverFeatures fs (Or (cond fs a) (cond fs b)) = record { fit = (h.2.fit, k.2.fit); undecided = (h.2.undecided, k.2.undecided) } in
    (made_is ∙ ap (λ p. Or p (proposition right)) h.0 ∙ ap (λ p. Or (cond fs a) p) k.0 ∙ sym j.is, j.small ∙ and_true (is_small_condition fs a) (is_small_condition fs b) h.1 k.1, subst (IsOverFeatures fs) (sym j.is) o)

-- ---- comparisons

abbrev Compared : List Feature → Result Condition LinearFault → Operator → Expression → Expression → Type 0
Compared fs r op a b =
    Means fs r (compared fs op (difference (form fs a) (form fs b))) ((are_small_forms fs a && are_small_forms fs b) && is_small_compared op (difference (form fs a) (form fs b)))

relation : (fs : List Feature) (op : Operator) (a b : Expression) (r : Result Condition LinearFault) → Compared fs r op a b
    → Means fs r (compared fs op (difference (form fs a) (form fs b))) (((are_small_forms fs a && are_small_forms fs b) && is_small_compared op (difference (form fs a) (form fs b))) && true)
relation fs op a b r h = subst (Means fs r (compared fs op (difference (form fs a) (form fs b)))) (sym (and_same ((are_small_forms fs a && are_small_forms fs b) && is_small_compared op (difference (form fs a) (form fs b))))) h

compared_at : (fs : List Feature) (op : Operator) (a b : Expression) (r : Result Condition LinearFault) → (op ≡ Times → ⊥) → (op ≡ Plus → ⊥) → (op ≡ Minus → ⊥) → (op ≡ Both → ⊥) → (op ≡ Either → ⊥)
    → (IsNumber fs a → IsNumber fs b → Compared fs r op a b) → is_linear fs (Binary op a b) ≡ true → Means fs r (cond fs (Binary op a b)) (is_small_condition fs (Binary op a b))
compared_at fs Times a b r t p m o e f l = absurd (t refl)
compared_at fs Plus a b r t p m o e f l = absurd (p refl)
compared_at fs Minus a b r t p m o e f l = absurd (m refl)
compared_at fs Less a b r t p m o e f l = let s = compared_sides fs a b l in relation fs Less a b r (f s.0 s.1)
compared_at fs AtMost a b r t p m o e f l = let s = compared_sides fs a b l in relation fs AtMost a b r (f s.0 s.1)
compared_at fs Greater a b r t p m o e f l = let s = compared_sides fs a b l in relation fs Greater a b r (f s.0 s.1)
compared_at fs AtLeast a b r t p m o e f l = let s = compared_sides fs a b l in relation fs AtLeast a b r (f s.0 s.1)
compared_at fs Equal a b r t p m o e f l = let s = compared_sides fs a b l in relation fs Equal a b r (f s.0 s.1)
compared_at fs Differs a b r t p m o e f l = let s = compared_sides fs a b l in relation fs Differs a b r (f s.0 s.1)
compared_at fs Both a b r t p m o e f l = absurd (o refl)
compared_at fs Either a b r t p m o e f l = absurd (e refl)

pub compared_case : (fs : List Feature) (x : Expression) (op : Operator) (a b : Expression) (r : Result Condition LinearFault) → x ≡ Binary op a b → (op ≡ Times → ⊥) → (op ≡ Plus → ⊥) → (op ≡ Minus → ⊥) → (op ≡ Both → ⊥) → (op ≡ Either → ⊥)
    → (IsNumber fs a → IsNumber fs b → Compared fs r op a b) → is_linear fs x ≡ true → Means fs r (cond fs x) (is_small_condition fs x)
compared_case fs x op a b r is t p m o e f l = subst (λ y. Means fs r (cond fs y) (is_small_condition fs y)) (sym is) (compared_at fs op a b r t p m o e f (subst (λ y. is_linear fs y ≡ true) is l))
