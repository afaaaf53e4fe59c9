-- Tests as the code makes them.
use Rattle.std.proofs.Common.{◌≡◌, ◌≤◌, ℤ, pos, negsuc, neg_ℤ, ◌+ℤ◌, ◌-ℤ◌, ◌*ℤ◌, unsigned_abs, true, false, ◌&&◌, List, length, Err, sym, ap, subst, ◌∙◌, arith, to_z, of_z, w64, FitsSigned}
use Rattle.std.proofs.lemmas.Bool.{false≢true}
use Rattle.std.proofs.lemmas.Int.{ints, to_z-of_z}
use Rattle.linear_atoms.specs.declared.atoms.Atom.{Atom}
use Rattle.linear_atoms.specs.declared.atoms.Literal.{Literal}
use Rattle.linear_atoms.specs.declared.atoms.Feature.{Feature}
use Rattle.linear_atoms.specs.declared.forms.Linear.{Linear}
use Rattle.linear_atoms.specs.declared.linear_fault.LinearFault.{LinearFault}
use Rattle.linear_atoms.specs.declared.linear_fault.LinearFault.TheVariants as faults
use Rattle.linear_atoms.specs.declared.normal.Normal.{Normal}
use Rattle.linear_atoms.specs.declared.normal.Normal.TheVariants as normals
use Rattle.linear_atoms.specs.Atoms.{AreBelow, IsAtom}
use Rattle.linear_atoms.specs.Forms.{IsRising, form_sum, form_by, terms_sum, terms_by, is_small, are_small, is_small_form, FormsWithin}
use Rattle.linear_atoms.specs.Normal.{IsNormal}
use Rattle.cpp_conditions.specs.declared.operators.Operator.{Operator}
use Rattle.cpp_conditions.specs.declared.operators.Operator.TheVariants.{Times, Plus, Minus, Less, AtMost, Greater, AtLeast, Equal, Differs, Both, Either}
use Rattle.cpp_conditions.specs.Forming.{IsSmallOver, IsWide, Widens, Means}
use Rattle.cpp_conditions.specs.Grammar.{is_small_zero, is_small_compared}
use Rattle.cpp_conditions.specs.Meaning.{difference, less_one}
use Rattle.cpp_conditions.specs.Propositions.{Proposition}
use Rattle.cpp_conditions.proofs.Signs.{minus_one}
use Rattle.cpp_conditions.proofs.Sizes.{and_left, and_right, false_left, small_back, small_negated, small_negated_terms, over_by, over_difference, over_small}

-- ---- differences and opposites

number_size : (n : ℤ) → is_small n ≡ true → unsigned_abs n ≤ 2147483648
number_size n e = grind arith

constant_size : (a : Linear) → is_small_form a ≡ true → unsigned_abs a.constant ≤ 2147483648
constant_size a e = number_size a.constant (and_right (are_small a.terms) (is_small a.constant) e)

pub wide_difference : (a b : Linear) → is_small_form a ≡ true → is_small_form b ≡ true → to_z w64 (of_z w64 (to_z w64 (of_z w64 a.constant) -ℤ to_z w64 (of_z w64 b.constant))) ≡ a.constant -ℤ b.constant
wide_difference a b e f =
    let s = constant_size a e in
    let t = constant_size b f in
    let fits : FitsSigned w64 (a.constant -ℤ b.constant) = omega (arith, ints) in
    ap (λ x. to_z w64 (of_z w64 (x -ℤ to_z w64 (of_z w64 b.constant)))) (small_back a e) ∙ ap (λ x. to_z w64 (of_z w64 (a.constant -ℤ x))) (small_back b f) ∙ to_z-of_z w64 (a.constant -ℤ b.constant) fits

minus_is : (x y : ℤ) → x -ℤ y ≡ x +ℤ (y *ℤ negsuc 0)
minus_is x y = let e : x -ℤ y ≡ x +ℤ neg_ℤ y = omega (arith, ints) in e ∙ ap (λ z. x +ℤ z) (sym (minus_one y))

abbrev bare : Linear → Linear
bare a = record { terms = a.terms; constant = pos 0 }

abbrev with_constant : Linear → ℤ → Linear
with_constant a k = record { terms = a.terms; constant = k }

pub difference_made : (fs : List Feature) (a b back made : Linear) (k : ℤ) → IsSmallOver fs a → IsSmallOver fs b → back ≡ form_by (negsuc 0) b → made ≡ form_sum (bare a) (bare back) → is_small_form (form_sum (bare a) (bare back)) ≡ true
    → k ≡ a.constant -ℤ b.constant → (with_constant made k ≡ difference a b) × IsWide fs (with_constant made k)
difference_made fs a b back made k o p back_is made_is small k_is =
    let t : made.terms ≡ terms_sum a.terms (terms_by (negsuc 0) b.terms) = ap (λ (x : Linear). x.terms) made_is ∙ ap (λ (x : Linear). terms_sum a.terms x.terms) back_is in
    let c : k ≡ a.constant +ℤ (b.constant *ℤ negsuc 0) = k_is ∙ minus_is a.constant b.constant in
    let is : with_constant made k ≡ difference a b = λ i. record { terms = t i; constant = c i } in
    let d = over_difference fs a b (over_small fs a o) (over_small fs b p) in
    let u : are_small (difference a b).terms ≡ true = ap are_small (ap (λ (x : Linear). terms_sum a.terms x.terms) (sym back_is)) ∙ and_left (are_small (terms_sum a.terms back.terms)) (is_small (pos 0 +ℤ pos 0)) small in
    let s = constant_size a o.small in
    let r = constant_size b p.small in
    let w : unsigned_abs k ≤ 4294967296 = omega (arith, ints) in
    (is, record { rising = subst (λ (x : Linear). IsRising x.terms) (sym is) d.rising; below = subst (λ (x : Linear). AreBelow (length fs) x.terms) (sym is) d.below; small = subst (λ (x : Linear). are_small x.terms ≡ true) (sym is) u; wide = w })

pub difference_back : (fs : List Feature) (fault : LinearFault) (b d : Linear) → IsSmallOver fs b → FormsWithin (Err fault) (form_by (negsuc 0) b) → Widens fs (Err fault) d
difference_back fs faults.NoMemory b d o w = tt
difference_back fs faults.TooLarge b d o w = absurd (false≢true (sym w ∙ small_negated b ∙ o.small))

wide_number : (n : ℤ) → unsigned_abs n ≤ 4294967296 → to_z w64 (of_z w64 n) ≡ n
wide_number n h = let fits : FitsSigned w64 n = omega (arith, ints) in to_z-of_z w64 n fits

wide_opposite : (n : ℤ) → unsigned_abs n ≤ 4294967296 → to_z w64 (of_z w64 (pos 0 -ℤ to_z w64 (of_z w64 n))) ≡ n *ℤ negsuc 0
wide_opposite n h =
    let s : unsigned_abs (pos 0 -ℤ n) ≤ 4294967296 = omega (arith, ints) in
    let e : pos 0 -ℤ n ≡ neg_ℤ n = omega (arith, ints) in
    ap (λ x. to_z w64 (of_z w64 (pos 0 -ℤ x))) (wide_number n h) ∙ wide_number (pos 0 -ℤ n) s ∙ e ∙ sym (minus_one n)

opposite_size : (n k : ℤ) → unsigned_abs n ≤ 4294967296 → k ≡ n *ℤ negsuc 0 → unsigned_abs k ≤ 4294967296
opposite_size n k h e = let f : k ≡ neg_ℤ n = e ∙ minus_one n in omega (arith, ints)

pub opposite_made : (fs : List Feature) (a made : Linear) → IsWide fs a → made ≡ form_by (negsuc 0) (bare a)
    → (with_constant made (to_z w64 (of_z w64 (pos 0 -ℤ to_z w64 (of_z w64 a.constant)))) ≡ form_by (negsuc 0) a) × IsWide fs (with_constant made (to_z w64 (of_z w64 (pos 0 -ℤ to_z w64 (of_z w64 a.constant)))))
opposite_made fs a made o made_is =
    let c : to_z w64 (of_z w64 (pos 0 -ℤ to_z w64 (of_z w64 a.constant))) ≡ a.constant *ℤ negsuc 0 = wide_opposite a.constant o.wide in
    let t : made.terms ≡ terms_by (negsuc 0) a.terms = ap (λ (x : Linear). x.terms) made_is in
    let is : with_constant made (to_z w64 (of_z w64 (pos 0 -ℤ to_z w64 (of_z w64 a.constant)))) ≡ form_by (negsuc 0) a = λ i. record { terms = t i; constant = c i } in
    let d = over_by fs (negsuc 0) a (record { rising = o.rising; below = o.below }) in (
      is,
      record {
        rising = subst (λ (x : Linear). IsRising x.terms) (sym is) d.rising;
        below = subst (λ (x : Linear). AreBelow (length fs) x.terms) (sym is) d.below;
        small = ap are_small t ∙ small_negated_terms a.terms ∙ o.small;
        wide = opposite_size a.constant (to_z w64 (of_z w64 (pos 0 -ℤ to_z w64 (of_z w64 a.constant)))) o.wide c;
      },
    )

-- ---- tests

pub atom_of_normal : (fs : List Feature) (n : Normal) (l : Literal) → IsNormal (length fs) n → n ≡ normals.Literal l → IsAtom (length fs) l.atom
atom_of_normal fs n l h e = subst (IsNormal (length fs)) e h

-- ---- terms that are too large

zero_large : (a : Linear) → are_small a.terms ≡ false → is_small_zero a ≡ false
zero_large a e = false_left (is_small_form a) (is_small_form (less_one a)) (false_left (are_small a.terms) (is_small a.constant) e)

back_large : (a : Linear) (c : ℤ) → are_small a.terms ≡ false → (are_small (terms_by (negsuc 0) a.terms) && is_small c) ≡ false
back_large a c e = false_left (are_small (terms_by (negsuc 0) a.terms)) (is_small c) (small_negated_terms a.terms ∙ e)

compared_large : (op : Operator) (a : Linear) → are_small a.terms ≡ false → is_small_compared op a ≡ false
compared_large Times a e = zero_large a e
compared_large Plus a e = zero_large a e
compared_large Minus a e = zero_large a e
compared_large Less a e = back_large a (less_one (form_by (negsuc 0) a)).constant e
compared_large AtMost a e = back_large a (form_by (negsuc 0) a).constant e
compared_large Greater a e = false_left (are_small a.terms) _ e
compared_large AtLeast a e = false_left (are_small a.terms) _ e
compared_large Equal a e = zero_large a e
compared_large Differs a e = zero_large a e
compared_large Both a e = zero_large a e
compared_large Either a e = zero_large a e

pub compare_fails : (fs : List Feature) (op : Operator) (fault : LinearFault) (d : Linear) (p : Proposition Atom) → Widens fs (Err fault) d → Means fs (Err fault) p (is_small_compared op d)
compare_fails fs op faults.NoMemory d p w = tt
compare_fails fs op faults.TooLarge d p w = compared_large op d w
