-- The texts of literals.
use Rattle.std.proofs.Common.{◌≡◌, ℕ, zero, suc, ◌^◌, ◌<◌, ◌≤◌, ℤ, pos, negsuc, ◌+ℤ◌, ◌-ℤ◌, ◌*ℤ◌, ◌≤ℤ◌, int_le, unsigned_abs, Bool, true, false, not, ◌&&◌, if◌then◌else◌, List, [], ◌∷◌, ◌++◌, length, codes, slice_index_or, refl, sym, ap, subst, ◌∙◌, arith}
use Rattle.std.proofs.lemmas.Bool.{and_parts, false≢true}
use Rattle.std.proofs.lemmas.Bool.Decides.{Decides-int_eq}
use Rattle.std.proofs.lemmas.Int.{ints}
use Rattle.std.proofs.lemmas.List.{append-nil, append_assoc}
use Rattle.std.specs.Fmt.{signed_decimal}
use Rattle.std.specs.Ordering.{int_eq}
use Rattle.linear_atoms.specs.declared.atoms.Atom.{Atom}
use Rattle.linear_atoms.specs.declared.atoms.Feature.{Feature}
use Rattle.linear_atoms.specs.declared.atoms.Literal.{Literal}
use Rattle.linear_atoms.specs.Atoms.{IsAtom, literal_holds}
use Rattle.linear_atoms.specs.Forms.{sum_at}
use Rattle.linear_atoms.specs.Texts.{name_at, boolean_at, terms_text, is_switch, literal_by, literal_text, value_text}
use Rattle.cpp_conditions.specs.Expressions.{before, bit}
use Rattle.feature_model.specs.Features.{AreDistinct, AreNamed, HaveSwitches}
use Rattle.cpp_conditions.specs.declared.operators.Operator.TheVariants.{AtMost, AtLeast, Equal}
use Rattle.cpp_conditions.specs.declared.operators.Prefix.TheVariants.{Inverse}
use Rattle.region_laws.proofs.Named.{switch_at}
use Rattle.region_laws.proofs.Spelling.{IsTold, any, numbers, looser, with_value, with_text, told_name, told_inverse, told_integer, told_both, at_least_mark, at_most_mark, equal_mark}
use Rattle.region_laws.proofs.Summed.{AreTerms, are_terms, told_terms}

-- ---- numbers

bound_small : (b : ℤ) → unsigned_abs b ≤ 2147483649 → unsigned_abs b < 2 ^ 64
bound_small b h = omega (arith, h)

less_small : (b : ℤ) → unsigned_abs b ≤ 2147483649 → unsigned_abs (b -ℤ pos 1) < 2 ^ 64
less_small b h = omega (arith, ints)

below_bound : (b s : ℤ) → int_le s (b -ℤ pos 1) ≡ not (int_le b s)
below_bound b s = grind (arith, ints)

-- ---- switches

between_ends : (v : ℤ) → pos 0 ≤ℤ v → v ≤ℤ pos 1 → v ≡ bit (int_le (pos 1) ((pos 1 *ℤ v) +ℤ pos 0))
between_ends (pos zero) low high = refl
between_ends (pos (suc zero)) low high = refl
between_ends (pos (suc (suc n))) low high = absurd (omega (arith, ints))
between_ends (negsuc n) low high = absurd (omega (arith, ints))

inverse_bit : (b : Bool) → before Inverse (bit b) ≡ bit (not b)
inverse_bit true = refl
inverse_bit false = refl

-- what a switch is
record IsSwitch (features : List Feature) (ts : List (ℕ × ℤ)) (bound : ℤ) : Type 0 where
  pub feature : ℕ
  pub terms_are : ts ≡ (feature, pos 1) ∷ []
  pub boolean : boolean_at features feature ≡ true
  pub bound_is : bound ≡ pos 1

switch_of : (features : List Feature) (ts : List (ℕ × ℤ)) (bound : ℤ) → is_switch features ts bound ≡ true → IsSwitch features ts bound
switch_of features [] bound e = absurd cc
switch_of features ((n, a) ∷ []) bound e =
    let outer = and_parts (int_eq a (pos 1) && boolean_at features n) (int_eq bound (pos 1)) e in
    let inner = and_parts (int_eq a (pos 1)) (boolean_at features n) outer.0 in
    record { feature = n; terms_are = ap (λ b. (n, b) ∷ []) ((Decides-int_eq a (pos 1)).0 inner.0); boolean = inner.1; bound_is = (Decides-int_eq bound (pos 1)).0 outer.1 }
switch_of features (t ∷ u ∷ ts) bound e = absurd cc

-- the text of a literal of these parts, a switch or not, has its truth as C's value
abbrev Tells : List Feature → List (ℕ × ℤ) → ℤ → Bool → Bool → Type 0
Tells features ts bound positive switch =
    IsTold features 3 false (literal_by switch positive (terms_text true features ts) bound) (λ values. bit (if positive then int_le bound (sum_at ts values) else not (int_le bound (sum_at ts values))))

switch_text : (features : List Feature) (n : ℕ) → name_at features n ≡ terms_text true features ((n, pos 1) ∷ [])
switch_text features n = sym (append-nil (name_at features n))

module _ {features : List Feature} (named : AreNamed features) (distinct : AreDistinct features) (switches : HaveSwitches features) where
  told_switch : (n : ℕ) (positive : Bool) → n < length features → boolean_at features n ≡ true
      → IsTold features 0 false (literal_by true positive (name_at features n) (pos 1)) (λ values. bit (if positive then int_le (pos 1) (sum_at ((n, pos 1) ∷ []) values) else not (int_le (pos 1) (sum_at ((n, pos 1) ∷ []) values))))
  told_switch n true lt boolean =
      with_value (λ values. bit (int_le (pos 1) (sum_at ((n, pos 1) ∷ []) values)))
      (λ values within. let ends = switch_at features values n switches within lt boolean in between_ends (slice_index_or values n (pos 0)) ends.0 ends.1)
      (any (told_name features n named distinct lt))
  told_switch n false lt boolean =
      with_value (λ values. bit (not (int_le (pos 1) (sum_at ((n, pos 1) ∷ []) values))))
      (λ values within.
      let ends = switch_at features values n switches within lt boolean in
      ap (before Inverse) (between_ends (slice_index_or values n (pos 0)) ends.0 ends.1) ∙ inverse_bit (int_le (pos 1) (sum_at ((n, pos 1) ∷ []) values)))
      (told_inverse features n named distinct lt)

  told_compared : (ts : List (ℕ × ℤ)) (bound : ℤ) (positive : Bool) → IsAtom (length features) (record { terms = ts; bound = bound })
      → IsTold features 3 false (literal_by false positive (terms_text true features ts) bound) (λ values. bit (if positive then int_le bound (sum_at ts values) else not (int_le bound (sum_at ts values))))
  told_compared ts bound true atom =
      let terms = looser (told_terms named distinct ts atom.positive (are_terms (length features) ts atom.below atom.small)) in
      let number = looser (looser (told_integer features bound (bound_small bound atom.bounded))) in
      let text = terms_text true features ts in
      with_text ((text ++ codes " >= ") ++ signed_decimal bound) (sym (append_assoc text (codes " >= ") (signed_decimal bound)))
      (told_both features AtLeast true true false (λ e. absurd (false≢true e)) (codes " >= ") text (signed_decimal bound) (λ values. sum_at ts values) (λ values. bound) at_least_mark terms number (numbers (terms.number refl) (number.number refl)))
  told_compared ts bound false atom =
      let terms = looser (told_terms named distinct ts atom.positive (are_terms (length features) ts atom.below atom.small)) in
      let number = looser (looser (told_integer features (bound -ℤ pos 1) (less_small bound atom.bounded))) in
      let text = terms_text true features ts in
      with_text ((text ++ codes " <= ") ++ signed_decimal (bound -ℤ pos 1)) (sym (append_assoc text (codes " <= ") (signed_decimal (bound -ℤ pos 1))))
      (with_value (λ values. bit (not (int_le bound (sum_at ts values)))) (λ values within. ap bit (below_bound bound (sum_at ts values)))
      (told_both features AtMost true true false (λ e. absurd (false≢true e)) (codes " <= ") text (signed_decimal (bound -ℤ pos 1)) (λ values. sum_at ts values) (λ values. bound -ℤ pos 1) at_most_mark terms number (numbers (terms.number refl) (number.number refl))))

  told_by : (ts : List (ℕ × ℤ)) (bound : ℤ) (positive switch : Bool) → IsAtom (length features) (record { terms = ts; bound = bound }) → is_switch features ts bound ≡ switch → Tells features ts bound positive switch
  told_by ts bound positive false atom e = told_compared ts bound positive atom
  told_by ts bound positive true atom e =
      let s = switch_of features ts bound e in
      let below : s.feature < length features = (subst (λ us. AreTerms (length features) us) s.terms_are (are_terms (length features) ts atom.below atom.small)).0 in
      let own : IsTold features 0 false (literal_by true positive (name_at features s.feature) (pos 1)) _ = told_switch s.feature positive below s.boolean in
      let there : Tells features ((s.feature, pos 1) ∷ []) (pos 1) positive true =
      with_text _ (ap (λ bs. literal_by true positive bs (pos 1)) (switch_text features s.feature)) (looser (looser (looser own))) in
      subst (λ us. Tells features us bound positive true) (sym s.terms_are) (subst (λ b. Tells features ((s.feature, pos 1) ∷ []) b positive true) (sym s.bound_is) there)

  -- a literal's text has its truth as C's value
  pub told_literal : (l : Literal) → IsAtom (length features) l.atom → IsTold features 3 false (literal_text features l) (λ values. bit (literal_holds l values))
  told_literal l atom = told_by l.atom.terms l.atom.bound l.positive (is_switch features l.atom.terms l.atom.bound) atom refl

  -- so has a value's
  pub told_value : (a : Atom) → IsAtom (length features) a → IsTold features 4 false (value_text features a) (λ values. bit (int_eq (sum_at a.terms values) a.bound))
  told_value a atom =
      let terms = looser (looser (told_terms named distinct a.terms atom.positive (are_terms (length features) a.terms atom.below atom.small))) in
      let number = looser (looser (looser (told_integer features a.bound (bound_small a.bound atom.bounded)))) in
      let text = terms_text true features a.terms in
      with_text ((text ++ codes " == ") ++ signed_decimal a.bound) (sym (append_assoc text (codes " == ") (signed_decimal a.bound)))
      (told_both features Equal true true false (λ e. absurd (false≢true e)) (codes " == ") text (signed_decimal a.bound) (λ values. sum_at a.terms values) (λ values. a.bound) equal_mark terms number (numbers (terms.number refl) (number.number refl)))
