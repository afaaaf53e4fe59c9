-- The texts of sums of terms.
use Rattle.std.proofs.Common.{◌≡◌, ℕ, suc, ◌^◌, ◌<◌, ℤ, pos, negsuc, ◌+ℤ◌, ◌-ℤ◌, ◌*ℤ◌, ◌<ℤ◌, int_lt, unsigned_abs, Bool, true, false, ◌&&◌, if◌then◌else◌, nat_eq, nat_le, List, [], ◌∷◌, ◌++◌, length, codes, slice_index_or, refl, sym, ap, ◌∙◌, arith}
use Rattle.std.proofs.lemmas.Bool.Decides.{Decides-eqb, nat_tests}
use Rattle.std.proofs.lemmas.Int.{ints}
use Rattle.std.proofs.lemmas.List.{append-nil, append_assoc}
use Rattle.std.specs.Fmt.{decimal}
use Rattle.linear_atoms.specs.declared.atoms.Feature.{Feature}
use Rattle.linear_atoms.specs.Atoms.{AreBelow, LeadsPositive}
use Rattle.linear_atoms.specs.Forms.{are_small, sum_at}
use Rattle.linear_atoms.specs.Texts.{name_at, sign_text, sized_text, terms_text}
use Rattle.feature_model.specs.Features.{AreDistinct, AreNamed}
use Rattle.cpp_conditions.specs.declared.operators.Operator.TheVariants.{Times, Plus, Minus}
use Rattle.region_laws.proofs.Spelling.{IsTold, looser, with_value, with_text, told_name, told_natural, told_both, numbers, times_suits, times_mark, plus_mark, minus_mark}

-- each term's feature is there, and its coefficient is small
abbrev pub AreTerms : ℕ → List (ℕ × ℤ) → Type 0
AreTerms count [] = Unit {0}
AreTerms count (t ∷ ts) = (t.0 < count) × (unsigned_abs t.1 < 2 ^ 64) × AreTerms count ts

small_one : (n : ℕ) (rest : Bool) → (nat_le n 2147483648 && rest) ≡ true → (n < 2 ^ 64) × (rest ≡ true)
small_one n true e = (grind (arith, nat_tests), refl)
small_one n false e = absurd (never (nat_le n 2147483648) e)
  where
    never : (x : Bool) → (x && false) ≡ true → ⊥
    never true e = cc
    never false e = cc

pub are_terms : (count : ℕ) (ts : List (ℕ × ℤ)) → AreBelow count ts → are_small ts ≡ true → AreTerms count ts
are_terms count [] below small = tt
are_terms count (t ∷ ts) below small =
    let s = small_one (unsigned_abs t.1) _ small in
    (below.0, s.0, are_terms count ts below.1 s.1)

-- ---- numbers

times_one : (v : ℤ) → v ≡ pos 1 *ℤ v
times_one v = omega (arith, ints)

plus_nothing : (x : ℤ) → x ≡ x +ℤ pos 0
plus_nothing x = omega (arith, ints)

plus_assoc : (x y z : ℤ) → (x +ℤ y) +ℤ z ≡ x +ℤ (y +ℤ z)
plus_assoc x y z = omega (arith, ints)

less_times : (x v : ℤ) (k : ℕ) → x -ℤ (pos (suc k) *ℤ v) ≡ x +ℤ (negsuc k *ℤ v)
less_times x v k = omega (arith, ints)

no_less : (k : ℕ) → int_lt (pos k) (pos 0) ≡ false
no_less k = grind (arith, ints)

module _ {features : List Feature} (named : AreNamed features) (distinct : AreDistinct features) where
  -- a term without its sign
  told_sized : (n : ℕ) (a : ℤ) → n < length features → unsigned_abs a < 2 ^ 64 → IsTold features 1 true (sized_text a (name_at features n)) (λ values. pos (unsigned_abs a) *ℤ slice_index_or values n (pos 0))
  told_sized n a lt small =
      let name = name_at features n in
      let own : IsTold features 1 true name (λ values. slice_index_or values n (pos 0)) = looser (told_name features n named distinct lt) in
      let product : IsTold features 1 true (decimal (unsigned_abs a) ++ (codes "*" ++ name)) (λ values. pos (unsigned_abs a) *ℤ slice_index_or values n (pos 0)) =
      told_both features Times true true true (λ e. refl) (codes "*") (decimal (unsigned_abs a)) name _ _ times_mark (looser (told_natural features (unsigned_abs a) small)) (told_name features n named distinct lt) (times_suits features (unsigned_abs a) n small named distinct lt) in
      elim (nat_eq (unsigned_abs a) 1) as (λ b. nat_eq (unsigned_abs a) 1 ≡ b → IsTold features 1 true ((if b then [] else decimal (unsigned_abs a) ++ codes "*") ++ name) (λ values. pos (unsigned_abs a) *ℤ slice_index_or values n (pos 0))) [
        | true ↦ λ e. with_value (λ values. pos (unsigned_abs a) *ℤ slice_index_or values n (pos 0))
            (λ values within. times_one (slice_index_or values n (pos 0)) ∙ ap (λ m. pos m *ℤ slice_index_or values n (pos 0)) (sym ((Decides-eqb (unsigned_abs a) 1).0 e))) own
        | false ↦ λ e. with_text ((decimal (unsigned_abs a) ++ codes "*") ++ name) (sym (append_assoc (decimal (unsigned_abs a)) (codes "*") name)) product
      ] refl

  -- a sum and one term more
  told_more : (text : List ℕ) (of : List ℤ → ℤ) (n : ℕ) (a : ℤ) → n < length features → unsigned_abs a < 2 ^ 64 → IsTold features 2 true text of
      → IsTold features 2 true (text ++ (sign_text false a ++ sized_text a (name_at features n))) (λ values. of values +ℤ (a *ℤ slice_index_or values n (pos 0)))
  told_more text of n (pos k) lt small t =
      let one = told_sized n (pos k) lt small in
      let sized = sized_text (pos k) (name_at features n) in
      with_text (text ++ (sign_text false (pos k) ++ sized)) (ap (λ b. text ++ ((if b then codes " - " else codes " + ") ++ sized)) (sym (no_less k)))
      (told_both features Plus true true true (λ e. refl) (codes " + ") text sized of (λ values. pos k *ℤ slice_index_or values n (pos 0)) plus_mark t one (numbers (t.number refl) (one.number refl)))
  told_more text of n (negsuc k) lt small t =
      let one = told_sized n (negsuc k) lt small in
      let sized = sized_text (negsuc k) (name_at features n) in
      with_value (λ values. of values +ℤ (negsuc k *ℤ slice_index_or values n (pos 0))) (λ values within. less_times (of values) (slice_index_or values n (pos 0)) k)
      (told_both features Minus true true true (λ e. refl) (codes " - ") text sized of (λ values. pos (suc k) *ℤ slice_index_or values n (pos 0)) minus_mark t one (numbers (t.number refl) (one.number refl)))

  -- a sum and the terms behind it
  told_rest : (text : List ℕ) (of : List ℤ → ℤ) (ts : List (ℕ × ℤ)) → AreTerms (length features) ts → IsTold features 2 true text of
      → IsTold features 2 true (text ++ terms_text false features ts) (λ values. of values +ℤ sum_at ts values)
  told_rest text of [] are t = with_text (text ++ []) (sym (append-nil text)) (with_value (λ values. of values +ℤ pos 0) (λ values within. plus_nothing (of values)) t)
  told_rest text of (t ∷ ts) are s =
      let term = sign_text false t.1 ++ sized_text t.1 (name_at features t.0) in
      let more = told_more text of t.0 t.1 are.0 are.1 s in
      let all = told_rest (text ++ term) (λ values. of values +ℤ (t.1 *ℤ slice_index_or values t.0 (pos 0))) ts are.2 more in
      with_text (text ++ (term ++ terms_text false features ts)) (append_assoc text term (terms_text false features ts))
      (with_value (λ values. of values +ℤ ((t.1 *ℤ slice_index_or values t.0 (pos 0)) +ℤ sum_at ts values))
      (λ values within. plus_assoc (of values) (t.1 *ℤ slice_index_or values t.0 (pos 0)) (sum_at ts values)) all)

  first_told : (n k : ℕ) (ts : List (ℕ × ℤ)) → AreTerms (length features) ((n, pos k) ∷ ts) → IsTold features 2 true (terms_text true features ((n, pos k) ∷ ts)) (λ values. sum_at ((n, pos k) ∷ ts) values)
  first_told n k ts are =
      let sized = sized_text (pos k) (name_at features n) in
      let one = looser (told_sized n (pos k) are.0 are.1) in
      with_text (terms_text true features ((n, pos k) ∷ ts)) (ap (λ b. ((if b then codes "-" else []) ++ sized) ++ terms_text false features ts) (sym (no_less k)))
      (told_rest sized (λ values. pos k *ℤ slice_index_or values n (pos 0)) ts are.2 one)

  -- the terms of an atom
  pub told_terms : (ts : List (ℕ × ℤ)) → LeadsPositive ts → AreTerms (length features) ts → IsTold features 2 true (terms_text true features ts) (λ values. sum_at ts values)
  told_terms [] positive are = absurd positive
  told_terms ((n, pos k) ∷ ts) positive are = first_told n k ts are
  told_terms ((n, negsuc k) ∷ ts) positive are = absurd (no_positive k positive)
    where
      no_positive : (k : ℕ) → pos 0 <ℤ negsuc k → ⊥
      no_positive k h = omega (arith, ints)
