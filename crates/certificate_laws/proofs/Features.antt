-- The features of an accepted model have names.
use Rattle.std.proofs.Common.{◌≡◌, ℕ, zero, suc, ◌<◌, ◌≤◌, Bool, true, false, not, ◌&&◌, ◌||◌, true≢false, List, [], ◌∷◌, ◌⊎◌, inl, inr, length, refl, sym, ap, subst, ◌∙◌, arith}
use Rattle.std.specs.Prelude.{if◌then◌else◌, Option, Some, None, option_map}
use Rattle.std.specs.List.{list_all}
use Rattle.std.specs.Str.{bytes_eq}
use Rattle.std.proofs.lemmas.Slice.Eq.{bytes_eq-Decides}
use Rattle.std.proofs.lemmas.Bool.Decides.{nat_tests}
use Rattle.linear_atoms.specs.declared.atoms.Feature.{Feature}
use Rattle.linear_atoms.specs.Texts.{name_at}
use Rattle.cpp_conditions.specs.Expressions.{found}
use Rattle.c_words.specs.Bytes.{is_nondigit, is_word_byte}
use Rattle.c_words.specs.Identifiers.{is_identifier}
use Rattle.feature_model.specs.Features.{AreDistinct, AreNamed}
use Rattle.certificate_laws.proofs.Naming.{IsWordByte, AreWordBytes, IsName, HaveNames}
use Rattle.certificate_laws.proofs.Literals.{by_truth}

-- ---- names

word_byte : (b : ℕ) → is_word_byte b ≡ true → IsWordByte b
word_byte b e =
    let low : 48 ≤ b = grind (arith, nat_tests) in
    let high : b ≤ 122 = grind (arith, nat_tests) in
    (low, high, λ f. colon (subst (λ n. is_word_byte n ≡ true) f e))
  where
    colon : is_word_byte 58 ≡ true → ⊥
    colon e = true≢false (sym e)

first_byte : (b : ℕ) → is_nondigit b ≡ true → 58 < b
first_byte b e = grind (arith, nat_tests)

and_parts : (a b : Bool) → (a && b) ≡ true → (a ≡ true) × (b ≡ true)
and_parts true b e = (refl, e)
and_parts false b e = absurd (true≢false (sym e))

word_bytes : (bs : List ℕ) → list_all is_word_byte bs ≡ true → AreWordBytes bs
word_bytes [] e = tt
word_bytes (b ∷ bs) e = let parts = and_parts (is_word_byte b) (list_all is_word_byte bs) e in (word_byte b parts.0, word_bytes bs parts.1)

or_first : (a b : Bool) → a ≡ true → (a || b) ≡ true
or_first a b e = ap (λ x. x || b) e

identifier_name : (name : List ℕ) → is_identifier name ≡ true → IsName name
identifier_name [] e = true≢false (sym e)
identifier_name (b ∷ bs) e =
    let parts = and_parts (is_nondigit b) (list_all is_word_byte bs) e in
    (first_byte b parts.0, (word_byte b (or_first (is_nondigit b) _ parts.0), word_bytes bs parts.1))

not_or : (a b : Bool) → (not a || b) ≡ false → a ≡ true
not_or true b e = refl
not_or false b e = absurd (true≢false e)

are_names : (fs : List Feature) (n : ℕ) → AreNamed fs → n < length fs → IsName (name_at fs n)
are_names [] n h l = absurd (omega (arith, l))
are_names (f ∷ fs) zero h l = identifier_name f.name (not_or (is_identifier f.name) _ h.0)
are_names (f ∷ fs) (suc n) h l = are_names fs n h.1 (omega (arith, l))

-- ---- distinct names

not_some : (n : ℕ) → Some n ≡ None → ⊥
not_some n e = cc

no_option : (o : Option ℕ) → option_map suc o ≡ None → o ≡ None
no_option None e = refl
no_option (Some n) e = absurd (not_some (suc n) e)

found_some : (name : List ℕ) (fs : List Feature) (n : ℕ) → n < length fs → name_at fs n ≡ name → found name fs ≡ None → ⊥
found_some name [] n l e h = omega (arith, l)
found_some name (f ∷ fs) zero l e h =
    not_some 0 (sym (ap (λ b. if b then Some 0 else option_map suc (found name fs)) ((bytes_eq-Decides f.name name).1 e)) ∙ h)
found_some name (f ∷ fs) (suc n) l e h = by (by_truth (bytes_eq f.name name)) (λ none. found_some name fs n (omega (arith, l)) e none)
  where
    by : (bytes_eq f.name name ≡ true) ⊎ (bytes_eq f.name name ≡ false) → (found name fs ≡ None → ⊥) → ⊥
    by (inl t) behind = not_some 0 (sym (ap (λ b. if b then Some 0 else option_map suc (found name fs)) t) ∙ h)
    by (inr t) behind = behind (no_option (found name fs) (sym (ap (λ b. if b then Some 0 else option_map suc (found name fs)) t) ∙ h))

are_apart : (fs : List Feature) (m n : ℕ) → AreDistinct fs → m < length fs → n < length fs → name_at fs m ≡ name_at fs n → m ≡ n
are_apart [] m n h l k e = absurd (omega (arith, l))
are_apart (f ∷ fs) zero zero h l k e = refl
are_apart (f ∷ fs) zero (suc n) h l k e = absurd (found_some f.name fs n (omega (arith, k)) (sym e) h.0)
are_apart (f ∷ fs) (suc m) zero h l k e = absurd (found_some f.name fs m (omega (arith, l)) e h.0)
are_apart (f ∷ fs) (suc m) (suc n) h l k e = ap suc (are_apart fs m n h.1 (omega (arith, l)) (omega (arith, k)) e)

pub have_names : (fs : List Feature) → AreNamed fs → AreDistinct fs → HaveNames fs
have_names fs named distinct = record {
  are = λ n h. are_names fs n named h;
  apart = λ m n h k e. are_apart fs m n distinct h k e;
}
