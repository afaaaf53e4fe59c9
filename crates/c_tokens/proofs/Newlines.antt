-- No newline stands in a lexeme.
use Rattle.std.proofs.Common.{◌≡◌, ℕ, ◌+◌, inl, inr, Bool, true, false, not, cond, eqb, List, [], ◌∷◌, refl, sym, subst, ◌∙◌, arith}
use Rattle.std.specs.Prelude.{◌||◌, ◌&&◌, codes}
use Rattle.std.specs.List.{list_all, list_any}
use Rattle.std.proofs.lemmas.Bool.{and_parts, and_right, or_from, or_cases, or_right, ne_eqb, eqb-true, both_ways}
use Rattle.c_words.specs.Bytes.{is_digit, is_nondigit, is_word_byte}
use Rattle.c_words.specs.Numbers.{goes_on, is_exponent}
use Rattle.c_tokens.specs.Lexemes.{is_one_of}
use Rattle.c_tokens.specs.Lexemes.{is_lexeme, is_run, is_mark, is_single, is_pair, is_quoted, is_empty, closes, is_number_behind}
use Rattle.fam_outer.specs.Places.{is_newline}

word_byte : (b : ℕ) → is_word_byte b ≡ true → is_newline b ≡ false
word_byte b w = ne_eqb b 10 (λ e. both_ways (is_word_byte 10) refl (subst (λ (i : ℕ). is_word_byte i ≡ true) e w))

word_bytes : (xs : List ℕ) → list_all is_word_byte xs ≡ true → list_any is_newline xs ≡ false
word_bytes [] e = refl
word_bytes (b ∷ bs) e = let p = and_parts (is_word_byte b) (list_all is_word_byte bs) e in or_from (is_newline b) (list_any is_newline bs) (word_byte b p.0) (word_bytes bs p.1)

-- a sign behind an exponent is no newline either
goes_byte : (last b : ℕ) → goes_on last b ≡ true → is_newline b ≡ false
goes_byte last b g = ne_eqb b 10 (λ e. both_ways (is_exponent last && false) (and_right (is_exponent last) false refl) (subst (λ (i : ℕ). goes_on last i ≡ true) e g))

number_bytes : (last : ℕ) (xs : List ℕ) → is_number_behind last xs ≡ true → list_any is_newline xs ≡ false
number_bytes last [] e = refl
number_bytes last (b ∷ bs) e = let p = and_parts (goes_on last b) (is_number_behind b bs) e in or_from (is_newline b) (list_any is_newline bs) (goes_byte last b p.0) (number_bytes b bs p.1)

in_run : (xs : List ℕ) → is_run xs ≡ true → list_any is_newline xs ≡ false
in_run [] e = refl
in_run (b ∷ bs) e = elim (is_digit b) as (λ v. is_digit b ≡ v → cond v (is_number_behind b bs) (list_all is_word_byte (b ∷ bs)) ≡ true → list_any is_newline (b ∷ bs) ≡ false) [
  | true ↦ λ d h. or_from (is_newline b) (list_any is_newline bs) (word_byte b (or_right (is_nondigit b) (is_digit b) d)) (number_bytes b bs h)
  | false ↦ λ d h. word_bytes (b ∷ bs) h
] refl e

in_single : (b : ℕ) → is_single b ≡ true → is_newline b ≡ false
in_single b s = ne_eqb b 10 (λ e. both_ways (is_single 10) refl (subst (λ (i : ℕ). is_single i ≡ true) e s))

pair_first : (b c : ℕ) → is_pair b c ≡ true → b ≡ 10 → ⊥
pair_first b c p e = both_ways (is_pair 10 c) refl (subst (λ (i : ℕ). is_pair i c ≡ true) e p)

pair_second : (b c : ℕ) → is_pair b c ≡ true → c ≡ 10 → ⊥
pair_second b c p e = both_ways (is_pair b c)
    (or_from (is_one_of (codes "=!<>+-*/%") b && eqb c 61) (is_one_of (codes "&|+-") b && eqb c b)
    (and_right (is_one_of (codes "=!<>+-*/%") b) (eqb c 61) (ne_eqb c 61 (λ k. absurd (omega arith))))
    (and_right (is_one_of (codes "&|+-") b) (eqb c b) (ne_eqb c b (λ k. pair_first b c p (sym k ∙ e)))))
    p

in_mark : (xs : List ℕ) → is_mark xs ≡ true → list_any is_newline xs ≡ false
in_mark [] e = refl
in_mark (b ∷ []) e = or_from (is_newline b) false (in_single b e) refl
in_mark (b ∷ c ∷ []) e = or_from (is_newline b) (is_newline c || false) (ne_eqb b 10 (pair_first b c e)) (or_from (is_newline c) false (ne_eqb c 10 (pair_second b c e)) refl)
in_mark (b ∷ c ∷ d ∷ xs) e = absurd cc

only_empty : (xs : List ℕ) → is_empty xs ≡ true → list_any is_newline xs ≡ false
only_empty [] e = refl
only_empty (b ∷ bs) e = absurd cc

in_close : (escaped : Bool) (xs : List ℕ) → closes escaped xs ≡ true → list_any is_newline xs ≡ false
in_close escaped [] e = refl
in_close escaped (b ∷ bs) e = elim (eqb b 10) as (λ v. cond v false (cond (not escaped && eqb b 39) (is_empty bs) (closes (not escaped && eqb b 92) bs)) ≡ true → (v || list_any is_newline bs) ≡ false) [
  | true ↦ λ h. absurd cc
  | false ↦ elim (not escaped && eqb b 39) as (λ w. cond w (is_empty bs) (closes (not escaped && eqb b 92) bs) ≡ true → list_any is_newline bs ≡ false) [ true ↦ only_empty bs | false ↦ in_close (not escaped && eqb b 92) bs ]
] e

in_quoted : (xs : List ℕ) → is_quoted xs ≡ true → list_any is_newline xs ≡ false
in_quoted [] e = refl
in_quoted (b ∷ bs) e =
    let p = and_parts (eqb b 39) (is_empty bs || closes false bs) e in
    or_from (is_newline b) (list_any is_newline bs) (ne_eqb b 10 (λ k. absurd (omega (arith, eqb-true b 39 p.0))))
    (elim (or_cases (is_empty bs) (closes false bs) p.1) [ inl h ↦ only_empty bs h | inr h ↦ in_close false bs h ])

pub in_lexeme : (xs : List ℕ) → is_lexeme xs ≡ true → list_any is_newline xs ≡ false
in_lexeme xs e = elim (or_cases (is_run xs) (is_mark xs || is_quoted xs) e) [
  | inl r ↦ in_run xs r
  | inr h ↦ elim (or_cases (is_mark xs) (is_quoted xs) h) [ inl m ↦ in_mark xs m | inr q ↦ in_quoted xs q ]
]
