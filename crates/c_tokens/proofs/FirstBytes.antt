-- The first byte of a lexeme is no white space.
use Rattle.std.proofs.Common.{◌≡◌, ℕ, zero, suc, ◌<◌, ◌≤◌, inl, inr, Bool, true, false, not, cond, eqb, leb, List, [], ◌∷◌, take, refl, sym, subst, arith}
use Rattle.std.specs.Prelude.{◌||◌, ◌&&◌, codes}
use Rattle.std.specs.List.{list_all}
use Rattle.std.proofs.lemmas.Bool.{and_parts, or_cases, or_right, eqb-true, leb-true, false_from_ne_true}
use Rattle.c_words.specs.Bytes.{is_space, is_digit, is_letter, is_nondigit, is_word_byte}
use Rattle.c_tokens.specs.Lexemes.{is_one_of, single_marks}
use Rattle.c_tokens.specs.Lexemes.{is_lexeme, is_run, is_mark, is_pair, is_quoted, is_empty, closes, is_number_behind}

space_below : (b : ℕ) → is_space b ≡ true → b ≤ 32
space_below b e = elim (or_cases (eqb b 32) (leb 9 b && leb b 13) e) [
  | inl h ↦ omega (arith, eqb-true b 32 h)
  | inr h ↦ let p = and_parts (leb 9 b) (leb b 13) h in omega (arith, leb-true b 13 p.1)
]

within_above : (low high b : ℕ) → 33 ≤ low → (leb low b && leb b high) ≡ true → 33 ≤ b
within_above low high b h e = let p = and_parts (leb low b) (leb b high) e in omega (arith, leb-true low b p.0)

word_above : (b : ℕ) → is_word_byte b ≡ true → 33 ≤ b
word_above b e = elim (or_cases (is_nondigit b) (is_digit b) e) [
  | inl h ↦ elim (or_cases (is_letter b) (eqb b 95) h) [
    | inl i ↦ elim (or_cases (leb 97 b && leb b 122) (leb 65 b && leb b 90) i) [ inl j ↦ within_above 97 122 b (omega arith) j | inr j ↦ within_above 65 90 b (omega arith) j ]
    | inr i ↦ omega (arith, eqb-true b 95 i)
  ]
  | inr h ↦ within_above 48 57 b (omega arith) h
]

one_above : (ms : List ℕ) (b : ℕ) → list_all (λ m. leb 33 m) ms ≡ true → is_one_of ms b ≡ true → 33 ≤ b
one_above [] b all e = absurd cc
one_above (m ∷ ms) b all e =
    let p = and_parts (leb 33 m) (list_all (λ m. leb 33 m) ms) all in
    elim (or_cases (eqb b m) (is_one_of ms b) e) [ inl h ↦ omega (arith, eqb-true b m h, leb-true 33 m p.0) | inr h ↦ one_above ms b p.1 h ]

pair_above : (b c : ℕ) → is_pair b c ≡ true → 33 ≤ b
pair_above b c e = elim (or_cases (is_one_of (codes "=!<>+-*/%") b && eqb c 61) (is_one_of (codes "&|+-") b && eqb c b) e) [
  | inl h ↦ one_above (codes "=!<>+-*/%") b refl (and_parts (is_one_of (codes "=!<>+-*/%") b) (eqb c 61) h).0
  | inr h ↦ one_above (codes "&|+-") b refl (and_parts (is_one_of (codes "&|+-") b) (eqb c b) h).0
]

no_space_above : (b : ℕ) → 33 ≤ b → is_space b ≡ false
no_space_above b le = false_from_ne_true (is_space b) (λ s. let h = space_below b s in absurd (omega arith))

is_not : (v : Bool) → not v ≡ true → v ≡ false
is_not true e = absurd cc
is_not false e = refl

one_no_space : (ms : List ℕ) (b : ℕ) → list_all (λ m. not (is_space m)) ms ≡ true → is_one_of ms b ≡ true → is_space b ≡ false
one_no_space [] b all e = absurd cc
one_no_space (m ∷ ms) b all e =
    let p = and_parts (not (is_space m)) (list_all (λ m. not (is_space m)) ms) all in
    elim (or_cases (eqb b m) (is_one_of ms b) e) [
      | inl h ↦ subst (λ (i : ℕ). is_space i ≡ false) (sym (eqb-true b m h)) (is_not (is_space m) p.0)
      | inr h ↦ one_no_space ms b p.1 h
    ]

mark_no_space : (b : ℕ) (xs : List ℕ) → is_mark (b ∷ xs) ≡ true → is_space b ≡ false
mark_no_space b [] e = one_no_space single_marks b refl e
mark_no_space b (c ∷ []) e = no_space_above b (pair_above b c e)
mark_no_space b (c ∷ d ∷ xs) e = absurd cc

run_above : (b : ℕ) (xs : List ℕ) (v : Bool) → is_digit b ≡ v → cond v (is_number_behind b xs) (is_word_byte b && list_all is_word_byte xs) ≡ true → 33 ≤ b
run_above b xs true d e = word_above b (or_right (is_nondigit b) (is_digit b) d)
run_above b xs false d e = word_above b (and_parts (is_word_byte b) (list_all is_word_byte xs) e).0

pub no_space : (b : ℕ) (xs : List ℕ) → is_lexeme (b ∷ xs) ≡ true → is_space b ≡ false
no_space b xs e = elim (or_cases (is_run (b ∷ xs)) (is_mark (b ∷ xs) || is_quoted (b ∷ xs)) e) [
  | inl h ↦ no_space_above b (run_above b xs (is_digit b) refl h)
  | inr h ↦ elim (or_cases (is_mark (b ∷ xs)) (is_quoted (b ∷ xs)) h) [
    | inl k ↦ mark_no_space b xs k
    | inr k ↦ no_space_above b (omega (arith, eqb-true b 39 (and_parts (eqb b 39) (is_empty xs || closes false xs) k).0))
  ]
]

pub no_space_first : (b : ℕ) (bs : List ℕ) (n : ℕ) → 0 < n → is_lexeme (take n (b ∷ bs)) ≡ true → is_space b ≡ false
no_space_first b bs zero lt e = absurd (omega arith)
no_space_first b bs (suc n) lt e = no_space b (take n bs) e
