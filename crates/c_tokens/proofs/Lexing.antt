-- The longest lexeme is the longest run, mark or quote, by the first byte.
use Rattle.std.proofs.Common.{◌≡◌, ℕ, zero, suc, ◌+◌, ◌<◌, ◌≤◌, Bool, true, false, not, cond, eqb, List, [], ◌∷◌, length, take, refl, sym, ap, subst, ◌∙◌, arith}
use Rattle.std.specs.Prelude.{◌&&◌, ◌||◌, codes, unwrap_or}
use Rattle.std.specs.List.{list_all, prefix_len}
use Rattle.std.proofs.lemmas.Bool.{and_parts, and_left, or_from, or_right, eqb-true, ne_eqb, both_ways}
use Rattle.c_words.specs.Bytes.{is_digit, is_nondigit, is_word_byte}
use Rattle.c_tokens.specs.Lexemes.{is_one_of, single_marks}
use Rattle.c_tokens.specs.Lexemes.{IsLongest, is_mark, is_run, is_quoted, is_lexeme, lexeme_of, is_number_behind, number_len, close_len}
use Rattle.c_tokens.proofs.Longest.{is_longest, one_longest}
use Rattle.c_tokens.proofs.Runs.{number_longest, word_longest}
use Rattle.c_tokens.proofs.Quotes.{quote_longest}

-- ---- no mark begins with a word byte

differs : (b m : ℕ) → is_word_byte b ≡ true → not (is_word_byte m) ≡ true → b ≡ m → ⊥
differs b m w n e = both_ways (not (is_word_byte m)) (ap not (subst (λ (i : ℕ). is_word_byte i ≡ true) e w)) n

pub not_one_of : (ms : List ℕ) (b : ℕ) → list_all (λ m. not (is_word_byte m)) ms ≡ true → is_word_byte b ≡ true → is_one_of ms b ≡ false
not_one_of [] b none w = refl
not_one_of (m ∷ ms) b none w =
    let p = and_parts (not (is_word_byte m)) (list_all (λ m. not (is_word_byte m)) ms) none in
    or_from (eqb b m) (is_one_of ms b) (elim (eqb b m) as (λ v. eqb b m ≡ v → v ≡ false) [ true ↦ λ e. absurd (differs b m w p.0 (eqb-true b m e)) | false ↦ λ e. refl ] refl) (not_one_of ms b p.1 w)

mark_not : (b : ℕ) (xs : List ℕ) → is_word_byte b ≡ true → is_mark (b ∷ xs) ≡ false
mark_not b [] w = not_one_of single_marks b refl w
mark_not b (c ∷ []) w = or_from (is_one_of (codes "=!<>+-*/%") b && eqb c 61) (is_one_of (codes "&|+-") b && eqb c b) (and_left _ _ (not_one_of (codes "=!<>+-*/%") b refl w)) (and_left _ _ (not_one_of (codes "&|+-") b refl w))
mark_not b (c ∷ d ∷ xs) w = refl

-- ---- which bytes begin what

or_nothing : (v : Bool) → (v || false) ≡ v
or_nothing true = refl
or_nothing false = refl

quoted_not : (b : ℕ) (xs : List ℕ) → eqb b 39 ≡ false → is_quoted (b ∷ xs) ≡ false
quoted_not b xs e = and_left _ _ e

no_quote : (b : ℕ) → is_word_byte b ≡ true → eqb b 39 ≡ false
no_quote b w = ne_eqb b 39 (λ e. both_ways (is_word_byte 39) refl (subst (λ (i : ℕ). is_word_byte i ≡ true) e w))

no_digit : (b : ℕ) → is_word_byte b ≡ false → is_digit b ≡ false
no_digit b w = elim (is_digit b) as (λ v. is_digit b ≡ v → v ≡ false) [ true ↦ λ e. absurd (both_ways (is_word_byte b) w (or_right (is_nondigit b) (is_digit b) e)) | false ↦ λ e. refl ] refl

run_not : (b : ℕ) (xs : List ℕ) → is_word_byte b ≡ false → is_run (b ∷ xs) ≡ false
run_not b xs w = subst (λ (v : Bool). cond v (is_number_behind b xs) (is_word_byte b && list_all is_word_byte xs) ≡ false) (sym (no_digit b w)) (and_left (is_word_byte b) (list_all is_word_byte xs) w)

run_same : (b : ℕ) → is_word_byte b ≡ true → (xs : List ℕ) → is_lexeme (b ∷ xs) ≡ is_run (b ∷ xs)
run_same b w xs = ap (λ v. is_run (b ∷ xs) || v) (or_from (is_mark (b ∷ xs)) (is_quoted (b ∷ xs)) (mark_not b xs w) (quoted_not b xs (no_quote b w))) ∙ or_nothing (is_run (b ∷ xs))

mark_same : (b : ℕ) → is_word_byte b ≡ false → eqb b 39 ≡ false → (xs : List ℕ) → is_lexeme (b ∷ xs) ≡ is_mark (b ∷ xs)
mark_same b w q xs = rw (run_not b xs w, quoted_not b xs q) (or_nothing (is_mark (b ∷ xs)))

quote_same : (xs : List ℕ) → is_lexeme (39 ∷ xs) ≡ is_quoted (39 ∷ xs)
quote_same [] = refl
quote_same (c ∷ []) = refl
quote_same (c ∷ d ∷ xs) = refl

-- ---- where the lexemes that begin with a byte are of one kind

at_front : (test : List ℕ → Bool) (b : ℕ) → ((xs : List ℕ) → is_lexeme (b ∷ xs) ≡ test (b ∷ xs)) → (bs : List ℕ) (m : ℕ) → 0 < m → is_lexeme (take m (b ∷ bs)) ≡ test (take m (b ∷ bs))
at_front test b same bs zero lt = absurd (omega arith)
at_front test b same bs (suc m) lt = same (take m bs)

only : (test : List ℕ → Bool) (b : ℕ) → ((xs : List ℕ) → is_lexeme (b ∷ xs) ≡ test (b ∷ xs)) → (bs : List ℕ) (n : ℕ) → IsLongest test n (b ∷ bs) → n ≡ lexeme_of (b ∷ bs)
only test b same bs n h =
    let longest : IsLongest is_lexeme n (b ∷ bs) = record {
      fits = h.fits;
      passes = λ lt. at_front test b same bs n lt ∙ h.passes lt;
      longest = λ m lt le. at_front test b same bs m (omega arith) ∙ h.longest m lt le;
    } in
    one_longest is_lexeme (b ∷ bs) n (lexeme_of (b ∷ bs)) longest (is_longest is_lexeme (b ∷ bs))

pub number_lexeme : (b : ℕ) (bs : List ℕ) → is_digit b ≡ true → suc (number_len b bs) ≡ lexeme_of (b ∷ bs)
number_lexeme b bs d = only is_run b (run_same b (or_right (is_nondigit b) (is_digit b) d)) bs (suc (number_len b bs)) (number_longest b bs d)

pub word_lexeme : (b : ℕ) (bs : List ℕ) → is_digit b ≡ false → is_word_byte b ≡ true → prefix_len is_word_byte (b ∷ bs) ≡ lexeme_of (b ∷ bs)
word_lexeme b bs d w = only is_run b (run_same b w) bs (prefix_len is_word_byte (b ∷ bs)) (word_longest b bs d)

pub quote_lexeme : (b : ℕ) (bs : List ℕ) → eqb b 39 ≡ true → suc (unwrap_or (close_len false bs) 0) ≡ lexeme_of (b ∷ bs)
quote_lexeme b bs e = subst (λ (i : ℕ). suc (unwrap_or (close_len false bs) 0) ≡ lexeme_of (i ∷ bs)) (sym (eqb-true b 39 e)) (only is_quoted 39 quote_same bs (suc (unwrap_or (close_len false bs) 0)) (quote_longest bs))

pub mark_lexeme : (b : ℕ) (bs : List ℕ) (n : ℕ) → is_word_byte b ≡ false → eqb b 39 ≡ false → IsLongest is_mark n (b ∷ bs) → n ≡ lexeme_of (b ∷ bs)
mark_lexeme b bs n w q h = only is_mark b (mark_same b w q) bs n h
