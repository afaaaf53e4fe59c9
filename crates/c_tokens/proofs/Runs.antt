-- The longest run at the front: a number, or a word.
use Rattle.std.proofs.Common.{◌≡◌, ℕ, zero, suc, ◌+◌, ◌<◌, ◌≤◌, true, false, cond, leb, List, [], ◌∷◌, length, take, refl, ap, ◌∙◌, arith}
use Rattle.std.specs.Prelude.{◌&&◌}
use Rattle.std.specs.List.{list_all, prefix_len}
use Rattle.std.proofs.Math.Numerals.{one-add}
use Rattle.std.proofs.lemmas.Bool.{lt-leb, le-leb}
use Rattle.c_words.specs.Bytes.{is_digit, is_word_byte}
use Rattle.c_words.specs.Numbers.{goes_on}
use Rattle.c_tokens.specs.Lexemes.{IsLongest, is_run, is_number_behind, number_len}

-- ---- numbers

pub number_fits : (last : ℕ) (bytes : List ℕ) → number_len last bytes ≤ length bytes
number_fits last [] = omega arith
number_fits last (b ∷ bs) = let h = number_fits b bs in elim (goes_on last b) as (λ v. cond v (suc (number_len b bs)) 0 ≤ suc (length bs)) [ true ↦ omega arith | false ↦ omega arith ]

number_all : (last : ℕ) (bytes : List ℕ) → is_number_behind last (take (number_len last bytes) bytes) ≡ true
number_all last [] = refl
number_all last (b ∷ bs) = elim (goes_on last b) as (λ v. goes_on last b ≡ v → is_number_behind last (take (cond v (suc (number_len b bs)) 0) (b ∷ bs)) ≡ true) [ true ↦ λ e. rw e (number_all b bs) | false ↦ λ e. refl ] refl

number_not : (last : ℕ) (bytes : List ℕ) (m : ℕ) → number_len last bytes < m → m ≤ length bytes → is_number_behind last (take m bytes) ≡ false
number_not last [] m lt le = absurd (omega arith)
number_not last (b ∷ bs) zero lt le = absurd (omega arith)
number_not last (b ∷ bs) (suc m) lt le = elim (goes_on last b) as (λ v. goes_on last b ≡ v → cond v (suc (number_len b bs)) 0 < suc m → (v && is_number_behind b (take m bs)) ≡ false) [ true ↦ λ e h. number_not b bs m (omega arith) (omega arith) | false ↦ λ e h. refl ] refl lt

number_longer : (b : ℕ) (bs : List ℕ) (m : ℕ) → is_digit b ≡ true → suc (number_len b bs) < m → m ≤ suc (length bs) → is_run (take m (b ∷ bs)) ≡ false
number_longer b bs zero d lt le = absurd (omega arith)
number_longer b bs (suc m) d lt le = rw d (number_not b bs m (omega arith) (omega arith))

pub number_longest : (b : ℕ) (bs : List ℕ) → is_digit b ≡ true → IsLongest is_run (suc (number_len b bs)) (b ∷ bs)
number_longest b bs d = record {
  fits = omega (arith, number_fits b bs);
  passes = λ lt. rw d (number_all b bs);
  longest = λ m lt le. number_longer b bs m d lt le;
}

-- ---- words

all_taken : (bytes : List ℕ) → list_all is_word_byte (take (prefix_len is_word_byte bytes) bytes) ≡ true
all_taken [] = refl
all_taken (b ∷ bs) = elim (is_word_byte b) as (λ v. is_word_byte b ≡ v → list_all is_word_byte (take (cond v (1 + prefix_len is_word_byte bs) 0) (b ∷ bs)) ≡ true) [ true ↦ λ e. rw (one-add, e) (all_taken bs) | false ↦ λ e. refl ] refl

not_all : (bytes : List ℕ) (m : ℕ) → prefix_len is_word_byte bytes < m → m ≤ length bytes → list_all is_word_byte (take m bytes) ≡ false
not_all [] m lt le = absurd (omega arith)
not_all (b ∷ bs) zero lt le = absurd (omega arith)
not_all (b ∷ bs) (suc m) lt le = elim (is_word_byte b) as (λ v. is_word_byte b ≡ v → cond v (1 + prefix_len is_word_byte bs) 0 < suc m → (v && list_all is_word_byte (take m bs)) ≡ false) [ true ↦ λ e h. not_all bs m (omega arith) (omega arith) | false ↦ λ e h. refl ] refl lt

prefix_fits : (bytes : List ℕ) → prefix_len is_word_byte bytes ≤ length bytes
prefix_fits [] = omega arith
prefix_fits (b ∷ bs) = let h = prefix_fits bs in elim (is_word_byte b) as (λ v. cond v (1 + prefix_len is_word_byte bs) 0 ≤ suc (length bs)) [ true ↦ omega arith | false ↦ omega arith ]

-- behind a byte that is no digit
word_run : (b : ℕ) (bs : List ℕ) (m : ℕ) → is_digit b ≡ false → 0 < m → is_run (take m (b ∷ bs)) ≡ list_all is_word_byte (take m (b ∷ bs))
word_run b bs zero d lt = absurd (omega arith)
word_run b bs (suc m) d lt = rw d refl

pub word_longest : (b : ℕ) (bs : List ℕ) → is_digit b ≡ false → IsLongest is_run (prefix_len is_word_byte (b ∷ bs)) (b ∷ bs)
word_longest b bs d = record {
  fits = prefix_fits (b ∷ bs);
  passes = λ lt. word_run b bs (prefix_len is_word_byte (b ∷ bs)) d lt ∙ all_taken (b ∷ bs);
  longest = λ m lt le. word_run b bs m d (omega arith) ∙ not_all (b ∷ bs) m lt le;
}
