-- Numbers in decimal digits.
use Rattle.std.proofs.Common.{◌≡◌, ℕ, ◌^◌, ◌<◌, Bool, true, false, ◌||◌, nat_eq, if◌then◌else◌, List, [], ◌∷◌, ◌++◌, length, Some, None, ap, subst, arith}
use Rattle.std.proofs.lemmas.Bool.{and_parts}
use Rattle.std.proofs.lemmas.Fmt.{decimal_nonempty}
use Rattle.std.specs.Fmt.{decimal}
use Rattle.std.specs.List.{list_all}
use Rattle.c_words.specs.Bytes.{is_digit, is_letter, is_alphanumeric, is_word_byte}
use Rattle.cpp_conditions.specs.Tokens.{Token, Digits, Twice, SpellsTokens, StopsAt, NoPair}
use Rattle.cpp_conditions.specs.Tokens as tokens
use Rattle.cpp_conditions.proofs.IntegerWords.{decimal_integer, decimal_integer_value, decimal_alone}
use Rattle.c_words.proofs.Decimals.{decimal_digits}

no_word : (x y z : Bool) → ((x || y) || z) ≡ false → (x || z) ≡ false
no_word true y z e = absurd cc
no_word false true z e = absurd cc
no_word false false z e = e

pub alphanumeric_stops : (bs : List ℕ) → StopsAt is_word_byte bs → StopsAt is_alphanumeric bs
alphanumeric_stops [] h = tt
alphanumeric_stops (b ∷ bs) h = no_word (is_letter b) (nat_eq b 95) (is_digit b) h

-- a number's digits are its token
pub number_token : (n : ℕ) (rest : List ℕ) (ts : List Token) → n < 2 ^ 64 → StopsAt is_word_byte rest → SpellsTokens rest ts → SpellsTokens (decimal n ++ rest) (Digits n ∷ ts)
number_token n rest ts lt stops s =
    subst (λ m. SpellsTokens (decimal n ++ rest) (Digits m ∷ ts)) (decimal_integer_value n lt)
    (tokens.number (decimal n) (decimal_integer n lt) (alphanumeric_stops rest stops) (decimal_alone n rest lt) s)

-- ---- no number begins with `-`

no_minus : (b : ℕ) → is_digit b ≡ true → nat_eq b 45 ≡ false
no_minus b h = grind arith

apart : (w rest : List ℕ) → 0 < length w → list_all is_digit w ≡ true → NoPair 45 (w ++ rest)
apart [] rest lt a = absurd (omega arith)
apart (b ∷ bs) rest lt a = ap (λ x. if x then Some Twice else None) (no_minus b (and_parts (is_digit b) (list_all is_digit bs) a).0)

pub minus_apart : (n : ℕ) (rest : List ℕ) → n < 2 ^ 64 → NoPair 45 (decimal n ++ rest)
minus_apart n rest lt = apart (decimal n) rest (decimal_nonempty n lt) (decimal_digits n lt)
