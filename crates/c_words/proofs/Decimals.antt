-- What `decimal` writes is an integer constant with this value.
use Rattle.std.proofs.Common.{◌≡◌, ℕ, zero, suc, ◌^◌, ◌<◌, rules, leb, true, false, List, [], ◌∷◌, length, get_or, refl, ap, ◌∙◌, arith}
use Rattle.std.specs.List.{list_all}
use Rattle.std.specs.Fmt.{decimal}
use Rattle.std.specs.Char.{digit_value}
use Rattle.std.proofs.lemmas.Bool.{and_parts, and_left, and_from, le-leb, lt-ltb, ltb-true, ne_eqb}
use Rattle.std.proofs.lemmas.Str.Parse.{IsNumeralModel, numerals_by_weight, digit_from_value}
use Rattle.std.proofs.lemmas.Fmt.{digits_decimal, digits_value-decimal, decimal_nonempty, first_decimal, decimal_digit}
use Rattle.c_words.specs.Bytes.{is_digit}
use Rattle.c_words.specs.Numbers.{is_digit_in, value_in, is_prefixed, base_of, digits_of, is_constant, constant_value}

pub own : IsNumeralModel (λ ds. list_all (is_digit_in 10) ds ≡ true) (value_in 10)
own = numerals_by_weight _ (search rules) (value_in 10) (search rules)

-- ---- what begins with a digit but `0` is decimal

unprefixed : (d : ℕ) (ds : List ℕ) → 48 < d → is_prefixed (d ∷ ds) ≡ false
unprefixed d [] lt = refl
unprefixed d (e ∷ ds) lt = and_left _ _ (ne_eqb d 48 (λ k. absurd (omega arith)))

base_is : (d : ℕ) (ds : List ℕ) → 48 < d → base_of (d ∷ ds) ≡ 10
base_is d ds lt = rw (unprefixed d ds lt, ne_eqb d 48 (λ k. absurd (omega arith))) refl

digits_are : (d : ℕ) (ds : List ℕ) → 48 < d → digits_of (d ∷ ds) ≡ d ∷ ds
digits_are d ds lt = rw (unprefixed d ds lt) refl

pub constant_is : (d : ℕ) (ds : List ℕ) → 48 < d → is_constant (d ∷ ds) ≡ list_all (is_digit_in 10) (d ∷ ds)
constant_is d ds lt = rw (base_is d ds lt, digits_are d ds lt, lt-ltb 0 (length (d ∷ ds)) (omega arith)) refl

pub value_is : (d : ℕ) (ds : List ℕ) → 48 < d → constant_value (d ∷ ds) ≡ value_in 10 (d ∷ ds)
value_is d ds lt = rw (base_is d ds lt, digits_are d ds lt) refl

pub one_digit : (d : ℕ) → is_digit_in 10 d ≡ true → is_digit d ≡ true
one_digit d h = let r = digit_from_value d (ltb-true (digit_value d) 10 h) in and_from (leb 48 d) (leb d 57) (le-leb 48 d r.0) (le-leb d 57 r.1)

-- ---- what `decimal` writes

constant_of : (w : List ℕ) → 0 < length w → 48 < get_or w 0 0 → list_all (is_digit_in 10) w ≡ true → is_constant w ≡ true
constant_of [] some lt a = absurd (omega arith)
constant_of (d ∷ ds) some lt a = constant_is d ds lt ∙ a

value_of : (w : List ℕ) → 0 < length w → 48 < get_or w 0 0 → constant_value w ≡ value_in 10 w
value_of [] some lt = absurd (omega arith)
value_of (d ∷ ds) some lt = value_is d ds lt

pub decimal_constant : (n : ℕ) → n < 2 ^ 64 → is_constant (decimal n) ≡ true
decimal_constant zero lt = ap is_constant (decimal_digit 0 (omega arith))
decimal_constant (suc n) lt = constant_of (decimal (suc n)) (decimal_nonempty (suc n) lt) (first_decimal (suc n) (omega arith) lt) (digits_decimal own (suc n) lt)

pub decimal_value : (n : ℕ) → n < 2 ^ 64 → constant_value (decimal n) ≡ n
decimal_value zero lt = ap constant_value (decimal_digit 0 (omega arith))
decimal_value (suc n) lt = value_of (decimal (suc n)) (decimal_nonempty (suc n) lt) (first_decimal (suc n) (omega arith) lt) ∙ digits_value-decimal own (suc n) lt

all_digits : (bs : List ℕ) → list_all (is_digit_in 10) bs ≡ true → list_all is_digit bs ≡ true
all_digits [] h = refl
all_digits (b ∷ bs) h = let p = and_parts (is_digit_in 10 b) (list_all (is_digit_in 10) bs) h in and_from (is_digit b) (list_all is_digit bs) (one_digit b p.0) (all_digits bs p.1)

pub decimal_digits : (n : ℕ) → n < 2 ^ 64 → list_all is_digit (decimal n) ≡ true
decimal_digits n lt = all_digits (decimal n) (digits_decimal own n lt)
