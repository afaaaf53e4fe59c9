-- Numbers as C writes them: digits in a base, integer constants, and how far a preprocessing number goes.
use Rattle.std.specs.Prelude.{ℕ, ◌+◌, ◌*◌, ◌^◌, Bool, false, not, ◌&&◌, ◌||◌, ◌==◌, nat_lt, nat_le, List, [], ◌∷◌, length, drop, Option, Some, None, if◌then◌else◌}
use Rattle.std.specs.List.{list_all}
use Rattle.std.specs.Char.{digit_value}
use Rattle.c_words.specs.Bytes.{is_word_byte}

-- a digit in the base: from base 11 on also a letter of either case
abbrev pub is_digit_in : ℕ → ℕ → Bool
is_digit_in base b = nat_lt (digit_value b) base

-- the number that digits write: the value of each, times the base for each digit behind it
abbrev pub value_in : ℕ → List ℕ → ℕ
value_in base [] = 0
value_in base (d ∷ ds) = digit_value d * base ^ length ds + value_in base ds

-- one digit or more of the base
abbrev pub is_numeral : ℕ → List ℕ → Bool
is_numeral base ds = nat_lt 0 (length ds) && list_all (is_digit_in base) ds

-- a number up to a bound, else none
abbrev pub up_to : ℕ → ℕ → Option ℕ
up_to most n = if nat_le n most then Some n else None

-- the number of digits in the base, up to a bound
abbrev pub numeral_up_to : ℕ → ℕ → List ℕ → Option ℕ
numeral_up_to most base ds = if is_numeral base ds then up_to most (value_in base ds) else None

-- `0` comes first
abbrev pub begins_with_zero : List ℕ → Bool
begins_with_zero [] = false
begins_with_zero (b ∷ bs) = b == 48

-- `0` comes first, and is not all
abbrev pub is_padded : List ℕ → Bool
is_padded ds = begins_with_zero ds && nat_lt 1 (length ds)

-- `0`, or decimal digits that do not begin with `0`
abbrev pub is_decimal : List ℕ → Bool
is_decimal ds = is_numeral 10 ds && not (is_padded ds)

-- the number that they write, up to a bound
abbrev pub decimal_up_to : ℕ → List ℕ → Option ℕ
decimal_up_to most ds = if is_decimal ds then up_to most (value_in 10 ds) else None

-- ---- integer constants without a suffix (ISO/IEC 9899:2011, 6.4.4.1)

-- `0x` or `0X` comes first
abbrev pub is_prefixed : List ℕ → Bool
is_prefixed (a ∷ b ∷ bs) = (a == 48) && ((b == 120) || (b == 88))
is_prefixed _ = false

-- hexadecimal behind `0x` or `0X`, else octal where `0` comes first, else decimal
abbrev pub base_of : List ℕ → ℕ
base_of word = if is_prefixed word then 16 else (if begins_with_zero word then 8 else 10)

-- the digits: all but `0x` or `0X`
abbrev pub digits_of : List ℕ → List ℕ
digits_of word = if is_prefixed word then drop 2 word else word

abbrev pub is_constant : List ℕ → Bool
is_constant word = is_numeral (base_of word) (digits_of word)

abbrev pub constant_value : List ℕ → ℕ
constant_value word = value_in (base_of word) (digits_of word)

-- ---- preprocessing numbers (ISO/IEC 9899:2011, 6.4.8), of which none here has a period

-- `e`, `E`, `p` or `P`
abbrev pub is_exponent : ℕ → Bool
is_exponent b = (b == 101) || (b == 69) || (b == 112) || (b == 80)

abbrev pub is_sign : ℕ → Bool
is_sign b = (b == 43) || (b == 45)

-- behind a byte of a number another goes on with it: a letter, a digit, an underscore, or a sign directly behind an exponent's letter
abbrev pub goes_on : ℕ → ℕ → Bool
goes_on last b = is_word_byte b || (is_exponent last && is_sign b)
