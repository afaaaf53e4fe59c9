-- Integer constants of conditions: those of C with no suffix, or with one that says long (ISO/IEC 9899:2011, 6.4.4.1 and 6.10.1).
use Rattle.std.specs.Prelude.{ℕ, ◌-◌, Bool, true, false, not, ◌&&◌, ◌||◌, nat_eq, List, [], ◌∷◌, length, take, drop, slice_index_or}
use Rattle.std.specs.List.{prefix_len}
use Rattle.c_words.specs.Numbers.{is_constant, constant_value, is_exponent, is_sign}

-- `L` or `l`
abbrev pub is_long : ℕ → Bool
is_long b = nat_eq b 76 || nat_eq b 108

-- no such byte: none stands in a constant without a suffix
abbrev pub is_short : ℕ → Bool
is_short b = not (is_long b)

-- the bytes before the first `L` or `l`
abbrev pub unsuffixed : List ℕ → List ℕ
unsuffixed word = take (prefix_len is_short word) word

-- and those from it on
abbrev pub suffix_of : List ℕ → List ℕ
suffix_of word = drop (prefix_len is_short word) word

-- nothing, `L`, `l`, `LL` or `ll`
abbrev pub is_suffix : List ℕ → Bool
is_suffix [] = true
is_suffix (b ∷ []) = is_long b
is_suffix (b ∷ c ∷ []) = is_long b && nat_eq c b
is_suffix (b ∷ c ∷ d ∷ bs) = false

abbrev pub is_integer : List ℕ → Bool
is_integer word = is_constant (unsuffixed word) && is_suffix (suffix_of word)

abbrev pub integer_value : List ℕ → ℕ
integer_value word = constant_value (unsuffixed word)

-- the last byte is `e`, `E`, `p` or `P`
abbrev pub ends_in_exponent : List ℕ → Bool
ends_in_exponent word = is_exponent (slice_index_or word (length word - 1) 0)

abbrev pub begins_with_sign : List ℕ → Bool
begins_with_sign [] = false
begins_with_sign (b ∷ bs) = is_sign b

-- a sign goes on with the preprocessing number that these letters and digits begin (ISO/IEC 9899:2011, 6.4.8)
abbrev pub goes_on_behind : List ℕ → List ℕ → Bool
goes_on_behind word rest = ends_in_exponent word && begins_with_sign rest
