-- Kinds of bytes of C.
use Rattle.std.specs.Prelude.{ℕ, Bool, ◌&&◌, ◌||◌, ◌==◌, nat_le}

-- space, tab, newline, vertical tab, form feed and carriage return
abbrev pub is_space : ℕ → Bool
is_space b = (b == 32) || (nat_le 9 b && nat_le b 13)

-- white space but a newline: space, tab, vertical tab, form feed and carriage return
abbrev pub is_gap : ℕ → Bool
is_gap b = (b == 32) || (b == 9) || (nat_le 11 b && nat_le b 13)

-- ISO/IEC 9899:2011, 6.4.2.1: a digit
abbrev pub is_digit : ℕ → Bool
is_digit b = nat_le 48 b && nat_le b 57

-- a small or a capital letter
abbrev pub is_letter : ℕ → Bool
is_letter b = (nat_le 97 b && nat_le b 122) || (nat_le 65 b && nat_le b 90)

-- a letter or a digit
abbrev pub is_alphanumeric : ℕ → Bool
is_alphanumeric b = is_letter b || is_digit b

-- ISO/IEC 9899:2011, 6.4.2.1: a nondigit (a letter or an underscore)
abbrev pub is_nondigit : ℕ → Bool
is_nondigit b = is_letter b || (b == 95)

-- a letter, a digit or an underscore
abbrev pub is_word_byte : ℕ → Bool
is_word_byte b = is_nondigit b || is_digit b
