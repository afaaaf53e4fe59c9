-- Character constants (ISO/IEC 9899:2011, 6.4.4.4), each as the number of its one byte in ASCII.
use Rattle.std.specs.Prelude.{ℕ, ◌-◌, Bool, not, ◌&&◌, ◌==◌, nat_le, List, [], ◌∷◌, length, take, drop, Option, Some, None, if◌then◌else◌}
use Rattle.c_words.specs.Numbers.{is_digit_in, numeral_up_to}

-- a byte that stands for itself: from a space to `~`, but no quote and no backslash
abbrev pub is_plain : ℕ → Bool
is_plain b = nat_le 32 b && nat_le b 126 && not (b == 39) && not (b == 92)

-- `\'` `\"` `\?` `\\` `\a` `\b` `\f` `\n` `\r` `\t` `\v`, by the byte behind the backslash
abbrev pub simple_escape : ℕ → Option ℕ
simple_escape b =
    if b == 39 then Some 39
    else (if b == 34 then Some 34
    else (if b == 63 then Some 63
    else (if b == 92 then Some 92
    else (if b == 97 then Some 7
    else (if b == 98 then Some 8
    else (if b == 102 then Some 12
    else (if b == 110 then Some 10
    else (if b == 114 then Some 13
    else (if b == 116 then Some 9
    else (if b == 118 then Some 11
    else None))))))))))

-- one to three octal digits, up to 127
abbrev pub octal_escape : List ℕ → Option ℕ
octal_escape ds = if nat_le (length ds) 3 then numeral_up_to 127 8 ds else None

-- what stands behind a backslash: `x` and hexadecimal digits up to 127, octal digits, or one other byte
abbrev pub escape_of : List ℕ → Option ℕ
escape_of [] = None
escape_of (b ∷ bs) =
    if b == 120 then numeral_up_to 127 16 bs
    else (if is_digit_in 8 b then octal_escape (b ∷ bs)
    else (if nat_le (length bs) 0 then simple_escape b else None))

-- what stands between the quotes: a byte that stands for itself, or an escape
abbrev pub character_of : List ℕ → Option ℕ
character_of [] = None
character_of (b ∷ bs) =
    if b == 92 then escape_of bs
    else (if is_plain b && nat_le (length bs) 0 then Some b else None)

-- the bytes between the first and the last
abbrev pub inner : List ℕ → List ℕ
inner bytes = take (length bytes - 2) (drop 1 bytes)
