-- Texts as a page holds them, and how they are read back.
use Rattle.std.specs.Prelude.{ℕ, zero, suc, ◌+◌, ◌-◌, ◌*◌, ◌/◌, ◌%◌, Bool, not, ◌&&◌, ◌||◌, ◌==◌, nat_le, nat_lt, if◌then◌else◌, List, [], ◌∷◌, flat_map, get_or}

-- ---- written

-- a byte that stands for itself: a newline, or a printable ASCII character that is none of " & ' < >
abbrev pub is_plain : ℕ → Bool
is_plain byte =
    byte == 10 || (nat_le 32 byte && nat_le byte 126 && not (byte == 34) && not (byte == 38) && not (byte == 39) && not (byte == 60) && not (byte == 62))

-- a number below 16 as a digit, `0` to `9` and `a` to `f`
abbrev pub hex_digit : ℕ → ℕ
hex_digit number = if nat_lt number 10 then 48 + number else 97 + (number - 10)

-- `&#xHH;`, which HTML reads as the character with this number
abbrev pub reference : ℕ → List ℕ
reference byte = 38 ∷ 35 ∷ 120 ∷ hex_digit (byte / 16) ∷ hex_digit (byte % 16) ∷ 59 ∷ []

-- what a byte is written as
abbrev pub escape : ℕ → List ℕ
escape byte = if is_plain byte then byte ∷ [] else reference byte

-- what a text is written as
abbrev pub escaped : List ℕ → List ℕ
escaped bytes = flat_map escape bytes

-- ---- read back

-- the number that a digit stands for
abbrev pub digit_value : ℕ → ℕ
digit_value digit = if nat_lt digit 58 then digit - 48 else digit - 87

-- the byte of a reference, of whose text this stands behind the `&`
abbrev pub byte_behind : List ℕ → ℕ
byte_behind text = 16 * digit_value (get_or text 2 0) + digit_value (get_or text 3 0)

-- what is read of a text, of which so many bytes belong to a reference that was read
abbrev pub read_past : ℕ → List ℕ → List ℕ
read_past count [] = []
read_past (suc count) (byte ∷ text) = read_past count text
read_past zero (byte ∷ text) = if byte == 38 then byte_behind text ∷ read_past 5 text else byte ∷ read_past 0 text

-- the bytes that a text of a page stands for: each reference for its byte, and each other byte for itself
abbrev pub read_back : List ℕ → List ℕ
read_back text = read_past 0 text
