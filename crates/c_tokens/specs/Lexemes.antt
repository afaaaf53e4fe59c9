-- Lexemes, and the longest one at the front of a list of bytes.
use Rattle.std.specs.Prelude.{◌≡◌, ℕ, zero, suc, ◌+◌, ◌-◌, ◌*◌, ◌^◌, ◌<◌, ◌≤◌, pos, Bool, true, false, not, ◌&&◌, ◌||◌, ◌==◌, nat_le, List, [], ◌∷◌, length, take, codes, Option, Some, None, option_map, if◌then◌else◌}
use Rattle.std.specs.List.{list_all}
use Rattle.c_tokens.specs.declared.token.TokenKind.{TokenKind}
use Rattle.c_tokens.specs.declared.token.TokenKind.TheVariants.{Word, Number, Mark}
use Rattle.c_words.specs.Bytes.{is_digit, is_word_byte}
use Rattle.c_words.specs.Numbers.{goes_on, up_to, is_constant, constant_value}
use Rattle.c_tokens.specs.Characters.{character_of, inner}

-- whether the byte is one of the list
abbrev pub is_one_of : List ℕ → ℕ → Bool
is_one_of [] b = false
is_one_of (m ∷ ms) b = (b == m) || is_one_of ms b

-- the mark with which a definition begins: it stands for the `#` of a `#define`, and for no byte of a file
abbrev pub definition_byte : ℕ
definition_byte = 1

abbrev pub single_marks : List ℕ
single_marks = definition_byte ∷ codes "(){};,=<>+-*/%!"

-- the marks of one byte
abbrev pub is_single : ℕ → Bool
is_single b = is_one_of single_marks b

-- the marks of two bytes: `==` `!=` `<=` `>=` `+=` `-=` `*=` `/=` `%=`, and `&&` `||` `++` `--`
abbrev pub is_pair : ℕ → ℕ → Bool
is_pair b c = (is_one_of (codes "=!<>+-*/%") b && (c == 61)) || (is_one_of (codes "&|+-") b && (c == b))

abbrev pub is_mark : List ℕ → Bool
is_mark [] = false
is_mark (b ∷ []) = is_single b
is_mark (b ∷ c ∷ []) = is_pair b c
is_mark (b ∷ c ∷ d ∷ bs) = false

-- bytes that go on with a preprocessing number, the first of them behind the given byte (ISO/IEC 9899:2011, 6.4.8)
abbrev pub is_number_behind : ℕ → List ℕ → Bool
is_number_behind last [] = true
is_number_behind last (b ∷ bs) = goes_on last b && is_number_behind b bs

-- a digit with what goes on with a number behind it, or else letters, digits and underscores, one or more
abbrev pub is_run : List ℕ → Bool
is_run [] = false
is_run (b ∷ bs) = if is_digit b then is_number_behind b bs else list_all is_word_byte (b ∷ bs)

abbrev pub is_empty : List ℕ → Bool
is_empty [] = true
is_empty (b ∷ bs) = false

-- bytes up to a quote at their end, with no newline, and no other quote but behind a backslash; the byte behind one is
-- taken as it is; whether a backslash stands before the first
abbrev pub closes : Bool → List ℕ → Bool
closes escaped [] = false
closes escaped (b ∷ bs) =
    if b == 10 then false
    else (if not escaped && (b == 39) then is_empty bs else closes (not escaped && (b == 92)) bs)

-- a quote, with what closes it or alone (ISO/IEC 9899:2011, 6.4.4.4)
abbrev pub is_quoted : List ℕ → Bool
is_quoted [] = false
is_quoted (b ∷ bs) = (b == 39) && (is_empty bs || closes false bs)

-- a lexeme is such a run, a mark or a quote
abbrev pub is_lexeme : List ℕ → Bool
is_lexeme bytes = is_run bytes || (is_mark bytes || is_quoted bytes)

-- the longest sequence at the front that passes the test has n bytes; none passes, where n is 0 (ISO/IEC 9899:2011, 6.4, paragraph 4)
pub record IsLongest (test : List ℕ → Bool) (n : ℕ) (bytes : List ℕ) : Type 0 where
  pub fits : n ≤ length bytes
  pub passes : 0 < n → test (take n bytes) ≡ true
  pub longest : (m : ℕ) → n < m → m ≤ length bytes → test (take m bytes) ≡ false

-- the greatest length, up to a bound, at which the front passes the test; 0 where there is none
abbrev pub longest_up_to : (List ℕ → Bool) → ℕ → List ℕ → ℕ
longest_up_to test zero bytes = 0
longest_up_to test (suc n) bytes = if test (take (suc n) bytes) then suc n else longest_up_to test n bytes

-- the length of the longest lexeme at the front
abbrev pub lexeme_of : List ℕ → ℕ
lexeme_of bytes = longest_up_to is_lexeme (length bytes) bytes

-- how many bytes at the front go on with a number behind the given byte
abbrev pub number_len : ℕ → List ℕ → ℕ
number_len last [] = 0
number_len last (b ∷ bs) = if goes_on last b then suc (number_len b bs) else 0

-- how many bytes there are up to the quote that closes; none where none does
abbrev pub close_len : Bool → List ℕ → Option ℕ
close_len escaped [] = None
close_len escaped (b ∷ bs) =
    if b == 10 then None
    else (if not escaped && (b == 39) then Some 1 else option_map suc (close_len (not escaped && (b == 92)) bs))

-- an integer constant without a suffix is a literal up to 2147483647
abbrev pub literal_of : List ℕ → Option ℕ
literal_of word = if is_constant word then up_to 2147483647 (constant_value word) else None

abbrev pub number_kind : Option ℕ → Option TokenKind
number_kind = option_map (λ n. Number (pos n))

-- the kind of a lexeme; a run that begins with a digit and is no literal has none, nor has a quote that is no character constant
abbrev pub kind_of : List ℕ → Option TokenKind
kind_of [] = None
kind_of (b ∷ bs) =
    if is_digit b then number_kind (literal_of (b ∷ bs))
    else (if b == 39 then number_kind (character_of (inner (b ∷ bs)))
    else (if is_word_byte b then Some Word else Some Mark))
