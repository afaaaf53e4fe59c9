-- The token at the front of a list of bytes, and what `scan` answers.
use Rattle.std.specs.Prelude.{⊤, ℕ, Bool, true, false, not, ◌&&◌, if◌then◌else◌, List, [], ◌∷◌, map, Option, Some, None, option_map, Result, Ok, Err}
use Rattle.std.specs.Borrow.{Bor}
use Rattle.std.specs.Global.{Vec}
use Rattle.cpp_conditions.specs.declared.expression_refusal.ExpressionRefusal.{ExpressionRefusal}
use Rattle.cpp_conditions.specs.declared.expression_refusal.ExpressionRefusal.TheVariants as stops
use Rattle.cpp_conditions.specs.declared.tokens.Token as coded
use Rattle.cpp_conditions.specs.declared.tokens.Token.TheVariants as tokens
use Rattle.cpp_conditions.specs.Integers.{is_integer, integer_value, goes_on_behind}
use Rattle.c_words.specs.Bytes.{is_digit, is_alphanumeric, is_nondigit, is_word_byte}
use Rattle.cpp_conditions.specs.Tokens.{Token, Digits, Word, Defined, Open, Close, Bang, Oper, Twice, word_token, pair_of, single_of, SpellsTokens}

-- a token of the scanner as a plain one
abbrev pub token : coded.Token → Token
token (tokens.Digits ds) = Digits (integer_value ds.now)
token (tokens.Word name) = Word name.now
token tokens.Defined = Defined
token tokens.Open = Open
token tokens.Close = Close
token tokens.Bang = Bang
token (tokens.Oper op) = Oper op
token tokens.Twice = Twice

-- the bytes at the front that pass the test
abbrev pub run : (ℕ → Bool) → List ℕ → List ℕ
run test [] = []
run test (b ∷ bs) = if test b then b ∷ run test bs else []

abbrev pub behind : (ℕ → Bool) → List ℕ → List ℕ
behind test [] = []
behind test (b ∷ bs) = if test b then behind test bs else b ∷ bs

-- an integer constant with nothing behind that goes on with it
abbrev pub is_whole : List ℕ → List ℕ → Bool
is_whole ds rest = is_integer ds && not (goes_on_behind ds rest)

abbrev pub number_by : Bool → List ℕ → List ℕ → Option (Token × List ℕ)
number_by true ds bytes = Some (Digits (integer_value ds), bytes)
number_by false ds bytes = None

-- the number of all digits and letters at the front
abbrev pub number_at : List ℕ → Option (Token × List ℕ)
number_at bytes = number_by (is_whole (run is_alphanumeric bytes) (behind is_alphanumeric bytes)) (run is_alphanumeric bytes) (behind is_alphanumeric bytes)

abbrev pub word_at : List ℕ → Option (Token × List ℕ)
word_at bytes = Some (word_token (run is_word_byte bytes), behind is_word_byte bytes)

abbrev pub mark_by : Option Token → ℕ → ℕ → List ℕ → Option (Token × List ℕ)
mark_by (Some t) b c bytes = Some (t, bytes)
mark_by None b c bytes = option_map (λ t. (t, c ∷ bytes)) (single_of b)

-- the longer mark first
abbrev pub mark_at : ℕ → List ℕ → Option (Token × List ℕ)
mark_at b [] = option_map (λ t. (t, [])) (single_of b)
mark_at b (c ∷ bytes) = mark_by (pair_of b c) b c bytes

-- the token that begins with the byte
abbrev pub lexeme_at : ℕ → List ℕ → Option (Token × List ℕ)
lexeme_at b bytes = if is_digit b then number_at (b ∷ bytes) else (if is_nondigit b then word_at (b ∷ bytes) else mark_at b bytes)

-- the same as the scanner has it
abbrev pub plainly : Option (coded.Token × Bor (List ℕ)) → Option (Token × List ℕ)
plainly = option_map (λ x. (token x.0, x.1.now))

-- the tokens that the bytes spell, and `Wrong` where they spell none
abbrev pub Scans : Result (Vec coded.Token) ExpressionRefusal → List ℕ → Type 0
Scans (Ok list) bytes = SpellsTokens bytes (map token list.items)
Scans (Err stops.NoMemory) bytes = ⊤
Scans (Err stops.Wrong) bytes = (ts : List Token) → SpellsTokens bytes ts → ⊥
