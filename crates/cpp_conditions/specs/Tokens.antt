-- Tokens of conditions, by longest match (ISO/IEC 9899:2011, 6.4, paragraph 4).
use Rattle.std.specs.Prelude.{◌≡◌, ℕ, ◌+◌, nat_eq, Bool, true, false, ◌&&◌, if◌then◌else◌, List, [], ◌∷◌, ◌++◌, codes, Option, Some, None}
use Rattle.std.specs.Str.{bytes_eq}
use Rattle.c_words.specs.Bytes.{is_gap, is_alphanumeric, is_word_byte}
use Rattle.c_words.specs.Identifiers.{is_identifier}
use Rattle.cpp_conditions.specs.Integers.{is_integer, integer_value, goes_on_behind}
use Rattle.cpp_conditions.specs.declared.operators.Operator.{Operator}
use Rattle.cpp_conditions.specs.declared.operators.Operator.TheVariants.{Times, Plus, Minus, Less, AtMost, Greater, AtLeast, Equal, Differs, Both, Either}

-- `++` and `--` are tokens that stand in no condition
pub data Token : Type 0 where
  Digits : (n : ℕ) → Token
  Word : (name : List ℕ) → Token
  Defined : Token
  Open : Token
  Close : Token
  Bang : Token
  Oper : (op : Operator) → Token
  Twice : Token

-- the first byte fails the test, or there is none
abbrev pub StopsAt : (ℕ → Bool) → List ℕ → Type 0
StopsAt test [] = Unit {0}
StopsAt test (b ∷ bs) = test b ≡ false

abbrev pub word_token : List ℕ → Token
word_token name = if bytes_eq name (codes "defined") then Defined else Word name

-- ---- marks

-- a mark of two bytes
abbrev pub pair_of : ℕ → ℕ → Option Token
pair_of b c =
    if nat_eq b 38 && nat_eq c 38 then Some (Oper Both)
    else (if nat_eq b 124 && nat_eq c 124 then Some (Oper Either)
    else (if nat_eq b 61 && nat_eq c 61 then Some (Oper Equal)
    else (if nat_eq b 33 && nat_eq c 61 then Some (Oper Differs)
    else (if nat_eq b 60 && nat_eq c 61 then Some (Oper AtMost)
    else (if nat_eq b 62 && nat_eq c 61 then Some (Oper AtLeast)
    else (if nat_eq b 43 && nat_eq c 43 then Some Twice
    else (if nat_eq b 45 && nat_eq c 45 then Some Twice
    else None)))))))

-- a mark of one byte
abbrev pub single_of : ℕ → Option Token
single_of b =
    if nat_eq b 40 then Some Open
    else (if nat_eq b 41 then Some Close
    else (if nat_eq b 33 then Some Bang
    else (if nat_eq b 60 then Some (Oper Less)
    else (if nat_eq b 62 then Some (Oper Greater)
    else (if nat_eq b 43 then Some (Oper Plus)
    else (if nat_eq b 45 then Some (Oper Minus)
    else (if nat_eq b 42 then Some (Oper Times)
    else None)))))))

-- the bytes do not begin with one that makes a pair with the byte
abbrev pub NoPair : ℕ → List ℕ → Type 0
NoPair b [] = Unit {0}
NoPair b (c ∷ bs) = pair_of b c ≡ None

-- the tokens of the bytes; none where a byte begins no token, or a run of digits and letters is no integer constant
pub data SpellsTokens : List ℕ → List Token → Type 0 where
  none : SpellsTokens [] []
  space : (b : ℕ) {bs : List ℕ} {ts : List Token} → is_gap b ≡ true → SpellsTokens bs ts → SpellsTokens (b ∷ bs) ts
  number : (ds : List ℕ) {bs : List ℕ} {ts : List Token} → is_integer ds ≡ true → StopsAt is_alphanumeric bs → goes_on_behind ds bs ≡ false → SpellsTokens bs ts → SpellsTokens (ds ++ bs) (Digits (integer_value ds) ∷ ts)
  word : (name : List ℕ) {bs : List ℕ} {ts : List Token} → is_identifier name ≡ true → StopsAt is_word_byte bs → SpellsTokens bs ts → SpellsTokens (name ++ bs) (word_token name ∷ ts)
  pair : (b c : ℕ) (t : Token) {bs : List ℕ} {ts : List Token} → pair_of b c ≡ Some t → SpellsTokens bs ts → SpellsTokens (b ∷ c ∷ bs) (t ∷ ts)
  single : (b : ℕ) (t : Token) {bs : List ℕ} {ts : List Token} → single_of b ≡ Some t → NoPair b bs → SpellsTokens bs ts → SpellsTokens (b ∷ bs) (t ∷ ts)

-- operators and opening parentheses have the weight 1, but not the parenthesis of `defined`
abbrev pub weight : Bool → Token → ℕ
weight true Open = 0
weight false Open = 1
weight defined Bang = 1
weight defined (Oper op) = 1
weight defined Twice = 1
weight defined _ = 0

abbrev pub is_defined : Token → Bool
is_defined Defined = true
is_defined _ = false

-- the weight of the tokens, behind `defined` or another token
abbrev pub weight_behind : Bool → List Token → ℕ
weight_behind defined [] = 0
weight_behind defined (t ∷ ts) = weight defined t + weight_behind (is_defined t) ts
