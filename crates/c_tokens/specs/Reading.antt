-- The tokens of a text, or its first fault.
use Rattle.std.specs.Prelude.{◌≡◌, ℕ, zero, suc, ◌+◌, ◌-◌, ◌<◌, ◌≤◌, true, false, List, [], ◌∷◌, ◌++◌, length, take, drop, Option, Some, None, Result, Ok, Err, if◌then◌else◌}
use Rattle.std.specs.List.{list_all}
use Rattle.fam_outer.specs.declared.faults.Place.{Place}
use Rattle.fam_outer.specs.declared.faults.FileCode.{FileCode}
use Rattle.fam_outer.specs.declared.faults.FileCode.TheVariants.{StrayByte, Literal}
use Rattle.c_tokens.specs.declared.token.Token.{Token}
use Rattle.c_tokens.specs.declared.token.TokenKind.{TokenKind}
use Rattle.c_words.specs.Bytes.{is_space}
use Rattle.fam_outer.specs.Places.{place_at}
use Rattle.c_tokens.specs.Lexemes.{is_lexeme, IsLongest, lexeme_of, kind_of}

-- the bytes from one offset to another
abbrev pub slice : List ℕ → ℕ → ℕ → List ℕ
slice text start end = take (end - start) (drop start text)

-- ---- a reading: lexemes by longest match, one behind another, with white space between them

-- only white space stands from one offset to another
pub record IsSpaceBetween (text : List ℕ) (start end : ℕ) : Type 0 where
  pub order : start ≤ end
  pub within : end ≤ length text
  pub spaces : list_all is_space (slice text start end) ≡ true

-- at its offset the token is the longest lexeme, with its kind and its place
pub record IsTokenIn (text : List ℕ) (token : Token) : Type 0 where
  pub begins : token.start < token.end
  pub longest : IsLongest is_lexeme (token.end - token.start) (drop token.start text)
  pub kind : kind_of (slice text token.start token.end) ≡ Some token.kind
  pub place : token.place ≡ place_at text token.start

-- from one offset to another stand these tokens in this order, and white space
abbrev pub StandBetween : List ℕ → ℕ → List Token → ℕ → Type 0
StandBetween text start [] end = IsSpaceBetween text start end
StandBetween text start (t ∷ ts) end = IsSpaceBetween text start t.start × (IsTokenIn text t × StandBetween text t.end ts end)

-- the byte at this offset is no white space, and no lexeme begins with it
pub record IsStray (text : List ℕ) (offset : ℕ) : Type 0 where
  pub within : offset < length text
  pub no_space : list_all is_space (slice text offset (offset + 1)) ≡ false
  pub none : IsLongest is_lexeme 0 (drop offset text)

-- the longest lexeme at this offset has so many bytes and no kind
pub record IsWrongLiteral (text : List ℕ) (offset len : ℕ) : Type 0 where
  pub begins : 0 < len
  pub longest : IsLongest is_lexeme len (drop offset text)
  pub none : kind_of (slice text offset (offset + len)) ≡ None

abbrev pub HasFault : List ℕ → ℕ → FileCode → Type 0
HasFault text offset StrayByte = IsStray text offset
HasFault text offset Literal = (len : ℕ) × IsWrongLiteral text offset len
HasFault text offset _ = ⊥

-- what the text is read as: all its tokens, or the first fault with nothing but tokens and white space before it
abbrev pub IsReading : List ℕ → Result (List Token) (FileCode × Place) → Type 0
IsReading text (Ok ts) = StandBetween text 0 ts (length text)
IsReading text (Err fault) = (ts : List Token) × (offset : ℕ) × StandBetween text 0 ts offset × HasFault text offset fault.0 × (fault.1 ≡ place_at text offset)

-- ---- the same as a function

-- the kind and the length of a lexeme that was found, or why there is no token
abbrev pub known : ℕ → Option TokenKind → Result (TokenKind × ℕ) FileCode
known zero kind = Err StrayByte
known (suc n) None = Err Literal
known (suc n) (Some kind) = Ok (kind, suc n)

-- the same of the longest lexeme at the front
abbrev pub front_of : List ℕ → Result (TokenKind × ℕ) FileCode
front_of bytes = known (lexeme_of bytes) (kind_of (take (lexeme_of bytes) bytes))

-- these tokens in front of what is read behind them
abbrev pub before : List Token → Result (List Token) (FileCode × Place) → Result (List Token) (FileCode × Place)
before front (Ok ts) = Ok (front ++ ts)
before front (Err fault) = Err fault

-- the token of the lexeme at this offset, and what is read where so many bytes behind its first are left to pass; or the fault
abbrev pub read_lexeme : List ℕ → ℕ → Result (TokenKind × ℕ) FileCode → (ℕ → Result (List Token) (FileCode × Place)) → Result (List Token) (FileCode × Place)
read_lexeme text offset (Ok found) more = before (record { kind = found.0; place = place_at text offset; start = offset; end = offset + found.1 } ∷ []) (more (found.1 - 1))
read_lexeme text offset (Err code) more = Err (code, place_at text offset)

-- what is read from this offset on: so many bytes of a lexeme are left to pass, and behind them each byte
-- is white space, or the longest lexeme begins at it
abbrev pub read_from : List ℕ → ℕ → ℕ → List ℕ → Result (List Token) (FileCode × Place)
read_from text offset left [] = Ok []
read_from text offset (suc left) (b ∷ bs) = read_from text (offset + 1) left bs
read_from text offset zero (b ∷ bs) =
    if is_space b then read_from text (offset + 1) 0 bs
    else read_lexeme text offset (front_of (b ∷ bs)) (λ left. read_from text (offset + 1) left bs)

-- the tokens of a text, or its first fault
unfoldable pub tokens_of : List ℕ → Result (List Token) (FileCode × Place)
tokens_of text = read_from text 0 0 text
