-- The items of tokens: their signs and places, with the identifiers numbered: those of functions outside in a list of functions, and the others
-- in the list of all names of the text.
use Rattle.std.specs.Prelude.{◌≡◌, ℕ, Bool, true, false, List, [], ◌∷◌, ◌++◌, map, Option, Some, None, if◌then◌else◌}
use Rattle.std.specs.List.{list_any, position_or_len}
use Rattle.std.specs.Str.{bytes_eq}
use Rattle.c_tokens.specs.declared.token.Token.{Token}
use Rattle.c_tokens.specs.declared.token.TokenKind.{TokenKind}
use Rattle.c_tokens.specs.declared.token.TokenKind.TheVariants as kinds
use Rattle.c_tokens.specs.Reading.{slice}
use Rattle.c_grammar.specs.declared.items.Item.{Item}
use Rattle.c_grammar.specs.declared.items.Sign.{Sign}
use Rattle.c_grammar.specs.declared.items.Sign.TheVariants as signs
use Rattle.c_grammar.specs.Grammar.{at}
use Rattle.c_parser.specs.Signs.{keyword_of, mark_of}

-- the number of a name in a list of names, which is their count where it is new
abbrev pub number_in : List (List ℕ) → List ℕ → ℕ
number_in names name = position_or_len (bytes_eq name) names

-- the names, with this one where it is new
abbrev pub with_name : List (List ℕ) → List ℕ → List (List ℕ)
with_name names name = if list_any (bytes_eq name) names then names else names ++ name ∷ []

-- the word is one of these functions'
abbrev pub is_function : List (List ℕ) → List ℕ → Bool
is_function functions word = list_any (bytes_eq word) functions

-- the sign of an identifier, which is a function's or a name of the program
abbrev pub identifier_sign : Bool → List (List ℕ) → List (List ℕ) → List ℕ → Sign
identifier_sign true functions names word = signs.Function (number_in functions word)
identifier_sign false functions names word = signs.Name (number_in names word)

-- the sign of a word over these functions and names
abbrev pub word_sign : List (List ℕ) → List (List ℕ) → List ℕ → Option Sign → Sign
word_sign functions names word (Some keyword) = keyword
word_sign functions names word None = identifier_sign (is_function functions word) functions names word

-- the sign of a token over these functions and names
abbrev pub sign_of : List (List ℕ) → List (List ℕ) → TokenKind → List ℕ → Sign
sign_of functions names (kinds.Number n) lexeme = signs.Number n
sign_of functions names kinds.Word lexeme = word_sign functions names lexeme (keyword_of lexeme)
sign_of functions names kinds.Mark lexeme = mark_of lexeme

-- the names after an identifier: a function's adds none
abbrev pub names_with_identifier : Bool → List (List ℕ) → List ℕ → List (List ℕ)
names_with_identifier true names word = names
names_with_identifier false names word = with_name names word

abbrev pub names_with_word : List (List ℕ) → List (List ℕ) → List ℕ → Option Sign → List (List ℕ)
names_with_word functions names word (Some keyword) = names
names_with_word functions names word None = names_with_identifier (is_function functions word) names word

-- the names after a token
abbrev pub names_with : List (List ℕ) → List (List ℕ) → TokenKind → List ℕ → List (List ℕ)
names_with functions names (kinds.Number n) lexeme = names
names_with functions names kinds.Word lexeme = names_with_word functions names lexeme (keyword_of lexeme)
names_with functions names kinds.Mark lexeme = names

-- the bytes of a token
abbrev pub lexeme_in : List ℕ → Token → List ℕ
lexeme_in bytes t = slice bytes t.start t.end

-- these names and those of the tokens, in the order of their first occurrence
abbrev pub names_from : List (List ℕ) → List ℕ → List (List ℕ) → List Token → List (List ℕ)
names_from functions bytes names [] = names
names_from functions bytes names (t ∷ ts) = names_from functions bytes (names_with functions names t.kind (lexeme_in bytes t)) ts

-- names, and items whose names are numbered in them
pub record Listed : Type 0 where
  pub names : List (List ℕ)
  pub items : List Item

-- the item of a token over the functions and the names of its text, and those of tokens
abbrev pub item_over : List (List ℕ) → List (List ℕ) → List ℕ → Token → Item
item_over functions names bytes t = at t.place (sign_of functions names t.kind (lexeme_in bytes t))

abbrev pub items_over : List (List ℕ) → List (List ℕ) → List ℕ → List Token → List Item
items_over functions names bytes ts = map (item_over functions names bytes) ts

-- the names and the items of the tokens of a text over these functions, where these names are given before its own
abbrev pub listed : List (List ℕ) → List (List ℕ) → List ℕ → List Token → Listed
listed functions given bytes ts =
    record { names = names_from functions bytes given ts; items = items_over functions (names_from functions bytes given ts) bytes ts }

-- each of these names is new behind those before it
abbrev pub AreNewBehind : List (List ℕ) → List (List ℕ) → Type 0
AreNewBehind before [] = Unit {0}
AreNewBehind before (name ∷ names) = (list_any (bytes_eq name) before ≡ false) × AreNewBehind (before ++ name ∷ []) names

-- no name stands twice
abbrev pub AreDistinct : List (List ℕ) → Type 0
AreDistinct names = AreNewBehind [] names
