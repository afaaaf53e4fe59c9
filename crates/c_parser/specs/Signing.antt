-- What numbering the names of tokens answers.
use Rattle.std.specs.Prelude.{◌≡◌, ◌≤◌, ℕ, List, [], ◌∷◌}
use Rattle.c_tokens.specs.declared.token.Token.{Token}
use Rattle.c_tokens.specs.declared.token.TokenKind.{TokenKind}
use Rattle.c_grammar.specs.declared.items.Item.{Item}
use Rattle.c_grammar.specs.declared.items.Sign.{Sign}
use Rattle.c_parser.specs.declared.numbering.Numbered.{Numbered}
use Rattle.c_grammar.specs.Grammar.{at}
use Rattle.c_parser.specs.Items.{Listed, is_function, identifier_sign, names_with_identifier, sign_of, names_with, names_from, lexeme_in}

-- a token lies within so many bytes
abbrev pub IsWithin : ℕ → Token → Type 0
IsWithin len t = (t.start ≤ t.end) × (t.end ≤ len)

abbrev pub AreWithin : ℕ → List Token → Type 0
AreWithin len [] = Unit {0}
AreWithin len (t ∷ ts) = IsWithin len t × AreWithin len ts

-- the sign of an identifier, and the names that there are then
pub record HasName (functions old : List (List ℕ)) (name : List ℕ) (new : List (List ℕ)) (sign : Sign) : Type 0 where
  pub sign_is : sign ≡ identifier_sign (is_function functions name) functions old name
  pub names_are : new ≡ names_with_identifier (is_function functions name) old name

-- the sign of a token, and the names that there are then
pub record HasSign (functions old : List (List ℕ)) (kind : TokenKind) (lexeme : List ℕ) (new : List (List ℕ)) (sign : Sign) : Type 0 where
  pub sign_is : sign ≡ sign_of functions old kind lexeme
  pub names_are : new ≡ names_with functions old kind lexeme

-- the items of tokens, each numbered in the names that stand before it
abbrev pub items_from : List (List ℕ) → List ℕ → List (List ℕ) → List Token → List Item
items_from functions bytes names [] = []
items_from functions bytes names (t ∷ ts) =
    at t.place (sign_of functions names t.kind (lexeme_in bytes t)) ∷ items_from functions bytes (names_with functions names t.kind (lexeme_in bytes t)) ts

-- the items of tokens, and the names that there are then
pub record AreListed (functions old : List (List ℕ)) (bytes : List ℕ) (ts : List Token) (new : List (List ℕ)) (items : List Item) : Type 0 where
  pub names_are : new ≡ names_from functions bytes old ts
  pub items_are : items ≡ items_from functions bytes old ts

pub record IsListed (l : Listed) (made : Numbered) : Type 0 where
  pub names_are : made.names ≡ l.names
  pub items_are : made.items.items ≡ l.items
