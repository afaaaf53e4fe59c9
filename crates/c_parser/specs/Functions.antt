-- The functions outside that the tokens of a text declare (ISO/IEC 9899:2011, 6.7.6.3): each is a name directly behind the word of a type and
-- directly before `(`. Such a word is a function's wherever it stands.
use Rattle.std.specs.Prelude.{ℕ, Bool, true, false, ◌&&◌, List, [], ◌∷◌, Option, Some, None, Result, Ok, Err, if◌then◌else◌}
use Rattle.fam_outer.specs.declared.faults.FileCode.{FileCode}
use Rattle.fam_outer.specs.declared.faults.Place.{Place}
use Rattle.cpp_lines.specs.Code.{code_of}
use Rattle.cpp_lines.specs.Whole.{blanked_file}
use Rattle.c_tokens.specs.declared.token.Token.{Token}
use Rattle.c_tokens.specs.declared.token.TokenKind.{TokenKind}
use Rattle.c_tokens.specs.declared.token.TokenKind.TheVariants as kinds
use Rattle.c_tokens.specs.Reading.{tokens_of}
use Rattle.c_grammar.specs.declared.items.Sign.{Sign}
use Rattle.c_grammar.specs.declared.items.Sign.TheVariants as signs
use Rattle.c_parser.specs.Signs.{keyword_of, mark_of}
use Rattle.c_parser.specs.Items.{with_name, lexeme_in}

-- the keyword begins or ends the type of a function
abbrev pub is_type : Option Sign → Bool
is_type (Some signs.Int) = true
is_type (Some signs.Int32) = true
is_type (Some signs.Signed) = true
is_type (Some signs.Void) = true
is_type _ = false

abbrev pub is_no_keyword : Option Sign → Bool
is_no_keyword None = true
is_no_keyword (Some sign) = false

abbrev pub is_opening : Sign → Bool
is_opening signs.Open = true
is_opening _ = false

-- the token is the word of a type
abbrev pub is_type_token : TokenKind → List ℕ → Bool
is_type_token kinds.Word lexeme = is_type (keyword_of lexeme)
is_type_token _ lexeme = false

-- the token is a word that is no keyword
abbrev pub is_name_token : TokenKind → List ℕ → Bool
is_name_token kinds.Word lexeme = is_no_keyword (keyword_of lexeme)
is_name_token _ lexeme = false

-- the token is the mark `(`
abbrev pub is_opening_token : TokenKind → List ℕ → Bool
is_opening_token kinds.Mark lexeme = is_opening (mark_of lexeme)
is_opening_token _ lexeme = false

-- these tokens begin with such a mark
abbrev pub do_open : List ℕ → List Token → Bool
do_open bytes [] = false
do_open bytes (t ∷ ts) = is_opening_token t.kind (lexeme_in bytes t)

-- these functions, and the one that these tokens begin with behind the word of a type, if they do
abbrev pub with_named : List ℕ → List (List ℕ) → List Token → List (List ℕ)
with_named bytes fs [] = fs
with_named bytes fs (t ∷ ts) =
    if is_name_token t.kind (lexeme_in bytes t) && do_open bytes ts then with_name fs (lexeme_in bytes t) else fs

-- these functions, and the one that is declared by this token and the two behind it
abbrev pub with_function : List ℕ → List (List ℕ) → Token → List Token → List (List ℕ)
with_function bytes fs t ts = if is_type_token t.kind (lexeme_in bytes t) then with_named bytes fs ts else fs

-- these functions and those that the tokens declare, in the order of their first declaration
abbrev pub functions_from : List ℕ → List (List ℕ) → List Token → List (List ℕ)
functions_from bytes fs [] = fs
functions_from bytes fs (t ∷ ts) = functions_from bytes (with_function bytes fs t ts) ts

abbrev pub functions_in : List ℕ → List Token → List (List ℕ)
functions_in bytes ts = functions_from bytes [] ts

abbrev pub functions_or_none : List ℕ → Result (List Token) (FileCode × Place) → List (List ℕ)
functions_or_none code (Ok ts) = functions_in code ts
functions_or_none code (Err fault) = []

-- the functions that code declares; none where a token has a fault
unfoldable pub functions_of_code : List ℕ → List (List ℕ)
functions_of_code code = functions_or_none code (tokens_of code)

-- the functions over which code is read as a file's own
abbrev pub own_functions : List ℕ → List (List ℕ)
own_functions code = functions_of_code code

abbrev pub functions_of_blanked : Result (List ℕ) (FileCode × Place) → List (List ℕ)
functions_of_blanked (Ok blanked) = own_functions (code_of blanked)
functions_of_blanked (Err fault) = []

-- the functions of a file, which are those of its code; none where a comment has a fault
abbrev pub functions_of_bytes : List ℕ → List (List ℕ)
functions_of_bytes bytes = functions_of_blanked (blanked_file bytes)
