-- Tokens declare no more functions than they are.
use Rattle.std.proofs.Common.{◌≡◌, ℕ, ◌+◌, ◌≤◌, Bool, true, false, List, [], ◌∷◌, length, Ok, arith}
use Rattle.std.specs.Prelude.{◌&&◌, if◌then◌else◌}
use Rattle.c_tokens.specs.declared.token.Token.{Token}
use Rattle.c_tokens.specs.Reading.{tokens_of}
use Rattle.c_parser.specs.Functions.{is_name_token, is_type_token, do_open, with_named, with_function, functions_from, functions_in}
use Rattle.c_parser.specs.Items.{with_name, lexeme_in}
use Rattle.c_parser.proofs.Growing.{with_one}
use Rattle.c_parser.proofs.Lexical.{TokenLaws, tokens_few}

either_few : (b : Bool) (fs gs : List (List ℕ)) → length gs ≤ length fs + 1 → length (if b then gs else fs) ≤ length fs + 1
either_few true fs gs h = h
either_few false fs gs h = omega arith

named_few : (bytes : List ℕ) (fs : List (List ℕ)) (ts : List Token) → length (with_named bytes fs ts) ≤ length fs + 1
named_few bytes fs [] = omega arith
named_few bytes fs (t ∷ ts) =
    either_few (is_name_token t.kind (lexeme_in bytes t) && do_open bytes ts) fs (with_name fs (lexeme_in bytes t)) (with_one fs (lexeme_in bytes t)).1

function_few : (bytes : List ℕ) (fs : List (List ℕ)) (t : Token) (ts : List Token) → length (with_function bytes fs t ts) ≤ length fs + 1
function_few bytes fs t ts = either_few (is_type_token t.kind (lexeme_in bytes t)) fs (with_named bytes fs ts) (named_few bytes fs ts)

functions_few : (bytes : List ℕ) (fs : List (List ℕ)) (ts : List Token) → length (functions_from bytes fs ts) ≤ length fs + length ts
functions_few bytes fs [] = omega arith
functions_few bytes fs (t ∷ ts) = omega (arith, function_few bytes fs t ts, functions_few bytes (with_function bytes fs t ts) ts)

-- code declares no more functions than it has bytes
pub declared_few : TokenLaws → (code : List ℕ) (ts : List Token) → tokens_of code ≡ Ok ts → length (functions_in code ts) ≤ length code
declared_few laws code ts is = omega (arith, functions_few code [] ts, tokens_few laws code ts is)
