-- Names grow by one at most.
use Rattle.std.proofs.Common.{◌≡◌, ℕ, ◌+◌, ◌≤◌, ◌<◌, Bool, true, false, List, [], ◌∷◌, ◌++◌, length, Option, Some, None, sym, ap, ◌∙◌, append_assoc, arith}
use Rattle.std.specs.Prelude.{if◌then◌else◌}
use Rattle.std.specs.List.{list_any}
use Rattle.std.specs.Str.{bytes_eq}
use Rattle.std.proofs.lemmas.List.{length-append}
use Rattle.c_tokens.specs.declared.token.Token.{Token}
use Rattle.c_tokens.specs.declared.token.TokenKind.{TokenKind}
use Rattle.c_tokens.specs.declared.token.TokenKind.TheVariants as kinds
use Rattle.c_grammar.specs.declared.items.Item.{Item}
use Rattle.c_grammar.specs.declared.items.Sign.{Sign}
use Rattle.c_grammar.specs.Grammar.{at}
use Rattle.c_parser.specs.Signs.{keyword_of}
use Rattle.c_parser.specs.Items.{is_function, with_name, names_with_identifier, names_with_word, names_with, lexeme_in, names_from}
use Rattle.c_parser.specs.Signing.{items_from}
use Rattle.c_parser.specs.Signing.{HasSign}

pub with_one : (names : List (List ℕ)) (w : List ℕ) → (length names ≤ length (with_name names w)) × (length (with_name names w) ≤ length names + 1)
with_one names w = elim (list_any (bytes_eq w) names) as (λ b. (length names ≤ length (if b then names else names ++ w ∷ [])) × (length (if b then names else names ++ w ∷ []) ≤ length names + 1)) [
  | true ↦ (omega arith, omega arith)
  | false ↦ (omega (arith, length-append names (w ∷ [])), omega (arith, length-append names (w ∷ [])))
]

with_identifier : (b : Bool) (names : List (List ℕ)) (w : List ℕ) → (length names ≤ length (names_with_identifier b names w)) × (length (names_with_identifier b names w) ≤ length names + 1)
with_identifier true names w = (omega arith, omega arith)
with_identifier false names w = with_one names w

with_word : (functions names : List (List ℕ)) (w : List ℕ) (o : Option Sign) → (length names ≤ length (names_with_word functions names w o)) × (length (names_with_word functions names w o) ≤ length names + 1)
with_word functions names w (Some s) = (omega arith, omega arith)
with_word functions names w None = with_identifier (is_function functions w) names w

-- one token adds one name at most
pub with_token : (functions names : List (List ℕ)) (kind : TokenKind) (w : List ℕ) → (length names ≤ length (names_with functions names kind w)) × (length (names_with functions names kind w) ≤ length names + 1)
with_token functions names (kinds.Number n) w = (omega arith, omega arith)
with_token functions names kinds.Word w = with_word functions names w (keyword_of w)
with_token functions names kinds.Mark w = (omega arith, omega arith)

-- names stay
pub grows : (functions : List (List ℕ)) (bytes : List ℕ) (names : List (List ℕ)) (ts : List Token) → length names ≤ length (names_from functions bytes names ts)
grows functions bytes names [] = omega arith
grows functions bytes names (t ∷ ts) = let next = names_with functions names t.kind (lexeme_in bytes t) in omega (arith, (with_token functions names t.kind (lexeme_in bytes t)).0, grows functions bytes (names_with functions names t.kind (lexeme_in bytes t)) ts)

pub room_left : (functions old new : List (List ℕ)) (kind : TokenKind) (w : List ℕ) (sign : Sign) (rest behind : List Token) (t : Token) (most : ℕ) → HasSign functions old kind w new sign → rest ≡ t ∷ behind → length old + length rest < most → length new + length behind < most
room_left functions old new kind w sign rest behind t most h cut few = rw h.names_are (omega (arith, (with_token functions old kind w).1, few, ap length cut))

-- ---- one token more is read

pub names_next : (functions : List (List ℕ)) (bytes : List ℕ) (old new : List (List ℕ)) (sign : Sign) (rest behind : List Token) (t : Token) → HasSign functions old t.kind (lexeme_in bytes t) new sign → rest ≡ t ∷ behind → names_from functions bytes old rest ≡ names_from functions bytes new behind
names_next functions bytes old new sign rest behind t h cut = ap (names_from functions bytes old) cut ∙ ap (λ (ns : List (List ℕ)). names_from functions bytes ns behind) (sym h.names_are)

pub items_next : (functions : List (List ℕ)) (bytes : List ℕ) (old new : List (List ℕ)) (sign : Sign) (rest behind : List Token) (t : Token) (made more : List Item) → HasSign functions old t.kind (lexeme_in bytes t) new sign → rest ≡ t ∷ behind → more ≡ made ++ at t.place sign ∷ [] → made ++ items_from functions bytes old rest ≡ more ++ items_from functions bytes new behind
items_next functions bytes old new sign rest behind t made more h cut grown =
    ap (λ (r : List Token). made ++ items_from functions bytes old r) cut
    ∙ ap (λ (s : Sign). made ++ at t.place s ∷ items_from functions bytes (names_with functions old t.kind (lexeme_in bytes t)) behind) (sym h.sign_is)
    ∙ ap (λ (ns : List (List ℕ)). made ++ at t.place sign ∷ items_from functions bytes ns behind) (sym h.names_are)
    ∙ sym (append_assoc made (at t.place sign ∷ []) (items_from functions bytes new behind))
    ∙ ap (λ (xs : List Item). xs ++ items_from functions bytes new behind) (sym grown)
