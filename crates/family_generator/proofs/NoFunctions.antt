-- Generated families declare no functions, since no name stands directly before `(` there.
use Rattle.std.proofs.Common.{◌≡◌, ℕ, ◌+◌, Bool, true, false, ◌||◌, ◌&&◌, List, [], ◌∷◌, ◌++◌, map, Option, Some, None, Ok, refl, sym, ap, ◌∙◌, arith}
use Rattle.std.specs.Prelude.{IfSome, if◌then◌else◌}
use Rattle.std.proofs.lemmas.List.{map-append}
use Rattle.c_tokens.specs.declared.token.Token.{Token}
use Rattle.c_tokens.specs.declared.token.TokenKind.{TokenKind}
use Rattle.c_tokens.specs.declared.token.TokenKind.TheVariants as kinds
use Rattle.c_tokens.specs.Reading.{tokens_of}
use Rattle.c_grammar.specs.declared.items.Sign.{Sign}
use Rattle.c_grammar.specs.declared.items.Sign.TheVariants as signs
use Rattle.c_grammar.specs.Facts.{IsFit}
use Rattle.cpp_lines.specs.Code.{code_of, code_piece}
use Rattle.cpp_lines.specs.Lines.{pieces}
use Rattle.cpp_lines.proofs.CodeLines.{code_pieces}
use Rattle.c_parser.specs.Functions.{is_no_keyword, is_opening, is_name_token, is_opening_token, is_type_token, do_open, with_named, functions_from, functions_or_none, functions_of_code, own_functions}
use Rattle.c_parser.specs.Items.{with_name, word_sign, sign_of, lexeme_in, items_over}
use Rattle.c_parser.specs.Signs.{keyword_of, mark_of, sign_in, marks}
use Rattle.c_parser.proofs.Lexical.{IsConstant, TokenLaws, keyword_constant, unwrapped_constant, table_constant, marks_constant}
use Rattle.c_parser.proofs.TokenLines.{LinesApart, item_below, alone, by_piece, lines_of_text}
use Rattle.family_generator.proofs.BlockTexts.{Block, Switched, Bounded, Checked}
use Rattle.family_generator.proofs.Lexed.{AreLexed, block_line_signs, blocks_line_signs, file_line_signs, below_same, signs_alone}
use Rattle.family_generator.proofs.Signs as items

abbrev is_name : Sign → Bool
is_name (signs.Name x) = true
is_name _ = false

abbrev opens : List Sign → Bool
opens [] = false
opens (s ∷ ss) = is_opening s

-- a name stands directly before `(`
abbrev pub is_called : List Sign → Bool
is_called [] = false
is_called (s ∷ ss) = (is_name s && opens ss) || is_called ss

-- the signs of lines, one behind another
abbrev pub joined : List (List Sign) → List Sign
joined [] = []
joined (s ∷ ss) = s ++ joined ss

-- ---- the signs of the file

block_uncalled : (x y : ℕ) (b : Block) (rest : List (List Sign)) → is_called (joined (block_line_signs x y b ++ rest)) ≡ is_called (joined rest)
block_uncalled x y (Switched f) rest = refl
block_uncalled x y (Bounded c w) rest = refl
block_uncalled x y Checked rest = refl

blocks_uncalled : (x y : ℕ) (bs : List Block) → is_called (joined (blocks_line_signs x y bs)) ≡ false
blocks_uncalled x y [] = refl
blocks_uncalled x y (b ∷ bs) = block_uncalled x y b (blocks_line_signs x y bs) ∙ blocks_uncalled x y bs

pub file_uncalled : (x y : ℕ) (bs : List Block) → is_called (joined (file_line_signs x y bs)) ≡ false
file_uncalled x y bs = blocks_uncalled x y bs

-- ---- tokens and their signs over no functions

no_name : (s : Sign) → IsFit 0 s → is_name s ≡ false
no_name (signs.Name x) h = absurd (omega (arith, h))
no_name _ h = refl

word_named : (names : List (List ℕ)) (w : List ℕ) (o : Option Sign) → IfSome o IsConstant → is_no_keyword o ≡ is_name (word_sign [] names w o)
word_named names w (Some s) c = sym (no_name s (c.0 0))
word_named names w None c = refl

token_named : (names : List (List ℕ)) (kind : TokenKind) (w : List ℕ) → is_name_token kind w ≡ is_name (sign_of [] names kind w)
token_named names (kinds.Number n) w = refl
token_named names kinds.Word w = word_named names w (keyword_of w) (keyword_constant w)
token_named names kinds.Mark w = sym (no_name (mark_of w) ((unwrapped_constant (sign_in marks w) (table_constant marks marks_constant w)).0 0))

token_opens : (names : List (List ℕ)) (kind : TokenKind) (w : List ℕ) → is_opening_token kind w ≡ true → is_opening (sign_of [] names kind w) ≡ true
token_opens names (kinds.Number n) w e = absurd cc
token_opens names kinds.Word w e = absurd cc
token_opens names kinds.Mark w e = e

tokens_open : (names : List (List ℕ)) (text : List ℕ) (ts : List Token) → do_open text ts ≡ true → opens (map items.sign_in (items_over [] names text ts)) ≡ true
tokens_open names text [] e = absurd cc
tokens_open names text (t ∷ ts) e = token_opens names t.kind (lexeme_in text t) e

both_false : (a b c d : Bool) → a ≡ c → (b ≡ true → d ≡ true) → (c && d) ≡ false → (a && b) ≡ false
both_false false b c d e go h = refl
both_false true false c d e go h = refl
both_false true true c d e go h = sym (ap (λ (x : Bool). x && d) (sym e) ∙ go refl) ∙ h

neither : (a b : Bool) → (a || b) ≡ false → (a ≡ false) × (b ≡ false)
neither true b e = absurd cc
neither false b e = (refl, e)

-- ---- so they declare no function

not_named : (names : List (List ℕ)) (text : List ℕ) (fs : List (List ℕ)) (ts : List Token) → is_called (map items.sign_in (items_over [] names text ts)) ≡ false → with_named text fs ts ≡ fs
not_named names text fs [] h = refl
not_named names text fs (t ∷ ts) h =
    let n = neither (is_name (sign_of [] names t.kind (lexeme_in text t)) && opens (map items.sign_in (items_over [] names text ts))) (is_called (map items.sign_in (items_over [] names text ts))) h in
    ap (λ (b : Bool). if b then with_name fs (lexeme_in text t) else fs)
    (both_false (is_name_token t.kind (lexeme_in text t)) (do_open text ts) (is_name (sign_of [] names t.kind (lexeme_in text t))) (opens (map items.sign_in (items_over [] names text ts)))
    (token_named names t.kind (lexeme_in text t)) (tokens_open names text ts) n.0)

either_same : (b : Bool) (fs gs : List (List ℕ)) → gs ≡ fs → (if b then gs else fs) ≡ fs
either_same true fs gs e = e
either_same false fs gs e = refl

none_more : (names : List (List ℕ)) (text : List ℕ) (fs : List (List ℕ)) (ts : List Token) → is_called (map items.sign_in (items_over [] names text ts)) ≡ false → functions_from text fs ts ≡ fs
none_more names text fs [] h = refl
none_more names text fs (t ∷ ts) h =
    let n = neither (is_name (sign_of [] names t.kind (lexeme_in text t)) && opens (map items.sign_in (items_over [] names text ts))) (is_called (map items.sign_in (items_over [] names text ts))) h in
    ap (λ (gs : List (List ℕ)). functions_from text gs ts) (either_same (is_type_token t.kind (lexeme_in text t)) fs (with_named text fs ts) (not_named names text fs ts n.1))
    ∙ none_more names text fs ts n.1

-- ---- the tokens of lines

pieces_signs : (names : List (List ℕ)) (n : ℕ) (ps : List (List ℕ)) (ss : List (List Sign)) → AreLexed names ps ss → map items.sign_in (by_piece [] names n (map code_piece ps)) ≡ joined ss
pieces_signs names n [] [] h = refl
pieces_signs names n [] (s ∷ ss) h = absurd h
pieces_signs names n (p ∷ ps) [] h = absurd h
pieces_signs names n (p ∷ ps) (s ∷ ss) h =
    map-append items.sign_in (map (item_below n) (alone [] names (code_piece p))) (by_piece [] names (n + 1) (map code_piece ps))
    ∙ ap (λ (t : List Sign). t ++ map items.sign_in (by_piece [] names (n + 1) (map code_piece ps))) (below_same n (alone [] names (code_piece p)) ∙ signs_alone names (code_piece p) s (tokens_of (code_piece p)) h.0)
    ∙ ap (λ (t : List Sign). s ++ t) (pieces_signs names (n + 1) ps ss h.1)

pub no_functions : TokenLaws → LinesApart → (text : List ℕ) (ps : List (List ℕ)) (ss : List (List Sign)) (ts : List Token) → pieces text ≡ ps → tokens_of (code_of text) ≡ Ok ts → AreLexed [] ps ss → is_called (joined ss) ≡ false → own_functions (code_of text) ≡ []
unfolding functions_of_code
no_functions laws apart text ps ss ts cut is h uncalled =
    let all : map items.sign_in (items_over [] [] (code_of text) ts) ≡ joined ss =
    sym (below_same 0 (items_over [] [] (code_of text) ts))
    ∙ ap (map items.sign_in) (lines_of_text [] laws apart [] (code_of text) (map code_piece ps) 0 ts (code_pieces text ∙ ap (map code_piece) cut) is)
    ∙ pieces_signs [] 0 ps ss h in
    ap (functions_or_none (code_of text)) is ∙ none_more [] (code_of text) [] ts (ap is_called all ∙ uncalled)
