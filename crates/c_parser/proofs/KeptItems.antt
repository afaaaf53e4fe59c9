-- The items of a family that stay are those of the lines that stay.
use Rattle.std.proofs.Common.{◌≡◌, ℕ, ◌+◌, Bool, true, false, not, ◌||◌, ◌&&◌, cond, List, [], ◌∷◌, ◌++◌, length, map, Option, Some, None, Result, Ok, Err, refl, sym, ap, ◌∙◌, inl, inr, arith}
use Rattle.std.specs.Prelude.{IfSome}
use Rattle.fam_outer.specs.declared.faults.Place.{Place}
use Rattle.fam_outer.specs.declared.faults.FileCode.{FileCode}
use Rattle.cpp_groups.specs.declared.section.Section.{Section}
use Rattle.cpp_groups.specs.Kept.{all_kept, sections_after}
use Rattle.cpp_lines.specs.declared.line.Line.{Line}
use Rattle.cpp_lines.specs.declared.line.LineKind.{LineKind}
use Rattle.cpp_lines.specs.declared.line.LineKind.TheVariants as kinds
use Rattle.cpp_lines.specs.Code.{code_piece}
use Rattle.cpp_lines.specs.Lines.{pieces, stays, is_text, AreLinesFrom}
use Rattle.cpp_lines.specs.Preprocessed.{group_of, kept_line, kept_lines}
use Rattle.cpp_lines.proofs.Coding.{not_none, last_piece, next_piece}
use Rattle.c_tokens.specs.declared.token.Token.{Token}
use Rattle.c_tokens.specs.declared.token.TokenKind.{TokenKind}
use Rattle.c_tokens.specs.declared.token.TokenKind.TheVariants as tokens
use Rattle.c_tokens.specs.Lines.{line_behind}
use Rattle.c_tokens.specs.Reading.{tokens_of}
use Rattle.c_grammar.specs.declared.items.Item.{Item}
use Rattle.c_grammar.specs.declared.items.Sign.{Sign}
use Rattle.c_grammar.specs.Facts.{IsFit, AreFit}
use Rattle.c_grammar.specs.Grammar.{is_group, has_groups}
use Rattle.c_grammar.specs.Kept.{directive_of, kept_from}
use Rattle.c_grammar.proofs.Keeping.{all_stay, all_go}
use Rattle.c_parser.specs.FamilyItems.{group_sign, or_directive}
use Rattle.c_parser.specs.Items.{is_function, identifier_sign, names_with_identifier, word_sign, sign_of, names_with_word, names_with, lexeme_in, names_from, items_over}
use Rattle.c_parser.specs.Signs.{keyword_of, sign_in, marks}
use Rattle.c_parser.proofs.CodePieces.{OneReading, no_tokens, blank_line}
use Rattle.c_parser.proofs.Lexical.{IsConstant, table_constant, marks_constant, keyword_constant, unwrapped_constant, new_or_old}
use Rattle.c_parser.proofs.LineItems.{by_both}
use Rattle.c_parser.proofs.TokenLines.{LinesApart, item_below, alone_of, alone, by_piece}

-- ---- tokens are no groups

identifier_plain : (b : Bool) (functions names : List (List ℕ)) (w : List ℕ) → is_group (identifier_sign b functions names w) ≡ false
identifier_plain true functions names w = refl
identifier_plain false functions names w = refl

word_plain : (functions names : List (List ℕ)) (w : List ℕ) (o : Option Sign) → IfSome o IsConstant → is_group (word_sign functions names w o) ≡ false
word_plain functions names w (Some s) c = c.1
word_plain functions names w None c = identifier_plain (is_function functions w) functions names w

pub sign_plain : (functions names : List (List ℕ)) (kind : TokenKind) (w : List ℕ) → is_group (sign_of functions names kind w) ≡ false
sign_plain functions names (tokens.Number n) w = refl
sign_plain functions names tokens.Word w = word_plain functions names w (keyword_of w) (keyword_constant w)
sign_plain functions names tokens.Mark w = (unwrapped_constant (sign_in marks w) (table_constant marks marks_constant w)).1

over_plain : (functions names : List (List ℕ)) (text : List ℕ) (n : ℕ) (ts : List Token) → has_groups (map (item_below n) (items_over functions names text ts)) ≡ false
over_plain functions names text n [] = refl
over_plain functions names text n (t ∷ ts) = ap (λ (b : Bool). b || has_groups (map (item_below n) (items_over functions names text ts))) (sign_plain functions names t.kind (lexeme_in text t)) ∙ over_plain functions names text n ts

read_plain : (functions names : List (List ℕ)) (text : List ℕ) (n : ℕ) (r : Result (List Token) (FileCode × Place)) → has_groups (map (item_below n) (alone_of functions names text r)) ≡ false
read_plain functions names text n (Ok ts) = over_plain functions names text n ts
read_plain functions names text n (Err fault) = refl

-- ---- one line

abbrev pub below : List (List ℕ) → List (List ℕ) → ℕ → List ℕ → List Item
below functions names n p = map (item_below n) (alone functions names p)

nothing_alone : (functions : List (List ℕ)) → OneReading → (names : List (List ℕ)) (n : ℕ) → below functions names n [] ≡ []
nothing_alone functions one names n = ap (λ (r : Result (List Token) (FileCode × Place)). map (item_below n) (alone_of functions names [] r)) (sym (no_tokens one [] refl))

-- tokens stay where each group around them is kept
code_kept : (functions : List (List ℕ)) → OneReading → (truths : List Bool) (sections : List Section) (names : List (List ℕ)) (n : ℕ) (p : List ℕ) (rest : List Item) (keep : Bool) → all_kept sections ≡ keep
    → kept_from truths sections (below functions names n p ++ rest) ≡ below functions names n (cond keep p []) ++ kept_from truths sections rest
code_kept functions one truths sections names n p rest true k = all_stay truths sections (below functions names n p) (read_plain functions names p n (tokens_of p)) k rest
code_kept functions one truths sections names n p rest false k =
    all_go truths sections (below functions names n p) (read_plain functions names p n (tokens_of p)) k rest ∙ ap (λ (xs : List Item). xs ++ kept_from truths sections rest) (sym (nothing_alone functions one names n))

-- what a line leaves stays where the line does
code_if : (keep : Bool) (p : List ℕ) → code_piece (cond keep p []) ≡ cond keep (code_piece p) []
code_if true p = refl
code_if false p = refl

text_kept : (functions : List (List ℕ)) → OneReading → (truths : List Bool) (sections : List Section) (names : List (List ℕ)) (n : ℕ) (p : List ℕ) (rest : List Item) (keep : Bool) → all_kept sections ≡ keep
    → kept_from truths sections (below functions names n (code_piece p) ++ rest) ≡ below functions names n (code_piece (cond keep p [])) ++ kept_from truths sections rest
text_kept functions one truths sections names n p rest keep k =
    code_kept functions one truths sections names n (code_piece p) rest keep k ∙ ap (λ (q : List ℕ). below functions names n q ++ kept_from truths sections rest) (sym (code_if keep p))

line_kept : (functions : List (List ℕ)) → OneReading → (truths : List Bool) (sections : List Section) (names : List (List ℕ)) (n : ℕ) (kind : LineKind) (place : Place) (p : List ℕ) (rest : List Item) → stays kind ≡ is_text p
    → kept_from truths sections (or_directive (group_sign kind) place (below functions names n (code_piece p)) ++ rest) ≡ below functions names n (code_piece (kept_line sections kind p)) ++ kept_from truths (sections_after truths sections (group_of kind)) rest
line_kept functions one truths sections names n kinds.Code place p rest k = text_kept functions one truths sections names n p rest (all_kept sections) refl
line_kept functions one truths sections names n kinds.Define place p rest k = text_kept functions one truths sections names n p rest (all_kept sections) refl
line_kept functions one truths sections names n kinds.Include place p rest k =
    ap (λ (xs : List Item). kept_from truths sections (map (item_below n) xs ++ rest)) (blank_line functions one names p (sym k))
    ∙ ap (λ (xs : List Item). xs ++ kept_from truths sections rest) (sym (nothing_alone functions one names n))
line_kept functions one truths sections names n (kinds.If c) place p rest k = ap (λ (xs : List Item). xs ++ kept_from truths (sections_after truths sections (group_of (kinds.If c))) rest) (sym (nothing_alone functions one names n))
line_kept functions one truths sections names n (kinds.Elif c) place p rest k = ap (λ (xs : List Item). xs ++ kept_from truths (sections_after truths sections (group_of (kinds.Elif c))) rest) (sym (nothing_alone functions one names n))
line_kept functions one truths sections names n kinds.Else place p rest k = ap (λ (xs : List Item). xs ++ kept_from truths (sections_after truths sections (group_of kinds.Else)) rest) (sym (nothing_alone functions one names n))
line_kept functions one truths sections names n kinds.Endif place p rest k = ap (λ (xs : List Item). xs ++ kept_from truths (sections_after truths sections (group_of kinds.Endif)) rest) (sym (nothing_alone functions one names n))

pub lines_kept : (functions : List (List ℕ)) → OneReading → (truths : List Bool) (sections : List Section) (names : List (List ℕ)) (n start : ℕ) (ls : List Line) (ps : List (List ℕ)) → AreLinesFrom start ps ls
    → kept_from truths sections (by_both functions names n ls (map code_piece ps)) ≡ by_piece functions names n (map code_piece (kept_lines truths sections ls ps))
lines_kept functions one truths sections names n start [] ps h = refl
lines_kept functions one truths sections names n start (l ∷ ls) [] h = refl
lines_kept functions one truths sections names n start (l ∷ ls) (p ∷ ps) h =
    line_kept functions one truths sections names n l.kind l.place p (by_both functions names (n + 1) ls (map code_piece ps)) h.0.text
    ∙ ap (λ (xs : List Item). below functions names n (code_piece (kept_line sections l.kind p)) ++ xs)
    (lines_kept functions one truths (sections_after truths sections (group_of l.kind)) names (n + 1) (start + length p + 1) ls ps h.1)

-- ---- what stays has tokens

abbrev pub AreRead : List (List ℕ) → Type 0
AreRead [] = Unit {0}
AreRead (p ∷ ps) = ((ts : List Token) × (tokens_of p ≡ Ok ts)) × AreRead ps

both_read : (line : List ℕ) (r s : Result (List Token) (FileCode × Place)) (ts : List Token) → line_behind line r s ≡ Ok ts → ((vs : List Token) × (r ≡ Ok vs)) × ((us : List Token) × (s ≡ Ok us))
both_read line (Ok vs) (Ok us) ts h = ((vs, refl), (us, refl))
both_read line (Ok vs) (Err fault) ts h = absurd cc
both_read line (Err fault) s ts h = absurd cc

pub pieces_read : LinesApart → (text : List ℕ) (ps : List (List ℕ)) (ts : List Token) → pieces text ≡ ps → tokens_of text ≡ Ok ts → AreRead ps
pieces_read apart text [] ts e h = tt
pieces_read apart text (p ∷ []) ts e h = ((ts, ap tokens_of (sym (last_piece text p e).0) ∙ h), tt)
pieces_read apart text (p ∷ q ∷ qs) ts e h =
    let k = next_piece text p q qs e in
    let b = both_read p (tokens_of p) (tokens_of k.0) ts (sym (apart p k.0) ∙ ap tokens_of (sym k.1) ∙ h) in
    (b.0, pieces_read apart k.0 (q ∷ qs) b.1.0 k.3 b.1.1)

joined_read : (line : List ℕ) (vs us : List Token) → (ts : List Token) × (line_behind line (Ok vs) (Ok us) ≡ Ok ts)
joined_read line vs us = (_, refl)

pub text_read : LinesApart → (text : List ℕ) (ps : List (List ℕ)) → pieces text ≡ ps → AreRead ps → (ts : List Token) × (tokens_of text ≡ Ok ts)
text_read apart text [] e h = absurd (not_none text e)
text_read apart text (p ∷ []) e h = (h.0.0, ap tokens_of (last_piece text p e).0 ∙ h.0.1)
text_read apart text (p ∷ q ∷ qs) e h =
    let k = next_piece text p q qs e in
    let rest = text_read apart k.0 (q ∷ qs) k.3 h.1 in
    let j = joined_read p h.0.0 rest.0 in (
      j.0,
      ap tokens_of k.1 ∙ apart p k.0 ∙ ap (λ (r : Result (List Token) (FileCode × Place)). line_behind p r (tokens_of k.0)) h.0.1
          ∙ ap (λ (r : Result (List Token) (FileCode × Place)). line_behind p (Ok h.0.0) r) rest.1 ∙ j.1,
    )

abbrev IsRead : List ℕ → Type 0
IsRead p = (ts : List Token) × (tokens_of p ≡ Ok ts)

nothing_read : OneReading → IsRead []
nothing_read one = ([], sym (no_tokens one [] refl))

line_read : OneReading → (keep : Bool) (p : List ℕ) → IsRead (code_piece p) → IsRead (code_piece (cond keep p []))
line_read one true p r = r
line_read one false p r = nothing_read one

pub kept_read : OneReading → (truths : List Bool) (sections : List Section) (ls : List Line) (ps : List (List ℕ)) → AreRead (map code_piece ps) → AreRead (map code_piece (kept_lines truths sections ls ps))
kept_read one truths sections [] ps r = tt
kept_read one truths sections (l ∷ ls) [] r = tt
kept_read one truths sections (l ∷ ls) (p ∷ ps) r = (line_read one (stays l.kind && all_kept sections) p r.0, kept_read one truths (sections_after truths sections (group_of l.kind)) ls ps r.1)

-- ---- items that fit a list of names bring no new one

pub fit_kept : (count : ℕ) (truths : List Bool) (sections : List Section) (xs : List Item) → AreFit count xs → AreFit count (kept_from truths sections xs)
fit_kept count truths sections [] h = tt
fit_kept count truths sections (x ∷ xs) h =
    let rest = fit_kept count truths (sections_after truths sections (directive_of x.sign)) xs h.1 in
    elim (not (is_group x.sign) && all_kept sections) as (λ b. AreFit count (cond b (x ∷ kept_from truths (sections_after truths sections (directive_of x.sign)) xs) (kept_from truths (sections_after truths sections (directive_of x.sign)) xs))) [
      | true ↦ (h.0, rest)
      | false ↦ rest
    ]

identifier_known : (b : Bool) (functions names : List (List ℕ)) (w : List ℕ) → IsFit (length names) (identifier_sign b functions names w) → names_with_identifier b names w ≡ names
identifier_known true functions names w h = refl
identifier_known false functions names w h = elim (new_or_old names w) [
  | inl new ↦ absurd (omega (arith, new.1, h))
  | inr old ↦ rw old.0 refl
]

word_known : (functions names : List (List ℕ)) (w : List ℕ) (o : Option Sign) → IsFit (length names) (word_sign functions names w o) → names_with_word functions names w o ≡ names
word_known functions names w (Some s) h = refl
word_known functions names w None h = identifier_known (is_function functions w) functions names w h

token_known : (functions names : List (List ℕ)) (kind : TokenKind) (w : List ℕ) → IsFit (length names) (sign_of functions names kind w) → names_with functions names kind w ≡ names
token_known functions names (tokens.Number n) w h = refl
token_known functions names tokens.Word w h = word_known functions names w (keyword_of w) h
token_known functions names tokens.Mark w h = refl

pub names_stay : (functions names : List (List ℕ)) (text : List ℕ) (ts : List Token) → AreFit (length names) (items_over functions names text ts) → names_from functions text names ts ≡ names
names_stay functions names text [] h = refl
names_stay functions names text (t ∷ ts) h = ap (λ (ns : List (List ℕ)). names_from functions text ns ts) (token_known functions names t.kind (lexeme_in text t) h.0) ∙ names_stay functions names text ts h.1
