-- The text of a variant has the items of the family that stay.
use Rattle.std.proofs.Common.{◌≡◌, ℕ, Bool, false, List, [], length, map, Result, Ok, refl, sym, ap, subst, ◌∙◌}
use Rattle.fam_outer.specs.declared.dialect.Dialect.{Dialect}
use Rattle.fam_outer.specs.declared.dialect.Includes.{Includes}
use Rattle.fam_outer.specs.declared.faults.FileCode.{FileCode}
use Rattle.fam_outer.specs.declared.faults.Place.{Place}
use Rattle.fam_outer.specs.Results.{and_then}
use Rattle.cpp_conditions.specs.Validity.{Plain}
use Rattle.cpp_lines.specs.declared.line.Line.{Line}
use Rattle.cpp_lines.specs.Code.{code_piece, code_of}
use Rattle.cpp_lines.specs.Lines.{pieces}
use Rattle.cpp_lines.specs.Preprocessed.{kept_lines, with_newlines, preprocessed}
use Rattle.cpp_lines.specs.Sections.{Told, TextIsRead}
use Rattle.cpp_lines.specs.Whole.{blanked_file, IsPreprocessed, IsPlainText}
use Rattle.cpp_lines.proofs.CodeLines.{code_pieces}
use Rattle.cpp_lines.proofs.Numbering.{numbers_are}
use Rattle.cpp_lines.proofs.VariantTexts.{kept_pieces}
use Rattle.c_tokens.specs.declared.token.Token.{Token}
use Rattle.c_tokens.specs.Reading.{tokens_of}
use Rattle.c_grammar.specs.declared.items.Item.{Item}
use Rattle.c_grammar.specs.Facts.{AreFit, AreConditionsOf}
use Rattle.c_grammar.specs.Grammar.{has_groups}
use Rattle.c_grammar.specs.Kept.{kept}
use Rattle.c_parser.specs.FamilyItems.{HasItems, feature_names}
use Rattle.c_parser.specs.Functions.{functions_of_blanked, functions_of_bytes, own_functions}
use Rattle.c_parser.specs.Items.{Listed, listed, names_from, items_over}
use Rattle.c_parser.specs.Order.{arranged}
use Rattle.c_parser.specs.Reading.{code_of_blanked, code_of_file, items_of_code, items_of}
use Rattle.c_parser.proofs.CodePieces.{OneReading}
use Rattle.c_parser.proofs.FamilyFacts.{all_conditions, all_fit}
use Rattle.c_parser.proofs.FamilyNames.{by_line_of, not_below}
use Rattle.c_parser.proofs.KeptItems.{lines_kept, pieces_read, kept_read, text_read, fit_kept, names_stay}
use Rattle.c_parser.proofs.Lexical.{TokenLaws, items_fit, items_plain}
use Rattle.c_parser.proofs.Stepwise.{all_over}
use Rattle.c_parser.proofs.TokenLines.{LinesApart, lines_of_text}

-- what a law says of texts with groups
abbrev pub TextsAreReadOnce : Type 0
TextsAreReadOnce = (dialect : Dialect) (model : Plain) (text : List ℕ) (r s : Result Told (FileCode × Place)) → TextIsRead dialect model text r → TextIsRead dialect model text s → r ≡ s

-- what laws of lower crates say
pub record TextLaws : Type 0 where
  pub tokens : TokenLaws
  pub apart : LinesApart
  pub one : OneReading
  pub told : TextsAreReadOnce

-- ---- a file is told in one way

abbrev blanked_ok : List ℕ → Result (List ℕ) (FileCode × Place)
blanked_ok b = Ok b

pub same_blanked : (bytes a b : List ℕ) → blanked_file bytes ≡ blanked_ok a → blanked_file bytes ≡ blanked_ok b → a ≡ b
same_blanked bytes a b h k = let e : blanked_ok a ≡ blanked_ok b = sym h ∙ k in cc

abbrev told_ok : Told → Result Told (FileCode × Place)
told_ok t = Ok t

same_ok : (s t : Told) → told_ok s ≡ told_ok t → s ≡ t
same_ok s t e = let k : told_ok s ≡ told_ok t = e in cc

-- both readings of the file are one
pub record AreSameTold (a b : List ℕ) (s t : Told) : Type 0 where
  pub blanked : a ≡ b
  pub told : s ≡ t

pub same_told : TextLaws → (dialect : Dialect) (model : Plain) (bytes a b : List ℕ) (s t : Told) → blanked_file bytes ≡ Ok a → blanked_file bytes ≡ Ok b → TextIsRead dialect model a (Ok s) → TextIsRead dialect model b (Ok t) → AreSameTold a b s t
same_told laws dialect model bytes a b s t h k x y =
    let e = same_blanked bytes a b h k in
    record { blanked = e; told = same_ok s t (laws.told dialect model b (Ok s) (Ok t) (subst (λ (z : List ℕ). TextIsRead dialect model z (Ok s)) e x) y) }

-- ---- the items of a family fit its names, and have the numbers of its conditions

-- what is known of the tokens of a text over its names
record AreTokens (l : Listed) : Type 0 where
  fit : AreFit (length l.names) l.items
  plain : has_groups l.items ≡ false

family_tokens : TextLaws → (dialect : Dialect) (model : Plain) (bytes : List ℕ) (told : Told) (l : Listed) → (h : HasItems dialect model bytes told l) → AreTokens h.tokens
family_tokens laws dialect model bytes told l h =
    let code = code_of h.blanked in
    let functions = own_functions (code_of h.blanked) in
    let given = arranged (feature_names model) h.first in
    let s = (by_line_of laws.tokens laws.apart dialect model bytes told l h).stands in
    let all = all_over functions code given s.tokens in
    subst AreTokens (sym s.is) (record {
      fit = subst (λ (xs : List Item). AreFit (length (names_from functions code given s.tokens)) xs) all (items_fit functions laws.tokens code given s.tokens s.read);
      plain = subst (λ (xs : List Item). has_groups xs ≡ false) all (items_plain functions laws.tokens code given s.tokens s.read);
    })

pub family_fit : TextLaws → (dialect : Dialect) (model : Plain) (bytes : List ℕ) (told : Told) (l : Listed) → HasItems dialect model bytes told l → AreFit (length l.names) l.items
family_fit laws dialect model bytes told l h =
    subst (λ (k : Listed). AreFit (length k.names) k.items) (sym h.is) (all_fit (length h.tokens.names) told.lines h.tokens.items (family_tokens laws dialect model bytes told l h).fit)

pub family_conditions : TextLaws → (dialect : Dialect) (model : Plain) (bytes : List ℕ) (told : Told) (l : Listed) → HasItems dialect model bytes told l → AreConditionsOf (length told.conditions) l.items
family_conditions laws dialect model bytes told l h =
    subst (λ (k : Listed). AreConditionsOf (length told.conditions) k.items) (sym h.is)
    (all_conditions (length told.conditions) told.lines h.tokens.items (numbers_are dialect model h.blanked [] [] [] 0 (pieces h.blanked) (Ok told) h.read (length told.conditions) refl) (family_tokens laws dialect model bytes told l h).plain)

-- ---- the items of a plain text

plain_items : (functions : List (List ℕ)) (includes : Includes) (names : List (List ℕ)) (text : List ℕ) (ts : List Token) → IsPlainText text → tokens_of (code_of text) ≡ Ok ts → items_of includes functions names text ≡ Ok (listed functions names (code_of text) ts)
unfolding items_of code_of_file
plain_items functions includes names text ts h e =
    ap (λ (r : Result (List ℕ) (FileCode × Place)). and_then (and_then r (code_of_blanked includes)) (items_of_code functions names)) h.blanked
    ∙ ap (λ (r : Result (List Line) (FileCode × Place)). and_then (and_then r (λ lines. Ok (code_of text))) (items_of_code functions names)) (h.lines_are includes)
    ∙ ap (λ (r : Result (List Token) (FileCode × Place)). and_then r (λ ts. Ok (listed functions names (code_of text) ts))) e

-- these items and no new name
list_stays : (functions names : List (List ℕ)) (text : List ℕ) (ts : List Token) (items : List Item) → AreFit (length names) items → items_over functions names text ts ≡ items → listed functions names text ts ≡ record { names = names; items = items }
list_stays functions names text ts items f e =
    let stay = names_stay functions names text ts (subst (λ (xs : List Item). AreFit (length names) xs) (sym e) f) in
    ap (λ (ns : List (List ℕ)). record { names = ns; items = items_over functions ns text ts }) stay ∙ ap (λ (xs : List Item). record { names = names; items = xs }) e

-- ---- the text of a variant

pub variant_items : TextLaws → (dialect : Dialect) (model : Plain) (bytes text : List ℕ) (told : Told) (l : Listed) (truths : List Bool) → HasItems dialect model bytes told l → IsPreprocessed dialect model (λ conditions. truths) bytes text → IsPlainText text
    → (includes : Includes) → items_of includes (functions_of_bytes bytes) l.names text ≡ Ok (record { names = l.names; items = kept truths l.items })
unfolding preprocessed
variant_items laws dialect model bytes text told l truths h q plain includes =
    let b = by_line_of laws.tokens laws.apart dialect model bytes told l h in
    let same = same_told laws dialect model bytes q.blanked h.blanked q.told told q.without_comments h.without_comments q.read h.read in
    let stays = with_newlines (kept_lines truths [] told.lines (pieces h.blanked)) in
    let is : text ≡ with_newlines (kept_lines truths [] told.lines (pieces h.blanked)) =
    q.is ∙ ap (λ (t : Told). with_newlines (kept_lines truths [] t.lines (pieces q.blanked))) same.told
    ∙ ap (λ (z : List ℕ). with_newlines (kept_lines truths [] told.lines (pieces z))) same.blanked in
    let cut : pieces text ≡ kept_lines truths [] told.lines (pieces h.blanked) = ap pieces is ∙ kept_pieces truths [] 0 told.lines h.blanked (pieces h.blanked) refl b.lines in
    let code : pieces (code_of text) ≡ map code_piece (kept_lines truths [] told.lines (pieces h.blanked)) = code_pieces text ∙ ap (map code_piece) cut in
    let all_read = pieces_read laws.apart (code_of h.blanked) (map code_piece (pieces h.blanked)) b.stands.tokens (code_pieces h.blanked) b.stands.read in
    let read = text_read laws.apart (code_of text) (map code_piece (kept_lines truths [] told.lines (pieces h.blanked))) code (kept_read laws.one truths [] told.lines (pieces h.blanked) all_read) in
    let names : l.names ≡ h.tokens.names = ap (λ (k : Listed). k.names) h.is in
    let functions : functions_of_bytes bytes ≡ own_functions (code_of h.blanked) = ap functions_of_blanked h.without_comments in
    let are : items_over (own_functions (code_of h.blanked)) h.tokens.names (code_of text) read.0 ≡ kept truths l.items =
    sym (not_below (items_over (own_functions (code_of h.blanked)) h.tokens.names (code_of text) read.0))
    ∙ lines_of_text (own_functions (code_of h.blanked)) laws.tokens laws.apart h.tokens.names (code_of text) (map code_piece (kept_lines truths [] told.lines (pieces h.blanked))) 0 read.0 code read.1
    ∙ sym (lines_kept (own_functions (code_of h.blanked)) laws.one truths [] h.tokens.names 0 0 told.lines (pieces h.blanked) b.lines)
    ∙ ap (kept truths) (sym b.are) in
    let over : items_over (own_functions (code_of h.blanked)) l.names (code_of text) read.0 ≡ kept truths l.items =
    ap (λ (ns : List (List ℕ)). items_over (own_functions (code_of h.blanked)) ns (code_of text) read.0) names ∙ are in
    ap (λ (fs : List (List ℕ)). items_of includes fs l.names text) functions
    ∙ plain_items (own_functions (code_of h.blanked)) includes l.names text read.0 plain read.1
    ∙ ap (λ (k : Listed). Ok k) (list_stays (own_functions (code_of h.blanked)) l.names (code_of text) read.0 (kept truths l.items) (fit_kept (length l.names) truths [] l.items (family_fit laws dialect model bytes told l h)) over)
