-- The items of a family line by line; its names stand in their order, and each occurs among the items.
use Rattle.std.proofs.Common.{◌≡◌, ℕ, ◌+◌, ◌<◌, true, List, [], ◌∷◌, length, map, Result, Ok, Err, refl, sym, ap, subst, ◌∙◌, arith}
use Rattle.fam_outer.specs.declared.dialect.Dialect.{Dialect}
use Rattle.fam_outer.specs.declared.faults.Place.{Place}
use Rattle.fam_outer.specs.declared.faults.FileCode.{FileCode}
use Rattle.fam_outer.specs.Results.{and_then}
use Rattle.cpp_conditions.specs.Validity.{Plain}
use Rattle.cpp_lines.specs.Code.{code_piece, code_of}
use Rattle.cpp_lines.specs.Lines.{pieces, AreLinesFrom}
use Rattle.cpp_lines.specs.Sections.{Told}
use Rattle.cpp_lines.proofs.CodeLines.{code_pieces, pieces_are_lines}
use Rattle.cpp_lines.proofs.LineNumbers.{counted}
use Rattle.cpp_lines.proofs.Numbering.{lines_are}
use Rattle.c_tokens.specs.declared.token.Token.{Token}
use Rattle.c_tokens.specs.Reading.{tokens_of}
use Rattle.c_grammar.specs.declared.items.Item.{Item}
use Rattle.c_grammar.specs.Grammar.{at}
use Rattle.c_parser.specs.FamilyItems.{HasItems, feature_names, has, by_line}
use Rattle.c_parser.specs.Functions.{own_functions}
use Rattle.c_parser.specs.Items.{Listed, AreDistinct, listed, names_from, items_over}
use Rattle.c_parser.specs.Order.{arranged}
use Rattle.c_parser.proofs.Arranging.{arranged_distinct}
use Rattle.c_parser.proofs.CodePieces.{OneReading, lines_blank, same_length}
use Rattle.c_parser.proofs.Lexical.{TokenLaws}
use Rattle.c_parser.proofs.LineItems.{by_both, line_by_line}
use Rattle.c_parser.proofs.Occurring.{family_has}
use Rattle.c_parser.proofs.OwnNames.{distinct_from}
use Rattle.c_parser.proofs.Renumbering.{listed_anew, occur_anew}
use Rattle.c_parser.proofs.TokenLines.{LinesApart, item_below, lines_of_text, by_piece}

pub not_below : (xs : List Item) → map (item_below 0) xs ≡ xs
not_below [] = refl
not_below (x ∷ xs) =
    let e : x.place.line + 0 ≡ x.place.line = omega arith in
    ap (λ (i : ℕ). at (record { line = i; column = x.place.column }) x.sign ∷ map (item_below 0) xs) e ∙ ap (λ (ys : List Item). x ∷ ys) (not_below xs)

-- the tokens of code, and its names behind those that are given
pub record Stands (functions given : List (List ℕ)) (code : List ℕ) (l : Listed) : Type 0 where
  pub tokens : List Token
  pub read : tokens_of code ≡ Ok tokens
  pub is : l ≡ listed functions given code tokens

abbrev listed_or : Listed → Result Listed (FileCode × Place) → Listed
listed_or l (Ok k) = k
listed_or l (Err fault) = l

stands : (functions given : List (List ℕ)) (code : List ℕ) (l : Listed) (r : Result (List Token) (FileCode × Place)) → tokens_of code ≡ r → and_then r (λ ts. Ok (listed functions given code ts)) ≡ Ok l → Stands functions given code l
stands functions given code l (Ok ts) e h = record {
  tokens = ts;
  read = e;
  is = ap (listed_or l) (sym h);
}
stands functions given code l (Err fault) e h = absurd cc

abbrev tokens_ok : List Token → Result (List Token) (FileCode × Place)
tokens_ok ts = Ok ts

same_tokens : (code : List ℕ) (ts us : List Token) → tokens_of code ≡ tokens_ok ts → tokens_of code ≡ tokens_ok us → ts ≡ us
same_tokens code ts us h k = let e : tokens_ok ts ≡ tokens_ok us = sym h ∙ k in cc

-- the tokens of a family's code, and its items line by line
pub record AreByLine (told : Told) (blanked : List ℕ) (given : List (List ℕ)) (tokens : Listed) (items : List Item) : Type 0 where
  pub stands : Stands (own_functions (code_of blanked)) given (code_of blanked) tokens
  pub lines : AreLinesFrom 0 (pieces blanked) told.lines
  pub all : tokens.items ≡ by_piece (own_functions (code_of blanked)) tokens.names 0 (map code_piece (pieces blanked))
  pub are : items ≡ by_both (own_functions (code_of blanked)) tokens.names 0 told.lines (map code_piece (pieces blanked))

pub by_line_of : TokenLaws → LinesApart → (dialect : Dialect) (model : Plain) (bytes : List ℕ) (told : Told) (l : Listed) → (h : HasItems dialect model bytes told l) → AreByLine told h.blanked (arranged (feature_names model) h.first) h.tokens l.items
by_line_of laws apart dialect model bytes told l h =
    let names = h.tokens.names in
    let code = code_of h.blanked in
    let functions = own_functions (code_of h.blanked) in
    let given = arranged (feature_names model) h.first in
    let s = stands (own_functions (code_of h.blanked)) given (code_of h.blanked) h.tokens (tokens_of (code_of h.blanked)) refl h.tokens_are in
    let cut : pieces (code_of h.blanked) ≡ map code_piece (pieces h.blanked) = code_pieces h.blanked in
    let are = lines_are dialect model h.blanked [] [] [] 0 (pieces h.blanked) (Ok told) h.read in
    let over : h.tokens.items ≡ items_over (own_functions (code_of h.blanked)) h.tokens.names (code_of h.blanked) s.tokens =
    ap (λ (k : Listed). k.items) s.is ∙ ap (λ (k : Listed). items_over (own_functions (code_of h.blanked)) k.names (code_of h.blanked) s.tokens) (sym s.is) in
    let all : h.tokens.items ≡ by_piece (own_functions (code_of h.blanked)) h.tokens.names 0 (map code_piece (pieces h.blanked)) =
    over ∙ sym (not_below (items_over (own_functions (code_of h.blanked)) h.tokens.names (code_of h.blanked) s.tokens))
    ∙ lines_of_text functions laws apart names code (map code_piece (pieces h.blanked)) 0 s.tokens cut s.read in
    record {
      stands = s;
      lines = are;
      all = all;
      are =
          ap (λ (k : Listed). k.items) h.is ∙ ap (by_line told.lines) all
          ∙ line_by_line functions laws names 0 told.lines (map code_piece (pieces h.blanked)) (same_length 0 (pieces h.blanked) told.lines are)
          (counted dialect model h.blanked [] [] [] 0 h.blanked (pieces h.blanked) 1 (Ok told) refl refl refl h.read)
          (pieces_are_lines code (map code_piece (pieces h.blanked)) cut);
    }

-- ---- the names of a family

-- the names of the code by their first occurrence, and in their order
pub record AreArranged (functions features : List (List ℕ)) (code : List ℕ) (tokens : Listed) : Type 0 where
  pub list : List Token
  pub read : tokens_of code ≡ Ok list
  pub names : tokens.names ≡ arranged features (listed functions [] code list)
  pub items : tokens.items ≡ items_over functions tokens.names code list

pub names_of_family : (dialect : Dialect) (model : Plain) (bytes : List ℕ) (told : Told) (l : Listed) → (h : HasItems dialect model bytes told l) → AreArranged (own_functions (code_of h.blanked)) (feature_names model) (code_of h.blanked) h.tokens
names_of_family dialect model bytes told l h =
    let code = code_of h.blanked in
    let functions = own_functions (code_of h.blanked) in
    let features = feature_names model in
    let s = stands functions (arranged (feature_names model) h.first) code h.tokens (tokens_of code) refl h.tokens_are in
    let f = stands functions [] code h.first (tokens_of code) refl h.first_are in
    let first : h.first ≡ listed (own_functions (code_of h.blanked)) [] (code_of h.blanked) s.tokens = f.is ∙ ap (listed functions [] code) (same_tokens code f.tokens s.tokens f.read s.read) in
    let names : h.tokens.names ≡ arranged (feature_names model) (listed (own_functions (code_of h.blanked)) [] (code_of h.blanked) s.tokens) =
    ap (λ (k : Listed). k.names) s.is
    ∙ ap (λ (k : Listed). names_from (own_functions (code_of h.blanked)) (code_of h.blanked) (arranged (feature_names model) k) s.tokens) first
    ∙ ap (λ (k : Listed). k.names) (listed_anew functions features (listed functions [] code s.tokens) code s.tokens (distinct_from functions code [] s.tokens tt) refl) in
    record {
      list = s.tokens;
      read = s.read;
      names = names;
      items = ap (λ (k : Listed). k.items) s.is ∙ ap (λ (k : Listed). items_over (own_functions (code_of h.blanked)) k.names (code_of h.blanked) s.tokens) (sym s.is);
    }

pub family_distinct : (dialect : Dialect) (model : Plain) (bytes : List ℕ) (told : Told) (l : Listed) → HasItems dialect model bytes told l → AreDistinct l.names
family_distinct dialect model bytes told l h =
    let a = names_of_family dialect model bytes told l h in
    let code = code_of h.blanked in
    let functions = own_functions (code_of h.blanked) in
    subst AreDistinct (sym (ap (λ (k : Listed). k.names) h.is ∙ a.names)) (arranged_distinct (feature_names model) (listed functions [] code a.list) (distinct_from functions code [] a.list tt))

among_all : (functions features : List (List ℕ)) (code : List ℕ) (l : Listed) (x : ℕ) → AreArranged functions features code l → x < length l.names → has x l.items ≡ true
among_all functions features code l x a lt =
    ap (has x) (a.items ∙ ap (λ (ns : List (List ℕ)). items_over functions ns code a.list) a.names)
    ∙ occur_anew functions features (listed functions [] code a.list) code a.list x (distinct_from functions code [] a.list tt) refl (omega (arith, lt, ap (λ (ns : List (List ℕ)). length ns) a.names))

pub family_occurs : TokenLaws → LinesApart → OneReading → (dialect : Dialect) (model : Plain) (bytes : List ℕ) (told : Told) (l : Listed) (x : ℕ) → HasItems dialect model bytes told l → x < length l.names → has x l.items ≡ true
family_occurs laws apart one dialect model bytes told l x h lt =
    let b = by_line_of laws apart dialect model bytes told l h in
    let functions = own_functions (code_of h.blanked) in
    let mine : has x h.tokens.items ≡ true =
    among_all functions (feature_names model) (code_of h.blanked) h.tokens x (names_of_family dialect model bytes told l h) (omega (arith, lt, ap (λ (k : Listed). length k.names) h.is)) in
    ap (has x) b.are
    ∙ family_has functions x 0 h.tokens.names told.lines (map code_piece (pieces h.blanked)) (same_length 0 (pieces h.blanked) told.lines b.lines) (lines_blank functions one h.tokens.names 0 (pieces h.blanked) told.lines b.lines)
    (ap (has x) (sym b.all) ∙ mine)
