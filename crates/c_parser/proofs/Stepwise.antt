-- The number of a name stays while names are added behind it, so that items may be numbered one by one.
use Rattle.std.proofs.Common.{◌≡◌, ℕ, suc, ◌+◌, cond, Bool, true, false, List, [], ◌∷◌, ◌++◌, length, Option, Some, None, Ok, refl, sym, ap, ◌∙◌, append_assoc, append-nil, arith, inl, inr}
use Rattle.std.specs.Prelude.{◌||◌, not}
use Rattle.std.specs.List.{list_any}
use Rattle.std.specs.Str.{bytes_eq}
use Rattle.std.proofs.lemmas.Slice.Eq.{bytes_eq-Decides}
use Rattle.std.proofs.lemmas.Bool.{or_right}
use Rattle.std.proofs.lemmas.List.Folds.{list_any-append}
use Rattle.c_tokens.specs.declared.token.Token.{Token}
use Rattle.c_tokens.specs.declared.token.TokenKind.{TokenKind}
use Rattle.c_tokens.specs.declared.token.TokenKind.TheVariants as kinds
use Rattle.c_grammar.specs.declared.items.Item.{Item}
use Rattle.c_grammar.specs.declared.items.Sign.{Sign}
use Rattle.c_grammar.specs.declared.items.Sign.TheVariants as signs
use Rattle.c_grammar.specs.Grammar.{at}
use Rattle.c_parser.specs.Signs.{keyword_of}
use Rattle.c_parser.specs.Items.{is_function, number_in, with_name, identifier_sign, names_with_identifier, word_sign, sign_of, names_with_word, names_with, lexeme_in, names_from, items_over, listed}
use Rattle.c_parser.specs.Signing.{AreListed, IsListed, items_from}
use Rattle.c_parser.proofs.Lexical.{TokenLaws, new_or_old, items_fit, items_rise, items_plain}
use Rattle.c_parser.specs.declared.numbering.Numbered.{Numbered}
use Rattle.c_parser.specs.Stages.{AreProper}
use Rattle.c_tokens.specs.Reading.{tokens_of}

-- names that begin with these
abbrev pub Extends : List (List ℕ) → List (List ℕ) → Type 0
Extends names all = (more : List (List ℕ)) × (all ≡ names ++ more)

number_stays : (names more : List (List ℕ)) (w : List ℕ) → list_any (bytes_eq w) names ≡ true → number_in (names ++ more) w ≡ number_in names w
number_stays [] more w h = absurd cc
number_stays (n ∷ ns) more w h = elim (bytes_eq w n) as (λ b. (b || list_any (bytes_eq w) ns) ≡ true → cond (not b) (1 + number_in (ns ++ more) w) 0 ≡ cond (not b) (1 + number_in ns w) 0) [
  | true ↦ λ _. refl
  | false ↦ λ k. ap (λ (i : ℕ). 1 + i) (number_stays ns more w k)
] h

found_last : (names : List (List ℕ)) (w : List ℕ) → list_any (bytes_eq w) (names ++ w ∷ []) ≡ true
found_last names w =
    list_any-append (bytes_eq w) names (w ∷ [])
    ∙ or_right (list_any (bytes_eq w) names) (bytes_eq w w || false) (rw ((bytes_eq-Decides w w).1 refl) refl)

number_last : (names : List (List ℕ)) (w : List ℕ) → list_any (bytes_eq w) names ≡ false → number_in (names ++ w ∷ []) w ≡ length names
number_last [] w h = rw ((bytes_eq-Decides w w).1 refl) refl
number_last (n ∷ ns) w h = elim (bytes_eq w n) as (λ b. (b || list_any (bytes_eq w) ns) ≡ false → cond (not b) (1 + number_in (ns ++ w ∷ []) w) 0 ≡ suc (length ns)) [
  | true ↦ λ k. absurd cc
  | false ↦ λ k. omega (arith, number_last ns w k)
] h

-- a name stands among the names with it, and keeps its number
record IsKept (names : List (List ℕ)) (w : List ℕ) : Type 0 where
  found : list_any (bytes_eq w) (with_name names w) ≡ true
  number : number_in (with_name names w) w ≡ number_in names w
  extends : Extends names (with_name names w)

kept : (names : List (List ℕ)) (w : List ℕ) → IsKept names w
kept names w = elim (new_or_old names w) [
  | inl new ↦ record {
    found = rw new.0 (found_last names w);
    number = rw new.0 (number_last names w new.0 ∙ sym new.1);
    extends = rw new.0 (w ∷ [], refl);
  }
  | inr old ↦ record {
    found = rw old.0 old.0;
    number = rw old.0 refl;
    extends = rw old.0 ([], sym (append-nil names));
  }
]

identifier_extends : (b : Bool) (names : List (List ℕ)) (w : List ℕ) → Extends names (names_with_identifier b names w)
identifier_extends true names w = ([], sym (append-nil names))
identifier_extends false names w = (kept names w).extends

word_extends : (functions names : List (List ℕ)) (w : List ℕ) (o : Option Sign) → Extends names (names_with_word functions names w o)
word_extends functions names w (Some s) = ([], sym (append-nil names))
word_extends functions names w None = identifier_extends (is_function functions w) names w

token_extends : (functions names : List (List ℕ)) (kind : TokenKind) (w : List ℕ) → Extends names (names_with functions names kind w)
token_extends functions names (kinds.Number n) w = ([], sym (append-nil names))
token_extends functions names kinds.Word w = word_extends functions names w (keyword_of w)
token_extends functions names kinds.Mark w = ([], sym (append-nil names))

further : (names next all : List (List ℕ)) → Extends names next → Extends next all → Extends names all
further names next all (xs, e) (ys, h) = (xs ++ ys, h ∙ ap (λ (ns : List (List ℕ)). ns ++ ys) e ∙ append_assoc names xs ys)

pub names_extend : (functions : List (List ℕ)) (text : List ℕ) (names : List (List ℕ)) (ts : List Token) → Extends names (names_from functions text names ts)
names_extend functions text names [] = ([], sym (append-nil names))
names_extend functions text names (t ∷ ts) =
    further names (names_with functions names t.kind (lexeme_in text t)) (names_from functions text (names_with functions names t.kind (lexeme_in text t)) ts)
    (token_extends functions names t.kind (lexeme_in text t)) (names_extend functions text (names_with functions names t.kind (lexeme_in text t)) ts)

identifier_signed : (b : Bool) (functions names all : List (List ℕ)) (w : List ℕ) → Extends (names_with_identifier b names w) all → identifier_sign b functions names w ≡ identifier_sign b functions all w
identifier_signed true functions names all w h = refl
identifier_signed false functions names all w (more, e) =
    let k = kept names w in
    ap (λ (n : ℕ). signs.Name n) (sym k.number ∙ sym (number_stays (with_name names w) more w k.found) ∙ ap (λ (ns : List (List ℕ)). number_in ns w) (sym e))

word_signed : (functions names all : List (List ℕ)) (w : List ℕ) (o : Option Sign) → Extends (names_with_word functions names w o) all → word_sign functions names w o ≡ word_sign functions all w o
word_signed functions names all w (Some s) h = refl
word_signed functions names all w None h = identifier_signed (is_function functions w) functions names all w h

-- the sign of a token over the names with it is that over all names that begin with these
signed : (functions names all : List (List ℕ)) (kind : TokenKind) (w : List ℕ) → Extends (names_with functions names kind w) all → sign_of functions names kind w ≡ sign_of functions all kind w
signed functions names all (kinds.Number n) w h = refl
signed functions names all kinds.Word w h = word_signed functions names all w (keyword_of w) h
signed functions names all kinds.Mark w h = refl

-- items that are numbered one by one are those over all names
pub all_over : (functions : List (List ℕ)) (text : List ℕ) (names : List (List ℕ)) (ts : List Token) → items_from functions text names ts ≡ items_over functions (names_from functions text names ts) text ts
all_over functions text names [] = refl
all_over functions text names (t ∷ ts) =
    ap (λ (s : Sign). at t.place s ∷ items_from functions text (names_with functions names t.kind (lexeme_in text t)) ts) (signed functions names (names_from functions text (names_with functions names t.kind (lexeme_in text t)) ts) t.kind (lexeme_in text t) (names_extend functions text (names_with functions names t.kind (lexeme_in text t)) ts))
    ∙ ap (λ (xs : List Item). at t.place (sign_of functions (names_from functions text (names_with functions names t.kind (lexeme_in text t)) ts) t.kind (lexeme_in text t)) ∷ xs) (all_over functions text (names_with functions names t.kind (lexeme_in text t)) ts)

-- the names and items of tokens that were numbered one by one behind given names
pub listed_whole : (functions given old new : List (List ℕ)) (text : List ℕ) (ts : List Token) (made : Numbered) → old ≡ given → AreListed functions old text ts new made.items.items → made.names ≡ new → IsListed (listed functions given text ts) made
listed_whole functions given old new text ts made e h f = record {
  names_are = f ∙ h.names_are ∙ ap (λ (ns : List (List ℕ)). names_from functions text ns ts) e;
  items_are = h.items_are ∙ ap (λ (ns : List (List ℕ)). items_from functions text ns ts) e ∙ all_over functions text given ts;
}

-- what was numbered may be given to a reader
pub proper_items : (functions : List (List ℕ)) → TokenLaws → (given : List (List ℕ)) (text : List ℕ) (ts : List Token) (made : Numbered) → tokens_of text ≡ Ok ts → IsListed (listed functions given text ts) made → AreProper made.names made.items.items
proper_items functions laws given text ts made is h = rw (h.names_are, h.items_are ∙ sym (all_over functions text given ts)) (record { fit = items_fit functions laws text given ts is; rising = items_rise functions laws text given ts is; plain = items_plain functions laws text given ts is })
