-- The names of a text are those of its items, in the order of their first occurrence.
use Rattle.std.proofs.Common.{◌≡◌, ℕ, ◌<◌, Bool, true, false, List, [], ◌∷◌, ◌++◌, length, get_or, Option, Some, None, refl, sym, ap, subst, ◌∙◌, arith, inl, inr}
use Rattle.std.specs.Prelude.{IfSome, nat_eq, if◌then◌else◌, ◌||◌}
use Rattle.std.specs.List.{list_any}
use Rattle.std.specs.Str.{bytes_eq}
use Rattle.std.proofs.lemmas.Bool.{or_right}
use Rattle.std.proofs.lemmas.List.Folds.{list_any-append}
use Rattle.c_tokens.specs.declared.token.Token.{Token}
use Rattle.c_tokens.specs.declared.token.TokenKind.{TokenKind}
use Rattle.c_tokens.specs.declared.token.TokenKind.TheVariants as kinds
use Rattle.c_grammar.specs.declared.items.Item.{Item}
use Rattle.c_grammar.specs.declared.items.Sign.{Sign}
use Rattle.c_grammar.specs.declared.items.Sign.TheVariants as signs
use Rattle.c_grammar.specs.Facts.{IsFit, AreFit}
use Rattle.family_names.proofs.Declared.{or_left}
use Rattle.c_parser.specs.Signs.{keyword_of, mark_of, sign_in, marks}
use Rattle.c_parser.specs.Items.{is_function, number_in, with_name, identifier_sign, names_with_identifier, word_sign, sign_of, names_with_word, names_with, lexeme_in, names_from, items_over}
use Rattle.c_parser.specs.Names.{name_of, names_of, names_at, each_once}
use Rattle.c_parser.specs.Signing.{items_from}
use Rattle.c_parser.proofs.AmongNumbers.{is_same}
use Rattle.c_parser.proofs.Lexical.{IsConstant, new_or_old, keyword_constant, unwrapped_constant, table_constant, marks_constant}
use Rattle.c_parser.proofs.NameNumbers.{AreBelow, at_number, first_among}

-- ---- the names of items that fit so many

name_below : (count : ℕ) (s : Sign) (x : ℕ) (ns : List ℕ) → IsFit count s → (list_any (nat_eq x) ns ≡ true → x < count) → list_any (nat_eq x) (name_of s ++ ns) ≡ true → x < count
name_below count (signs.Name n) x ns f go h = elim (nat_eq x n) as (λ b. nat_eq x n ≡ b → (b || list_any (nat_eq x) ns) ≡ true → x < count) [
  | true ↦ λ e k. subst (λ (m : ℕ). m < count) (sym (is_same x n e)) f
  | false ↦ λ e k. go k
] refl h
name_below count _ x ns f go h = go h

pub names_below : (count : ℕ) (xs : List Item) → AreFit count xs → AreBelow count (names_of xs)
names_below count [] f x h = absurd cc
names_below count (y ∷ ys) f x h = name_below count y.sign x (names_of ys) f.0 (names_below count ys f.1 x) h

-- ---- the names of a text

no_name : (s : Sign) → IsFit 0 s → name_of s ≡ []
no_name (signs.Name x) h = absurd (omega (arith, h))
no_name _ h = refl

-- a word that is no identifier, and a mark
constant_unnamed : (s : Sign) → IsConstant s → name_of s ≡ []
constant_unnamed s c = no_name s (c.0 0)

mark_unnamed : (w : List ℕ) → name_of (mark_of w) ≡ []
mark_unnamed w = constant_unnamed (mark_of w) (unwrapped_constant (sign_in marks w) (table_constant marks marks_constant w))

-- these names, and behind them those with the numbers that a sign names and others
abbrev with_sign : List (List ℕ) → List (List ℕ) → Sign → List ℕ → List (List ℕ)
with_sign all names s ns = each_once names (names_at all (name_of s ++ ns))

with_silent : (all names : List (List ℕ)) (s : Sign) (ns : List ℕ) → name_of s ≡ [] → with_sign all names s ns ≡ each_once names (names_at all ns)
with_silent all names s ns e = ap (λ (ms : List ℕ). each_once names (names_at all (ms ++ ns))) e

identifier_first : (b : Bool) (functions all names : List (List ℕ)) (w : List ℕ) (ns : List ℕ) → IsFit (length all) (identifier_sign b functions all w)
    → with_sign all names (identifier_sign b functions all w) ns ≡ each_once (names_with_identifier b names w) (names_at all ns)
identifier_first true functions all names w ns f = refl
identifier_first false functions all names w ns f = elim (new_or_old all w) [
  | inl new ↦ absurd (omega (arith, new.1, f))
  | inr old ↦ ap (λ (v : List ℕ). each_once (with_name names v) (names_at all ns)) (at_number all w old.0)
]

word_first : (functions all names : List (List ℕ)) (w : List ℕ) (o : Option Sign) → IfSome o IsConstant → (ns : List ℕ) → IsFit (length all) (word_sign functions all w o)
    → with_sign all names (word_sign functions all w o) ns ≡ each_once (names_with_word functions names w o) (names_at all ns)
word_first functions all names w (Some s) c ns f = with_silent all names s ns (constant_unnamed s c)
word_first functions all names w None c ns f = identifier_first (is_function functions w) functions all names w ns f

token_first : (functions all names : List (List ℕ)) (kind : TokenKind) (w : List ℕ) (ns : List ℕ) → IsFit (length all) (sign_of functions all kind w)
    → with_sign all names (sign_of functions all kind w) ns ≡ each_once (names_with functions names kind w) (names_at all ns)
token_first functions all names (kinds.Number n) w ns f = refl
token_first functions all names kinds.Word w ns f = word_first functions all names w (keyword_of w) (keyword_constant w) ns f
token_first functions all names kinds.Mark w ns f = with_silent all names (mark_of w) ns (mark_unnamed w)

-- behind some names, those of a text are the names of its items over names among which they all are, each once
pub first_names : (functions all : List (List ℕ)) (text : List ℕ) (names : List (List ℕ)) (ts : List Token) → AreFit (length all) (items_over functions all text ts)
    → each_once names (names_at all (names_of (items_over functions all text ts))) ≡ names_from functions text names ts
first_names functions all text names [] f = refl
first_names functions all text names (t ∷ ts) f =
    token_first functions all names t.kind (lexeme_in text t) (names_of (items_over functions all text ts)) f.0
    ∙ first_names functions all text (names_with functions names t.kind (lexeme_in text t)) ts f.1

-- ---- where all names of the items are given, no name is new

given_identifier : (b : Bool) (functions given : List (List ℕ)) (w : List ℕ) → AreBelow (length given) (name_of (identifier_sign b functions given w)) → names_with_identifier b given w ≡ given
given_identifier true functions given w below = refl
given_identifier false functions given w below = elim (new_or_old given w) [
  | inl new ↦ absurd (omega (arith, new.1, below (number_in given w) (first_among (number_in given w) [])))
  | inr old ↦ ap (λ (b : Bool). if b then given else given ++ w ∷ []) old.0
]

given_word : (functions given : List (List ℕ)) (w : List ℕ) (o : Option Sign) → AreBelow (length given) (name_of (word_sign functions given w o)) → names_with_word functions given w o ≡ given
given_word functions given w (Some s) below = refl
given_word functions given w None below = given_identifier (is_function functions w) functions given w below

given_token : (functions given : List (List ℕ)) (kind : TokenKind) (w : List ℕ) → AreBelow (length given) (name_of (sign_of functions given kind w)) → names_with functions given kind w ≡ given
given_token functions given (kinds.Number n) w below = refl
given_token functions given kinds.Word w below = given_word functions given w (keyword_of w) below
given_token functions given kinds.Mark w below = refl

-- the items of tokens that are numbered behind these names have numbers of given names
abbrev Numbers : List (List ℕ) → List ℕ → List (List ℕ) → List Token → List (List ℕ) → Type 0
Numbers functions text given ts names = AreBelow (length given) (names_of (items_from functions text names ts)) → names_from functions text names ts ≡ given

pub none_new : (functions : List (List ℕ)) (text : List ℕ) (given : List (List ℕ)) (ts : List Token) → Numbers functions text given ts given
none_new functions text given [] below = refl
none_new functions text given (t ∷ ts) below =
    let s = sign_of functions given t.kind (lexeme_in text t) in
    let next = names_with functions given t.kind (lexeme_in text t) in
    let more : List ℕ = names_of (items_from functions text next ts) in
    let same : next ≡ given = given_token functions given t.kind (lexeme_in text t) (λ x h. below x (list_any-append (nat_eq x) (name_of s) more ∙ or_left (list_any (nat_eq x) (name_of s)) (list_any (nat_eq x) more) h)) in
    subst (Numbers functions text given ts) (sym same) (none_new functions text given ts) (λ x h. below x (list_any-append (nat_eq x) (name_of s) more ∙ or_right (list_any (nat_eq x) (name_of s)) (list_any (nat_eq x) more) h))
