-- The identifiers of code, in their order: its names are these, each once.
use Rattle.std.proofs.Common.{◌≡◌, inl, inr, ℕ, ◌<◌, Bool, true, false, ◌||◌, List, [], ◌∷◌, ◌++◌, get_or, Option, Some, None, refl, sym, ap, ◌∙◌, arith}
use Rattle.std.specs.Prelude.{nat_eq, IfSome, if◌then◌else◌}
use Rattle.std.specs.List.{list_any}
use Rattle.std.specs.Str.{bytes_eq}
use Rattle.std.proofs.lemmas.Bool.{eqb-true, or_right}
use Rattle.std.proofs.lemmas.List.{map-append}
use Rattle.std.proofs.lemmas.List.Folds.{list_any-append}
use Rattle.std.proofs.lemmas.Slice.Eq.{bytes_eq-Decides}
use Rattle.c_tokens.specs.declared.token.Token.{Token}
use Rattle.c_tokens.specs.declared.token.TokenKind.{TokenKind}
use Rattle.c_tokens.specs.declared.token.TokenKind.TheVariants as kinds
use Rattle.c_grammar.specs.declared.items.Item.{Item}
use Rattle.c_grammar.specs.declared.items.Sign.{Sign}
use Rattle.c_grammar.specs.declared.items.Sign.TheVariants as signs
use Rattle.c_grammar.specs.Facts.{IsFit, AreFit}
use Rattle.family_names.specs.Names.{name_of, names_of, is_among}
use Rattle.c_parser.specs.Items.{is_function, with_name, identifier_sign, names_with_identifier, word_sign, sign_of, names_with_word, names_with, lexeme_in, names_from, items_over}
use Rattle.c_parser.specs.Names.{names_at, each_once}
use Rattle.c_parser.specs.Signs.{keyword_of, mark_of, sign_in, marks}
use Rattle.c_parser.proofs.AmongNumbers.{or_cases}
use Rattle.c_parser.proofs.Lexical.{IsConstant, keyword_constant, unwrapped_constant, table_constant, marks_constant}
use Rattle.c_parser.proofs.NameNumbers.{at_number}

abbrev name_unless : Bool → List ℕ → List (List ℕ)
name_unless true w = []
name_unless false w = w ∷ []

abbrev word_unless : List (List ℕ) → Option Sign → List ℕ → List (List ℕ)
word_unless functions (Some keyword) w = []
word_unless functions None w = name_unless (is_function functions w) w

abbrev word_in : List (List ℕ) → TokenKind → List ℕ → List (List ℕ)
word_in functions (kinds.Number n) w = []
word_in functions kinds.Word w = word_unless functions (keyword_of w) w
word_in functions kinds.Mark w = []

-- the identifiers among tokens that are no functions
abbrev pub words : List (List ℕ) → List ℕ → List Token → List (List ℕ)
words functions text [] = []
words functions text (t ∷ ts) = word_in functions t.kind (lexeme_in text t) ++ words functions text ts

-- ---- the names of code

identifier_once : (b : Bool) (seen : List (List ℕ)) (w : List ℕ) (ws : List (List ℕ)) → each_once (names_with_identifier b seen w) ws ≡ each_once seen (name_unless b w ++ ws)
identifier_once true seen w ws = refl
identifier_once false seen w ws = refl

word_once : (functions seen : List (List ℕ)) (o : Option Sign) (w : List ℕ) (ws : List (List ℕ)) → each_once (names_with_word functions seen w o) ws ≡ each_once seen (word_unless functions o w ++ ws)
word_once functions seen (Some s) w ws = refl
word_once functions seen None w ws = identifier_once (is_function functions w) seen w ws

token_once : (functions seen : List (List ℕ)) (kind : TokenKind) (w : List ℕ) (ws : List (List ℕ)) → each_once (names_with functions seen kind w) ws ≡ each_once seen (word_in functions kind w ++ ws)
token_once functions seen (kinds.Number n) w ws = refl
token_once functions seen kinds.Word w ws = word_once functions seen (keyword_of w) w ws
token_once functions seen kinds.Mark w ws = refl

pub names_are_words : (functions : List (List ℕ)) (text : List ℕ) (seen : List (List ℕ)) (ts : List Token) → names_from functions text seen ts ≡ each_once seen (words functions text ts)
names_are_words functions text seen [] = refl
names_are_words functions text seen (t ∷ ts) = names_are_words functions text (names_with functions seen t.kind (lexeme_in text t)) ts ∙ token_once functions seen t.kind (lexeme_in text t) (words functions text ts)

-- ---- the names of its items, over names among which all of them are

abbrev pub AreIn : List (List ℕ) → List (List ℕ) → Type 0
AreIn all [] = Unit {0}
AreIn all (w ∷ ws) = (list_any (bytes_eq w) all ≡ true) × AreIn all ws

pub in_front : (all ws vs : List (List ℕ)) → AreIn all (ws ++ vs) → AreIn all ws
in_front all [] vs h = tt
in_front all (w ∷ ws) vs h = (h.0, in_front all ws vs h.1)

pub in_back : (all ws vs : List (List ℕ)) → AreIn all (ws ++ vs) → AreIn all vs
in_back all [] vs h = h
in_back all (w ∷ ws) vs h = in_back all ws vs h.1

no_name : (s : Sign) → IsFit 0 s → name_of s ≡ []
no_name (signs.Name x) h = absurd (omega (arith, h))
no_name _ h = refl

identifier_named : (b : Bool) (functions all : List (List ℕ)) (w : List ℕ) → AreIn all (name_unless b w) → names_at all (name_of (identifier_sign b functions all w)) ≡ name_unless b w
identifier_named true functions all w h = refl
identifier_named false functions all w h = ap (λ (v : List ℕ). v ∷ []) (at_number all w h.0)

word_named : (functions all : List (List ℕ)) (o : Option Sign) (w : List ℕ) → IfSome o IsConstant → AreIn all (word_unless functions o w) → names_at all (name_of (word_sign functions all w o)) ≡ word_unless functions o w
word_named functions all (Some s) w c h = ap (names_at all) (no_name s (c.0 0))
word_named functions all None w c h = identifier_named (is_function functions w) functions all w h

token_named : (functions all : List (List ℕ)) (kind : TokenKind) (w : List ℕ) → AreIn all (word_in functions kind w) → names_at all (name_of (sign_of functions all kind w)) ≡ word_in functions kind w
token_named functions all (kinds.Number n) w h = refl
token_named functions all kinds.Word w h = word_named functions all (keyword_of w) w (keyword_constant w) h
token_named functions all kinds.Mark w h = ap (names_at all) (no_name (mark_of w) ((unwrapped_constant (sign_in marks w) (table_constant marks marks_constant w)).0 0))

pub items_are_words : (functions all : List (List ℕ)) (text : List ℕ) (ts : List Token) → AreIn all (words functions text ts) → names_at all (names_of (items_over functions all text ts)) ≡ words functions text ts
items_are_words functions all text [] h = refl
items_are_words functions all text (t ∷ ts) h =
    let w = lexeme_in text t in
    map-append (λ (i : ℕ). get_or all i []) (name_of (sign_of functions all t.kind (lexeme_in text t))) (names_of (items_over functions all text ts))
    ∙ ap (λ (vs : List (List ℕ)). vs ++ names_at all (names_of (items_over functions all text ts))) (token_named functions all t.kind w (in_front all (word_in functions t.kind w) (words functions text ts) h))
    ∙ ap (λ (vs : List (List ℕ)). word_in functions t.kind w ++ vs) (items_are_words functions all text ts (in_back all (word_in functions t.kind w) (words functions text ts) h))

-- ---- names are below their count

one_below : (count x y : ℕ) → y < count → (nat_eq x y || false) ≡ true → x < count
one_below count x y lt e = elim (or_cases (nat_eq x y) false e) [
  | inl f ↦ (let is : x ≡ y = eqb-true x y f in omega (arith, lt, is))
  | inr f ↦ absurd cc
]

sign_below : (count x : ℕ) (s : Sign) → IsFit count s → is_among x (name_of s) ≡ true → x < count
sign_below count x (signs.Name y) h e = one_below count x y h e
sign_below count x _ h e = absurd cc

pub names_below : (count : ℕ) (items : List Item) → AreFit count items → (x : ℕ) → is_among x (names_of items) ≡ true → x < count
names_below count [] h x e = absurd cc
names_below count (i ∷ is) h x e = elim (or_cases (is_among x (name_of i.sign)) (is_among x (names_of is)) (sym (list_any-append (nat_eq x) (name_of i.sign) (names_of is)) ∙ e)) [
  | inl f ↦ sign_below count x i.sign h.0 f
  | inr f ↦ names_below count is h.1 x f
]

-- ---- each once

pub once_both : (seen ws vs : List (List ℕ)) → each_once seen (ws ++ vs) ≡ each_once (each_once seen ws) vs
once_both seen [] vs = refl
once_both seen (w ∷ ws) vs = once_both (with_name seen w) ws vs

abbrev or_same : List (List ℕ) → List ℕ → Bool → List (List ℕ)
or_same seen n b = if b then seen else seen ++ n ∷ []

with_keeps : (seen : List (List ℕ)) (n w : List ℕ) → list_any (bytes_eq w) seen ≡ true → list_any (bytes_eq w) (with_name seen n) ≡ true
with_keeps seen n w h = elim (list_any (bytes_eq n) seen) as (λ b. list_any (bytes_eq w) (or_same seen n b) ≡ true) [
  | true ↦ h
  | false ↦ list_any-append (bytes_eq w) seen (n ∷ []) ∙ ap (λ (b : Bool). b || list_any (bytes_eq w) (n ∷ [])) h
]

with_itself : (seen : List (List ℕ)) (w : List ℕ) → list_any (bytes_eq w) (with_name seen w) ≡ true
with_itself seen w = elim (list_any (bytes_eq w) seen) as (λ b. list_any (bytes_eq w) seen ≡ b → list_any (bytes_eq w) (or_same seen w b) ≡ true) [
  | true ↦ λ e. e
  | false ↦ λ _. list_any-append (bytes_eq w) seen (w ∷ []) ∙ or_right (list_any (bytes_eq w) seen) (list_any (bytes_eq w) (w ∷ [])) (ap (λ (b : Bool). b || false) ((bytes_eq-Decides w w).1 refl))
] refl

pub once_keeps : (seen ws : List (List ℕ)) (w : List ℕ) → list_any (bytes_eq w) seen ≡ true → list_any (bytes_eq w) (each_once seen ws) ≡ true
once_keeps seen [] w h = h
once_keeps seen (v ∷ ws) w h = once_keeps (with_name seen v) ws w (with_keeps seen v w h)

-- each stands there
pub in_once : (seen ws : List (List ℕ)) → AreIn (each_once seen ws) ws
in_once seen [] = tt
in_once seen (w ∷ ws) = (once_keeps (with_name seen w) ws w (with_itself seen w), in_once (with_name seen w) ws)
