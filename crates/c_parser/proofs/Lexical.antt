-- Facts of the tokens of a text, and of their items: they lie in the text, their places rise, their numbers are literals,
-- their names are below the count of names, and there are no groups.
use Rattle.std.proofs.Common.{◌≡◌, ℕ, suc, ◌+◌, ◌≤◌, ◌<◌, ◌⊎◌, cond, Bool, true, false, List, [], ◌∷◌, length, Option, Some, None, Ok, refl, sym, subst, arith, inl, inr}
use Rattle.std.specs.List.{list_any}
use Rattle.std.proofs.lemmas.List.{length-append}
use Rattle.std.specs.Prelude.{ℤ, pos, not, IfSome, IsTrue, ◌||◌, if◌then◌else◌, unwrap_or}
use Rattle.std.specs.Str.{bytes_eq}
use Rattle.std.proofs.lemmas.List.{length-drop}
use Rattle.std.proofs.lemmas.Int.{ints}
use Rattle.fam_outer.specs.declared.faults.Place.{Place}
use Rattle.c_tokens.specs.declared.token.Token.{Token}
use Rattle.c_tokens.specs.declared.token.TokenKind.{TokenKind}
use Rattle.c_tokens.specs.declared.token.TokenKind.TheVariants as kinds
use Rattle.c_tokens.specs.Lexemes.{kind_of}
use Rattle.fam_outer.specs.Places.{place_at, is_before}
use Rattle.c_tokens.specs.Reading.{StandBetween, IsReading, tokens_of}
use Rattle.c_grammar.specs.declared.items.Sign.{Sign}
use Rattle.c_grammar.specs.declared.items.Sign.TheVariants as signs
use Rattle.c_words.specs.Keywords.{is_keyword}
use Rattle.c_parser.specs.Signs.{sign_in, used_words, keyword_or, keyword_of, marks}
use Rattle.c_parser.specs.Items.{sign_of, word_sign, names_with, lexeme_in}
use Rattle.c_parser.specs.Signing.{items_from}
use Rattle.c_parser.specs.Items.{is_function, identifier_sign, names_with_identifier, with_name, names_with_word, names_from, number_in}
use Rattle.c_parser.specs.Signing.{AreWithin}
use Rattle.c_grammar.specs.Facts.{IsFit, AreFit, IsBeforeItems, AreRising}
use Rattle.c_grammar.specs.Grammar.{is_group, has_groups}
use Rattle.c_parser.proofs.Growing.{grows}

-- the laws of tokens that are used here
pub record TokenLaws : Type 0 where
  pub read : (text : List ℕ) → IsReading text (tokens_of text)
  pub literal : (lexeme : List ℕ) (value : ℤ) → kind_of lexeme ≡ Some (kinds.Number value) → (n : ℕ) × (value ≡ pos n) × (n ≤ 2147483647)
  pub rise : (text : List ℕ) (i j : ℕ) → i < j → j ≤ length text → IsTrue (is_before (place_at text i) (place_at text j))

pub stand : TokenLaws → (text : List ℕ) (ts : List Token) → tokens_of text ≡ Ok ts → StandBetween text 0 ts (length text)
stand laws text ts is = subst (IsReading text) is (laws.read text)

within : (text : List ℕ) (start : ℕ) (ts : List Token) (end : ℕ) → StandBetween text start ts end → AreWithin (length text) ts
within text start [] end h = tt
within text start (t ∷ ts) end h = ((omega (arith, h.1.0.begins), omega (arith, h.0.within, h.1.0.longest.fits, h.1.0.begins, length-drop t.start text)), within text t.end ts end h.1.1)

-- ---- places

before_all : (functions : List (List ℕ)) → TokenLaws → (text : List ℕ) (k start : ℕ) → k < start → (names : List (List ℕ)) (ts : List Token) (end : ℕ) → StandBetween text start ts end → IsBeforeItems (place_at text k) (items_from functions text names ts)
before_all functions laws text k start lt names [] end h = tt
before_all functions laws text k start lt names (t ∷ ts) end h = (
  subst (λ (q : Place). IsTrue (is_before (place_at text k) q)) (sym h.1.0.place) (laws.rise text k t.start (omega (arith, h.0.order)) h.0.within),
  before_all functions laws text k t.end (omega (arith, h.0.order, h.1.0.begins)) (names_with functions names t.kind (lexeme_in text t)) ts end h.1.1,
)

rising : (functions : List (List ℕ)) → TokenLaws → (text : List ℕ) (start : ℕ) (names : List (List ℕ)) (ts : List Token) (end : ℕ) → StandBetween text start ts end → AreRising (items_from functions text names ts)
rising functions laws text start names [] end h = tt
rising functions laws text start names (t ∷ ts) end h = (
  subst (λ (q : Place). IsBeforeItems q (items_from functions text (names_with functions names t.kind (lexeme_in text t)) ts)) (sym h.1.0.place) (before_all functions laws text t.start t.end h.1.0.begins (names_with functions names t.kind (lexeme_in text t)) ts end h.1.1),
  rising functions laws text t.end (names_with functions names t.kind (lexeme_in text t)) ts end h.1.1,
)

or_none : (a b : Bool) → a ≡ false → b ≡ false → (a || b) ≡ false
or_none true b h k = absurd cc
or_none false b h k = k

-- ---- names

-- a name is new, or it has a number below the count
pub new_or_old : (names : List (List ℕ)) (w : List ℕ) → ((list_any (bytes_eq w) names ≡ false) × (number_in names w ≡ length names)) ⊎ ((list_any (bytes_eq w) names ≡ true) × (number_in names w < length names))
new_or_old [] w = inl (refl, refl)
new_or_old (n ∷ ns) w =
    elim (bytes_eq w n) as (λ b. (((b || list_any (bytes_eq w) ns) ≡ false) × (cond (not b) (1 + number_in ns w) 0 ≡ suc (length ns))) ⊎ (((b || list_any (bytes_eq w) ns) ≡ true) × (cond (not b) (1 + number_in ns w) 0 < suc (length ns)))) [
      | true ↦ inr (refl, omega arith)
      | false ↦ elim (new_or_old ns w) [
        | inl h ↦ inl (h.0, omega (arith, h.1))
        | inr h ↦ inr (h.0, omega (arith, h.1))
      ]
    ]

-- the number of a name is below the count of the names with it
pub number_below : (names : List (List ℕ)) (w : List ℕ) → number_in names w < length (with_name names w)
number_below names w = elim (new_or_old names w) [
  | inl h ↦ rw h.0 (omega (arith, h.1, length-append names (w ∷ [])))
  | inr h ↦ rw h.0 h.1
]

-- ---- signs

-- the sign is no name and no group, and a number is a literal
abbrev pub IsConstant : Sign → Type 0
IsConstant s = ((count : ℕ) → IsFit count s) × (is_group s ≡ false)

abbrev AreConstant : List (List ℕ × Sign) → Type 0
AreConstant [] = Unit {0}
AreConstant (e ∷ es) = IsConstant e.1 × AreConstant es

pub table_constant : (table : List (List ℕ × Sign)) → AreConstant table → (w : List ℕ) → IfSome (sign_in table w) IsConstant
table_constant [] h w = tt
table_constant (e ∷ es) h w = elim (bytes_eq w e.0) as (λ b. IfSome (if b then Some e.1 else sign_in es w) IsConstant) [
  | true ↦ h.0
  | false ↦ table_constant es h.1 w
]

used_constant : AreConstant used_words
used_constant = ((λ _. tt, refl), ((λ _. tt, refl), ((λ _. tt, refl), ((λ _. tt, refl), ((λ _. tt, refl), ((λ _. tt, refl), ((λ _. tt, refl), ((λ _. tt, refl), ((λ _. tt, refl), ((λ _. tt, refl), ((λ _. tt, refl), ((λ _. tt, refl), ((λ _. tt, refl), ((λ _. tt, refl), ((λ _. tt, refl), ((λ _. tt, refl), ((λ _. tt, refl), ((λ _. tt, refl), ((λ _. tt, refl), tt)))))))))))))))))))

pub marks_constant : AreConstant marks
marks_constant = ((λ _. tt, refl), ((λ _. tt, refl), ((λ _. tt, refl), ((λ _. tt, refl), ((λ _. tt, refl), ((λ _. tt, refl), ((λ _. tt, refl), ((λ _. tt, refl), ((λ _. tt, refl), ((λ _. tt, refl), ((λ _. tt, refl), ((λ _. tt, refl), ((λ _. tt, refl), ((λ _. tt, refl), ((λ _. tt, refl), ((λ _. tt, refl), ((λ _. tt, refl), ((λ _. tt, refl), ((λ _. tt, refl), ((λ _. tt, refl), ((λ _. tt, refl), ((λ _. tt, refl), ((λ _. tt, refl), ((λ _. tt, refl), ((λ _. tt, refl), ((λ _. tt, refl), ((λ _. tt, refl), ((λ _. tt, refl), ((λ _. tt, refl), tt)))))))))))))))))))))))))))))

keyword_or_constant : (o : Option Sign) (w : List ℕ) → IfSome o IsConstant → IfSome (keyword_or o w) IsConstant
keyword_or_constant (Some s) w h = h
keyword_or_constant None w h = elim (is_keyword w) as (λ b. IfSome (if b then Some signs.Reserved else None) IsConstant) [ true ↦ (λ _. tt, refl) | false ↦ tt ]

pub keyword_constant : (w : List ℕ) → IfSome (keyword_of w) IsConstant
keyword_constant w = keyword_or_constant (sign_in used_words w) w (table_constant used_words used_constant w)

pub unwrapped_constant : (o : Option Sign) → IfSome o IsConstant → IsConstant (unwrap_or o signs.Reserved)
unwrapped_constant (Some s) h = h
unwrapped_constant None h = (λ _. tt, refl)

-- a sign is fit for the names with it, and no group
pub record IsPlainSign (count : ℕ) (s : Sign) : Type 0 where
  pub fit : IsFit count s
  pub no_group : is_group s ≡ false

identifier_fit : (b : Bool) (functions names : List (List ℕ)) (w : List ℕ) (count : ℕ) → length (names_with_identifier b names w) ≤ count → IsPlainSign count (identifier_sign b functions names w)
identifier_fit true functions names w count le = record { fit = tt; no_group = refl }
identifier_fit false functions names w count le = record { fit = omega (arith, number_below names w, le); no_group = refl }

word_fit : (functions names : List (List ℕ)) (w : List ℕ) (o : Option Sign) → IfSome o IsConstant → (count : ℕ) → length (names_with_word functions names w o) ≤ count → IsPlainSign count (word_sign functions names w o)
word_fit functions names w (Some s) h count le = record { fit = h.0 count; no_group = h.1 }
word_fit functions names w None h count le = identifier_fit (is_function functions w) functions names w count le

sign_fit : (functions : List (List ℕ)) → TokenLaws → (names : List (List ℕ)) (kind : TokenKind) (w : List ℕ) → kind_of w ≡ Some kind → (count : ℕ) → length (names_with functions names kind w) ≤ count → IsPlainSign count (sign_of functions names kind w)
sign_fit functions laws names (kinds.Number n) w is count le = let h = laws.literal w n is in record { fit = (omega (arith, ints, h.1, h.2), omega (arith, ints, h.1, h.2)); no_group = refl }
sign_fit functions laws names kinds.Word w is count le = word_fit functions names w (keyword_of w) (keyword_constant w) count le
sign_fit functions laws names kinds.Mark w is count le = let h = unwrapped_constant (sign_in marks w) (table_constant marks marks_constant w) in record { fit = h.0 count; no_group = h.1 }

fit_from : (functions : List (List ℕ)) → TokenLaws → (text : List ℕ) (start : ℕ) (names : List (List ℕ)) (ts : List Token) (end : ℕ) → StandBetween text start ts end → (count : ℕ) → length (names_from functions text names ts) ≤ count → AreFit count (items_from functions text names ts) × (has_groups (items_from functions text names ts) ≡ false)
fit_from functions laws text start names [] end h count le = (tt, refl)
fit_from functions laws text start names (t ∷ ts) end h count le =
    let next = names_with functions names t.kind (lexeme_in text t) in
    let here = sign_fit functions laws names t.kind (lexeme_in text t) h.1.0.kind count (omega (arith, grows functions text (names_with functions names t.kind (lexeme_in text t)) ts, le)) in
    let rest = fit_from functions laws text t.end (names_with functions names t.kind (lexeme_in text t)) ts end h.1.1 count le in
    ((here.fit, rest.0), or_none (is_group (sign_of functions names t.kind (lexeme_in text t))) (has_groups (items_from functions text (names_with functions names t.kind (lexeme_in text t)) ts)) here.no_group rest.1)

-- ---- how many tokens there are

few_from : (text : List ℕ) (start : ℕ) (ts : List Token) (end : ℕ) → StandBetween text start ts end → start + length ts ≤ end
few_from text start [] end h = omega (arith, h.order)
few_from text start (t ∷ ts) end h = omega (arith, h.0.order, h.1.0.begins, few_from text t.end ts end h.1.1)

-- ---- of all tokens of a text

pub tokens_within : TokenLaws → (text : List ℕ) (ts : List Token) → tokens_of text ≡ Ok ts → AreWithin (length text) ts
tokens_within laws text ts is = within text 0 ts (length text) (stand laws text ts is)

pub tokens_few : TokenLaws → (text : List ℕ) (ts : List Token) → tokens_of text ≡ Ok ts → length ts ≤ length text
tokens_few laws text ts is = omega (arith, few_from text 0 ts (length text) (stand laws text ts is))

pub items_rise : (functions : List (List ℕ)) → TokenLaws → (text : List ℕ) (given : List (List ℕ)) (ts : List Token) → tokens_of text ≡ Ok ts → AreRising (items_from functions text given ts)
items_rise functions laws text given ts is = rising functions laws text 0 given ts (length text) (stand laws text ts is)

pub items_fit : (functions : List (List ℕ)) → TokenLaws → (text : List ℕ) (given : List (List ℕ)) (ts : List Token) → tokens_of text ≡ Ok ts → AreFit (length (names_from functions text given ts)) (items_from functions text given ts)
items_fit functions laws text given ts is = (fit_from functions laws text 0 given ts (length text) (stand laws text ts is) (length (names_from functions text given ts)) (omega arith)).0

pub items_plain : (functions : List (List ℕ)) → TokenLaws → (text : List ℕ) (given : List (List ℕ)) (ts : List Token) → tokens_of text ≡ Ok ts → has_groups (items_from functions text given ts) ≡ false
items_plain functions laws text given ts is = (fit_from functions laws text 0 given ts (length text) (stand laws text ts is) (length (names_from functions text given ts)) (omega arith)).1
