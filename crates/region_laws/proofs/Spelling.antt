-- Texts that spell an expression with a known value.
use Rattle.std.proofs.Common.{◌≡◌, ℕ, suc, ◌^◌, ◌<◌, ℤ, pos, negsuc, unsigned_abs, Bool, true, false, not, ◌&&◌, ◌||◌, if◌then◌else◌, nat_eq, List, [], ◌∷◌, ◌++◌, length, codes, slice_index_or, is_none, Some, None, refl, sym, ap, subst, ◌∙◌, arith}
use Rattle.std.proofs.lemmas.Bool.{false≢true}
use Rattle.std.proofs.lemmas.List.{append-nil, append_assoc}
use Rattle.std.specs.Fmt.{decimal, signed_decimal}
use Rattle.linear_atoms.specs.declared.atoms.Feature.{Feature}
use Rattle.linear_atoms.specs.Atoms.{IsWithin}
use Rattle.linear_atoms.specs.Texts.{name_at}
use Rattle.cpp_conditions.specs.Expressions.{Expression, Number, Name, Unary, Binary, before, between, value}
use Rattle.cpp_conditions.specs.Grammar.{Spells, CSpells, tighter, has_reserved, has_unknown}
use Rattle.cpp_conditions.specs.Meaning.{is_linear, is_truth, gives_truth, names_feature, suits_operator}
use Rattle.cpp_conditions.specs.Grammar as grammar
use Rattle.c_words.specs.Bytes.{is_nondigit, is_word_byte}
use Rattle.c_words.specs.Identifiers.{is_identifier}
use Rattle.cpp_conditions.specs.Tokens.{Token, Digits, Word, Bang, Oper, SpellsTokens, StopsAt, NoPair}
use Rattle.cpp_conditions.specs.Tokens as tokens
use Rattle.feature_model.specs.Features.{AreDistinct, AreNamed}
use Rattle.cpp_conditions.specs.declared.operators.Operator.{Operator}
use Rattle.cpp_conditions.specs.declared.operators.Operator.TheVariants.{Times, Plus, Minus, AtLeast, AtMost, Equal, Both, Differs}
use Rattle.cpp_conditions.specs.declared.operators.Prefix.TheVariants.{Inverse, Negative}
use Rattle.region_laws.proofs.Named.{IsNamed, is_named, found_at, value_of_name}
use Rattle.region_laws.proofs.Numerals.{number_token, alphanumeric_stops, minus_apart}

-- the text spells an expression of the level, before whatever ends a word, and its value at values within the ranges is this; the
-- expression has no reserved name, names features alone and is linear, and is no truth value where it is numeric
pub record IsTold (features : List Feature) (level : ℕ) (numeric : Bool) (text : List ℕ) (of : List ℤ → ℤ) : Type 0 where
  pub tokens : List Token
  pub tree : Expression
  pub read : (rest : List ℕ) (us : List Token) → StopsAt is_word_byte rest → SpellsTokens rest us → SpellsTokens (text ++ rest) (tokens ++ us)
  pub spells : Spells level tokens tree
  pub value_is : (values : List ℤ) → IsWithin features values → value features values tree ≡ of values
  pub allowed : has_reserved tree ≡ false
  pub known : has_unknown [] features tree ≡ false
  pub linear : is_linear features tree ≡ true
  pub number : numeric ≡ true → is_truth tree ≡ false

module _ {features : List Feature} where
  pub looser : {level : ℕ} {numeric : Bool} {text : List ℕ} {of : List ℤ → ℤ} → IsTold features level numeric text of → IsTold features (suc level) numeric text of
  looser t = record { tokens = t.tokens; tree = t.tree; read = t.read; spells = grammar.loose t.spells; value_is = t.value_is; allowed = t.allowed; known = t.known; linear = t.linear; number = t.number }

  pub with_value : {level : ℕ} {numeric : Bool} {text : List ℕ} {of : List ℤ → ℤ} (by : List ℤ → ℤ) → ((values : List ℤ) → IsWithin features values → of values ≡ by values) → IsTold features level numeric text of → IsTold features level numeric text by
  with_value by same t = record { tokens = t.tokens; tree = t.tree; read = t.read; spells = t.spells; value_is = λ values within. t.value_is values within ∙ same values within; allowed = t.allowed; known = t.known; linear = t.linear; number = t.number }

  pub with_text : {level : ℕ} {numeric : Bool} {text : List ℕ} {of : List ℤ → ℤ} (other : List ℕ) → text ≡ other → IsTold features level numeric text of → IsTold features level numeric other of
  with_text {level} {numeric} {text} {of} other same t = subst (λ bs. IsTold features level numeric bs of) same t

  -- a number may stand where nothing is said
  pub any : {level : ℕ} {numeric : Bool} {text : List ℕ} {of : List ℤ → ℤ} → IsTold features level numeric text of → IsTold features level false text of
  any t = record { tokens = t.tokens; tree = t.tree; read = t.read; spells = t.spells; value_is = t.value_is; allowed = t.allowed; known = t.known; linear = t.linear; number = λ e. absurd (false≢true e) }

-- ---- one token

word_token_read : (name rest : List ℕ) (us : List Token) → IsNamed name → StopsAt is_word_byte rest → SpellsTokens rest us → SpellsTokens (name ++ rest) (Word name ∷ us)
word_token_read name rest us h stops s = subst (λ t. SpellsTokens (name ++ rest) (t ∷ us)) h.word (tokens.word name h.identifier stops s)

pub told_name : (features : List Feature) (n : ℕ) → AreNamed features → AreDistinct features → n < length features → IsTold features 0 true (name_at features n) (λ values. slice_index_or values n (pos 0))
told_name features n named distinct lt =
    let h = is_named features n named lt in
    record {
      tokens = Word (name_at features n) ∷ [];
      tree = Name (name_at features n);
      read = λ rest us stops s. word_token_read (name_at features n) rest us h stops s;
      spells = grammar.name (name_at features n);
      value_is = λ values within. value_of_name features values n distinct lt;
      allowed = h.free;
      known = ap is_none (found_at features n distinct lt);
      linear = refl;
      number = λ e. refl;
    }

pub told_natural : (features : List Feature) (n : ℕ) → n < 2 ^ 64 → IsTold features 0 true (decimal n) (λ values. pos n)
told_natural features n lt = record {
  tokens = Digits n ∷ [];
  tree = Number n;
  read = λ rest us stops s. number_token n rest us lt stops s;
  spells = grammar.number n;
  value_is = λ values within. refl;
  allowed = refl;
  known = refl;
  linear = refl;
  number = λ e. refl;
}

pub told_one : (features : List Feature) → IsTold features 0 true (codes "1") (λ values. pos 1)
told_one features = record {
  tokens = Digits 1 ∷ [];
  tree = Number 1;
  read = λ rest us stops s. one_read rest us stops s;
  spells = grammar.number 1;
  value_is = λ values within. refl;
  allowed = refl;
  known = refl;
  linear = refl;
  number = λ e. refl;
}
  where
    one_read : (rest : List ℕ) (us : List Token) → StopsAt is_word_byte rest → SpellsTokens rest us → SpellsTokens (49 ∷ rest) (Digits 1 ∷ us)
    one_read rest us stops s = tokens.number (49 ∷ []) refl (alphanumeric_stops rest stops) refl s

pub told_integer : (features : List Feature) (z : ℤ) → unsigned_abs z < 2 ^ 64 → IsTold features 0 true (signed_decimal z) (λ values. z)
told_integer features (pos n) lt = told_natural features n lt
told_integer features (negsuc n) lt = record {
  tokens = Oper Minus ∷ Digits (suc n) ∷ [];
  tree = Unary Negative (Number (suc n));
  read = λ rest us stops s. tokens.single 45 (Oper Minus) refl (minus_apart (suc n) rest lt) (number_token (suc n) rest us lt stops s);
  spells = grammar.prefix Negative (grammar.number (suc n));
  value_is = λ values within. refl;
  allowed = refl;
  known = refl;
  linear = refl;
  number = λ e. refl;
}

-- ---- `!`

first_no_equals : (b : ℕ) → is_nondigit b ≡ true → nat_eq b 61 ≡ false
first_no_equals b h = grind arith

and_left : (a b : Bool) → (a && b) ≡ true → a ≡ true
and_left true b e = refl
and_left false b e = e

bang_apart : (name rest : List ℕ) → is_identifier name ≡ true → NoPair 33 (name ++ rest)
bang_apart [] rest h = absurd cc
bang_apart (b ∷ bs) rest h = ap (λ x. if x then Some (Oper Differs) else None) (first_no_equals b (and_left (is_nondigit b) _ h))

pub told_inverse : (features : List Feature) (n : ℕ) → AreNamed features → AreDistinct features → n < length features
    → IsTold features 0 false (codes "!" ++ name_at features n) (λ values. before Inverse (slice_index_or values n (pos 0)))
told_inverse features n named distinct lt =
    let name = name_at features n in
    let h = is_named features n named lt in
    record {
      tokens = Bang ∷ Word name ∷ [];
      tree = Unary Inverse (Name name);
      read = λ rest us stops s. tokens.single 33 Bang refl (bang_apart name rest h.identifier) (word_token_read name rest us h stops s);
      spells = grammar.prefix Inverse (grammar.name name);
      value_is = λ values within. ap (before Inverse) (value_of_name features values n distinct lt);
      allowed = h.free;
      known = ap is_none (found_at features n distinct lt);
      linear = refl;
      number = λ e. absurd (false≢true e);
    }

-- ---- operators

-- the text is the operator's mark, perhaps between spaces
pub record IsMark (op : Operator) (text : List ℕ) : Type 0 where
  pub stops : (rest : List ℕ) → StopsAt is_word_byte (text ++ rest)
  pub read : (rest : List ℕ) (us : List Token) → SpellsTokens rest us → SpellsTokens (text ++ rest) (Oper op ∷ us)

star_apart : (rest : List ℕ) → NoPair 42 rest
star_apart [] = tt
star_apart (b ∷ bs) = refl

pub times_mark : IsMark Times (codes "*")
times_mark = record { stops = λ rest. refl; read = λ rest us s. tokens.single 42 (Oper Times) refl (star_apart rest) s }

pub plus_mark : IsMark Plus (codes " + ")
plus_mark = record { stops = λ rest. refl; read = λ rest us s. tokens.space 32 refl (tokens.single 43 (Oper Plus) refl refl (tokens.space 32 refl s)) }

pub minus_mark : IsMark Minus (codes " - ")
minus_mark = record { stops = λ rest. refl; read = λ rest us s. tokens.space 32 refl (tokens.single 45 (Oper Minus) refl refl (tokens.space 32 refl s)) }

pub at_least_mark : IsMark AtLeast (codes " >= ")
at_least_mark = record { stops = λ rest. refl; read = λ rest us s. tokens.space 32 refl (tokens.pair 62 61 (Oper AtLeast) refl (tokens.space 32 refl s)) }

pub at_most_mark : IsMark AtMost (codes " <= ")
at_most_mark = record { stops = λ rest. refl; read = λ rest us s. tokens.space 32 refl (tokens.pair 60 61 (Oper AtMost) refl (tokens.space 32 refl s)) }

pub equal_mark : IsMark Equal (codes " == ")
equal_mark = record { stops = λ rest. refl; read = λ rest us s. tokens.space 32 refl (tokens.pair 61 61 (Oper Equal) refl (tokens.space 32 refl s)) }

pub both_mark : IsMark Both (codes " && ")
both_mark = record { stops = λ rest. refl; read = λ rest us s. tokens.space 32 refl (tokens.pair 38 38 (Oper Both) refl (tokens.space 32 refl s)) }

neither : (a b : Bool) → a ≡ false → b ≡ false → (a || b) ≡ false
neither a b e f = ap (λ x. x || b) e ∙ f

all_three : (a b c : Bool) → a ≡ true → b ≡ true → c ≡ true → ((a && b) && c) ≡ true
all_three a b c e f g = ap (λ x. (x && b) && c) e ∙ ap (λ x. x && c) f ∙ g

pub numbers : {a b : Bool} → a ≡ false → b ≡ false → (not a && not b) ≡ true
numbers {a} {b} e f = ap (λ x. not x && not b) e ∙ ap not f

-- the operator takes the two expressions
abbrev pub Suits : List Feature → Operator → Expression → Expression → Type 0
Suits features op a b = suits_operator op (not (is_truth a) && not (is_truth b)) (names_feature features a && names_feature features b) ≡ true

-- two texts with a mark between
pub told_both : (features : List Feature) (op : Operator) (p q r : Bool) → (r ≡ true → gives_truth op ≡ false) → (mark a b : List ℕ) (f g : List ℤ → ℤ) → IsMark op mark
    → (t : IsTold features (suc (tighter op)) p a f) (u : IsTold features (tighter op) q b g) → Suits features op t.tree u.tree
    → IsTold features (suc (tighter op)) r (a ++ (mark ++ b)) (λ values. between op (f values) (g values))
told_both features op p q r gives mark a b f g m t u suits = record {
  tokens = t.tokens ++ Oper op ∷ u.tokens;
  tree = Binary op t.tree u.tree;
  read = λ rest us stops s.
      let behind : SpellsTokens (mark ++ (b ++ rest)) (Oper op ∷ (u.tokens ++ us)) = m.read (b ++ rest) (u.tokens ++ us) (u.read rest us stops s) in
      let all : SpellsTokens (a ++ (mark ++ (b ++ rest))) (t.tokens ++ Oper op ∷ (u.tokens ++ us)) = t.read (mark ++ (b ++ rest)) (Oper op ∷ (u.tokens ++ us)) (m.stops (b ++ rest)) behind in
      let bytes : a ++ (mark ++ (b ++ rest)) ≡ (a ++ (mark ++ b)) ++ rest = ap (λ xs. a ++ xs) (sym (append_assoc mark b rest)) ∙ sym (append_assoc a (mark ++ b) rest) in
      let list : t.tokens ++ Oper op ∷ (u.tokens ++ us) ≡ (t.tokens ++ Oper op ∷ u.tokens) ++ us = sym (append_assoc t.tokens (Oper op ∷ u.tokens) us) in
      subst (λ bs. SpellsTokens bs ((t.tokens ++ Oper op ∷ u.tokens) ++ us)) bytes (subst (λ vs. SpellsTokens (a ++ (mark ++ (b ++ rest))) vs) list all);
  spells = grammar.binary op t.spells u.spells;
  value_is = λ values within. ap (λ x. between op x (value features values u.tree)) (t.value_is values within) ∙ ap (between op (f values)) (u.value_is values within);
  allowed = neither (has_reserved t.tree) (has_reserved u.tree) t.allowed u.allowed;
  known = neither (has_unknown [] features t.tree) (has_unknown [] features u.tree) t.known u.known;
  linear = all_three (is_linear features t.tree) (is_linear features u.tree) _ t.linear u.linear suits;
  number = gives;
}

-- a number times a feature
pub times_suits : (features : List Feature) (m n : ℕ) (small : m < 2 ^ 64) (named : AreNamed features) (distinct : AreDistinct features) (lt : n < length features)
    → Suits features Times (looser (told_natural features m small)).tree (told_name features n named distinct lt).tree
unfolding looser told_natural told_name
times_suits features m n small named distinct lt = refl

-- ---- whole texts

pub c_spells : {features : List Feature} {text : List ℕ} {of : List ℤ → ℤ} → (t : IsTold features 6 false text of) → CSpells t.tree text
c_spells {features} {text} {of} t = record {
  tokens = t.tokens;
  read = subst (λ bs. SpellsTokens bs t.tokens) (append-nil text) (subst (λ vs. SpellsTokens (text ++ []) vs) (append-nil t.tokens) (t.read [] [] tt tokens.none));
  spells = t.spells;
}
