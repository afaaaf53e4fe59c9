-- The places and the names of a family's program.
use Rattle.std.proofs.Common.{◌≡◌, ℕ, zero, suc, ◌≤◌, Bool, true, false, ◌||◌, true≢false, List, [], ◌∷◌, ◌++◌, length, take, refl, sym, ap, subst, ◌∙◌, arith}
use Rattle.std.specs.Prelude.{if◌then◌else◌, Option, Some, None, Result, Ok, Err}
use Rattle.std.specs.List.{AllByRecursion, list_any}
use Rattle.std.specs.Str.{bytes_eq}
use Rattle.std.proofs.lemmas.List.Sums.{count_by-le-length}
use Rattle.fam_outer.specs.declared.faults.Place.{Place}
use Rattle.fam_outer.specs.declared.faults.FileCode.{FileCode}
use Rattle.fam_outer.specs.Limits.{file_bytes}
use Rattle.fam_outer.specs.Places.{is_newline, last_line, place_at}
use Rattle.fam_outer.specs.Results.{and_then}
use Rattle.c_tokens.specs.declared.token.Token.{Token}
use Rattle.c_tokens.specs.declared.token.TokenKind.{TokenKind}
use Rattle.c_tokens.specs.declared.token.TokenKind.TheVariants as kinds
use Rattle.c_tokens.specs.Reading.{StandBetween, IsReading, tokens_of}
use Rattle.c_grammar.specs.declared.items.Item.{Item}
use Rattle.c_grammar.specs.declared.items.Sign.{Sign}
use Rattle.c_parser.specs.Items.{Listed, is_function, with_name, names_with_identifier, names_with_word, names_with, lexeme_in, names_from, items_over, listed}
use Rattle.c_parser.specs.Reading.{items_of_code}
use Rattle.c_parser.specs.Signs.{keyword_of}
use Rattle.c_tokens.proofs.Newlines.{in_lexeme}
use Rattle.c_tokens.proofs.Readings.{is_reading}
use Rattle.certificate_format.specs.Lines.{IsPlace}
use Rattle.certificate_laws.specs.Written.{IsOneLine}

-- ---- places of a text

take_short : {X : Type 0} (n : ℕ) (xs : List X) → length (take n xs) ≤ length xs
take_short zero xs = omega arith
take_short (suc n) [] = omega arith
take_short (suc n) (x ∷ xs) = let rest = take_short n xs in omega (arith, rest)

last_short : (text : List ℕ) → length (last_line text) ≤ length text
last_short [] = omega arith
last_short (b ∷ bs) = either (last_short bs) (list_any is_newline (b ∷ bs))
  where
    either : length (last_line bs) ≤ length bs → (t : Bool) → length (if t then last_line bs else b ∷ bs) ≤ suc (length bs)
    either rest true = omega (arith, rest)
    either rest false = omega arith

-- a place of a text that is not too long
pub record IsNear (place : Place) : Type 0 where
  pub line : (1 ≤ place.line) × (place.line ≤ 1048577)
  pub column : (1 ≤ place.column) × (place.column ≤ 1048577)

pub near_place : (place : Place) → IsNear place → IsPlace place
near_place place h = record {
  word = (omega (arith, h.line.1), omega (arith, h.column.1));
  line = h.line.0;
  column = h.column.0;
}

pub near_at : (text : List ℕ) (i : ℕ) → length text ≤ file_bytes → IsNear (place_at text i)
near_at text i h =
    let front = take_short i text in
    let lines = count_by-le-length is_newline (take i text) in
    let last = last_short (take i text) in
    record {
      line = (omega arith, omega (arith, h, front, lines));
      column = (omega arith, omega (arith, h, front, last));
    }

-- ---- lexemes

one_line : (bs : List ℕ) → list_any is_newline bs ≡ false → IsOneLine bs
one_line [] h = tt
one_line (b ∷ bs) h = by_test (is_newline b) refl h (λ k. one_line bs k)
  where
    by_test : (t : Bool) → is_newline b ≡ t → (t || list_any is_newline bs) ≡ false → (list_any is_newline bs ≡ false → IsOneLine bs) → IsOneLine (b ∷ bs)
    by_test true e k rest = absurd (true≢false k)
    by_test false e k rest = ((λ same. true≢false (sym (ap is_newline same) ∙ e)), rest k)

-- ---- tokens

-- the token's place is near, and its lexeme has no newline
record IsKept (text : List ℕ) (t : Token) : Type 0 where
  place : IsPlace t.place
  line : IsOneLine (lexeme_in text t)

tokens_kept : (text : List ℕ) → length text ≤ file_bytes → (start : ℕ) (ts : List Token) (end : ℕ) → StandBetween text start ts end → AllByRecursion (IsKept text) ts
tokens_kept text short start [] end h = tt
tokens_kept text short start (t ∷ ts) end h = (
  record {
    place = subst IsPlace (sym h.1.0.place) (near_place (place_at text t.start) (near_at text t.start short));
    line = one_line (lexeme_in text t) (in_lexeme (lexeme_in text t) (h.1.0.longest.passes (omega (arith, h.1.0.begins))));
  },
  tokens_kept text short t.end ts end h.1.1,
)

abbrev pub AreLines : List (List ℕ) → Type 0
AreLines names = AllByRecursion IsOneLine names

more_line : (names : List (List ℕ)) (name : List ℕ) → AreLines names → IsOneLine name → AreLines (names ++ name ∷ [])
more_line [] name h k = (k, tt)
more_line (n ∷ names) name h k = (h.0, more_line names name h.1 k)

pub with_line : (names : List (List ℕ)) (name : List ℕ) → AreLines names → IsOneLine name → AreLines (with_name names name)
with_line names name h k = either (list_any (bytes_eq name) names)
  where
    either : (t : Bool) → AreLines (if t then names else names ++ name ∷ [])
    either true = h
    either false = more_line names name h k

identifier_line : (t : Bool) (names : List (List ℕ)) (word : List ℕ) → AreLines names → IsOneLine word → AreLines (names_with_identifier t names word)
identifier_line true names word h k = h
identifier_line false names word h k = with_line names word h k

word_line : (functions names : List (List ℕ)) (word : List ℕ) (o : Option Sign) → AreLines names → IsOneLine word → AreLines (names_with_word functions names word o)
word_line functions names word (Some sign) h k = h
word_line functions names word None h k = identifier_line (is_function functions word) names word h k

kind_line : (functions names : List (List ℕ)) (kind : TokenKind) (lexeme : List ℕ) → AreLines names → IsOneLine lexeme → AreLines (names_with functions names kind lexeme)
kind_line functions names (kinds.Number n) lexeme h k = h
kind_line functions names kinds.Word lexeme h k = word_line functions names lexeme (keyword_of lexeme) h k
kind_line functions names kinds.Mark lexeme h k = h

names_lines : (functions : List (List ℕ)) (text : List ℕ) (names : List (List ℕ)) (ts : List Token) → AreLines names → AllByRecursion (IsKept text) ts → AreLines (names_from functions text names ts)
names_lines functions text names [] h k = h
names_lines functions text names (t ∷ ts) h k = names_lines functions text (names_with functions names t.kind (lexeme_in text t)) ts (kind_line functions names t.kind (lexeme_in text t) h k.0.line) k.1

-- ---- items

abbrev pub HavePlaces : List Item → Type 0
HavePlaces items = AllByRecursion (λ (x : Item). IsPlace x.place) items

items_placed : (functions names : List (List ℕ)) (text : List ℕ) (ts : List Token) → AllByRecursion (IsKept text) ts → HavePlaces (items_over functions names text ts)
items_placed functions names text [] h = tt
items_placed functions names text (t ∷ ts) h = (h.0.place, items_placed functions names text ts h.1)

-- the names and the items of a code that is not too long
pub record AreRead (l : Listed) : Type 0 where
  pub lines : AreLines l.names
  pub places : HavePlaces l.items

code_read : (functions given : List (List ℕ)) (code : List ℕ) (l : Listed) (r : Result (List Token) (FileCode × Place)) → AreLines given → length code ≤ file_bytes → IsReading code r → and_then r (λ ts. Ok (listed functions given code ts)) ≡ Ok l → AreRead l
code_read functions given code l (Ok ts) own short h e =
    let same : listed functions given code ts ≡ l = cc in
    let kept = tokens_kept code short 0 ts (length code) h in
    subst AreRead same (record { lines = names_lines functions code given ts own kept; places = items_placed functions (names_from functions code given ts) code ts kept })
code_read functions given code l (Err fault) own short h e = cc

pub items_read : (functions given : List (List ℕ)) (code : List ℕ) (l : Listed) → AreLines given → length code ≤ file_bytes → items_of_code functions given code ≡ Ok l → AreRead l
items_read functions given code l own short e = code_read functions given code l (tokens_of code) own short (is_reading code) e
