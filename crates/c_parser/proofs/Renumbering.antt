-- A text that is numbered over its own names in another order has the same names, and each occurs.
use Rattle.std.proofs.Common.{◌≡◌, ◌⊎◌, inl, inr, ℕ, zero, suc, ◌+◌, ◌<◌, nat_eq, Bool, true, false, not, ◌||◌, cond, List, [], ◌∷◌, ◌++◌, length, get_or, Option, Some, None, Result, Ok, refl, sym, ap, subst, ◌∙◌, arith}
use Rattle.std.specs.Prelude.{if◌then◌else◌}
use Rattle.std.specs.Str.{bytes_eq}
use Rattle.std.proofs.lemmas.Bool.{or_right}
use Rattle.std.proofs.lemmas.Bool.Decides.{nat_tests}
use Rattle.std.proofs.lemmas.List.Folds.{list_any-append}
use Rattle.fam_outer.specs.Results.{and_then}
use Rattle.fam_outer.specs.declared.faults.FileCode.{FileCode}
use Rattle.fam_outer.specs.declared.faults.Place.{Place}
use Rattle.c_tokens.specs.declared.token.Token.{Token}
use Rattle.c_tokens.specs.declared.token.TokenKind.{TokenKind}
use Rattle.c_tokens.specs.declared.token.TokenKind.TheVariants as tokens
use Rattle.c_tokens.specs.Reading.{tokens_of}
use Rattle.c_grammar.specs.Facts.{AreFit}
use Rattle.c_grammar.specs.declared.items.Sign.{Sign}
use Rattle.c_grammar.specs.declared.items.Sign.TheVariants as signs
use Rattle.c_parser.specs.Signs.{keyword_of}
use Rattle.c_parser.specs.Items.{Listed, is_function, number_in, identifier_sign, names_with_identifier, word_sign, sign_of, names_with_word, names_with, lexeme_in, names_from, items_over, listed, AreNewBehind, AreDistinct}
use Rattle.c_parser.specs.FamilyItems.{is_name, has}
use Rattle.c_parser.specs.Order.{arranged}
use Rattle.c_parser.specs.Reading.{items_of_code}
use Rattle.c_parser.proofs.Lexical.{TokenLaws, items_fit}
use Rattle.c_parser.proofs.Stepwise.{names_extend, all_over}
use Rattle.c_parser.proofs.Arranging.{is_among, same_text, text_same, with_among, arranged_distinct, arranged_among}

or_cases : (a b : Bool) → (a || b) ≡ true → (a ≡ true) ⊎ (b ≡ true)
or_cases true b h = inl refl
or_cases false b h = inr h

neither : (a b : Bool) → (a || b) ≡ false → (a ≡ false) × (b ≡ false)
neither true b e = absurd cc
neither false b e = (refl, e)

or_left : (a b : Bool) → a ≡ true → (a || b) ≡ true
or_left true b e = refl
or_left false b e = absurd cc

-- ---- no new name comes

-- a name of a list is one of the names of a text behind it
among_later : (functions : List (List ℕ)) (text w : List ℕ) (names : List (List ℕ)) (ts : List Token) → is_among w names ≡ true → is_among w (names_from functions text names ts) ≡ true
among_later functions text w names ts h =
    let more = names_extend functions text names ts in
    ap (is_among w) more.1 ∙ list_any-append (bytes_eq w) names more.0 ∙ or_left (is_among w names) (is_among w more.0) h

identifier_stays : (b : Bool) (all names : List (List ℕ)) (w : List ℕ) → ((v : List ℕ) → is_among v (names_with_identifier b names w) ≡ true → is_among v all ≡ true) → names_with_identifier b all w ≡ all
identifier_stays true all names w h = refl
identifier_stays false all names w h =
    let there : is_among w all ≡ true = h w (with_among w w names ∙ or_right (is_among w names) (bytes_eq w w) (text_same w)) in
    ap (λ (b : Bool). if b then all else all ++ w ∷ []) there

word_stays : (functions all names : List (List ℕ)) (w : List ℕ) (o : Option Sign) → ((v : List ℕ) → is_among v (names_with_word functions names w o) ≡ true → is_among v all ≡ true) → names_with_word functions all w o ≡ all
word_stays functions all names w (Some s) h = refl
word_stays functions all names w None h = identifier_stays (is_function functions w) all names w h

token_stays : (functions all names : List (List ℕ)) (kind : TokenKind) (w : List ℕ) → ((v : List ℕ) → is_among v (names_with functions names kind w) ≡ true → is_among v all ≡ true) → names_with functions all kind w ≡ all
token_stays functions all names (tokens.Number n) w h = refl
token_stays functions all names tokens.Word w h = word_stays functions all names w (keyword_of w) h
token_stays functions all names tokens.Mark w h = refl

-- over names among which are all of a text, no new one comes
pub all_stay : (functions : List (List ℕ)) (text : List ℕ) (all names : List (List ℕ)) (ts : List Token) → ((v : List ℕ) → is_among v (names_from functions text names ts) ≡ true → is_among v all ≡ true) → names_from functions text all ts ≡ all
all_stay functions text all names [] h = refl
all_stay functions text all names (t ∷ ts) h =
    let next = names_with functions names t.kind (lexeme_in text t) in
    ap (λ (ns : List (List ℕ)). names_from functions text ns ts) (token_stays functions all names t.kind (lexeme_in text t) (λ v e. h v (among_later functions text v next ts e)))
    ∙ all_stay functions text all next ts h

-- ---- each name occurs

identifier_new : (b : Bool) (functions all names : List (List ℕ)) (w v : List ℕ) → is_among v (names_with_identifier b names w) ≡ true → (is_among v names ≡ true) ⊎ (identifier_sign b functions all w ≡ signs.Name (number_in all v))
identifier_new true functions all names w v h = inl h
identifier_new false functions all names w v h = elim (or_cases (is_among v names) (bytes_eq v w) (sym (with_among v w names) ∙ h)) [
  | inl e ↦ inl e
  | inr e ↦ inr (ap (λ (u : List ℕ). signs.Name (number_in all u)) (sym (same_text v w e)))
]

word_new : (functions all names : List (List ℕ)) (w v : List ℕ) (o : Option Sign) → is_among v (names_with_word functions names w o) ≡ true → (is_among v names ≡ true) ⊎ (word_sign functions all w o ≡ signs.Name (number_in all v))
word_new functions all names w v (Some s) h = inl h
word_new functions all names w v None h = identifier_new (is_function functions w) functions all names w v h

token_new : (functions all names : List (List ℕ)) (kind : TokenKind) (w v : List ℕ) → is_among v (names_with functions names kind w) ≡ true → (is_among v names ≡ true) ⊎ (sign_of functions all kind w ≡ signs.Name (number_in all v))
token_new functions all names (tokens.Number n) w v h = inl h
token_new functions all names tokens.Word w v h = word_new functions all names w v (keyword_of w) h
token_new functions all names tokens.Mark w v h = inl h

same_number : (x : ℕ) → nat_eq x x ≡ true
same_number x = grind (arith, nat_tests)

-- a name of a text is given, or it occurs among the items, over whichever names
name_occurs : (functions : List (List ℕ)) (text v : List ℕ) (all names : List (List ℕ)) (ts : List Token) → is_among v (names_from functions text names ts) ≡ true → (is_among v names ≡ true) ⊎ (has (number_in all v) (items_over functions all text ts) ≡ true)
name_occurs functions text v all names [] h = inl h
name_occurs functions text v all names (t ∷ ts) h =
    let s = sign_of functions all t.kind (lexeme_in text t) in
    elim (name_occurs functions text v all (names_with functions names t.kind (lexeme_in text t)) ts h) [
      | inl e ↦ (elim (token_new functions all names t.kind (lexeme_in text t) v e) [
        | inl k ↦ inl k
        | inr k ↦ inr (or_left (is_name (number_in all v) s) (has (number_in all v) (items_over functions all text ts)) (ap (is_name (number_in all v)) k ∙ same_number (number_in all v)))
      ])
      | inr e ↦ inr (or_right (is_name (number_in all v) s) (has (number_in all v) (items_over functions all text ts)) e)
    ]

-- ---- the number of a name is its own

among_all : (ns : List (List ℕ)) (x : ℕ) → x < length ns → is_among (get_or ns x []) ns ≡ true
among_all [] x lt = absurd (omega arith)
among_all (n ∷ ns) zero lt = or_left (bytes_eq n n) (is_among n ns) (text_same n)
among_all (n ∷ ns) (suc x) lt = or_right (bytes_eq (get_or ns x []) n) (is_among (get_or ns x []) ns) (among_all ns x (omega (arith, lt)))

new_at : (before ns : List (List ℕ)) (x : ℕ) → AreNewBehind before ns → x < length ns → is_among (get_or ns x []) before ≡ false
new_at before [] x h lt = absurd (omega arith)
new_at before (n ∷ ns) zero h lt = h.0
new_at before (n ∷ ns) (suc x) h lt =
    (neither (is_among (get_or ns x []) before) (is_among (get_or ns x []) (n ∷ [])) (sym (list_any-append (bytes_eq (get_or ns x [])) before (n ∷ [])) ∙ new_at (before ++ n ∷ []) ns x h.1 (omega (arith, lt)))).0

pub own_number : (before ns : List (List ℕ)) (x : ℕ) → AreNewBehind before ns → x < length ns → number_in ns (get_or ns x []) ≡ x
own_number before [] x h lt = absurd (omega arith)
own_number before (n ∷ ns) zero h lt = ap (λ (b : Bool). cond (not b) (1 + number_in ns n) 0) (text_same n)
own_number before (n ∷ ns) (suc x) h lt =
    let w = get_or ns x [] in
    let apart = neither (is_among w before) (is_among w (n ∷ [])) (sym (list_any-append (bytes_eq w) before (n ∷ [])) ∙ new_at (before ++ n ∷ []) ns x h.1 (omega (arith, lt))) in
    let other : bytes_eq w n ≡ false = (neither (bytes_eq w n) false apart.1).0 in
    ap (λ (b : Bool). cond (not b) (1 + number_in ns w) 0) other ∙ omega (arith, own_number (before ++ n ∷ []) ns x h.1 (omega (arith, lt)))

-- ---- numbering over arranged names

-- these are the names and items of a text that is numbered anew over its arranged names
abbrev pub renumbered : List (List ℕ) → List (List ℕ) → List ℕ → List Token → Listed
renumbered functions all code ts = record { names = all; items = items_over functions all code ts }

names_stay : (functions features : List (List ℕ)) (l : Listed) (code : List ℕ) (ts : List Token) → AreDistinct l.names → l.names ≡ names_from functions code [] ts → names_from functions code (arranged features l) ts ≡ arranged features l
names_stay functions features l code ts distinct own =
    all_stay functions code (arranged features l) [] ts (λ v e. arranged_among features l distinct v ∙ ap (is_among v) own ∙ e)

abbrev listed_ok : Listed → Result Listed (FileCode × Place)
listed_ok l = Ok l

-- no new name comes
pub listed_anew : (functions features : List (List ℕ)) (l : Listed) (code : List ℕ) (ts : List Token) → AreDistinct l.names → l.names ≡ names_from functions code [] ts → listed functions (arranged features l) code ts ≡ renumbered functions (arranged features l) code ts
listed_anew functions features l code ts distinct own = ap (λ (ns : List (List ℕ)). renumbered functions ns code ts) (names_stay functions features l code ts distinct own)

-- so the code is read over these names as these names with the items over them
pub read_anew : (functions features : List (List ℕ)) (l : Listed) (code : List ℕ) (ts : List Token) → tokens_of code ≡ Ok ts → AreDistinct l.names → l.names ≡ names_from functions code [] ts → items_of_code functions (arranged features l) code ≡ Ok (renumbered functions (arranged features l) code ts)
read_anew functions features l code ts is distinct own =
    ap (λ (r : Result (List Token) (FileCode × Place)). and_then r (λ ts. Ok (listed functions (arranged features l) code ts))) is
    ∙ ap (λ (m : Listed). listed_ok m) (listed_anew functions features l code ts distinct own)

-- the items fit the names
pub fit_anew : (functions : List (List ℕ)) → TokenLaws → (features : List (List ℕ)) (l : Listed) (code : List ℕ) (ts : List Token) → tokens_of code ≡ Ok ts → AreDistinct l.names → l.names ≡ names_from functions code [] ts
    → AreFit (length (arranged features l)) (items_over functions (arranged features l) code ts)
fit_anew functions laws features l code ts is distinct own =
    let stay = names_stay functions features l code ts distinct own in
    subst (λ (ns : List (List ℕ)). AreFit (length ns) (items_over functions ns code ts)) stay
    (subst (AreFit (length (names_from functions code (arranged features l) ts))) (all_over functions code (arranged features l) ts) (items_fit functions laws code (arranged features l) ts is))

not_given : (v : List ℕ) → is_among v [] ≡ true → ⊥
not_given v e = cc

-- each name occurs
pub occur_anew : (functions features : List (List ℕ)) (l : Listed) (code : List ℕ) (ts : List Token) (x : ℕ) → AreDistinct l.names → l.names ≡ names_from functions code [] ts → x < length (arranged features l) → has x (items_over functions (arranged features l) code ts) ≡ true
occur_anew functions features l code ts x distinct own lt =
    let all = arranged features l in
    let w = get_or all x [] in
    let there : is_among w (names_from functions code [] ts) ≡ true = ap (is_among w) (sym own) ∙ sym (arranged_among features l distinct w) ∙ among_all all x lt in
    let is : number_in all w ≡ x = own_number [] all x (arranged_distinct features l distinct) lt in
    elim (name_occurs functions code w all [] ts there) [
      | inl e ↦ absurd (not_given w e)
      | inr e ↦ subst (λ (k : ℕ). has k (items_over functions all code ts) ≡ true) is e
    ]
