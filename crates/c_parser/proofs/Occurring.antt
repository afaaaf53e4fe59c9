-- Each name of a text occurs among its items.
use Rattle.std.proofs.Common.{◌≡◌, ◌⊎◌, inl, inr, ℕ, ◌+◌, ◌≤◌, ◌<◌, nat_eq, nat_lt, Bool, true, false, ◌||◌, List, [], ◌∷◌, ◌++◌, length, map, Option, Some, None, refl, sym, ap, subst, ◌∙◌, arith}
use Rattle.std.specs.Prelude.{if◌then◌else◌}
use Rattle.std.proofs.lemmas.Bool.{or_right}
use Rattle.std.proofs.lemmas.Bool.Decides.{nat_tests}
use Rattle.std.proofs.lemmas.List.Folds.{list_any-append}
use Rattle.c_tokens.specs.declared.token.Token.{Token}
use Rattle.c_tokens.specs.declared.token.TokenKind.{TokenKind}
use Rattle.c_tokens.specs.declared.token.TokenKind.TheVariants as kinds
use Rattle.c_grammar.specs.declared.items.Item.{Item}
use Rattle.c_grammar.specs.declared.items.Sign.{Sign}
use Rattle.c_grammar.specs.declared.items.Sign.TheVariants as signs
use Rattle.cpp_lines.specs.declared.line.Line.{Line}
use Rattle.c_parser.specs.Signs.{keyword_of}
use Rattle.c_parser.specs.FamilyItems.{group_sign, or_directive, is_name, has}
use Rattle.c_parser.specs.Items.{is_function, number_in, with_name, identifier_sign, names_with_identifier, word_sign, names_with_word, sign_of, names_with, names_from, lexeme_in}
use Rattle.c_parser.specs.Signing.{items_from}
use Rattle.c_parser.proofs.Growing.{with_token}
use Rattle.c_parser.proofs.Lexical.{new_or_old}
use Rattle.c_parser.proofs.LineItems.{by_both, HaveSameLength}
use Rattle.c_parser.proofs.TokenLines.{item_below, alone, by_piece}

same_name : (x : ℕ) → nat_eq x x ≡ true
same_name x = grind (arith, nat_tests)

-- ---- a new name has the next number

new_word : (names : List (List ℕ)) (w : List ℕ) → length names < length (with_name names w) → signs.Name (number_in names w) ≡ signs.Name (length names)
new_word names w h = elim (new_or_old names w) [
  | inl new ↦ ap (λ (n : ℕ). signs.Name n) new.1
  | inr old ↦ absurd (let e : with_name names w ≡ names = ap (λ (b : Bool). if b then names else names ++ w ∷ []) old.0 in omega (arith, ap length e))
]

new_identifier : (b : Bool) (functions names : List (List ℕ)) (w : List ℕ) → length names < length (names_with_identifier b names w) → identifier_sign b functions names w ≡ signs.Name (length names)
new_identifier true functions names w h = absurd (omega arith)
new_identifier false functions names w h = new_word names w h

new_keyword : (functions names : List (List ℕ)) (w : List ℕ) (o : Option Sign) → length names < length (names_with_word functions names w o) → word_sign functions names w o ≡ signs.Name (length names)
new_keyword functions names w (Some s) h = absurd (omega arith)
new_keyword functions names w None h = new_identifier (is_function functions w) functions names w h

new_sign : (functions names : List (List ℕ)) (kind : TokenKind) (w : List ℕ) → length names < length (names_with functions names kind w) → sign_of functions names kind w ≡ signs.Name (length names)
new_sign functions names (kinds.Number n) w h = absurd (omega arith)
new_sign functions names kinds.Word w h = new_keyword functions names w (keyword_of w) h
new_sign functions names kinds.Mark w h = absurd (omega arith)

below : (m n : ℕ) → nat_lt m n ≡ true → m < n
below m n e = grind (arith, nat_tests)

not_below : (m n : ℕ) → nat_lt m n ≡ false → n ≤ m
not_below m n e = grind (arith, nat_tests)

or_left : (a b : Bool) → a ≡ true → (a || b) ≡ true
or_left true b e = refl
or_left false b e = absurd cc

pub all_occur : (functions : List (List ℕ)) (text : List ℕ) (names : List (List ℕ)) (ts : List Token) (x : ℕ) → length names ≤ x → x < length (names_from functions text names ts) → has x (items_from functions text names ts) ≡ true
all_occur functions text names [] x h k = absurd (omega arith)
all_occur functions text names (t ∷ ts) x h k =
    let s = sign_of functions names t.kind (lexeme_in text t) in
    let next = names_with functions names t.kind (lexeme_in text t) in
    let grow = with_token functions names t.kind (lexeme_in text t) in
    elim (nat_lt x (length (names_with functions names t.kind (lexeme_in text t)))) as (λ b. nat_lt x (length (names_with functions names t.kind (lexeme_in text t))) ≡ b → has x (items_from functions text names (t ∷ ts)) ≡ true) [
      | true ↦ λ e. (
          let lt : x < length (names_with functions names t.kind (lexeme_in text t)) = below x (length next) e in
          let is : x ≡ length names = omega (arith, lt, grow.1) in
          let new : sign_of functions names t.kind (lexeme_in text t) ≡ signs.Name x = new_sign functions names t.kind (lexeme_in text t) (omega (arith, lt, h)) ∙ ap (λ (n : ℕ). signs.Name n) (sym is) in
          or_left (is_name x s) (has x (items_from functions text next ts)) (ap (is_name x) new ∙ same_name x))
      | false ↦ λ e. or_right (is_name x s) (has x (items_from functions text next ts)) (all_occur functions text next ts x (not_below x (length next) e) k)
    ] refl

-- ---- what stands in lines stands among the items of a family

same_below : (x n : ℕ) (xs : List Item) → has x (map (item_below n) xs) ≡ has x xs
same_below x n [] = refl
same_below x n (y ∷ ys) = ap (λ (b : Bool). is_name x y.sign || b) (same_below x n ys)

-- a line with a group directive has no token
abbrev pub AreBlank : List (List ℕ) → List (List ℕ) → List Line → List (List ℕ) → Type 0
AreBlank functions names [] ps = Unit {0}
AreBlank functions names (l ∷ ls) [] = Unit {0}
AreBlank functions names (l ∷ ls) (p ∷ ps) = ((group_sign l.kind ≡ None) ⊎ (alone functions names p ≡ [])) × AreBlank functions names ls ps

either : (a b c : Bool) → (b ≡ true → c ≡ true) → (a || b) ≡ true → (a || c) ≡ true
either true b c go h = refl
either false b c go h = go h

here_or_later : (functions : List (List ℕ)) (x n : ℕ) (names : List (List ℕ)) (l : Line) (p : List ℕ) (later more : List Item) → (group_sign l.kind ≡ None) ⊎ (alone functions names p ≡ []) → (has x later ≡ true → has x more ≡ true)
    → has x (map (item_below n) (alone functions names p) ++ later) ≡ true → has x (or_directive (group_sign l.kind) l.place (map (item_below n) (alone functions names p)) ++ more) ≡ true
here_or_later functions x n names l p later more (inl e) go h =
    subst (λ (o : Option Sign). has x (or_directive o l.place (map (item_below n) (alone functions names p)) ++ more) ≡ true) (sym e)
    (list_any-append (λ (i : Item). is_name x i.sign) (map (item_below n) (alone functions names p)) more
    ∙ either (has x (map (item_below n) (alone functions names p))) (has x later) (has x more) go (sym (list_any-append (λ (i : Item). is_name x i.sign) (map (item_below n) (alone functions names p)) later) ∙ h))
here_or_later functions x n names l p later more (inr e) go h =
    let none : has x later ≡ true = ap (λ (xs : List Item). has x (map (item_below n) xs ++ later)) (sym e) ∙ h in
    list_any-append (λ (i : Item). is_name x i.sign) (or_directive (group_sign l.kind) l.place (map (item_below n) (alone functions names p))) more
    ∙ or_right (has x (or_directive (group_sign l.kind) l.place (map (item_below n) (alone functions names p)))) (has x more) (go none)

pub family_has : (functions : List (List ℕ)) (x n : ℕ) (names : List (List ℕ)) (ls : List Line) (ps : List (List ℕ)) → HaveSameLength ls ps → AreBlank functions names ls ps → has x (by_piece functions names n ps) ≡ true → has x (by_both functions names n ls ps) ≡ true
family_has functions x n names [] [] s b h = h
family_has functions x n names [] (p ∷ ps) s b h = absurd s
family_has functions x n names (l ∷ ls) [] s b h = absurd s
family_has functions x n names (l ∷ ls) (p ∷ ps) s b h =
    here_or_later functions x n names l p (by_piece functions names (n + 1) ps) (by_both functions names (n + 1) ls ps) b.0 (family_has functions x (n + 1) names ls ps s b.1) h
