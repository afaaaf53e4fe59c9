-- The names of a list of items stay where loops that declare variables stand as blocks, and so do those that are declared: no block ends
-- between a declarator and the sign that it stands behind.
use Rattle.std.proofs.Common.{◌≡◌, ℕ, zero, suc, ◌<◌, ◌≤◌, nat_eq, Bool, true, false, not, ◌&&◌, List, [], ◌∷◌, ◌++◌, length, Option, Some, None, refl, sym, ap, subst, ◌∙◌, arith}
use Rattle.std.specs.Prelude.{◌||◌, if◌then◌else◌}
use Rattle.std.proofs.lemmas.Bool.Decides.{nat_tests}
use Rattle.fam_outer.specs.declared.faults.Place.{Place}
use Rattle.c_grammar.specs.declared.items.Item.{Item}
use Rattle.c_grammar.specs.declared.items.Sign.{Sign}
use Rattle.c_grammar.specs.declared.items.Sign.TheVariants as signs
use Rattle.c_grammar.specs.Constants.{is_name}
use Rattle.c_grammar.specs.Grammar.{at}
use Rattle.c_grammar.specs.Locals.{is_main, is_declaring, declarations_from, name_of, names_of}
use Rattle.c_grammar.specs.Scopes.{inner_behind}
use Rattle.for_blocks.specs.Blocks.{parentheses_behind, closed_or, behind_closing, behind_parentheses, is_semicolon, behind_semicolon, is_else, behind_else, behind_first, behind_statement, begins_type, is_for, is_opening, declares, in_block, part_behind, end_of, ends_behind, closing, still_open, unfolded_from, unfolded}
use Rattle.for_blocks.specs.Names.{NamesStay, DeclarationsStay}
use Rattle.for_blocks.specs.declared.blocks.End.{End}
use Rattle.for_blocks.specs.declared.blocks.Part.{Part}
use Rattle.for_blocks.specs.declared.blocks.Part.TheVariants.{Elsewhere, AtParenthesis, InDeclaration}

-- ---- what is behind a statement stands behind no sign that a declarator stands behind

-- these items, which stand behind such a sign or not, end with the others, which stand behind no such sign, or are none
data Reaches : Bool → List Item → List Item → Type 0 where
  here : (items : List Item) → Reaches false items items
  beyond : (declaring : Bool) (items : List Item) → Reaches declaring items []
  later : (declaring : Bool) (x : Item) {xs rest : List Item} → Reaches (is_declaring x.sign) xs rest → Reaches declaring (x ∷ xs) rest

none_behind : {declaring : Bool} {items rest : List Item} → items ≡ [] → Reaches declaring items rest → rest ≡ []
none_behind e (here items) = e
none_behind e (beyond declaring items) = refl
none_behind e (later declaring x r) = absurd cc

reach_on : {declaring : Bool} {items middle rest : List Item} → Reaches declaring items middle → Reaches false middle rest → Reaches declaring items rest
reach_on (here items) s = s
reach_on (beyond declaring items) s = subst (Reaches declaring items) (sym (none_behind refl s)) (beyond declaring items)
reach_on (later declaring x r) s = later declaring x (reach_on r s)

shorter : {declaring : Bool} {items rest : List Item} → Reaches declaring items rest → length rest ≤ length items
shorter (here items) = omega arith
shorter (beyond declaring items) = omega arith
shorter (later declaring x r) = omega (arith, shorter r)

-- nothing is declared behind a sign that closes
abbrev ClosesQuietly : (ℕ → Sign → Option ℕ) → Type 0
ClosesQuietly after = (n : ℕ) (s : Sign) → after n s ≡ None → is_declaring s ≡ false

parentheses_quietly : ClosesQuietly parentheses_behind
parentheses_quietly n signs.Open e = refl
parentheses_quietly n signs.Close e = refl
parentheses_quietly n _ e = absurd cc

braces_quietly : ClosesQuietly inner_behind
braces_quietly n signs.LeftBrace e = refl
braces_quietly n signs.RightBrace e = refl
braces_quietly n _ e = absurd cc

closing_reaches : (after : ℕ → Sign → Option ℕ) → ClosesQuietly after → (n : ℕ) (declaring : Bool) (items : List Item) → Reaches declaring items (behind_closing after n items)
unfolding behind_closing
closing_reaches after quiet n declaring [] = beyond declaring []
closing_reaches after quiet n declaring (x ∷ xs) =
    elim (after n x.sign) as (λ o. after n x.sign ≡ o → Reaches declaring (x ∷ xs) (closed_or o (λ m. behind_closing after m xs) xs)) [
      | None ↦ λ e. later declaring x (subst (λ (b : Bool). Reaches b xs xs) (sym (quiet n x.sign e)) (here xs))
      | Some m ↦ λ e. later declaring x (closing_reaches after quiet m (is_declaring x.sign) xs)
    ] refl

parentheses_reach : (declaring : Bool) (items : List Item) → Reaches declaring items (behind_parentheses items)
parentheses_reach declaring [] = beyond declaring []
parentheses_reach declaring (x ∷ xs) = later declaring x (closing_reaches parentheses_behind parentheses_quietly 0 (is_declaring x.sign) xs)

semicolon_declares_not : (s : Sign) → is_semicolon s ≡ true → is_declaring s ≡ false
semicolon_declares_not signs.Semicolon e = refl
semicolon_declares_not _ e = absurd cc

else_declares_not : (s : Sign) → is_else s ≡ true → is_declaring s ≡ false
else_declares_not signs.Else e = refl
else_declares_not _ e = absurd cc

semicolon_reaches : (declaring : Bool) (items : List Item) → Reaches declaring items (behind_semicolon items)
unfolding behind_semicolon
semicolon_reaches declaring [] = beyond declaring []
semicolon_reaches declaring (x ∷ xs) =
    elim (is_semicolon x.sign) as (λ b. is_semicolon x.sign ≡ b → Reaches declaring (x ∷ xs) (if b then xs else behind_semicolon xs)) [
      | true ↦ λ e. later declaring x (subst (λ (b : Bool). Reaches b xs xs) (sym (semicolon_declares_not x.sign e)) (here xs))
      | false ↦ λ e. later declaring x (semicolon_reaches (is_declaring x.sign) xs)
    ] refl

-- behind such items no declarator begins
abbrev GoesOn : (List Item → List Item) → Type 0
GoesOn go = (items : List Item) → Reaches false items (go items)

else_reaches : (go : List Item → List Item) → GoesOn go → (items : List Item) → Reaches false items (behind_else go items)
else_reaches go r [] = here []
else_reaches go r (x ∷ xs) =
    elim (is_else x.sign) as (λ b. is_else x.sign ≡ b → Reaches false (x ∷ xs) (if b then go xs else x ∷ xs)) [
      | true ↦ λ e. later false x (subst (λ (b : Bool). Reaches b xs (go xs)) (sym (else_declares_not x.sign e)) (r xs))
      | false ↦ λ e. here (x ∷ xs)
    ] refl

first_reaches : (go : List Item → List Item) → GoesOn go → (s : Sign) (xs : List Item) → Reaches (is_declaring s) xs (behind_first go s xs)
first_reaches go r signs.If xs = reach_on (reach_on (parentheses_reach false xs) (r (behind_parentheses xs))) (else_reaches go r (go (behind_parentheses xs)))
first_reaches go r signs.While xs = reach_on (parentheses_reach false xs) (r (behind_parentheses xs))
first_reaches go r signs.For xs = reach_on (parentheses_reach false xs) (r (behind_parentheses xs))
first_reaches go r signs.Do xs = reach_on (r xs) (semicolon_reaches false (go xs))
first_reaches go r signs.LeftBrace xs = closing_reaches inner_behind braces_quietly 0 false xs
first_reaches go r signs.Semicolon xs = here xs
first_reaches go r s xs = semicolon_reaches (is_declaring s) xs

statement_reaches : (k : ℕ) → GoesOn (behind_statement k)
unfolding behind_statement
statement_reaches zero items = here items
statement_reaches (suc k) [] = here []
statement_reaches (suc k) (x ∷ xs) = later false x (first_reaches (behind_statement k) (statement_reaches k) x.sign xs)

-- ---- where blocks end

-- where so many items are left, they stand behind no sign that a declarator stands behind
abbrev EndsQuietly : Bool → ℕ → List Item → Type 0
EndsQuietly declaring left [] = Unit {0}
EndsQuietly declaring left (x ∷ xs) = (nat_eq (suc (length xs)) left ≡ true → declaring ≡ false) × EndsQuietly (is_declaring x.sign) left xs

abbrev AllEndQuietly : Bool → List End → List Item → Type 0
AllEndQuietly declaring [] items = Unit {0}
AllEndQuietly declaring (e ∷ ends) items = EndsQuietly declaring e.left items × AllEndQuietly declaring ends items

not_there : (m n : ℕ) → m < n → nat_eq m n ≡ true → ⊥
not_there m n lt e = grind (arith, nat_tests)

-- so many items are never left
never_there : (declaring : Bool) (left : ℕ) (items : List Item) → length items < left → EndsQuietly declaring left items
never_there declaring left [] lt = tt
never_there declaring left (x ∷ xs) lt = (λ e. absurd (not_there (suc (length xs)) left lt e), never_there (is_declaring x.sign) left xs (omega (arith, lt)))

not_none : (n : ℕ) → nat_eq (suc n) 0 ≡ true → ⊥
not_none n e = grind (arith, nat_tests)

none_left : (declaring : Bool) (items : List Item) → EndsQuietly declaring 0 items
none_left declaring [] = tt
none_left declaring (x ∷ xs) = (λ e. absurd (not_none (length xs) e), none_left (is_declaring x.sign) xs)

left_here : (items : List Item) → EndsQuietly false (length items) items
left_here [] = tt
left_here (x ∷ xs) = (λ e. refl, never_there (is_declaring x.sign) (suc (length xs)) xs (omega arith))

more_here : (m n : ℕ) → n ≤ m → nat_eq (suc m) n ≡ true → ⊥
more_here m n le e = grind (arith, nat_tests)

ends_quietly : {declaring : Bool} {items rest : List Item} → Reaches declaring items rest → EndsQuietly declaring (length rest) items
ends_quietly (here items) = left_here items
ends_quietly (beyond declaring items) = none_left declaring items
ends_quietly (later declaring x {xs} {rest} r) = (λ e. absurd (more_here (length xs) (length rest) (shorter r) e), ends_quietly r)

-- so it is behind an item
quietly_on : (declaring : Bool) (ends : List End) (x : Item) (xs : List Item) → AllEndQuietly declaring ends (x ∷ xs) → AllEndQuietly (is_declaring x.sign) ends xs
quietly_on declaring [] x xs q = tt
quietly_on declaring (e ∷ ends) x xs q = (q.0.1, quietly_on declaring ends x xs q.1)

open_quietly : (declaring : Bool) (left : ℕ) (ends : List End) (items : List Item) → AllEndQuietly declaring ends items → AllEndQuietly declaring (still_open left ends) items
open_quietly declaring left [] items q = tt
open_quietly declaring left (e ∷ ends) items q = elim (nat_eq left e.left) as (λ b. AllEndQuietly declaring (if b then still_open left ends else e ∷ ends) items) [
  | true ↦ open_quietly declaring left ends items q.1
  | false ↦ q
]

-- what is behind the statement that an item begins is so
for_quietly : (x : Item) (xs : List Item) → EndsQuietly (is_declaring x.sign) (end_of x xs).left xs
unfolding behind_statement
for_quietly x xs = ends_quietly (first_reaches (behind_statement 64) (statement_reaches 64) x.sign xs)

ends_on : (part : Part) (ends : List End) (x : Item) (xs : List Item) → AllEndQuietly (is_declaring x.sign) ends xs → AllEndQuietly (is_declaring x.sign) (ends_behind part ends x xs) xs
ends_on Elsewhere ends x xs q = elim (declares x xs) as (λ b. AllEndQuietly (is_declaring x.sign) (if b then end_of x xs ∷ ends else ends) xs) [
  | true ↦ (for_quietly x xs, q)
  | false ↦ q
]
ends_on (AtParenthesis p) ends x xs q = q
ends_on (InDeclaration p) ends x xs q = q

-- ---- the parts of items

both_true : (a b : Bool) → (a && b) ≡ true → (a ≡ true) × (b ≡ true)
both_true true b e = (refl, e)
both_true false b e = absurd cc

for_only : (s : Sign) → is_for s ≡ true → s ≡ signs.For
for_only signs.For e = refl
for_only _ e = absurd cc

open_only : (s : Sign) → is_opening s ≡ true → s ≡ signs.Open
open_only signs.Open e = refl
open_only _ e = absurd cc

abbrev IsOpened : List Item → Type 0
IsOpened [] = Unit {0}
IsOpened (x ∷ xs) = x.sign ≡ signs.Open

-- a `for` that declares variables, and its parenthesis
declaring_opened : (x : Item) (xs : List Item) → declares x xs ≡ true → (x.sign ≡ signs.For) × IsOpened xs
declaring_opened x [] e = absurd cc
declaring_opened x (y ∷ []) e = absurd cc
declaring_opened x (y ∷ z ∷ xs) e =
    let parts = both_true (is_for x.sign) (is_opening y.sign && begins_type z.sign) e in
    (for_only x.sign parts.0, open_only y.sign (both_true (is_opening y.sign) (begins_type z.sign) parts.1).0)

-- at the parenthesis of such a `for` it stands, behind no sign that a declarator stands behind
abbrev Stands : Part → Bool → List Item → Type 0
Stands Elsewhere declaring items = Unit {0}
Stands (AtParenthesis p) declaring items = (declaring ≡ false) × IsOpened items
Stands (InDeclaration p) declaring items = Unit {0}

stands_on : (part : Part) (x : Item) (xs : List Item) → Stands (part_behind part x xs) (is_declaring x.sign) xs
stands_on Elsewhere x xs = elim (declares x xs) as (λ b. declares x xs ≡ b → Stands (if b then AtParenthesis x.place else Elsewhere) (is_declaring x.sign) xs) [
  | true ↦ λ e. (let opened = declaring_opened x xs e in (ap is_declaring opened.0, opened.1))
  | false ↦ λ e. tt
] refl
stands_on (AtParenthesis p) x xs = tt
stands_on (InDeclaration p) x xs = elim (is_semicolon x.sign) as (λ b. Stands (if b then Elsewhere else InDeclaration p) (is_declaring x.sign) xs) [ true ↦ tt | false ↦ tt ]

-- ---- names

closing_names : (left : ℕ) (ends : List End) (w : List Item) → names_of (closing left ends ++ w) ≡ names_of w
closing_names left [] w = refl
closing_names left (e ∷ ends) w = elim (nat_eq left e.left) as (λ b. names_of ((if b then at e.place signs.RightBrace ∷ closing left ends else []) ++ w) ≡ names_of w) [
  | true ↦ closing_names left ends w
  | false ↦ refl
]

block_names : (part : Part) (declaring : Bool) (x : Item) (xs w : List Item) → Stands part declaring (x ∷ xs) → names_of (in_block part x xs ++ w) ≡ name_of x.sign ++ names_of w
block_names Elsewhere declaring x xs w h = elim (declares x xs) as (λ b. declares x xs ≡ b → names_of ((if b then at x.place signs.LeftBrace ∷ [] else x ∷ []) ++ w) ≡ name_of x.sign ++ names_of w) [
  | true ↦ λ e. sym (ap (λ (s : Sign). name_of s ++ names_of w) (declaring_opened x xs e).0)
  | false ↦ λ e. refl
] refl
block_names (AtParenthesis p) declaring x xs w h = sym (ap (λ (s : Sign). name_of s ++ names_of w) h.1)
block_names (InDeclaration p) declaring x xs w h =
    elim (is_semicolon x.sign) as (λ b. names_of ((if b then x ∷ at p signs.For ∷ at p signs.Open ∷ at p signs.Semicolon ∷ [] else x ∷ []) ++ w) ≡ name_of x.sign ++ names_of w) [ true ↦ refl | false ↦ refl ]

names_from : (part : Part) (declaring : Bool) (ends : List End) (items : List Item) → Stands part declaring items → names_of (unfolded_from part ends items) ≡ names_of items
unfolding unfolded_from
names_from part declaring ends [] h = refl
names_from part declaring ends (x ∷ xs) h =
    let next = part_behind part x xs in
    let inner = ends_behind part (still_open (suc (length xs)) ends) x xs in
    closing_names (suc (length xs)) ends (in_block part x xs ++ unfolded_from next inner xs) ∙ block_names part declaring x xs (unfolded_from next inner xs) h
    ∙ ap (λ (ns : List ℕ). name_of x.sign ++ ns) (names_from next (is_declaring x.sign) inner xs (stands_on part x xs))

pub names_stay : NamesStay
unfolding unfolded
names_stay items = names_from Elsewhere false [] items tt

-- ---- names that are declared

-- the names that are declared from here on, in `main` or before it, behind a sign that a declarator stands behind or not
abbrev from_here : Bool → Bool → List Item → List ℕ
from_here main declaring items = names_of (declarations_from main declaring items)

abbrev first_of : Bool → Bool → Sign → List ℕ
first_of main declaring s = if main && not declaring then [] else name_of s

unnamed : (s : Sign) → is_name s ≡ false → name_of s ≡ []
unnamed (signs.Name x) e = absurd cc
unnamed _ e = refl

first_declared : (main declaring : Bool) (x : Item) (xs : List Item) → from_here main declaring (x ∷ xs) ≡ first_of main declaring x.sign ++ from_here (main || is_main x.sign) (is_declaring x.sign) xs
first_declared true true x xs = refl
first_declared true false x xs = elim (is_name x.sign) as (λ b. is_name x.sign ≡ b → names_of (if b then declarations_from true (is_declaring x.sign) xs else x ∷ declarations_from true (is_declaring x.sign) xs) ≡ from_here true (is_declaring x.sign) xs) [
  | true ↦ λ e. refl
  | false ↦ λ e. ap (λ (ns : List ℕ). ns ++ from_here true (is_declaring x.sign) xs) (unnamed x.sign e)
] refl
first_declared false true x xs = refl
first_declared false false x xs = refl

no_first : (b : Bool) (ns : List ℕ) → ns ≡ [] → (if b then [] else ns) ≡ []
no_first true ns e = refl
no_first false ns e = e

main_or : (main other : Bool) → other ≡ false → (main || other) ≡ main
main_or true other e = refl
main_or false other e = e

-- an item that is neither a name nor `main` declares nothing
silent : (main declaring : Bool) (x : Item) (xs : List Item) → name_of x.sign ≡ [] → is_main x.sign ≡ false → is_declaring x.sign ≡ false → from_here main declaring (x ∷ xs) ≡ from_here main false xs
silent main declaring x xs n m d =
    first_declared main declaring x xs ∙ ap (λ (ns : List ℕ). ns ++ from_here (main || is_main x.sign) (is_declaring x.sign) xs) (no_first (main && not declaring) (name_of x.sign) n)
    ∙ ap (λ (b : Bool). from_here b (is_declaring x.sign) xs) (main_or main (is_main x.sign) m) ∙ ap (λ (b : Bool). from_here main b xs) d

closing_declares : (main declaring : Bool) (ends : List End) (x : Item) (xs w : List Item) → AllEndQuietly declaring ends (x ∷ xs) → from_here main declaring (closing (suc (length xs)) ends ++ w) ≡ from_here main declaring w
closing_declares main declaring [] x xs w q = refl
closing_declares main declaring (e ∷ ends) x xs w q =
    elim (nat_eq (suc (length xs)) e.left) as (λ b. nat_eq (suc (length xs)) e.left ≡ b → from_here main declaring ((if b then at e.place signs.RightBrace ∷ closing (suc (length xs)) ends else []) ++ w) ≡ from_here main declaring w) [
      | true ↦ λ k. silent main declaring (at e.place signs.RightBrace) (closing (suc (length xs)) ends ++ w) refl refl refl
          ∙ ap (λ (b : Bool). from_here main b (closing (suc (length xs)) ends ++ w)) (sym (q.0.0 k)) ∙ closing_declares main declaring ends x xs w q.1
      | false ↦ λ k. refl
    ] refl

for_declares : (main declaring : Bool) (x : Item) (w : List Item) → x.sign ≡ signs.For → from_here main declaring (at x.place signs.LeftBrace ∷ w) ≡ from_here main declaring (x ∷ w)
for_declares main declaring x w e =
    silent main declaring (at x.place signs.LeftBrace) w refl refl refl ∙ sym (silent main declaring x w (ap name_of e) (ap is_main e) (ap is_declaring e))

-- behind the declaration of a `for`
loop_declares : (main declaring : Bool) (x : Item) (p : Place) (w : List Item) → is_declaring x.sign ≡ false → from_here main declaring (x ∷ at p signs.For ∷ at p signs.Open ∷ at p signs.Semicolon ∷ w) ≡ from_here main declaring (x ∷ w)
loop_declares main declaring x p w d =
    let inside = main || is_main x.sign in
    first_declared main declaring x (at p signs.For ∷ at p signs.Open ∷ at p signs.Semicolon ∷ w)
    ∙ ap (λ (ns : List ℕ). first_of main declaring x.sign ++ ns)
    (silent inside (is_declaring x.sign) (at p signs.For) (at p signs.Open ∷ at p signs.Semicolon ∷ w) refl refl refl
    ∙ silent inside false (at p signs.Open) (at p signs.Semicolon ∷ w) refl refl refl ∙ silent inside false (at p signs.Semicolon) w refl refl refl
    ∙ ap (λ (b : Bool). from_here inside b w) (sym d))
    ∙ sym (first_declared main declaring x w)

block_declares : (main declaring : Bool) (part : Part) (x : Item) (xs w : List Item) → Stands part declaring (x ∷ xs) → from_here main declaring (in_block part x xs ++ w) ≡ from_here main declaring (x ∷ w)
block_declares main declaring Elsewhere x xs w h = elim (declares x xs) as (λ b. declares x xs ≡ b → from_here main declaring ((if b then at x.place signs.LeftBrace ∷ [] else x ∷ []) ++ w) ≡ from_here main declaring (x ∷ w)) [
  | true ↦ λ e. for_declares main declaring x w (declaring_opened x xs e).0
  | false ↦ λ e. refl
] refl
block_declares main declaring (AtParenthesis p) x xs w h =
    ap (λ (b : Bool). from_here main b w) h.0 ∙ sym (silent main declaring x w (ap name_of h.1) (ap is_main h.1) (ap is_declaring h.1))
block_declares main declaring (InDeclaration p) x xs w h =
    elim (is_semicolon x.sign) as (λ b. is_semicolon x.sign ≡ b → from_here main declaring ((if b then x ∷ at p signs.For ∷ at p signs.Open ∷ at p signs.Semicolon ∷ [] else x ∷ []) ++ w) ≡ from_here main declaring (x ∷ w)) [
      | true ↦ λ e. loop_declares main declaring x p w (semicolon_declares_not x.sign e)
      | false ↦ λ e. refl
    ] refl

declared_from : (main declaring : Bool) (part : Part) (ends : List End) (items : List Item) → Stands part declaring items → AllEndQuietly declaring ends items → from_here main declaring (unfolded_from part ends items) ≡ from_here main declaring items
unfolding unfolded_from
declared_from main declaring part ends [] h q = refl
declared_from main declaring part ends (x ∷ xs) h q =
    let left = suc (length xs) in
    let next = part_behind part x xs in
    let inner = ends_behind part (still_open (suc (length xs)) ends) x xs in
    closing_declares main declaring ends x xs (in_block part x xs ++ unfolded_from next inner xs) q
    ∙ block_declares main declaring part x xs (unfolded_from next inner xs) h
    ∙ first_declared main declaring x (unfolded_from next inner xs)
    ∙ ap (λ (ns : List ℕ). first_of main declaring x.sign ++ ns)
    (declared_from (main || is_main x.sign) (is_declaring x.sign) next inner xs (stands_on part x xs) (ends_on part (still_open left ends) x xs (quietly_on declaring (still_open left ends) x xs (open_quietly declaring left ends (x ∷ xs) q))))
    ∙ sym (first_declared main declaring x xs)

pub declarations_stay : DeclarationsStay
unfolding unfolded
declarations_stay items = declared_from false false Elsewhere [] items tt tt
