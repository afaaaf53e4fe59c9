-- Scopes behind items that nest: blocks are left alike before and behind them, and what they declare is out of scope where their block is
-- left.
use Rattle.std.proofs.Common.{◌≡◌, ℕ, zero, suc, Bool, true, false, not, ◌&&◌, List, [], ◌∷◌, ◌++◌, Option, Some, None, refl, sym, ap, ◌∙◌, append_assoc, arith}
use Rattle.std.specs.Prelude.{◌||◌, if◌then◌else◌}
use Rattle.std.specs.List.{list_any}
use Rattle.std.proofs.lemmas.Bool.{lt-leb}
use Rattle.std.proofs.lemmas.List.{append-nil}
use Rattle.fam_outer.specs.declared.faults.Place.{Place}
use Rattle.c_tree.specs.declared.lists.Declared.{Declared}
use Rattle.c_tree.specs.Tree.{Code}
use Rattle.c_grammar.specs.declared.items.Item.{Item}
use Rattle.c_grammar.specs.declared.items.Sign.{Sign}
use Rattle.c_grammar.specs.declared.items.Sign.TheVariants as signs
use Rattle.c_grammar.specs.Constants.{is_name}
use Rattle.c_grammar.specs.Grammar.{at, Shape, Listed, Stated, Chained, Locals, Writes, Outer, Declares, Gaps, Empty}
use Rattle.c_grammar.specs.Locals.{is_main, is_declaring, declarations_from, names_of}
use Rattle.c_grammar.specs.Scopes.{inner_behind, inner_from, are_open, is_open_behind, scoped_from}
use Rattle.c_grammar.proofs.Nesting.{is_flat, ShapeNests, Piece, Whole, Nests, no_item, flat, braces, parts, last_end, last_part, next_part, code_nests, declared_nests, gap_nests, flat_nests}
use Rattle.c_grammar.proofs.Scoping.{inner_more, names_more, no_name, scoped_push}

-- `main` stands among the items
abbrev has_main : List Item → Bool
has_main items = list_any (λ x. is_main x.sign) items

-- ---- blocks that are open behind what nests

-- the items leave as many blocks open as they find, and none of these is left in between
abbrev pub IsBalanced : List Item → Type 0
IsBalanced ts = (n : ℕ) (us : List Item) → inner_from (Some n) (ts ++ us) ≡ inner_from (Some n) us

flat_behind : (n : ℕ) (s : Sign) → is_flat s ≡ true → inner_behind n s ≡ Some n
flat_behind n signs.LeftBrace e = absurd cc
flat_behind zero signs.RightBrace e = absurd cc
flat_behind (suc n) signs.RightBrace e = absurd cc
flat_behind n _ e = refl

pub nests_balanced : {piece : Piece} {ts : List Item} → Nests piece ts → IsBalanced ts
nests_balanced no_item n us = refl
nests_balanced (flat x {ts} f d) n us = ap (λ o. inner_from o (ts ++ us)) (flat_behind n x.sign f) ∙ nests_balanced d n us
nests_balanced (braces p q {ts} {us = vs} a d) n us =
    ap (inner_from (Some (suc n))) (append_assoc ts (at q signs.RightBrace ∷ vs) us) ∙ nests_balanced a (suc n) (at q signs.RightBrace ∷ (vs ++ us)) ∙ nests_balanced d n us
nests_balanced (parts p m {ts} {us = vs} {vs = ws} a b d) n us =
    let re : (ts ++ (vs ++ ws)) ++ us ≡ ts ++ (vs ++ (ws ++ us)) = simp append_assoc in
    ap (inner_from (Some n)) re ∙ nests_balanced a n (vs ++ (ws ++ us)) ∙ nests_balanced b n (ws ++ us) ∙ nests_balanced d n us
nests_balanced (last_end p) n us = refl
nests_balanced (last_part p q {ts} a) n us = ap (inner_from (Some n)) (append_assoc ts (at q signs.GroupEnd ∷ []) us) ∙ nests_balanced a n (at q signs.GroupEnd ∷ us)
nests_balanced (next_part p m {ts} {us = vs} a b) n us = ap (inner_from (Some n)) (append_assoc ts vs us) ∙ nests_balanced a n (vs ++ us) ∙ nests_balanced b n us

shape_balanced : (s : Shape) (ts : List Item) → ShapeNests s ts → IsBalanced ts
shape_balanced (Listed i) ts d = nests_balanced d
shape_balanced (Stated i b) ts d = nests_balanced d
shape_balanced (Chained i) ts d = nests_balanced d
shape_balanced (Locals kind) ts f = nests_balanced (flat_nests ts f)

-- statements, and what else a list of statements is made of
pub code_balanced : {s : Shape} {ts : List Item} {c : Code} → Writes s ts c → IsBalanced ts
code_balanced {s} {ts} w = shape_balanced s ts (code_nests w)

pub declared_balanced : {ts : List Item} {ds : List Declared} {gs : _} → Declares (Outer gs) ts ds → IsBalanced ts
declared_balanced d = nests_balanced (declared_nests d)

pub gap_balanced : {ts : List Item} → Empty Gaps ts → IsBalanced ts
gap_balanced e = nests_balanced (gap_nests e)

-- ---- without some of the names

pub balanced_whole : (ts : List Item) → IsBalanced ts → (n : ℕ) → inner_from (Some n) ts ≡ Some n
balanced_whole ts b n = sym (ap (inner_from (Some n)) (append-nil ts)) ∙ b n []

pub whole_balanced : (ts : List Item) → ((n : ℕ) → inner_from (Some n) ts ≡ Some n) → IsBalanced ts
whole_balanced ts h n us = inner_more (Some n) ts us ∙ ap (λ o. inner_from o us) (h n)

pub balanced_both : (ts us : List Item) → IsBalanced ts → IsBalanced us → IsBalanced (ts ++ us)
balanced_both ts us a b n vs = ap (inner_from (Some n)) (append_assoc ts us vs) ∙ a n (us ++ vs) ∙ b n vs

name_behind : (a : Bool) (n : ℕ) (s : Sign) → (a && is_name s) ≡ true → inner_behind n s ≡ Some n
name_behind a n (signs.Name k) e = refl
name_behind true n _ e = absurd cc
name_behind false n _ e = absurd cc

-- names open no block and leave none
pub inner_declarations : (o : Option ℕ) (main declaring : Bool) (items : List Item) → inner_from o (declarations_from main declaring items) ≡ inner_from o items
inner_declarations None main declaring items = refl
inner_declarations (Some n) main declaring [] = refl
inner_declarations (Some n) main declaring (y ∷ ys) =
    let m : Bool = main || is_main y.sign in
    let d : Bool = is_declaring y.sign in
    elim (main && not declaring && is_name y.sign) as (λ t. (main && not declaring && is_name y.sign) ≡ t → inner_from (Some n) (if t then declarations_from m d ys else y ∷ declarations_from m d ys) ≡ inner_from (inner_behind n y.sign) ys) [
      | true ↦ λ e. inner_declarations (Some n) m d ys ∙ ap (λ o. inner_from o ys) (sym (name_behind (main && not declaring) n y.sign e))
      | false ↦ λ e. inner_declarations (inner_behind n y.sign) m d ys
    ] refl

pub declarations_balanced : (main declaring : Bool) (ts : List Item) → IsBalanced ts → IsBalanced (declarations_from main declaring ts)
declarations_balanced main declaring ts b =
    whole_balanced (declarations_from main declaring ts) (λ n. inner_declarations (Some n) main declaring ts ∙ balanced_whole ts b n)

-- ---- names in scope behind items that nest

main_alone : (main : Bool) → main ≡ (main || false)
main_alone true = refl
main_alone false = refl

main_earlier : (a b c : Bool) → ((a || b) || c) ≡ (a || (b || c))
main_earlier true b c = refl
main_earlier false b c = refl

same_behind : (o : Option ℕ) (ys : List Item) → IsBalanced ys → inner_from o ys ≡ o
same_behind None ys b = refl
same_behind (Some n) ys b = balanced_whole ys b n

-- of the items before, those are left that are left without what is balanced behind them
pub scoped_more : (n : ℕ) (main : Bool) (xs ys : List Item) → IsBalanced ys → scoped_from n main (xs ++ ys)
    ≡ scoped_from n main xs ++ scoped_from n (main || has_main xs) ys
scoped_more n main [] ys b = ap (λ m. scoped_from n m ys) (main_alone main)
scoped_more n main (x ∷ xs) ys b =
    let m : Bool = main || is_main x.sign in
    let more : List Item = scoped_from n (main || (is_main x.sign || has_main xs)) ys in
    let on : scoped_from n m (xs ++ ys) ≡ scoped_from n m xs ++ more =
    scoped_more n m xs ys b ∙ ap (λ t. scoped_from n m xs ++ scoped_from n t ys) (main_earlier main (is_main x.sign) (has_main xs)) in
    ap (λ o. if main && is_name x.sign && not (are_open n o) then scoped_from n m (xs ++ ys) else x ∷ scoped_from n m (xs ++ ys))
    (inner_more (Some 0) xs ys ∙ same_behind (inner_from (Some 0) xs) ys b)
    ∙ elim (main && is_name x.sign && not (is_open_behind n xs)) as (λ t. (if t then scoped_from n m (xs ++ ys) else x ∷ scoped_from n m (xs ++ ys)) ≡ (if t then scoped_from n m xs else x ∷ scoped_from n m xs) ++ more) [
      | true ↦ on
      | false ↦ ap (λ zs. x ∷ zs) on
    ]

-- ---- names whose block is left

no_names : (xs ys : List Item) → names_of xs ≡ [] → names_of ys ≡ [] → names_of (xs ++ ys) ≡ []
no_names xs ys e f = names_more xs ys ∙ ap (λ ks. ks ++ names_of ys) e ∙ f

-- no name of these is in scope where one block more, or several, is left
abbrev LeavesNone : List Item → Type 0
LeavesNone ts = (n : ℕ) → names_of (scoped_from (suc n) true ts) ≡ []

none_both : (ts us : List Item) → IsBalanced us → LeavesNone ts → LeavesNone us → LeavesNone (ts ++ us)
none_both ts us b e f n = ap names_of (scoped_more (suc n) true ts us b) ∙ no_names (scoped_from (suc n) true ts) (scoped_from (suc n) true us) (e n) (f n)

-- a closing brace leaves one block more
none_closed : (q : Place) (ts : List Item) → LeavesNone ts → (n : ℕ) → names_of (scoped_from n true (ts ++ at q signs.RightBrace ∷ [])) ≡ []
none_closed q ts e n = ap names_of (scoped_push n true ts (at q signs.RightBrace)) ∙ no_names (scoped_from (suc n) true ts) (at q signs.RightBrace ∷ []) (e n) refl

named_or_not : (x : Item) (ts : List Item) → names_of ts ≡ [] → names_of (if is_name x.sign && true then ts else x ∷ ts) ≡ []
named_or_not x ts e = elim (is_name x.sign) as (λ b. is_name x.sign ≡ b → names_of (if b && true then ts else x ∷ ts) ≡ []) [
  | true ↦ λ _. e
  | false ↦ λ f. ap (λ ks. ks ++ names_of ts) (no_name x.sign f) ∙ e
] refl

none_first : (x : Item) (ts : List Item) → is_flat x.sign ≡ true → IsBalanced ts → LeavesNone ts → LeavesNone (x ∷ ts)
none_first x ts f b e n =
    let out : is_open_behind (suc n) ts ≡ false = ap (are_open (suc n)) (balanced_whole ts b 0) ∙ lt-leb (suc n) 0 (omega arith) in
    ap (λ o. names_of (if is_name x.sign && not o then scoped_from (suc n) true ts else x ∷ scoped_from (suc n) true ts)) out
    ∙ named_or_not x (scoped_from (suc n) true ts) (e n)

pub names_left : {piece : Piece} {ts : List Item} → Nests piece ts → (n : ℕ) → names_of (scoped_from (suc n) true ts) ≡ []
names_left no_item n = refl
names_left (flat x {ts} f d) n = none_first x ts f (nests_balanced d) (names_left d) n
names_left (braces p q {ts} {us} a d) n =
    let re : ts ++ at q signs.RightBrace ∷ us ≡ (ts ++ at q signs.RightBrace ∷ []) ++ us = simp append_assoc in
    ap (λ zs. names_of (scoped_from (suc n) true zs)) re
    ∙ none_both (ts ++ at q signs.RightBrace ∷ []) us (nests_balanced d) (λ k. none_closed q ts (names_left a) (suc k)) (names_left d) n
names_left (parts p m {ts} {us} {vs} a b d) n =
    none_both ts (us ++ vs) (balanced_both us vs (nests_balanced b) (nests_balanced d)) (names_left a) (none_both us vs (nests_balanced d) (names_left b) (names_left d)) n
names_left (last_end p) n = refl
names_left (last_part p q {ts} a) n = none_both ts (at q signs.GroupEnd ∷ []) (λ k us. refl) (names_left a) (λ k. refl) n
names_left (next_part p m {ts} {us} a b) n = none_both ts us (nests_balanced b) (names_left a) (names_left b) n

-- so none that is declared in a block that is left is in scope behind it
pub names_of_block : (n : ℕ) (p q : Place) {ts : List Item} → Nests Whole ts
    → names_of (scoped_from n true (at p signs.LeftBrace ∷ (ts ++ at q signs.RightBrace ∷ []))) ≡ []
names_of_block n p q {ts} d = none_closed q ts (names_left d) n
