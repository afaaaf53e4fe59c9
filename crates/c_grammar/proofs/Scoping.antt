-- Which names are in scope behind items and one more, or behind items that nest, and among which others these names are.
use Rattle.std.proofs.Common.{◌≡◌, ◌<◌, ◌≤◌, ℕ, zero, suc, Bool, true, false, not, ◌&&◌, List, [], ◌∷◌, ◌++◌, Option, Some, None, refl, sym, ap, ◌∙◌, append_assoc, arith}
use Rattle.std.specs.Prelude.{nat_le, ◌||◌, if◌then◌else◌}
use Rattle.std.specs.List.{list_any}
use Rattle.std.proofs.lemmas.Bool.{leb-true, leb-false, le-leb, lt-leb}
use Rattle.std.proofs.lemmas.List.{append-nil}
use Rattle.c_grammar.specs.declared.items.Item.{Item}
use Rattle.c_grammar.specs.declared.items.Sign.{Sign}
use Rattle.c_grammar.specs.declared.items.Sign.TheVariants as signs
use Rattle.fam_outer.specs.declared.faults.Place.{Place}
use Rattle.c_grammar.specs.Grammar.{at, is_group, has_groups}
use Rattle.c_grammar.specs.Kept.{kept}
use Rattle.c_grammar.proofs.Keeping.{neither, all_stay}
use Rattle.c_grammar.specs.Constants.{is_name}
use Rattle.c_grammar.specs.Locals.{is_main, is_declaring, declares_behind, declarations_from, of_declarations, name_of, names_of, declared_by}
use Rattle.c_grammar.specs.Scopes.{inner_behind, inner_from, are_open, is_open_behind, scoped_from, still_in_scope, names_in_scope}
use Rattle.c_grammar.proofs.Declaring.{declarations_more, none_left_out}

-- `main` stands among the items
abbrev has_main : List Item → Bool
has_main items = list_any (λ x. is_main x.sign) items

-- ---- open blocks behind items and others

pub inner_more : (o : Option ℕ) (xs ys : List Item) → inner_from o (xs ++ ys) ≡ inner_from (inner_from o xs) ys
inner_more None xs ys = refl
inner_more (Some n) [] ys = refl
inner_more (Some n) (x ∷ xs) ys = inner_more (inner_behind n x.sign) xs ys

abbrev pub one_less : ℕ → ℕ
one_less zero = zero
one_less (suc n) = n

-- how many more blocks are to be left before a sign, so that so many are behind it
abbrev pub left_before : Sign → ℕ → ℕ
left_before signs.LeftBrace n = one_less n
left_before signs.RightBrace n = suc n
left_before _ n = n

zero_below : (m : ℕ) → nat_le 0 m ≡ true
zero_below m = le-leb 0 m (omega arith)

none_below : (n : ℕ) → nat_le (suc n) 0 ≡ false
none_below n = lt-leb (suc n) 0 (omega arith)

both_higher : (n m : ℕ) → nat_le (suc n) (suc m) ≡ nat_le n m
both_higher n m = elim (nat_le n m) as (λ b. nat_le n m ≡ b → nat_le (suc n) (suc m) ≡ b) [
  | true ↦ λ e. let le : n ≤ m = leb-true n m e in le-leb (suc n) (suc m) (omega (arith, le))
  | false ↦ λ e. let lt : m < n = leb-false n m e in lt-leb (suc n) (suc m) (omega (arith, lt))
] refl

behind_sign : (n m : ℕ) (s : Sign) → are_open n (inner_behind m s) ≡ are_open (left_before s n) (Some m)
behind_sign zero m signs.LeftBrace = zero_below (suc m) ∙ sym (zero_below m)
behind_sign (suc n) m signs.LeftBrace = both_higher n m
behind_sign n zero signs.RightBrace = sym (none_below n)
behind_sign n (suc m) signs.RightBrace = sym (both_higher n m)
behind_sign n m _ = refl

inner_alone : (o : Option ℕ) → inner_from o [] ≡ o
inner_alone None = refl
inner_alone (Some n) = refl

open_behind_one : (n : ℕ) (o : Option ℕ) (x : Item) → are_open n (inner_from o (x ∷ [])) ≡ are_open (left_before x.sign n) o
open_behind_one n None x = refl
open_behind_one n (Some m) x = ap (are_open n) (inner_alone (inner_behind m x.sign)) ∙ behind_sign n m x.sign

pub open_push : (n : ℕ) (ys : List Item) (x : Item) → is_open_behind n (ys ++ x ∷ []) ≡ is_open_behind (left_before x.sign n) ys
open_push n ys x = ap (are_open n) (inner_more (Some 0) ys (x ∷ [])) ∙ open_behind_one n (inner_from (Some 0) ys) x

-- ---- names in scope behind items and one more

main_alone : (main : Bool) → main ≡ (main || false)
main_alone true = refl
main_alone false = refl

main_earlier : (a b c : Bool) → ((a || b) || c) ≡ (a || (b || c))
main_earlier true b c = refl
main_earlier false b c = refl

-- of the items before, those are left that are left where it has not stood, but with one block more or less to be left
pub scoped_push : (n : ℕ) (main : Bool) (xs : List Item) (x : Item) → scoped_from n main (xs ++ x ∷ [])
    ≡ scoped_from (left_before x.sign n) main xs ++ scoped_from n (main || has_main xs) (x ∷ [])
scoped_push n main [] x = ap (λ b. scoped_from n b (x ∷ [])) (main_alone main)
scoped_push n main (y ∷ ys) x =
    let m : Bool = main || is_main y.sign in
    let k : ℕ = left_before x.sign n in
    let last : List Item = scoped_from n (main || (is_main y.sign || has_main ys)) (x ∷ []) in
    let on : scoped_from n m (ys ++ x ∷ []) ≡ scoped_from k m ys ++ last =
    scoped_push n m ys x ∙ ap (λ b. scoped_from k m ys ++ scoped_from n b (x ∷ [])) (main_earlier main (is_main y.sign) (has_main ys)) in
    ap (λ b. if main && is_name y.sign && not b then scoped_from n m (ys ++ x ∷ []) else y ∷ scoped_from n m (ys ++ x ∷ [])) (open_push n ys x)
    ∙ elim (main && is_name y.sign && not (is_open_behind k ys)) as (λ t. (if t then scoped_from n m (ys ++ x ∷ []) else y ∷ scoped_from n m (ys ++ x ∷ [])) ≡ (if t then scoped_from k m ys else y ∷ scoped_from k m ys) ++ last) [
      | true ↦ on
      | false ↦ ap (λ zs. y ∷ zs) on
    ]

-- the last item stays where it is no name, where it stands before `main`, or where no more block is left
last_other : (n : ℕ) (main : Bool) (x : Item) → is_name x.sign ≡ false → scoped_from n main (x ∷ []) ≡ x ∷ []
last_other n true x e = ap (λ (b : Bool). if b && not (nat_le n 0) then [] else x ∷ []) e
last_other n false x e = refl

last_now : (main : Bool) (x : Item) → scoped_from 0 main (x ∷ []) ≡ x ∷ []
last_now true x = elim (is_name x.sign) as (λ b. (if b && false then [] else x ∷ []) ≡ x ∷ []) [ true ↦ refl | false ↦ refl ]
last_now false x = refl

last_later : (n : ℕ) (x : Item) → is_name x.sign ≡ true → scoped_from (suc n) true (x ∷ []) ≡ []
last_later n x e = ap (λ (b : Bool). if b && not (nat_le (suc n) 0) then [] else x ∷ []) e ∙ ap (λ (b : Bool). if not b then [] else x ∷ []) (none_below n)

name_level : (n : ℕ) (s : Sign) → is_name s ≡ true → left_before s n ≡ n
name_level n (signs.Name x) e = refl
name_level n _ e = absurd cc

-- ---- declarations among the items

no_main_named : (a : Bool) (s : Sign) → (a && is_name s) ≡ true → is_main s ≡ false
no_main_named true signs.Main e = absurd cc
no_main_named false signs.Main e = absurd cc
no_main_named a _ e = refl

main_from : (main declaring : Bool) (items : List Item) → has_main (declarations_from main declaring items) ≡ has_main items
main_from main declaring [] = refl
main_from main declaring (y ∷ ys) =
    let m : Bool = main || is_main y.sign in
    let on : has_main (declarations_from m (is_declaring y.sign) ys) ≡ has_main ys = main_from m (is_declaring y.sign) ys in
    elim (main && not declaring && is_name y.sign) as (λ t. (main && not declaring && is_name y.sign) ≡ t → has_main (if t then declarations_from m (is_declaring y.sign) ys else y ∷ declarations_from m (is_declaring y.sign) ys) ≡ (is_main y.sign || has_main ys)) [
      | true ↦ λ e. on ∙ ap (λ b. b || has_main ys) (sym (no_main_named (main && not declaring) y.sign e))
      | false ↦ λ e. ap (λ b. is_main y.sign || b) on
    ] refl

-- `main` stands among the declarations where it stands among the items
pub main_among : (items : List Item) → has_main (of_declarations items) ≡ has_main items
main_among items = main_from false false items

-- before `main` each item is in scope
all_before_main : (n : ℕ) (items : List Item) → has_main items ≡ false → scoped_from n false items ≡ items
all_before_main n [] h = refl
all_before_main n (y ∷ ys) h =
    ap (λ zs. y ∷ zs)
    (elim (is_main y.sign) as (λ b. (b || has_main ys) ≡ false → scoped_from n b ys ≡ ys) [
      | true ↦ λ g. absurd cc
      | false ↦ λ g. all_before_main n ys g
    ] h)

all_but_last : (n : ℕ) (items : List Item) (x : Item) → has_main items ≡ false → scoped_from n false (items ++ x ∷ []) ≡ items ++ x ∷ []
all_but_last n [] x h = refl
all_but_last n (y ∷ ys) x h =
    ap (λ zs. y ∷ zs)
    (elim (is_main y.sign) as (λ b. (b || has_main ys) ≡ false → scoped_from n b (ys ++ x ∷ []) ≡ ys ++ x ∷ []) [
      | true ↦ λ g. absurd cc
      | false ↦ λ g. all_but_last n ys x g
    ] h)

pub still_before_main : (n : ℕ) (items : List Item) → has_main items ≡ false → still_in_scope n items ≡ items
still_before_main n items h = ap (scoped_from n false) (none_left_out false items h) ∙ all_before_main n items h

-- an item behind others that is no name used in `main`
declared_push : (before : List Item) (x : Item) → (has_main before && not (declares_behind before) && is_name x.sign) ≡ false
    → of_declarations (before ++ x ∷ []) ≡ of_declarations before ++ x ∷ []
declared_push before x e = declarations_more before (x ∷ []) ∙ ap (λ (b : Bool). of_declarations before ++ (if b then [] else x ∷ [])) e

pushed : (n : ℕ) (before : List Item) (x : Item) → (has_main before && not (declares_behind before) && is_name x.sign) ≡ false
    → still_in_scope n (before ++ x ∷ []) ≡ still_in_scope (left_before x.sign n) before ++ scoped_from n (has_main before) (x ∷ [])
pushed n before x e =
    ap (scoped_from n false) (declared_push before x e)
    ∙ scoped_push n false (of_declarations before) x
    ∙ ap (λ b. still_in_scope (left_before x.sign n) before ++ scoped_from n b (x ∷ [])) (main_among before)

-- ---- names in scope behind items and one more, by its kind

and_false : (a b : Bool) → b ≡ false → (a && b) ≡ false
and_false true b e = e
and_false false b e = refl

and_true : (a b : Bool) → a ≡ true → b ≡ true → (a && b) ≡ true
and_true a b e f = rw (e, f) refl

not_and : (a b : Bool) → a ≡ false → (a && b) ≡ false
not_and a b e = rw e refl

-- a name that `main` uses
pub still_used : (n : ℕ) (before : List Item) (x : Item) → (has_main before && not (declares_behind before)) ≡ true → is_name x.sign ≡ true
    → still_in_scope n (before ++ x ∷ []) ≡ still_in_scope n before
still_used n before x used named =
    ap (scoped_from n false)
    (declarations_more before (x ∷ [])
    ∙ ap (λ (b : Bool). of_declarations before ++ (if b then [] else x ∷ [])) (and_true (has_main before && not (declares_behind before)) (is_name x.sign) used named)
    ∙ append-nil (of_declarations before))

-- a name that is declared is in scope
pub still_declared : (before : List Item) (x : Item) → (has_main before && not (declares_behind before)) ≡ false → is_name x.sign ≡ true
    → still_in_scope 0 (before ++ x ∷ []) ≡ still_in_scope 0 before ++ x ∷ []
still_declared before x declared named =
    pushed 0 before x (not_and (has_main before && not (declares_behind before)) (is_name x.sign) declared)
    ∙ ap (λ k. still_in_scope k before ++ scoped_from 0 (has_main before) (x ∷ [])) (name_level 0 x.sign named)
    ∙ ap (λ zs. still_in_scope 0 before ++ zs) (last_now (has_main before) x)

-- and one that `main` declares is so no longer where its block is left
pub still_declared_later : (n : ℕ) (before : List Item) (x : Item) → has_main before ≡ true → (has_main before && not (declares_behind before)) ≡ false → is_name x.sign ≡ true
    → still_in_scope (suc n) (before ++ x ∷ []) ≡ still_in_scope (suc n) before
still_declared_later n before x main declared named =
    pushed (suc n) before x (not_and (has_main before && not (declares_behind before)) (is_name x.sign) declared)
    ∙ ap (λ k. still_in_scope k before ++ scoped_from (suc n) (has_main before) (x ∷ [])) (name_level (suc n) x.sign named)
    ∙ ap (λ b. still_in_scope (suc n) before ++ scoped_from (suc n) b (x ∷ [])) main
    ∙ ap (λ zs. still_in_scope (suc n) before ++ zs) (last_later n x named)
    ∙ append-nil (still_in_scope (suc n) before)

-- before `main` any item is, whatever blocks are left
pub still_outside : (n : ℕ) (before : List Item) (x : Item) → has_main before ≡ false → still_in_scope n (before ++ x ∷ []) ≡ still_in_scope n before ++ x ∷ []
still_outside n before x outside =
    let none_used : (has_main before && not (declares_behind before) && is_name x.sign) ≡ false = rw outside refl in
    ap (scoped_from n false) (declared_push before x none_used ∙ ap (λ zs. zs ++ x ∷ []) (none_left_out false before outside))
    ∙ all_but_last n before x outside
    ∙ ap (λ zs. zs ++ x ∷ []) (sym (still_before_main n before outside))

-- an item that is no name
pub still_other : (n : ℕ) (before : List Item) (x : Item) → is_name x.sign ≡ false → still_in_scope n (before ++ x ∷ []) ≡ still_in_scope (left_before x.sign n) before ++ x ∷ []
still_other n before x other =
    pushed n before x (and_false (has_main before && not (declares_behind before)) (is_name x.sign) other)
    ∙ ap (λ zs. still_in_scope (left_before x.sign n) before ++ zs) (last_other n (has_main before) x other)

-- ---- the names themselves

pub names_more : (xs ys : List Item) → names_of (xs ++ ys) ≡ names_of xs ++ names_of ys
names_more [] ys = refl
names_more (x ∷ xs) ys = ap (λ zs. name_of x.sign ++ zs) (names_more xs ys) ∙ sym (append_assoc (name_of x.sign) (names_of xs) (names_of ys))

pub no_name : (s : Sign) → is_name s ≡ false → name_of s ≡ []
no_name (signs.Name k) e = absurd cc
no_name _ e = refl

names_push_other : (xs : List Item) (x : Item) → is_name x.sign ≡ false → names_of (xs ++ x ∷ []) ≡ names_of xs
names_push_other xs x e = names_more xs (x ∷ []) ∙ ap (λ zs. names_of xs ++ (zs ++ [])) (no_name x.sign e) ∙ append-nil (names_of xs)

-- a name that `main` uses
pub names_used : (n : ℕ) (before : List Item) (p : Place) (k : ℕ) → (has_main before && not (declares_behind before)) ≡ true
    → names_of (still_in_scope n (before ++ at p (signs.Name k) ∷ [])) ≡ names_of (still_in_scope n before)
names_used n before p k used = ap names_of (still_used n before (at p (signs.Name k)) used refl)

-- a name that is declared, in `main` or before it
pub names_declared : (before : List Item) (p : Place) (k : ℕ) → (has_main before && not (declares_behind before)) ≡ false
    → names_of (still_in_scope 0 (before ++ at p (signs.Name k) ∷ [])) ≡ names_of (still_in_scope 0 before) ++ k ∷ []
names_declared before p k declared =
    ap names_of (still_declared before (at p (signs.Name k)) declared refl) ∙ names_more (still_in_scope 0 before) (at p (signs.Name k) ∷ [])

pub names_declared_later : (n : ℕ) (before : List Item) (p : Place) (k : ℕ) → has_main before ≡ true → (has_main before && not (declares_behind before)) ≡ false
    → names_of (still_in_scope (suc n) (before ++ at p (signs.Name k) ∷ [])) ≡ names_of (still_in_scope (suc n) before)
names_declared_later n before p k main declared = ap names_of (still_declared_later n before (at p (signs.Name k)) main declared refl)

-- any item before `main`: there braces do nothing
pub names_outside : (n : ℕ) (before : List Item) (x : Item) → has_main before ≡ false
    → names_of (still_in_scope n (before ++ x ∷ [])) ≡ names_of (still_in_scope n before) ++ names_of (x ∷ [])
names_outside n before x outside = ap names_of (still_outside n before x outside) ∙ names_more (still_in_scope n before) (x ∷ [])

-- whatever blocks are left, each name before `main` is in scope
pub names_before_main : (n : ℕ) (items : List Item) → has_main items ≡ false → names_of (still_in_scope n items) ≡ names_of items
names_before_main n items outside = ap names_of (still_before_main n items outside)

-- a brace in `main`, and any other item that is no name
pub names_other : (n : ℕ) (before : List Item) (x : Item) → is_name x.sign ≡ false
    → names_of (still_in_scope n (before ++ x ∷ [])) ≡ names_of (still_in_scope (left_before x.sign n) before)
names_other n before x other = ap names_of (still_other n before x other) ∙ names_push_other (still_in_scope (left_before x.sign n) before) x other

pub names_opened : (before : List Item) (p : Place) → names_of (still_in_scope 0 (before ++ at p signs.LeftBrace ∷ [])) ≡ names_of (still_in_scope 0 before)
names_opened before p = names_other 0 before (at p signs.LeftBrace) refl

pub names_opened_later : (n : ℕ) (before : List Item) (p : Place) → names_of (still_in_scope (suc n) (before ++ at p signs.LeftBrace ∷ [])) ≡ names_of (still_in_scope n before)
names_opened_later n before p = names_other (suc n) before (at p signs.LeftBrace) refl

pub names_closed : (n : ℕ) (before : List Item) (p : Place) → names_of (still_in_scope n (before ++ at p signs.RightBrace ∷ [])) ≡ names_of (still_in_scope (suc n) before)
names_closed n before p = names_other n before (at p signs.RightBrace) refl

-- ---- among which the names in scope are

any_behind : (p : ℕ → Bool) (ks xs ys : List ℕ) → (list_any p xs ≡ true → list_any p ys ≡ true) → list_any p (ks ++ xs) ≡ true → list_any p (ks ++ ys) ≡ true
any_behind p [] xs ys to h = to h
any_behind p (k ∷ ks) xs ys to h = elim (p k) as (λ b. (b || list_any p (ks ++ xs)) ≡ true → (b || list_any p (ks ++ ys)) ≡ true) [
  | true ↦ λ g. refl
  | false ↦ λ g. any_behind p ks xs ys to g
] h

any_more : (p : ℕ → Bool) (ks xs : List ℕ) → list_any p xs ≡ true → list_any p (ks ++ xs) ≡ true
any_more p [] xs h = h
any_more p (k ∷ ks) xs h = elim (p k) as (λ b. (b || list_any p (ks ++ xs)) ≡ true) [ true ↦ refl | false ↦ any_more p ks xs h ]

-- they are among the names of the items
pub scoped_among : (p : ℕ → Bool) (n : ℕ) (main : Bool) (items : List Item) → list_any p (names_of (scoped_from n main items)) ≡ true → list_any p (names_of items) ≡ true
scoped_among p n main [] h = h
scoped_among p n main (y ∷ ys) h =
    let m : Bool = main || is_main y.sign in
    let to : list_any p (names_of (scoped_from n m ys)) ≡ true → list_any p (names_of ys) ≡ true = scoped_among p n m ys in
    elim (main && is_name y.sign && not (is_open_behind n ys)) as (λ t. list_any p (names_of (if t then scoped_from n m ys else y ∷ scoped_from n m ys)) ≡ true → list_any p (name_of y.sign ++ names_of ys) ≡ true) [
      | true ↦ λ g. any_more p (name_of y.sign) (names_of ys) (to g)
      | false ↦ λ g. any_behind p (name_of y.sign) (names_of (scoped_from n m ys)) (names_of ys) to g
    ] h

pub still_among : (p : ℕ → Bool) (n : ℕ) (items : List Item) → list_any p (names_of (still_in_scope n items)) ≡ true → list_any p (declared_by items) ≡ true
still_among p n items h = scoped_among p n false (of_declarations items) h

-- the names in scope are declared
pub scope_among : (p : ℕ → Bool) (items : List Item) → list_any p (names_in_scope items) ≡ true → list_any p (declared_by items) ≡ true
scope_among p items h = still_among p 0 items h

-- so none that is not declared is in scope
pub none_in_scope : (p : ℕ → Bool) (items : List Item) → list_any p (declared_by items) ≡ false → list_any p (names_in_scope items) ≡ false
none_in_scope p items none = elim (list_any p (names_in_scope items)) as (λ b. list_any p (names_in_scope items) ≡ b → b ≡ false) [
  | true ↦ λ e. sym (scope_among p items e) ∙ none
  | false ↦ λ e. refl
] refl

fewer_open : (n : ℕ) (o : Option ℕ) → are_open (suc n) o ≡ true → are_open n o ≡ true
fewer_open n None e = e
fewer_open n (Some m) e = let le : suc n ≤ m = leb-true (suc n) m e in le-leb n m (omega (arith, le))

fewer_step : (p : ℕ → Bool) (named later now : Bool) (y : Item) (xs ys : List Item) → (later ≡ true → now ≡ true)
    → (list_any p (names_of xs) ≡ true → list_any p (names_of ys) ≡ true)
    → list_any p (names_of (if named && not later then xs else y ∷ xs)) ≡ true → list_any p (names_of (if named && not now then ys else y ∷ ys)) ≡ true
fewer_step p false later now y xs ys more to h = any_behind p (name_of y.sign) (names_of xs) (names_of ys) to h
fewer_step p true true true y xs ys more to h = any_behind p (name_of y.sign) (names_of xs) (names_of ys) to h
fewer_step p true true false y xs ys more to h = absurd (let no : false ≡ true = more refl in cc)
fewer_step p true false true y xs ys more to h = any_more p (name_of y.sign) (names_of ys) (to h)
fewer_step p true false false y xs ys more to h = to h

-- where one block more is left, no more names are left
scoped_fewer : (p : ℕ → Bool) (n : ℕ) (main : Bool) (items : List Item) → list_any p (names_of (scoped_from (suc n) main items)) ≡ true
    → list_any p (names_of (scoped_from n main items)) ≡ true
scoped_fewer p n main [] h = h
scoped_fewer p n main (y ∷ ys) h =
    let m : Bool = main || is_main y.sign in
    let to : list_any p (names_of (scoped_from (suc n) m ys)) ≡ true → list_any p (names_of (scoped_from n m ys)) ≡ true = scoped_fewer p n m ys in
    fewer_step p (main && is_name y.sign) (is_open_behind (suc n) ys) (is_open_behind n ys) y (scoped_from (suc n) m ys) (scoped_from n m ys) (fewer_open n (inner_from (Some 0) ys)) to h

pub still_fewer : (p : ℕ → Bool) (n : ℕ) (items : List Item) → list_any p (names_of (still_in_scope (suc n) items)) ≡ true
    → list_any p (names_of (still_in_scope n items)) ≡ true
still_fewer p n items h = scoped_fewer p n false (of_declarations items) h

-- ---- without group directives

-- what is left of items without directives has none
scoped_plain : (n : ℕ) (main : Bool) (items : List Item) → has_groups items ≡ false → has_groups (scoped_from n main items) ≡ false
scoped_plain n main [] h = h
scoped_plain n main (y ∷ ys) h =
    let m : Bool = main || is_main y.sign in
    let r = neither (is_group y.sign) (has_groups ys) h in
    let on : has_groups (scoped_from n m ys) ≡ false = scoped_plain n m ys r.1 in
    elim (main && is_name y.sign && not (is_open_behind n ys)) as (λ t. has_groups (if t then scoped_from n m ys else y ∷ scoped_from n m ys) ≡ false) [
      | true ↦ on
      | false ↦ ap (λ b. b || has_groups (scoped_from n m ys)) r.0 ∙ on
    ]

declarations_plain : (main declaring : Bool) (items : List Item) → has_groups items ≡ false → has_groups (declarations_from main declaring items) ≡ false
declarations_plain main declaring [] h = h
declarations_plain main declaring (y ∷ ys) h =
    let m : Bool = main || is_main y.sign in
    let d : Bool = is_declaring y.sign in
    let r = neither (is_group y.sign) (has_groups ys) h in
    let on : has_groups (declarations_from m d ys) ≡ false = declarations_plain m d ys r.1 in
    elim (main && not declaring && is_name y.sign) as (λ t. has_groups (if t then declarations_from m d ys else y ∷ declarations_from m d ys) ≡ false) [
      | true ↦ on
      | false ↦ ap (λ b. b || has_groups (declarations_from m d ys)) r.0 ∙ on
    ]

pub still_plain : (n : ℕ) (items : List Item) → has_groups items ≡ false → has_groups (still_in_scope n items) ≡ false
still_plain n items h = scoped_plain n false (of_declarations items) (declarations_plain false false items h)

-- so each is kept, whatever the truths
pub all_kept_plain : (truths : List Bool) (items : List Item) → has_groups items ≡ false → kept truths items ≡ items
all_kept_plain truths items h =
    ap (kept truths) (sym (append-nil items)) ∙ all_stay truths [] items h refl [] ∙ append-nil items

pub still_kept : (truths : List Bool) (n : ℕ) (items : List Item) → has_groups items ≡ false → kept truths (still_in_scope n items) ≡ still_in_scope n items
still_kept truths n items h = all_kept_plain truths (still_in_scope n items) (still_plain n items h)
