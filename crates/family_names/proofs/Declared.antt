-- What is declared and what is in scope behind one item more.
use Rattle.std.proofs.Common.{◌≡◌, ℕ, Bool, true, false, not, ◌&&◌, nat_eq, List, [], ◌∷◌, ◌++◌, refl, sym, ap, ◌∙◌, append_assoc, append-nil}
use Rattle.std.specs.Prelude.{◌||◌, if◌then◌else◌}
use Rattle.std.proofs.lemmas.List.Folds.{list_any-append}
use Rattle.std.proofs.lemmas.Bool.{eqb-true}
use Rattle.fam_outer.specs.declared.faults.Place.{Place}
use Rattle.cpp_groups.specs.declared.section.Section.{Section}
use Rattle.cpp_groups.specs.Kept.{all_kept, sections_after}
use Rattle.c_grammar.specs.declared.items.Item.{Item}
use Rattle.c_grammar.specs.declared.items.Sign.{Sign}
use Rattle.c_grammar.specs.declared.items.Sign.TheVariants as signs
use Rattle.c_grammar.specs.Constants.{is_name}
use Rattle.c_grammar.specs.Grammar.{at, is_group}
use Rattle.c_grammar.specs.Kept.{directive_of, kept, kept_from}
use Rattle.c_grammar.specs.Locals.{is_declaring, declarations_from, of_declarations}
use Rattle.c_grammar.specs.Scopes.{is_open_behind, scoped_from, still_in_scope, is_static_behind, is_local, of_locals}
use Rattle.c_grammar.proofs.Declaring.{declarations_more}
use Rattle.family_names.specs.declared.declarations.Declaration.{Declaration}
use Rattle.family_names.specs.declared.groups.Group.{Group}
use Rattle.family_names.specs.Blocks.{still_at, locals_by, locals_at, is_shown, left_before, with_shown}
use Rattle.family_names.specs.Declarations.{is_kept as declaration_kept, is_declared}
use Rattle.family_names.specs.Groups.{sections}
use Rattle.family_names.specs.Names.{is_main, has_main, name_of, names_of, declared_by, is_among, with_number, each_once, sections_behind, is_kept, is_used_behind}
use Rattle.family_names.proofs.Barred.{name_among_locals, used_among_locals, other_among_locals, locals_sections}
use Rattle.family_names.proofs.Blocks.{other_in_scope, name_in_scope}

-- ---- truths

pub or_assoc : (a b c : Bool) → ((a || b) || c) ≡ (a || (b || c))
or_assoc true b c = refl
or_assoc false b c = refl

pub or_false : (b : Bool) → (b || false) ≡ b
or_false true = refl
or_false false = refl

pub and_true : (b : Bool) → (b && true) ≡ b
and_true true = refl
and_true false = refl

pub and_false : (b : Bool) → (b && false) ≡ false
and_false true = refl
and_false false = refl

pub or_true : (b : Bool) → (b || true) ≡ true
or_true true = refl
or_true false = refl

pub or_left : (a b : Bool) → a ≡ true → (a || b) ≡ true
or_left a b e = rw e refl

pub or_right : (a b : Bool) → b ≡ true → (a || b) ≡ true
or_right a b e = rw e (or_true a)

-- ---- the sections behind an item more

pub behind_more : (truths : List Bool) (ss : List Section) (before : List Item) (x : Item) → sections_behind truths ss (before ++ x ∷ []) ≡ sections_after truths (sections_behind truths ss before) (directive_of x.sign)
behind_more truths ss [] x = refl
behind_more truths ss (y ∷ ys) x = behind_more truths (sections_after truths ss (directive_of y.sign)) ys x

pub kept_append : (truths : List Bool) (ss : List Section) (a b : List Item) → kept_from truths ss (a ++ b) ≡ kept_from truths ss a ++ kept_from truths (sections_behind truths ss a) b
kept_append truths ss [] b = refl
kept_append truths ss (y ∷ ys) b =
    elim (not (is_group y.sign) && all_kept ss) as (λ t. (if t then y ∷ kept_from truths (sections_after truths ss (directive_of y.sign)) (ys ++ b) else kept_from truths (sections_after truths ss (directive_of y.sign)) (ys ++ b))
    ≡ (if t then y ∷ kept_from truths (sections_after truths ss (directive_of y.sign)) ys else kept_from truths (sections_after truths ss (directive_of y.sign)) ys) ++ kept_from truths (sections_behind truths (sections_after truths ss (directive_of y.sign)) ys) b) [
      | true ↦ ap (λ (xs : List Item). y ∷ xs) (kept_append truths (sections_after truths ss (directive_of y.sign)) ys b)
      | false ↦ kept_append truths (sections_after truths ss (directive_of y.sign)) ys b
    ]

pub names_append : (a b : List Item) → names_of (a ++ b) ≡ names_of a ++ names_of b
names_append [] b = refl
names_append (x ∷ xs) b = ap (λ (ns : List ℕ). name_of x.sign ++ ns) (names_append xs b) ∙ sym (append_assoc (name_of x.sign) (names_of xs) (names_of b))

-- ---- `main`

pub main_on : (before : List Item) (x : Item) → has_main (before ++ x ∷ []) ≡ (has_main before || is_main x.sign)
main_on [] x = elim (is_main x.sign) as (λ b. (b || false) ≡ b) [ true ↦ refl | false ↦ refl ]
main_on (y ∷ ys) x = elim (is_main y.sign) as (λ b. (b || has_main (ys ++ x ∷ [])) ≡ ((b || has_main ys) || is_main x.sign)) [ true ↦ refl | false ↦ main_on ys x ]

-- ---- the items without the names that `main` uses

-- an item more is left out where it is a name that is used
of_more : (before : List Item) (x : Item) → of_declarations (before ++ x ∷ []) ≡ of_declarations before ++ (if is_used_behind before && is_name x.sign then [] else x ∷ [])
of_more before x = declarations_more before (x ∷ [])

-- what is left out is a name
out_is_name : (b : Bool) (s : Sign) → (b && is_name s) ≡ true → (n : ℕ) × (s ≡ signs.Name n)
out_is_name false s e = absurd cc
out_is_name true (signs.Name n) e = (n, refl)
out_is_name true _ e = absurd cc

-- so it is of a name whose block is left
ended_name : (a b c : Bool) (s : Sign) → b ≡ is_name s → (a && b && c) ≡ true → (n : ℕ) × (s ≡ signs.Name n)
ended_name a true c s e h = out_is_name true s (sym e)
ended_name true false c s e h = absurd cc
ended_name false false c s e h = absurd cc

from_sections : (truths : List Bool) (ss : List Section) (main declaring : Bool) (before : List Item) → sections_behind truths ss (declarations_from main declaring before) ≡ sections_behind truths ss before
from_sections truths ss main declaring [] = refl
from_sections truths ss main declaring (y ∷ ys) =
    let m = main || is_main y.sign in
    let d = is_declaring y.sign in
    elim (main && not declaring && is_name y.sign) as (λ t. (main && not declaring && is_name y.sign) ≡ t
    → sections_behind truths ss (if t then declarations_from (main || is_main y.sign) (is_declaring y.sign) ys else y ∷ declarations_from (main || is_main y.sign) (is_declaring y.sign) ys) ≡ sections_behind truths (sections_after truths ss (directive_of y.sign)) ys) [
      | true ↦ λ e. from_sections truths ss m d ys ∙ sym (ap (λ (s : Sign). sections_behind truths (sections_after truths ss (directive_of s)) ys) (out_is_name (main && not declaring) y.sign e).1)
      | false ↦ λ e. from_sections truths (sections_after truths ss (directive_of y.sign)) m d ys
    ] refl

of_sections : (truths : List Bool) (before : List Item) → sections_behind truths [] (of_declarations before) ≡ sections_behind truths [] before
of_sections truths before = from_sections truths [] false false before

-- so they are the same for scopes
scoped_sections : (truths : List Bool) (ss : List Section) (n : ℕ) (main : Bool) (before : List Item) → sections_behind truths ss (scoped_from n main before) ≡ sections_behind truths ss before
scoped_sections truths ss n main [] = refl
scoped_sections truths ss n main (y ∷ ys) =
    let m = main || is_main y.sign in
    elim (main && is_name y.sign && not (is_open_behind n ys)) as (λ t. (main && is_name y.sign && not (is_open_behind n ys)) ≡ t
    → sections_behind truths ss (if t then scoped_from n (main || is_main y.sign) ys else y ∷ scoped_from n (main || is_main y.sign) ys) ≡ sections_behind truths (sections_after truths ss (directive_of y.sign)) ys) [
      | true ↦ λ e. scoped_sections truths ss n m ys ∙ sym (ap (λ (s : Sign). sections_behind truths (sections_after truths ss (directive_of s)) ys) (ended_name main (is_name y.sign) (not (is_open_behind n ys)) y.sign refl e).1)
      | false ↦ λ e. scoped_sections truths (sections_after truths ss (directive_of y.sign)) n m ys
    ] refl

-- and for the names that `main` declares
of_locals_sections : (truths : List Bool) (only : Bool) (before : List Item) → sections_behind truths [] (of_locals only before) ≡ sections_behind truths [] before
of_locals_sections truths only before = locals_sections truths [] only false false (of_declarations before) ∙ of_sections truths before

-- ---- what is declared behind some items and one more, what is in scope, and what `main` declares

pub record AreMore (before : List Item) (x : Item) : Type 0 where
  pub any : declared_by (before ++ x ∷ []) ≡ declared_by before ++ name_of x.sign
  pub kept : (n : ℕ) (truths : List Bool) → still_at n truths (before ++ x ∷ []) ≡ still_at n truths before ++ (if is_shown n (has_main before) then names_of (kept_from truths (sections_behind truths [] before) (x ∷ [])) else [])
  pub locals : (only : Bool) → locals_by only (before ++ x ∷ []) ≡ locals_by only before ++ (if is_local only (has_main before) (is_static_behind before) then name_of x.sign else [])
  pub kept_locals : (only : Bool) (truths : List Bool) → locals_at truths only (before ++ x ∷ [])
      ≡ locals_at truths only before ++ (if is_local only (has_main before) (is_static_behind before) then names_of (kept_from truths (sections_behind truths [] before) (x ∷ [])) else [])

pub record AreStill (before : List Item) (x : Item) : Type 0 where
  pub any : declared_by (before ++ x ∷ []) ≡ declared_by before
  pub kept : (n : ℕ) (truths : List Bool) → still_at n truths (before ++ x ∷ []) ≡ still_at (left_before x.sign (has_main before) n) truths before
  pub locals : (only : Bool) → locals_by only (before ++ x ∷ []) ≡ locals_by only before
  pub kept_locals : (only : Bool) (truths : List Bool) → locals_at truths only (before ++ x ∷ []) ≡ locals_at truths only before

-- an item that is no name that is used
more_declared : (before : List Item) (x : Item) → (is_used_behind before && is_name x.sign) ≡ false → declared_by (before ++ x ∷ []) ≡ declared_by before ++ name_of x.sign
more_declared before x h =
    ap names_of (of_more before x ∙ ap (λ (b : Bool). of_declarations before ++ (if b then [] else x ∷ [])) h) ∙ names_append (of_declarations before) (x ∷ []) ∙ ap (λ (ns : List ℕ). names_of (of_declarations before) ++ ns) (append-nil (name_of x.sign))

-- the names among some of the items and others behind them that are kept
kept_behind : (truths : List Bool) (some before xs : List Item) → sections_behind truths [] some ≡ sections_behind truths [] before
    → names_of (kept truths (some ++ xs)) ≡ names_of (kept truths some) ++ names_of (kept_from truths (sections_behind truths [] before) xs)
kept_behind truths some before xs same =
    ap names_of (kept_append truths [] some xs) ∙ names_append (kept truths some) (kept_from truths (sections_behind truths [] some) xs)
    ∙ ap (λ (ss : List Section). names_of (kept truths some) ++ names_of (kept_from truths ss xs)) same

-- so it is where so many more blocks are left
kept_more : (truths : List Bool) (before xs : List Item) (n : ℕ) → names_of (kept truths (still_in_scope n before ++ xs)) ≡ still_at n truths before ++ names_of (kept_from truths (sections_behind truths [] before) xs)
kept_more truths before xs n = kept_behind truths (still_in_scope n before) before xs (scoped_sections truths [] n false (of_declarations before) ∙ of_sections truths before)

kept_if : (b : Bool) (truths : List Bool) (ss : List Section) (xs : List Item) → names_of (kept_from truths ss (if b then xs else [])) ≡ (if b then names_of (kept_from truths ss xs) else [])
kept_if true truths ss xs = refl
kept_if false truths ss xs = refl

names_if : (b : Bool) (x : Item) → names_of (if b then x ∷ [] else []) ≡ (if b then name_of x.sign else [])
names_if true x = append-nil (name_of x.sign)
names_if false x = refl

-- a name that is declared
pub more_named : (before : List Item) (p : Place) (n : ℕ) → is_used_behind before ≡ false → AreMore before (at p (signs.Name n))
more_named before p x h =
    let one : List Item = at p (signs.Name x) ∷ [] in
    record {
      any = more_declared before (at p (signs.Name x)) (and_true (is_used_behind before) ∙ h);
      kept = λ n truths.
          let b : Bool = is_shown n (has_main before) in
          ap (λ (ys : List Item). names_of (kept truths ys)) (name_in_scope before p x n h) ∙ kept_more truths before (if b then one else []) n
          ∙ ap (λ (ns : List ℕ). still_at n truths before ++ ns) (kept_if b truths (sections_behind truths [] before) one);
      locals = λ only.
          let b : Bool = is_local only (has_main before) (is_static_behind before) in
          ap names_of (name_among_locals only before p x h) ∙ names_append (of_locals only before) (if b then one else [])
          ∙ ap (λ (ns : List ℕ). locals_by only before ++ ns) (names_if b (at p (signs.Name x)));
      kept_locals = λ only truths.
          let b : Bool = is_local only (has_main before) (is_static_behind before) in
          ap (λ (ys : List Item). names_of (kept truths ys)) (name_among_locals only before p x h) ∙ kept_behind truths (of_locals only before) before (if b then one else []) (of_locals_sections truths only before)
          ∙ ap (λ (ns : List ℕ). locals_at truths only before ++ ns) (kept_if b truths (sections_behind truths [] before) one);
    }

-- a name that is used
pub still_used : (before : List Item) (p : Place) (n : ℕ) → is_used_behind before ≡ true → AreStill before (at p (signs.Name n))
still_used before p n h =
    let u : of_declarations (before ++ at p (signs.Name n) ∷ []) ≡ of_declarations before =
    of_more before (at p (signs.Name n)) ∙ ap (λ (b : Bool). of_declarations before ++ (if b then [] else at p (signs.Name n) ∷ [])) (and_true (is_used_behind before) ∙ h) ∙ append-nil (of_declarations before) in
    record {
      any = ap names_of u;
      kept = λ left truths. ap (λ (ys : List Item). names_of (kept truths (scoped_from left false ys))) u;
      locals = λ only. ap names_of (used_among_locals only before p n h);
      kept_locals = λ only truths. ap (λ (ys : List Item). names_of (kept truths ys)) (used_among_locals only before p n h);
    }

pub no_names : (truths : List Bool) (ss : List Section) (x : Item) → name_of x.sign ≡ [] → names_of (kept_from truths ss (x ∷ [])) ≡ []
no_names truths ss x e = elim (not (is_group x.sign) && all_kept ss) as (λ t. names_of (if t then x ∷ [] else []) ≡ []) [ true ↦ ap (λ (ns : List ℕ). ns ++ []) e | false ↦ refl ]

not_name : (s : Sign) → name_of s ≡ [] → is_name s ≡ false
not_name (signs.Name n) e = absurd cc
not_name _ e = refl

-- an item that is no name
pub still_other : (before : List Item) (x : Item) → name_of x.sign ≡ [] → AreStill before x
still_other before x e =
    let other : is_name x.sign ≡ false = not_name x.sign e in
    record {
      any = more_declared before x (ap (λ (b : Bool). is_used_behind before && b) other ∙ and_false (is_used_behind before)) ∙ ap (λ (ns : List ℕ). declared_by before ++ ns) e ∙ append-nil (declared_by before);
      kept = λ n truths.
          let left : ℕ = left_before x.sign (has_main before) n in
          ap (λ (ys : List Item). names_of (kept truths ys)) (other_in_scope before x n other) ∙ kept_more truths before (x ∷ []) left
          ∙ ap (λ (ns : List ℕ). still_at left truths before ++ ns) (no_names truths (sections_behind truths [] before) x e) ∙ append-nil (still_at left truths before);
      locals = λ only.
          ap names_of (other_among_locals only before x other) ∙ names_append (of_locals only before) (x ∷ [])
          ∙ ap (λ (ns : List ℕ). locals_by only before ++ (ns ++ [])) e ∙ append-nil (locals_by only before);
      kept_locals = λ only truths.
          ap (λ (ys : List Item). names_of (kept truths ys)) (other_among_locals only before x other) ∙ kept_behind truths (of_locals only before) before (x ∷ []) (of_locals_sections truths only before)
          ∙ ap (λ (ns : List ℕ). locals_at truths only before ++ ns) (no_names truths (sections_behind truths [] before) x e) ∙ append-nil (locals_at truths only before);
    }

-- ---- names, each once

pub once_append : (seen a b : List ℕ) → each_once seen (a ++ b) ≡ each_once (each_once seen a) b
once_append seen [] b = refl
once_append seen (x ∷ xs) b = once_append (with_number seen x) xs b

pub among_with : (x y : ℕ) (seen : List ℕ) → is_among x (with_number seen y) ≡ (is_among x seen || nat_eq x y)
among_with x y seen = elim (is_among y seen) as (λ b. is_among y seen ≡ b → is_among x (if b then seen else seen ++ y ∷ []) ≡ (is_among x seen || nat_eq x y)) [
  | true ↦ λ e. elim (nat_eq x y) as (λ b. nat_eq x y ≡ b → is_among x seen ≡ (is_among x seen || b)) [
    | true ↦ λ f. ap (λ (z : ℕ). is_among z seen) (eqb-true x y f) ∙ e ∙ sym (or_true (is_among x seen))
    | false ↦ λ f. sym (or_false (is_among x seen))
  ] refl
  | false ↦ λ e. list_any-append (nat_eq x) seen (y ∷ []) ∙ ap (λ (b : Bool). is_among x seen || b) (or_false (nat_eq x y))
] refl

pub among_once : (x : ℕ) (seen ys : List ℕ) → is_among x (each_once seen ys) ≡ (is_among x seen || is_among x ys)
among_once x seen [] = sym (or_false (is_among x seen))
among_once x seen (y ∷ ys) =
    among_once x (with_number seen y) ys ∙ ap (λ (b : Bool). b || is_among x ys) (among_with x y seen) ∙ or_assoc (is_among x seen) (nat_eq x y) (is_among x ys)

-- ---- kept names are among all names

pub or_more : (a b c : Bool) → (b ≡ true → c ≡ true) → (a || b) ≡ true → (a || c) ≡ true
or_more true b c f e = refl
or_more false b c f e = f e

pub among_kept : (x : ℕ) (truths : List Bool) (ss : List Section) (w : List Item) → is_among x (names_of (kept_from truths ss w)) ≡ true → is_among x (names_of w) ≡ true
among_kept x truths ss [] h = h
among_kept x truths ss (y ∷ ys) h =
    list_any-append (nat_eq x) (name_of y.sign) (names_of ys) ∙
    elim (not (is_group y.sign) && all_kept ss) as (λ t. is_among x (names_of (if t then y ∷ kept_from truths (sections_after truths ss (directive_of y.sign)) ys else kept_from truths (sections_after truths ss (directive_of y.sign)) ys)) ≡ true
    → (is_among x (name_of y.sign) || is_among x (names_of ys)) ≡ true) [
      | true ↦ λ g. or_more (is_among x (name_of y.sign)) (is_among x (names_of (kept_from truths (sections_after truths ss (directive_of y.sign)) ys))) (is_among x (names_of ys))
          (among_kept x truths (sections_after truths ss (directive_of y.sign)) ys)
          (sym (list_any-append (nat_eq x) (name_of y.sign) (names_of (kept_from truths (sections_after truths ss (directive_of y.sign)) ys))) ∙ g)
      | false ↦ λ g. or_right (is_among x (name_of y.sign)) (is_among x (names_of ys)) (among_kept x truths (sections_after truths ss (directive_of y.sign)) ys g)
    ] h

-- ---- declarations as they are kept

-- a declaration more
pub kept_name : (truths : List Bool) (before : List Item) (p : Place) (x y : ℕ) → is_among y (names_of (kept_from truths (sections_behind truths [] before) (at p (signs.Name x) ∷ []))) ≡ (nat_eq y x && is_kept truths before)
kept_name truths before p x y = elim (all_kept (sections_behind truths [] before)) as (λ t. is_among y (names_of (if t then at p (signs.Name x) ∷ [] else [])) ≡ (nat_eq y x && t)) [
  | true ↦ or_false (nat_eq y x) ∙ sym (and_true (nat_eq y x))
  | false ↦ sym (and_false (nat_eq y x))
]

-- where it is shown, the names and those of a list are more by it
pub shown_more : (shown : Bool) (truths : List Bool) (y : ℕ) (ds : List Declaration) (d : Declaration) (xs one : List ℕ) → is_declared truths ds y ≡ is_among y xs → declaration_kept truths y d ≡ is_among y one
    → is_declared truths (with_shown shown ds d) y ≡ is_among y (xs ++ (if shown then one else []))
shown_more true truths y ds d xs one known same =
    list_any-append (λ (c : Declaration). declaration_kept truths y c) ds (d ∷ [])
    ∙ ap (λ (b : Bool). is_declared truths ds y || b) (or_false (declaration_kept truths y d) ∙ same)
    ∙ ap (λ (b : Bool). b || is_among y one) known
    ∙ sym (list_any-append (nat_eq y) xs one)
shown_more false truths y ds d xs one known same = known ∙ ap (is_among y) (sym (append-nil xs))

-- so it is of a list of declarations, and of one more in the groups that stand here
pub one_more : (before : List Item) (p : Place) (x n : ℕ) (ds : List Declaration) (groups : List Group) → is_used_behind before ≡ false → ((truths : List Bool) → sections truths groups ≡ sections_behind truths [] before)
    → ((truths : List Bool) (y : ℕ) → is_declared truths ds y ≡ is_among y (still_at n truths before)) → (truths : List Bool) (y : ℕ)
    → is_declared truths (with_shown (is_shown n (has_main before)) ds (record { name = x; groups = groups })) y ≡ is_among y (still_at n truths (before ++ at p (signs.Name x) ∷ []))
one_more before p x n ds groups h same known truths y =
    let one : List ℕ = names_of (kept_from truths (sections_behind truths [] before) (at p (signs.Name x) ∷ [])) in
    shown_more (is_shown n (has_main before)) truths y ds (record { name = x; groups = groups }) (still_at n truths before) one (known truths y)
    (ap (λ (ss : List Section). nat_eq y x && all_kept ss) (same truths) ∙ sym (kept_name truths before p x y))
    ∙ ap (is_among y) (sym ((more_named before p x h).kept n truths))
