-- The names that `main` declares, or only those that it declares as static, among items and one more, whatever block they are declared in.
use Rattle.std.proofs.Common.{◌≡◌, ℕ, Bool, true, false, not, ◌&&◌, List, [], ◌∷◌, ◌++◌, None, refl, sym, ap, ◌∙◌, append-nil}
use Rattle.std.specs.Prelude.{◌||◌, if◌then◌else◌}
use Rattle.fam_outer.specs.declared.faults.Place.{Place}
use Rattle.cpp_groups.specs.declared.section.Section.{Section}
use Rattle.cpp_groups.specs.Kept.{sections_after}
use Rattle.c_grammar.specs.declared.items.Item.{Item}
use Rattle.c_grammar.specs.declared.items.Sign.{Sign}
use Rattle.c_grammar.specs.declared.items.Sign.TheVariants as signs
use Rattle.c_grammar.specs.Constants.{is_name}
use Rattle.c_grammar.specs.Grammar.{at, is_group}
use Rattle.c_grammar.specs.Kept.{directive_of}
use Rattle.c_grammar.specs.Locals.{is_declaring, declarations_from, of_declarations}
use Rattle.c_grammar.specs.Scopes.{static_after, is_static_behind, is_local, locals_from, of_locals}
use Rattle.c_grammar.specs.Statics.{static_behind}
use Rattle.c_grammar.proofs.Declaring.{declarations_more}
use Rattle.c_grammar.proofs.Scoping.{main_among}
use Rattle.family_names.specs.Laws.{has_groups}
use Rattle.family_names.specs.Names.{is_main, has_main, is_used_behind, sections_behind}

-- ---- names that are left out

-- they are no words of declarations and no directives
static_named : (static a : Bool) (s : Sign) → (a && is_name s) ≡ true → static_behind static s ≡ static
static_named static a (signs.Name x) e = refl
static_named static true _ e = absurd cc
static_named static false _ e = absurd cc

no_directive_named : (s : Sign) (a : Bool) → (is_name s && a) ≡ true → directive_of s ≡ None
no_directive_named (signs.Name x) a e = refl
no_directive_named _ a e = absurd cc

-- a static declaration goes on behind the declarations among items where it goes on behind all of them
static_from : (static main declaring : Bool) (items : List Item) → static_after static (declarations_from main declaring items) ≡ static_after static items
static_from static main declaring [] = refl
static_from static main declaring (y ∷ ys) =
    let m : Bool = main || is_main y.sign in
    let d : Bool = is_declaring y.sign in
    elim (main && not declaring && is_name y.sign) as (λ t. (main && not declaring && is_name y.sign) ≡ t
    → static_after static (if t then declarations_from (main || is_main y.sign) (is_declaring y.sign) ys else y ∷ declarations_from (main || is_main y.sign) (is_declaring y.sign) ys) ≡ static_after (static_behind static y.sign) ys) [
      | true ↦ λ e. static_from static m d ys ∙ ap (λ (b : Bool). static_after b ys) (sym (static_named static (main && not declaring) y.sign e))
      | false ↦ λ e. static_from (static_behind static y.sign) m d ys
    ] refl

static_among : (items : List Item) → is_static_behind (of_declarations items) ≡ is_static_behind items
static_among items = static_from false false false items

-- ---- an item more

main_alone : (main : Bool) → main ≡ (main || false)
main_alone true = refl
main_alone false = refl

main_earlier : (a b c : Bool) → ((a || b) || c) ≡ (a || (b || c))
main_earlier true b c = refl
main_earlier false b c = refl

locals_push : (only main static : Bool) (xs : List Item) (x : Item) → locals_from only main static (xs ++ x ∷ []) ≡ locals_from only main static xs ++ locals_from only (main || has_main xs) (static_after static xs) (x ∷ [])
locals_push only main static [] x = ap (λ (b : Bool). locals_from only b static (x ∷ [])) (main_alone main)
locals_push only main static (y ∷ ys) x =
    let m : Bool = main || is_main y.sign in
    let s : Bool = static_behind static y.sign in
    let last : List Item = locals_from only (main || (is_main y.sign || has_main ys)) (static_after (static_behind static y.sign) ys) (x ∷ []) in
    let on : locals_from only m s (ys ++ x ∷ []) ≡ locals_from only m s ys ++ last =
    locals_push only m s ys x ∙ ap (λ (b : Bool). locals_from only m s ys ++ locals_from only b (static_after s ys) (x ∷ [])) (main_earlier main (is_main y.sign) (has_main ys)) in
    elim (is_name y.sign && not (is_local only main static)) as (λ t. (if t then locals_from only m s (ys ++ x ∷ []) else y ∷ locals_from only m s (ys ++ x ∷ []))
    ≡ (if t then locals_from only m s ys else y ∷ locals_from only m s ys) ++ last) [
      | true ↦ on
      | false ↦ ap (λ (zs : List Item). y ∷ zs) on
    ]

-- one that is no name that is used
of_push : (only : Bool) (before : List Item) (x : Item) → (is_used_behind before && is_name x.sign) ≡ false
    → of_locals only (before ++ x ∷ []) ≡ of_locals only before ++ locals_from only (has_main before) (is_static_behind before) (x ∷ [])
of_push only before x e =
    ap (locals_from only false false) (declarations_more before (x ∷ []) ∙ ap (λ (b : Bool). of_declarations before ++ (if b then [] else x ∷ [])) e)
    ∙ locals_push only false false (of_declarations before) x
    ∙ ap (λ (b : Bool). of_locals only before ++ locals_from only b (is_static_behind (of_declarations before)) (x ∷ [])) (main_among before)
    ∙ ap (λ (b : Bool). of_locals only before ++ locals_from only (has_main before) b (x ∷ [])) (static_among before)

not_used : (a b : Bool) → a ≡ false → (a && b) ≡ false
not_used a b e = rw e refl

not_named : (a b : Bool) → b ≡ false → (a && b) ≡ false
not_named true b e = e
not_named false b e = refl

named_alone : (local : Bool) (x : Item) → is_name x.sign ≡ true → (if is_name x.sign && not local then [] else x ∷ []) ≡ (if local then x ∷ [] else [])
named_alone true x e = ap (λ (b : Bool). if b && false then [] else x ∷ []) e
named_alone false x e = ap (λ (b : Bool). if b && true then [] else x ∷ []) e

-- a name that is declared
pub name_among_locals : (only : Bool) (before : List Item) (p : Place) (x : ℕ) → is_used_behind before ≡ false
    → of_locals only (before ++ at p (signs.Name x) ∷ []) ≡ of_locals only before ++ (if is_local only (has_main before) (is_static_behind before) then at p (signs.Name x) ∷ [] else [])
name_among_locals only before p x unused =
    of_push only before (at p (signs.Name x)) (not_used (is_used_behind before) true unused)
    ∙ ap (λ (ys : List Item). of_locals only before ++ ys) (named_alone (is_local only (has_main before) (is_static_behind before)) (at p (signs.Name x)) refl)

-- a name that is used
pub used_among_locals : (only : Bool) (before : List Item) (p : Place) (x : ℕ) → is_used_behind before ≡ true → of_locals only (before ++ at p (signs.Name x) ∷ []) ≡ of_locals only before
used_among_locals only before p x used =
    ap (locals_from only false false)
    (declarations_more before (at p (signs.Name x) ∷ [])
    ∙ ap (λ (b : Bool). of_declarations before ++ (if b && true then [] else at p (signs.Name x) ∷ [])) used
    ∙ append-nil (of_declarations before))

-- an item that is no name
pub other_among_locals : (only : Bool) (before : List Item) (x : Item) → is_name x.sign ≡ false → of_locals only (before ++ x ∷ []) ≡ of_locals only before ++ x ∷ []
other_among_locals only before x other =
    of_push only before x (not_named (is_used_behind before) (is_name x.sign) other)
    ∙ ap (λ (b : Bool). of_locals only before ++ (if b && not (is_local only (has_main before) (is_static_behind before)) then [] else x ∷ [])) other

-- ---- groups

-- the same sections are open behind them
pub locals_sections : (truths : List Bool) (ss : List Section) (only main static : Bool) (items : List Item) → sections_behind truths ss (locals_from only main static items) ≡ sections_behind truths ss items
locals_sections truths ss only main static [] = refl
locals_sections truths ss only main static (y ∷ ys) =
    let m : Bool = main || is_main y.sign in
    let s : Bool = static_behind static y.sign in
    elim (is_name y.sign && not (is_local only main static)) as (λ t. (is_name y.sign && not (is_local only main static)) ≡ t
    → sections_behind truths ss (if t then locals_from only (main || is_main y.sign) (static_behind static y.sign) ys else y ∷ locals_from only (main || is_main y.sign) (static_behind static y.sign) ys)
    ≡ sections_behind truths (sections_after truths ss (directive_of y.sign)) ys) [
      | true ↦ λ e. locals_sections truths ss only m s ys
          ∙ ap (λ (ts : List Section). sections_behind truths ts ys) (sym (ap (sections_after truths ss) (no_directive_named y.sign (not (is_local only main static)) e)))
      | false ↦ λ e. locals_sections truths (sections_after truths ss (directive_of y.sign)) only m s ys
    ] refl

neither : (a b : Bool) → (a || b) ≡ false → (a ≡ false) × (b ≡ false)
neither true b e = absurd cc
neither false b e = (refl, e)

-- without directives among the items, none is among these
pub locals_plain : (only main static : Bool) (items : List Item) → has_groups items ≡ false → has_groups (locals_from only main static items) ≡ false
locals_plain only main static [] h = refl
locals_plain only main static (y ∷ ys) h =
    let m : Bool = main || is_main y.sign in
    let s : Bool = static_behind static y.sign in
    let r = neither (is_group y.sign) (has_groups ys) h in
    let on : has_groups (locals_from only m s ys) ≡ false = locals_plain only m s ys r.1 in
    elim (is_name y.sign && not (is_local only main static)) as (λ t. has_groups (if t then locals_from only m s ys else y ∷ locals_from only m s ys) ≡ false) [
      | true ↦ on
      | false ↦ ap (λ (b : Bool). b || has_groups (locals_from only m s ys)) r.0 ∙ on
    ]
