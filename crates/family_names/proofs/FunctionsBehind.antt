-- Which functions are declared behind one item more.
use Rattle.std.proofs.Common.{◌≡◌, ℕ, Bool, true, false, not, ◌&&◌, nat_eq, List, [], ◌∷◌, ◌++◌, Option, Some, None, refl, sym, ap, subst, ◌∙◌, append_assoc, append-nil}
use Rattle.std.specs.Prelude.{◌||◌, if◌then◌else◌}
use Rattle.std.proofs.lemmas.List.Folds.{list_any-append}
use Rattle.fam_outer.specs.declared.faults.Place.{Place}
use Rattle.cpp_groups.specs.declared.section.Section.{Section}
use Rattle.cpp_groups.specs.Kept.{all_kept, sections_after}
use Rattle.c_grammar.specs.declared.items.Item.{Item}
use Rattle.c_grammar.specs.declared.items.Sign.{Sign}
use Rattle.c_grammar.specs.declared.items.Sign.TheVariants as signs
use Rattle.c_grammar.specs.Constants.{last_from}
use Rattle.c_grammar.specs.Functions.{is_void, function_of, is_function, has_sign, stands_behind, is_as_asked, functions_from, of_functions, functions_of}
use Rattle.c_grammar.specs.Grammar.{at, is_group}
use Rattle.c_grammar.specs.Kept.{directive_of, kept, kept_from}
use Rattle.family_names.specs.Functions.{functions_by, functions_at}
use Rattle.family_names.specs.Names.{is_main, has_main, until_main, is_among, sections_behind, is_kept}
use Rattle.family_names.proofs.Declared.{kept_append, or_false, and_true, and_false}

-- ---- `main`

-- behind `main` no function is declared
until_behind : (before xs : List Item) → has_main before ≡ true → until_main (before ++ xs) ≡ until_main before
until_behind [] xs h = absurd cc
until_behind (y ∷ ys) xs h =
    elim (is_main y.sign) as (λ b. (b || has_main ys) ≡ true → (if b then [] else y ∷ until_main (ys ++ xs)) ≡ (if b then [] else y ∷ until_main ys)) [
      | true ↦ λ _. refl
      | false ↦ λ g. ap (λ (zs : List Item). y ∷ zs) (until_behind ys xs g)
    ] h

-- before it each one is
until_on : (before xs : List Item) → has_main before ≡ false → until_main (before ++ xs) ≡ before ++ until_main xs
until_on [] xs h = refl
until_on (y ∷ ys) xs h =
    elim (is_main y.sign) as (λ b. (b || has_main ys) ≡ false → (if b then [] else y ∷ until_main (ys ++ xs)) ≡ y ∷ ys ++ until_main xs) [
      | true ↦ λ g. absurd cc
      | false ↦ λ g. ap (λ (zs : List Item). y ∷ zs) (until_on ys xs g)
    ] h

until_all : (before : List Item) → has_main before ≡ false → until_main before ≡ before
until_all before h = ap until_main (sym (append-nil before)) ∙ until_on before [] h ∙ append-nil before

-- ---- the items without the functions that are declared otherwise

-- the last item is `void`, or, where there is none, this holds
abbrev void_after : Bool → List Item → Bool
void_after behind [] = behind
void_after behind (x ∷ xs) = void_after (is_void x.sign) xs

after_last : (last : Option Item) (before : List Item) → void_after (has_sign is_void last) before ≡ has_sign is_void (last_from last before)
after_last last [] = refl
after_last last (x ∷ xs) = after_last (Some x) xs

from_more : (void behind : Bool) (before : List Item) (x : Item) → functions_from void behind (before ++ x ∷ []) ≡ functions_from void behind before ++ functions_from void (void_after behind before) (x ∷ [])
from_more void behind [] x = refl
from_more void behind (y ∷ ys) x =
    elim (is_function y.sign && not (is_as_asked void behind)) as (λ t. (if t then functions_from void (is_void y.sign) (ys ++ x ∷ []) else y ∷ functions_from void (is_void y.sign) (ys ++ x ∷ []))
    ≡ (if t then functions_from void (is_void y.sign) ys else y ∷ functions_from void (is_void y.sign) ys) ++ functions_from void (void_after (is_void y.sign) ys) (x ∷ [])) [
      | true ↦ from_more void (is_void y.sign) ys x
      | false ↦ ap (λ (zs : List Item). y ∷ zs) (from_more void (is_void y.sign) ys x)
    ]

pub of_more : (void : Bool) (before : List Item) (x : Item) → of_functions void (before ++ x ∷ []) ≡ of_functions void before ++ functions_from void (stands_behind is_void before) (x ∷ [])
of_more void before x =
    from_more void false before x ∙ ap (λ (b : Bool). of_functions void before ++ functions_from void b (x ∷ [])) (after_last None before)

-- what is dropped is a function
dropped : (s : Sign) (b : Bool) → (is_function s && b) ≡ true → (k : ℕ) × (s ≡ signs.Function k)
dropped (signs.Function k) b e = (k, refl)
dropped _ b e = absurd cc

from_main : (void behind : Bool) (before : List Item) → has_main (functions_from void behind before) ≡ has_main before
from_main void behind [] = refl
from_main void behind (y ∷ ys) =
    elim (is_function y.sign && not (is_as_asked void behind)) as (λ t. (is_function y.sign && not (is_as_asked void behind)) ≡ t → has_main (if t then functions_from void (is_void y.sign) ys else y ∷ functions_from void (is_void y.sign) ys) ≡ (is_main y.sign || has_main ys)) [
      | true ↦ λ e. from_main void (is_void y.sign) ys ∙ sym (ap (λ (s : Sign). is_main s || has_main ys) (dropped y.sign (not (is_as_asked void behind)) e).1)
      | false ↦ λ e. ap (λ (h : Bool). is_main y.sign || h) (from_main void (is_void y.sign) ys)
    ] refl

pub of_main : (void : Bool) (before : List Item) → has_main (of_functions void before) ≡ has_main before
of_main void before = from_main void false before

from_sections : (truths : List Bool) (ss : List Section) (void behind : Bool) (before : List Item) → sections_behind truths ss (functions_from void behind before) ≡ sections_behind truths ss before
from_sections truths ss void behind [] = refl
from_sections truths ss void behind (y ∷ ys) =
    elim (is_function y.sign && not (is_as_asked void behind)) as (λ t. (is_function y.sign && not (is_as_asked void behind)) ≡ t → sections_behind truths ss (if t then functions_from void (is_void y.sign) ys else y ∷ functions_from void (is_void y.sign) ys) ≡ sections_behind truths (sections_after truths ss (directive_of y.sign)) ys) [
      | true ↦ λ e. from_sections truths ss void (is_void y.sign) ys ∙ sym (ap (λ (s : Sign). sections_behind truths (sections_after truths ss (directive_of s)) ys) (dropped y.sign (not (is_as_asked void behind)) e).1)
      | false ↦ λ e. from_sections truths (sections_after truths ss (directive_of y.sign)) void (is_void y.sign) ys
    ] refl

pub of_kept : (truths : List Bool) (void : Bool) (before : List Item) → is_kept truths (of_functions void before) ≡ is_kept truths before
of_kept truths void before = ap all_kept (from_sections truths [] void false before)

-- ---- the functions among items

pub functions_append : (a b : List Item) → functions_of (a ++ b) ≡ functions_of a ++ functions_of b
functions_append [] b = refl
functions_append (x ∷ xs) b = ap (λ (ns : List ℕ). function_of x.sign ++ ns) (functions_append xs b) ∙ sym (append_assoc (function_of x.sign) (functions_of xs) (functions_of b))

-- what is declared behind some items is declared behind these too, and nothing more
record AreStillOf (before after : List Item) : Type 0 where
  any : functions_of (until_main after) ≡ functions_of (until_main before)
  kept_too : (truths : List Bool) → functions_of (kept truths (until_main after)) ≡ functions_of (kept truths (until_main before))

same_until : (before after : List Item) → until_main after ≡ until_main before → AreStillOf before after
same_until before after u = record {
  any = ap functions_of u;
  kept_too = λ truths. ap (λ (ys : List Item). functions_of (kept truths ys)) u;
}

none_kept : (truths : List Bool) (ss : List Section) (x : Item) → function_of x.sign ≡ [] → functions_of (kept_from truths ss (x ∷ [])) ≡ []
none_kept truths ss x e = elim (not (is_group x.sign) && all_kept ss) as (λ t. functions_of (if t then x ∷ [] else []) ≡ []) [ true ↦ ap (λ (ns : List ℕ). ns ++ []) e | false ↦ refl ]

-- before `main` an item more
record AreMoreOf (before : List Item) (x : Item) : Type 0 where
  any : functions_of (until_main (before ++ x ∷ [])) ≡ functions_of (until_main before) ++ function_of x.sign
  kept_too : (truths : List Bool) → functions_of (kept truths (until_main (before ++ x ∷ []))) ≡ functions_of (kept truths (until_main before)) ++ functions_of (kept_from truths (sections_behind truths [] before) (x ∷ []))

more_of : (before : List Item) (x : Item) → has_main before ≡ false → is_main x.sign ≡ false → AreMoreOf before x
more_of before x h m =
    let u : until_main (before ++ x ∷ []) ≡ until_main before ++ x ∷ [] =
    until_on before (x ∷ []) h ∙ ap (λ (b : Bool). before ++ (if b then [] else x ∷ [])) m ∙ ap (λ (ys : List Item). ys ++ x ∷ []) (sym (until_all before h)) in
    record {
      any = ap functions_of u ∙ functions_append (until_main before) (x ∷ []) ∙ ap (λ (ns : List ℕ). functions_of (until_main before) ++ ns) (append-nil (function_of x.sign));
      kept_too = λ truths. ap (λ (ys : List Item). functions_of (kept truths ys)) u ∙ ap functions_of (kept_append truths [] (until_main before) (x ∷ []))
          ∙ functions_append (kept truths (until_main before)) (kept_from truths (sections_behind truths [] (until_main before)) (x ∷ []))
          ∙ ap (λ (ys : List Item). functions_of (kept truths (until_main before)) ++ functions_of (kept_from truths (sections_behind truths [] ys) (x ∷ []))) (until_all before h);
    }

still_main : (before : List Item) (x : Item) → has_main before ≡ false → is_main x.sign ≡ true → AreStillOf before (before ++ x ∷ [])
still_main before x h m = same_until before (before ++ x ∷ [])
    (until_on before (x ∷ []) h ∙ ap (λ (b : Bool). before ++ (if b then [] else x ∷ [])) m ∙ append-nil before ∙ sym (until_all before h))

still_none : (before : List Item) (x : Item) → has_main before ≡ false → is_main x.sign ≡ false → function_of x.sign ≡ [] → AreStillOf before (before ++ x ∷ [])
still_none before x h m e =
    let k = more_of before x h m in
    record {
      any = k.any ∙ ap (λ (ns : List ℕ). functions_of (until_main before) ++ ns) e ∙ append-nil (functions_of (until_main before));
      kept_too = λ truths. k.kept_too truths ∙ ap (λ (ns : List ℕ). functions_of (kept truths (until_main before)) ++ ns) (none_kept truths (sections_behind truths [] before) x e)
          ∙ append-nil (functions_of (kept truths (until_main before)));
    }

still_other : (before : List Item) (x : Item) → function_of x.sign ≡ [] → AreStillOf before (before ++ x ∷ [])
still_other before x e = elim (has_main before) as (λ b. has_main before ≡ b → AreStillOf before (before ++ x ∷ [])) [
  | true ↦ λ h. same_until before (before ++ x ∷ []) (until_behind before (x ∷ []) h)
  | false ↦ λ h. elim (is_main x.sign) as (λ b. is_main x.sign ≡ b → AreStillOf before (before ++ x ∷ [])) [
    | true ↦ λ m. still_main before x h m
    | false ↦ λ m. still_none before x h m e
  ] refl
] refl

-- ---- an item more

-- behind an item more no function more is declared
pub record AreStillFunctions (before : List Item) (x : Item) : Type 0 where
  pub any : (void : Bool) → functions_by void (before ++ x ∷ []) ≡ functions_by void before
  pub kept : (void : Bool) (truths : List Bool) → functions_at truths void (before ++ x ∷ []) ≡ functions_at truths void before

by_kinds : (before : List Item) (x : Item) → ((void : Bool) → AreStillOf (of_functions void before) (of_functions void (before ++ x ∷ []))) → AreStillFunctions before x
by_kinds before x h = record { any = λ void. (h void).any; kept = λ void truths. (h void).kept_too truths }

-- behind `main`
pub called_functions : (before : List Item) (x : Item) → has_main before ≡ true → AreStillFunctions before x
called_functions before x h = by_kinds before x (λ void. same_until (of_functions void before) (of_functions void (before ++ x ∷ []))
    (ap until_main (of_more void before x) ∙ until_behind (of_functions void before) (functions_from void (stands_behind is_void before) (x ∷ [])) (of_main void before ∙ h)))

not_function : (s : Sign) → function_of s ≡ [] → is_function s ≡ false
not_function (signs.Function k) e = absurd cc
not_function _ e = refl

stays : (void behind : Bool) (x : Item) → is_function x.sign ≡ false → functions_from void behind (x ∷ []) ≡ x ∷ []
stays void behind x e = ap (λ (b : Bool). if b && not (is_as_asked void behind) then [] else x ∷ []) e

-- behind an item that is no function
pub other_functions : (before : List Item) (x : Item) → function_of x.sign ≡ [] → AreStillFunctions before x
other_functions before x e = by_kinds before x (λ void.
    subst (λ (ys : List Item). AreStillOf (of_functions void before) ys)
    (sym (of_more void before x ∙ ap (λ (ys : List Item). of_functions void before ++ ys) (stays void (stands_behind is_void before) x (not_function x.sign e))))
    (still_other (of_functions void before) x e))

as_asked : (void : Bool) (k : ℕ) (p : Place) → functions_from void void (at p (signs.Function k) ∷ []) ≡ at p (signs.Function k) ∷ []
as_asked true k p = refl
as_asked false k p = refl

not_asked : (void : Bool) (k : ℕ) (p : Place) → functions_from (not void) void (at p (signs.Function k) ∷ []) ≡ []
not_asked true k p = refl
not_asked false k p = refl

kept_function : (truths : List Bool) (ss : List Section) (p : Place) (k y : ℕ) → is_among y (functions_of (kept_from truths ss (at p (signs.Function k) ∷ []))) ≡ (nat_eq y k && all_kept ss)
kept_function truths ss p k y = elim (all_kept ss) as (λ t. is_among y (functions_of (if t then at p (signs.Function k) ∷ [] else [])) ≡ (nat_eq y k && t)) [
  | true ↦ or_false (nat_eq y k) ∙ sym (and_true (nat_eq y k))
  | false ↦ sym (and_false (nat_eq y k))
]

-- a function that is declared, where it is with `void` or not
pub record IsFunctionMore (before after : List Item) (void : Bool) (k : ℕ) : Type 0 where
  pub like : (y : ℕ) → is_among y (functions_by void after) ≡ (is_among y (functions_by void before) || nat_eq y k)
  pub like_kept : (truths : List Bool) (y : ℕ) → is_among y (functions_at truths void after) ≡ (is_among y (functions_at truths void before) || (nat_eq y k && is_kept truths before))
  pub unlike : functions_by (not void) after ≡ functions_by (not void) before
  pub unlike_kept : (truths : List Bool) → functions_at truths (not void) after ≡ functions_at truths (not void) before

pub more_functions : (before : List Item) (p : Place) (k : ℕ) → has_main before ≡ false → IsFunctionMore before (before ++ at p (signs.Function k) ∷ []) (stands_behind is_void before) k
more_functions before p k h =
    let x : Item = at p (signs.Function k) in
    let void : Bool = stands_behind is_void before in
    let of : List Item = of_functions (stands_behind is_void before) before in
    let whole : of_functions (stands_behind is_void before) (before ++ at p (signs.Function k) ∷ []) ≡ of_functions (stands_behind is_void before) before ++ at p (signs.Function k) ∷ [] =
    of_more void before x ∙ ap (λ (ys : List Item). of ++ ys) (as_asked void k p) in
    let m = more_of (of_functions (stands_behind is_void before) before) x (of_main void before ∙ h) refl in
    let s : of_functions (not (stands_behind is_void before)) (before ++ at p (signs.Function k) ∷ []) ≡ of_functions (not (stands_behind is_void before)) before =
    of_more (not void) before x ∙ ap (λ (ys : List Item). of_functions (not void) before ++ ys) (not_asked void k p) ∙ append-nil (of_functions (not void) before) in
    record {
      like = λ y. ap (λ (ys : List Item). is_among y (functions_of (until_main ys))) whole ∙ ap (is_among y) m.any
          ∙ list_any-append (nat_eq y) (functions_of (until_main of)) (k ∷ []) ∙ ap (λ (b : Bool). is_among y (functions_of (until_main of)) || b) (or_false (nat_eq y k));
      like_kept = λ truths y. ap (λ (ys : List Item). is_among y (functions_of (kept truths (until_main ys)))) whole ∙ ap (is_among y) (m.kept_too truths)
          ∙ list_any-append (nat_eq y) (functions_of (kept truths (until_main of))) (functions_of (kept_from truths (sections_behind truths [] of) (x ∷ [])))
          ∙ ap (λ (b : Bool). is_among y (functions_of (kept truths (until_main of))) || b) (kept_function truths (sections_behind truths [] of) p k y)
          ∙ ap (λ (b : Bool). is_among y (functions_of (kept truths (until_main of))) || (nat_eq y k && b)) (of_kept truths void before);
      unlike = ap (λ (ys : List Item). functions_of (until_main ys)) s;
      unlike_kept = λ truths. ap (λ (ys : List Item). functions_of (kept truths (until_main ys))) s;
    }
