-- Which functions items and one more declare.
use Rattle.std.proofs.Common.{◌≡◌, ℕ, Bool, true, false, not, ◌||◌, ◌&&◌, List, [], ◌∷◌, ◌++◌, Option, Some, None, refl, sym, ap, ◌∙◌, append-nil, append_assoc}
use Rattle.std.specs.Prelude.{if◌then◌else◌}
use Rattle.c_grammar.specs.declared.items.Item.{Item}
use Rattle.c_grammar.specs.declared.items.Sign.{Sign}
use Rattle.c_grammar.specs.declared.items.Sign.TheVariants as signs
use Rattle.c_grammar.specs.Constants.{last_from}
use Rattle.c_grammar.specs.Functions.{is_void, is_function, function_of, has_sign, stands_behind, is_as_asked, functions_from, of_functions}
use Rattle.c_grammar.specs.Grammar.{at}
use Rattle.c_parser.specs.Names.{is_main, has_main, prototypes_of, functions_by}

-- ---- what stands last

-- the last of these items has such a sign, or, where there is none, what stands before them
abbrev pub ends_as : (Sign → Bool) → Bool → List Item → Bool
ends_as is before [] = before
ends_as is before (x ∷ xs) = ends_as is (is x.sign) xs

last_ends : (is : Sign → Bool) (last : Option Item) (items : List Item) → has_sign is (last_from last items) ≡ ends_as is (has_sign is last) items
last_ends is last [] = refl
last_ends is last (x ∷ xs) = last_ends is (Some x) xs

pub stands_last : (is : Sign → Bool) (items : List Item) → stands_behind is items ≡ ends_as is false items
stands_last is items = last_ends is None items

-- ---- the items without some functions

from_more : (void behind : Bool) (before xs : List Item) → functions_from void behind (before ++ xs) ≡ functions_from void behind before ++ functions_from void (ends_as is_void behind before) xs
from_more void behind [] xs = refl
from_more void behind (y ∷ ys) xs =
    elim (is_function y.sign && not (is_as_asked void behind)) as (λ t. (if t then functions_from void (is_void y.sign) (ys ++ xs) else y ∷ functions_from void (is_void y.sign) (ys ++ xs))
    ≡ (if t then functions_from void (is_void y.sign) ys else y ∷ functions_from void (is_void y.sign) ys) ++ functions_from void (ends_as is_void (is_void y.sign) ys) xs) [
      | true ↦ from_more void (is_void y.sign) ys xs
      | false ↦ ap (λ (zs : List Item). y ∷ zs) (from_more void (is_void y.sign) ys xs)
    ]

-- what is left out is a function
pub function_out : (s : Sign) (b : Bool) → (is_function s && b) ≡ true → (k : ℕ) × (s ≡ signs.Function k)
function_out (signs.Function k) b e = (k, refl)
function_out _ b e = absurd cc

from_main : (void behind : Bool) (items : List Item) → has_main (functions_from void behind items) ≡ has_main items
from_main void behind [] = refl
from_main void behind (y ∷ ys) =
    elim (is_function y.sign && not (is_as_asked void behind)) as (λ t. (is_function y.sign && not (is_as_asked void behind)) ≡ t → has_main (if t then functions_from void (is_void y.sign) ys else y ∷ functions_from void (is_void y.sign) ys) ≡ (is_main y.sign || has_main ys)) [
      | true ↦ λ e. from_main void (is_void y.sign) ys ∙ sym (ap (λ (s : Sign). is_main s || has_main ys) (function_out y.sign (not (is_as_asked void behind)) e).1)
      | false ↦ λ e. ap (λ (b : Bool). is_main y.sign || b) (from_main void (is_void y.sign) ys)
    ] refl

-- ---- the functions among the items before `main`

prototypes_same : (before xs : List Item) → has_main before ≡ true → prototypes_of (before ++ xs) ≡ prototypes_of before
prototypes_same [] xs h = absurd cc
prototypes_same (y ∷ ys) xs h =
    elim (is_main y.sign) as (λ b. (b || has_main ys) ≡ true → (if b then [] else function_of y.sign ++ prototypes_of (ys ++ xs)) ≡ (if b then [] else function_of y.sign ++ prototypes_of ys)) [
      | true ↦ λ _. refl
      | false ↦ λ g. ap (λ (ns : List ℕ). function_of y.sign ++ ns) (prototypes_same ys xs g)
    ] h

prototypes_more : (before xs : List Item) → has_main before ≡ false → prototypes_of (before ++ xs) ≡ prototypes_of before ++ prototypes_of xs
prototypes_more [] xs h = refl
prototypes_more (y ∷ ys) xs h =
    elim (is_main y.sign) as (λ b. (b || has_main ys) ≡ false → (if b then [] else function_of y.sign ++ prototypes_of (ys ++ xs)) ≡ (if b then [] else function_of y.sign ++ prototypes_of ys) ++ prototypes_of xs) [
      | true ↦ λ g. absurd cc
      | false ↦ λ g. ap (λ (ns : List ℕ). function_of y.sign ++ ns) (prototypes_more ys xs g) ∙ sym (append_assoc (function_of y.sign) (prototypes_of ys) (prototypes_of xs))
    ] h

no_prototype : (x : Item) → function_of x.sign ≡ [] → prototypes_of (x ∷ []) ≡ []
no_prototype x e = elim (is_main x.sign) as (λ b. (if b then [] else function_of x.sign ++ []) ≡ []) [ true ↦ refl | false ↦ append-nil (function_of x.sign) ∙ e ]

one_alone : (void behind : Bool) (x : Item) → function_of x.sign ≡ [] → prototypes_of (functions_from void behind (x ∷ [])) ≡ []
one_alone void behind x e = elim (is_function x.sign && not (is_as_asked void behind)) as (λ t. prototypes_of (if t then [] else x ∷ []) ≡ []) [ true ↦ refl | false ↦ no_prototype x e ]

-- ---- one item more

by_more : (void : Bool) (before : List Item) (x : Item) → functions_by void (before ++ x ∷ []) ≡ prototypes_of (of_functions void before ++ functions_from void (ends_as is_void false before) (x ∷ []))
by_more void before x = ap prototypes_of (from_more void false before (x ∷ []))

-- behind `main` no function is declared
pub functions_behind : (void : Bool) (before : List Item) (x : Item) → has_main before ≡ true → functions_by void (before ++ x ∷ []) ≡ functions_by void before
functions_behind void before x h = by_more void before x ∙ prototypes_same (of_functions void before) (functions_from void (ends_as is_void false before) (x ∷ [])) (from_main void false before ∙ h)

-- an item that is no function declares none
pub functions_still : (void : Bool) (before : List Item) (x : Item) → function_of x.sign ≡ [] → functions_by void (before ++ x ∷ []) ≡ functions_by void before
functions_still void before x e = elim (has_main before) as (λ b. has_main before ≡ b → functions_by void (before ++ x ∷ []) ≡ functions_by void before) [
  | true ↦ λ h. functions_behind void before x h
  | false ↦ λ h. by_more void before x ∙ prototypes_more (of_functions void before) (functions_from void (ends_as is_void false before) (x ∷ [])) (from_main void false before ∙ h)
      ∙ ap (λ (ns : List ℕ). functions_by void before ++ ns) (one_alone void (ends_as is_void false before) x e) ∙ append-nil (functions_by void before)
] refl

-- a function is declared as what stands before it says
pub functions_on : (void : Bool) (before : List Item) (x : Item) (k : ℕ) → has_main before ≡ false → x.sign ≡ signs.Function k
    → functions_by void (before ++ x ∷ []) ≡ functions_by void before ++ (if is_as_asked void (stands_behind is_void before) then k ∷ [] else [])
functions_on void before x k h e =
    by_more void before x ∙ prototypes_more (of_functions void before) (functions_from void (ends_as is_void false before) (x ∷ [])) (from_main void false before ∙ h)
    ∙ ap (λ (s : Sign). functions_by void before ++ prototypes_of (functions_from void (ends_as is_void false before) (at x.place s ∷ []))) e
    ∙ ap (λ (b : Bool). functions_by void before ++ prototypes_of (functions_from void b (at x.place (signs.Function k) ∷ []))) (sym (stands_last is_void before))
    ∙ ap (λ (ns : List ℕ). functions_by void before ++ ns) (elim (is_as_asked void (stands_behind is_void before)) as (λ b. prototypes_of (if not b then [] else at x.place (signs.Function k) ∷ []) ≡ (if b then k ∷ [] else [])) [ true ↦ refl | false ↦ refl ])
