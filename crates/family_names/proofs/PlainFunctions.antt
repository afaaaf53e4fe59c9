-- Without groups each declaration of a function is kept.
use Rattle.std.proofs.Common.{◌≡◌, ℕ, ℤ, Bool, true, false, not, ◌&&◌, List, [], ◌∷◌, ◌++◌, Option, Some, None, refl, ap, ◌∙◌}
use Rattle.std.specs.Prelude.{◌||◌, if◌then◌else◌}
use Rattle.fam_outer.specs.declared.faults.FileCode.{FileCode}
use Rattle.fam_outer.specs.declared.faults.FileCode.TheVariants.{Undeclared, Twice}
use Rattle.c_grammar.specs.declared.items.Item.{Item}
use Rattle.c_grammar.specs.Functions.{is_void, is_equals, is_function, stands_behind, is_as_asked, functions_from, of_functions, functions_of}
use Rattle.c_grammar.specs.Grammar.{is_group}
use Rattle.family_names.specs.Functions.{functions_by, functions_at, callable_by, callable_at}
use Rattle.family_names.specs.Names.{NameContext, truths_at, is_main, has_main, until_main, is_among, is_met_unlike, is_uncallable, function_fault, IsWithFirst, IsEither, IsCallFault, IsPrototypeFault}
use Rattle.family_names.specs.Laws.{has_groups, plain_call_fault, PlainFunctions}
use Rattle.family_names.proofs.Answering.{found_same}
use Rattle.family_names.proofs.Plain.{or_first, or_second, all_stay, kept_plain, never_found}

from_none : (void behind : Bool) (w : List Item) → has_groups w ≡ false → has_groups (functions_from void behind w) ≡ false
from_none void behind [] h = refl
from_none void behind (x ∷ xs) h = elim (is_function x.sign && not (is_as_asked void behind)) as (λ t. has_groups (if t then functions_from void (is_void x.sign) xs else x ∷ functions_from void (is_void x.sign) xs) ≡ false) [
  | true ↦ from_none void (is_void x.sign) xs (or_second (is_group x.sign) (has_groups xs) h)
  | false ↦ ap (λ (b : Bool). b || has_groups (functions_from void (is_void x.sign) xs)) (or_first (is_group x.sign) (has_groups xs) h) ∙ from_none void (is_void x.sign) xs (or_second (is_group x.sign) (has_groups xs) h)
]

until_none : (w : List Item) → has_groups w ≡ false → has_groups (until_main w) ≡ false
until_none [] h = refl
until_none (x ∷ xs) h = elim (is_main x.sign) as (λ b. has_groups (if b then [] else x ∷ until_main xs) ≡ false) [
  | true ↦ refl
  | false ↦ ap (λ (b : Bool). b || has_groups (until_main xs)) (or_first (is_group x.sign) (has_groups xs) h) ∙ until_none xs (or_second (is_group x.sign) (has_groups xs) h)
]

functions_plain : (truths : List Bool) (void : Bool) (before : List Item) → has_groups before ≡ false → functions_at truths void before ≡ functions_by void before
functions_plain truths void before h = ap functions_of (all_stay truths (until_main (of_functions void before)) (until_none (of_functions void before) (from_none void false before h)))

callable_plain : (truths : List Bool) (wants : Bool) (before : List Item) → has_groups before ≡ false → callable_at truths wants before ≡ callable_by wants before
callable_plain truths true before h = functions_plain truths false before h
callable_plain truths false before h =
    ap (λ (ns : List ℕ). ns ++ functions_at truths true before) (functions_plain truths false before h) ∙ ap (λ (ns : List ℕ). functions_by false before ++ ns) (functions_plain truths true before h)

uncallable_plain : (context : NameContext) (before : List Item) (k : ℕ) → has_groups before ≡ false → (values : List ℤ) → is_uncallable context before k values ≡ not (is_among k (callable_by (stands_behind is_equals before) before))
uncallable_plain context before k h values =
    ap (λ (b : Bool). b && not (is_among k (callable_at (truths_at context values) (stands_behind is_equals before) before))) (kept_plain (truths_at context values) before h)
    ∙ ap (λ (ns : List ℕ). not (is_among k ns)) (callable_plain (truths_at context values) (stands_behind is_equals before) before h)

unlike_plain : (context : NameContext) (before : List Item) (k : ℕ) → has_groups before ≡ false → (values : List ℤ) → is_met_unlike context before k values ≡ is_among k (functions_by (not (stands_behind is_void before)) before)
unlike_plain context before k h values =
    ap (λ (b : Bool). b && is_among k (functions_at (truths_at context values) (not (stands_behind is_void before)) before)) (kept_plain (truths_at context values) before h)
    ∙ ap (is_among k) (functions_plain (truths_at context values) (not (stands_behind is_void before)) before h)

call_plain : (context : NameContext) (before : List Item) (k : ℕ) (fault : Option FileCode) → has_groups before ≡ false → IsCallFault context before k fault → fault ≡ plain_call_fault before k
call_plain context before k fault h u =
    elim (is_among k (callable_by (stands_behind is_equals before) before)) as (λ a. is_among k (callable_by (stands_behind is_equals before) before) ≡ a
    → IsEither a (IsWithFirst context.model (is_uncallable context before k) Undeclared None fault) (fault ≡ Some (Undeclared None)) → fault ≡ (if a then None else Some (Undeclared None))) [
      | true ↦ λ a w. never_found context.model (is_uncallable context before k) Undeclared None fault (λ values. uncallable_plain context before k h values ∙ ap not a) w
      | false ↦ λ a e. e
    ] refl u

prototype_plain : (context : NameContext) (before : List Item) (k : ℕ) (fault : Option FileCode) → has_groups before ≡ false → IsPrototypeFault context before k fault
    → IsEither (is_among k (functions_by (not (stands_behind is_void before)) before)) (IsWithFirst context.model (λ (values : List ℤ). true) Twice (function_fault context k) fault) (fault ≡ function_fault context k)
prototype_plain context before k fault h w =
    elim (is_among k (functions_by (not (stands_behind is_void before)) before)) as (λ a. is_among k (functions_by (not (stands_behind is_void before)) before) ≡ a
    → IsEither a (IsWithFirst context.model (λ (values : List ℤ). true) Twice (function_fault context k) fault) (fault ≡ function_fault context k)) [
      | true ↦ λ a. record { found = w.found; finds = found_same context.model (is_met_unlike context before k) (λ (values : List ℤ). true) (λ values. unlike_plain context before k h values ∙ a) w.found w.finds; fault_is = w.fault_is }
      | false ↦ λ a. never_found context.model (is_met_unlike context before k) Twice (function_fault context k) fault (λ values. unlike_plain context before k h values ∙ a) w
    ] refl

pub plain_functions : PlainFunctions
plain_functions context before k fault h n =
    elim (has_main before) as (λ m. IsEither m (IsCallFault context before k fault) (IsPrototypeFault context before k fault) → IsEither m (fault ≡ plain_call_fault before k)
    (IsEither (is_among k (functions_by (not (stands_behind is_void before)) before)) (IsWithFirst context.model (λ (values : List ℤ). true) Twice (function_fault context k) fault) (fault ≡ function_fault context k))) [
      | true ↦ λ u. call_plain context before k fault h u
      | false ↦ λ w. prototype_plain context before k fault h w
    ] n
