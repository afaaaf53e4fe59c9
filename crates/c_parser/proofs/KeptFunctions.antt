-- Functions of the items that stay are declared and called as those of the family's items, since directives stand apart.
use Rattle.std.proofs.Common.{◌≡◌, ℕ, Bool, true, false, not, ◌&&◌, List, [], ◌∷◌, ◌++◌, Option, Some, None, refl, sym, ap, subst, ◌∙◌}
use Rattle.std.specs.Prelude.{ℤ, if◌then◌else◌}
use Rattle.fam_outer.specs.declared.faults.FileCode.{FileCode}
use Rattle.fam_outer.specs.declared.faults.FileCode.TheVariants.{Undeclared, Twice}
use Rattle.cpp_conditions.specs.Validity.{plain, IsValid}
use Rattle.cpp_groups.specs.declared.section.Section.{Section}
use Rattle.cpp_groups.specs.Kept.{all_kept, sections_after}
use Rattle.c_grammar.specs.declared.constants.NameKind.{NameKind}
use Rattle.c_grammar.specs.declared.constants.NameKind.TheVariants as kinds
use Rattle.c_grammar.specs.declared.items.Item.{Item}
use Rattle.c_grammar.specs.declared.items.Sign.{Sign}
use Rattle.c_grammar.specs.declared.items.Sign.TheVariants as signs
use Rattle.c_grammar.specs.Constants.{kind_behind, is_joining, IsBetween, AreApart}
use Rattle.c_grammar.specs.Functions.{is_void, is_equals, is_function, function_of, stands_behind, is_as_asked, functions_from, of_functions, functions_of}
use Rattle.c_grammar.specs.Grammar.{is_group}
use Rattle.c_grammar.specs.Kept.{directive_of, kept_from, kept}
use Rattle.family_names.specs.Functions.{functions_at, callable_by, callable_at}
use Rattle.family_names.specs.Names.{NameContext, truths_at, is_main, has_main, until_main, is_among, is_kept, is_met_unlike, is_uncallable, function_fault, IsWithFirst, IsEither, IsNameFault, IsCallFault, IsPrototypeFault}
use Rattle.c_parser.specs.Names as alone
use Rattle.c_parser.proofs.PrototypesBehind.{function_out}
use Rattle.c_parser.proofs.KeptNames.{MainStays, has_main_kept, until_main_kept, nowhere, stays_next, and_right, not_false}
use Rattle.c_parser.proofs.KeptStates.{both_ways, AreLike, like_next, AreOthers, no_join, KnowNothing, by_last, stands_kept, by_out, right, either}

-- ---- what stands last

-- behind such a sign a statement or a declaration goes on
abbrev Joins : (Sign → Bool) → Type 0
Joins is = (s : Sign) → is s ≡ true → is_joining s ≡ true

void_joins : Joins is_void
void_joins signs.Void e = refl
void_joins _ e = absurd cc

equals_joins : Joins is_equals
equals_joins signs.Equals e = refl
equals_joins _ e = absurd cc

not_so : (b joined : Bool) → (b ≡ true → joined ≡ true) → joined ≡ false → b ≡ false
not_so true joined h e = absurd (both_ways joined (h refl) e)
not_so false joined h e = refl

others : (is : Sign → Bool) → Joins is → AreOthers is
others is joins s g = not_so (is s) (is_joining s) (joins s) (no_join s g)

-- no directive stands behind such a sign
none_joined : (is : Sign → Bool) → Joins is → (kind : NameKind) (joined all : Bool) (items : List Item) → AreApart kind joined items → (all ≡ true → joined ≡ true) → KnowNothing (by_last is) false all items
none_joined is joins kind joined all [] a h = tt
none_joined is joins kind joined all (x ∷ xs) a h =
    (λ g. not_so all joined h (subst (λ (t : Bool). IsBetween t kind joined) g a.0).1, none_joined is joins (kind_behind kind x.sign) (is_joining x.sign) (is x.sign) xs a.1 (joins x.sign))

-- what stands directly before an item that stays is what stands there in what stays
joins_kept : (is : Sign → Bool) → Joins is → (truths : List Bool) (before : List Item) → AreApart kinds.Variable false before → is_kept truths before ≡ true → stands_behind is (kept truths before) ≡ stands_behind is before
joins_kept is joins truths before a k = stands_kept is (others is joins) truths before (none_joined is joins kinds.Variable false false before a (λ e. absurd cc)) k

-- ---- the functions of what stays

function_plain : (b : Bool) (s : Sign) → (is_function s && b) ≡ true → is_group s ≡ false
function_plain b s e = ap is_group (function_out s b e).1

here_or_gone : (truths : List Bool) (ss : List Section) (void here all : Bool) (x : Item) (xs : List Item) (keep : Bool) → (not (is_group x.sign) && all_kept ss) ≡ keep → (keep ≡ true → here ≡ all)
    → functions_from void (if keep then is_void x.sign else here) (kept_from truths (sections_after truths ss (directive_of x.sign)) xs) ≡ kept_from truths (sections_after truths ss (directive_of x.sign)) (functions_from void (is_void x.sign) xs)
    → functions_from void here (if keep then x ∷ kept_from truths (sections_after truths ss (directive_of x.sign)) xs else kept_from truths (sections_after truths ss (directive_of x.sign)) xs) ≡ kept_from truths ss (functions_from void all (x ∷ xs))
here_or_gone truths ss void here all x xs true k same rest =
    ap (λ (b : Bool). if is_function x.sign && not (is_as_asked void b) then functions_from void (is_void x.sign) (kept_from truths (sections_after truths ss (directive_of x.sign)) xs) else x ∷ functions_from void (is_void x.sign) (kept_from truths (sections_after truths ss (directive_of x.sign)) xs)) (same refl)
    ∙ ap (λ (ys : List Item). if is_function x.sign && not (is_as_asked void all) then ys else x ∷ ys) rest
    ∙ by_out truths ss x (functions_from void (is_void x.sign) xs) (is_function x.sign && not (is_as_asked void all)) true (function_plain (not (is_as_asked void all)) x.sign) k
here_or_gone truths ss void here all x xs false k same rest =
    rest
    ∙ sym (either (is_function x.sign && not (is_as_asked void all)) (kept_from truths (sections_after truths ss (directive_of x.sign)) (functions_from void (is_void x.sign) xs)))
    ∙ by_out truths ss x (functions_from void (is_void x.sign) xs) (is_function x.sign && not (is_as_asked void all)) false (function_plain (not (is_as_asked void all)) x.sign) k

-- the functions of what stays are what stays of the functions
functions_kept : (truths : List Bool) (ss : List Section) (void here all : Bool) (items : List Item) → KnowNothing (by_last is_void) false all items → AreLike false ss here all → functions_from void here (kept_from truths ss items) ≡ kept_from truths ss (functions_from void all items)
functions_kept truths ss void here all [] h l = refl
functions_kept truths ss void here all (x ∷ xs) h l =
    here_or_gone truths ss void here all x xs (not (is_group x.sign) && all_kept ss) refl (λ k. l.kept (right (not (is_group x.sign)) (all_kept ss) k))
    (functions_kept truths (sections_after truths ss (directive_of x.sign)) void (if (not (is_group x.sign) && all_kept ss) then is_void x.sign else here) (is_void x.sign) xs h.1
    (like_next (by_last is_void) false (λ y g. others is_void void_joins y.sign g) truths ss x here all l h.0))

-- ---- the functions that what stays declares

main_of_functions : (truths : List Bool) (ss : List Section) (void behind : Bool) (items : List Item) → MainStays truths ss items → MainStays truths ss (functions_from void behind items)
main_of_functions truths ss void behind [] h = tt
main_of_functions truths ss void behind (x ∷ xs) h =
    elim (is_function x.sign && not (is_as_asked void behind)) as (λ t. (is_function x.sign && not (is_as_asked void behind)) ≡ t → MainStays truths ss (if t then functions_from void (is_void x.sign) xs else x ∷ functions_from void (is_void x.sign) xs)) [
      | true ↦ λ e. (
          let k : MainStays truths ss xs = subst (λ (s : Sign). IsEither (is_main s) (all_kept ss ≡ true) (MainStays truths (sections_after truths ss (directive_of s)) xs)) (function_out x.sign (not (is_as_asked void behind)) e).1 h in
          main_of_functions truths ss void (is_void x.sign) xs k)
      | false ↦ λ e. (elim (is_main x.sign) as (λ b. IsEither b (all_kept ss ≡ true) (MainStays truths (sections_after truths ss (directive_of x.sign)) xs) → IsEither b (all_kept ss ≡ true) (MainStays truths (sections_after truths ss (directive_of x.sign)) (functions_from void (is_void x.sign) xs))) [
        | true ↦ λ k. k
        | false ↦ λ k. main_of_functions truths (sections_after truths ss (directive_of x.sign)) void (is_void x.sign) xs k
      ] h)
    ] refl

prototypes_alone : (xs : List Item) → alone.prototypes_of xs ≡ functions_of (until_main xs)
prototypes_alone [] = refl
prototypes_alone (x ∷ xs) = elim (is_main x.sign) as (λ b. (if b then [] else function_of x.sign ++ alone.prototypes_of xs) ≡ functions_of (if b then [] else x ∷ until_main xs)) [
  | true ↦ refl
  | false ↦ ap (λ (ns : List ℕ). function_of x.sign ++ ns) (prototypes_alone xs)
]

pub functions_alone : (truths : List Bool) (void : Bool) (before : List Item) → AreApart kinds.Variable false before → MainStays truths [] before → alone.functions_by void (kept truths before) ≡ functions_at truths void before
functions_alone truths void before a m =
    prototypes_alone (of_functions void (kept truths before))
    ∙ ap (λ (ys : List Item). functions_of (until_main ys)) (functions_kept truths [] void false false before (none_joined is_void void_joins kinds.Variable false false before a (λ e. absurd cc)) (record { kept = λ _. refl; gone = λ _. refl }))
    ∙ ap functions_of (until_main_kept truths [] (of_functions void before) (main_of_functions truths [] void false before m))

pub callable_alone : (truths : List Bool) (wants : Bool) (before : List Item) → AreApart kinds.Variable false before → MainStays truths [] before → alone.callable_by wants (kept truths before) ≡ callable_at truths wants before
callable_alone truths true before a m = functions_alone truths false before a m
callable_alone truths false before a m =
    ap (λ (ns : List ℕ). ns ++ alone.functions_by true (kept truths before)) (functions_alone truths false before a m)
    ∙ ap (λ (ns : List ℕ). functions_at truths false before ++ ns) (functions_alone truths true before a m)

pub void_kept : (truths : List Bool) (before : List Item) → AreApart kinds.Variable false before → is_kept truths before ≡ true → stands_behind is_void (kept truths before) ≡ stands_behind is_void before
void_kept truths before a k = joins_kept is_void void_joins truths before a k

pub equals_kept : (truths : List Bool) (before : List Item) → AreApart kinds.Variable false before → is_kept truths before ≡ true → stands_behind is_equals (kept truths before) ≡ stands_behind is_equals before
equals_kept truths before a k = joins_kept is_equals equals_joins truths before a k

-- the fault of a function that stays is told by the functions that stay
pub call_alone : (truths : List Bool) (before : List Item) (k : ℕ) → AreApart kinds.Variable false before → MainStays truths [] before → is_kept truths before ≡ true
    → alone.call_fault (kept truths before) k ≡ alone.uncallable_fault (callable_at truths (stands_behind is_equals before) before) k
call_alone truths before k a m s =
    ap (λ (b : Bool). alone.uncallable_fault (alone.callable_by b (kept truths before)) k) (equals_kept truths before a s)
    ∙ ap (λ (ns : List ℕ). alone.uncallable_fault ns k) (callable_alone truths (stands_behind is_equals before) before a m)

pub prototype_alone : (truths : List Bool) (before : List Item) (k : ℕ) → AreApart kinds.Variable false before → MainStays truths [] before → is_kept truths before ≡ true
    → alone.prototype_fault (kept truths before) k ≡ alone.unlike_fault (functions_at truths (not (stands_behind is_void before)) before) k
prototype_alone truths before k a m s =
    ap (λ (b : Bool). alone.unlike_fault (alone.functions_by (not b) (kept truths before)) k) (void_kept truths before a s)
    ∙ ap (λ (ns : List ℕ). alone.unlike_fault ns k) (functions_alone truths (not (stands_behind is_void before)) before a m)

-- ---- a function without a fault

is_callable : (context : NameContext) (before : List Item) (k : ℕ) (values : List ℤ) → IsCallFault context before k None → IsValid (plain context.model) values → is_uncallable context before k values ≡ false
is_callable context before k values h v =
    elim (is_among k (callable_by (stands_behind is_equals before) before)) as (λ b. IsEither b (IsWithFirst context.model (is_uncallable context before k) Undeclared None None) (◌≡◌ {A = Option FileCode} None (Some (Undeclared None))) → is_uncallable context before k values ≡ false) [
      | true ↦ λ w. nowhere context.model (is_uncallable context before k) Undeclared None values w v
      | false ↦ λ e. absurd cc
    ] h

call_fine : (context : NameContext) (values : List ℤ) (before : List Item) (k : ℕ) → AreApart kinds.Variable false before → IsValid (plain context.model) values → MainStays (truths_at context values) [] before → is_kept (truths_at context values) before ≡ true → IsCallFault context before k None
    → alone.call_fault (kept (truths_at context values) before) k ≡ None
call_fine context values before k a v m s h =
    let truths = truths_at context values in
    let there : is_among k (callable_at (truths_at context values) (stands_behind is_equals before) before) ≡ true =
    not_false (is_among k (callable_at truths (stands_behind is_equals before) before)) (sym (ap (λ (b : Bool). b && not (is_among k (callable_at truths (stands_behind is_equals before) before))) s) ∙ is_callable context before k values h v) in
    call_alone truths before k a m s ∙ ap (λ (b : Bool). if b then None else Some (Undeclared None)) there

prototype_fine : (context : NameContext) (values : List ℤ) (before : List Item) (k : ℕ) → AreApart kinds.Variable false before → IsValid (plain context.model) values → MainStays (truths_at context values) [] before → is_kept (truths_at context values) before ≡ true → IsPrototypeFault context before k None
    → alone.prototype_fault (kept (truths_at context values) before) k ≡ None
prototype_fine context values before k a v m s h =
    let truths = truths_at context values in
    let none : is_among k (functions_at (truths_at context values) (not (stands_behind is_void before)) before) ≡ false =
    sym (ap (λ (b : Bool). b && is_among k (functions_at truths (not (stands_behind is_void before)) before)) s) ∙ nowhere context.model (is_met_unlike context before k) Twice (function_fault context k) values h v in
    prototype_alone truths before k a m s ∙ ap (λ (b : Bool). if b then Some (Twice None) else None) none

-- a function that stays has no fault
pub function_fine : (context : NameContext) (o : alone.Outside) (values : List ℤ) (before : List Item) (x : Item) → AreApart kinds.Variable false before → IsValid (plain context.model) values → MainStays (truths_at context values) [] before → IsNameFault context before x.sign None
    → (k : ℕ) → x.sign ≡ signs.Function k → stays_next (truths_at context values) before x ≡ true → alone.name_fault o (kept (truths_at context values) before) x.sign ≡ None
function_fine context o values before x a v m h k e s =
    let truths = truths_at context values in
    let here : is_kept (truths_at context values) before ≡ true = and_right (not (is_group x.sign)) (is_kept truths before) s in
    ap (alone.name_fault o (kept truths before)) e
    ∙ ap (λ (b : Bool). if b then alone.call_fault (kept truths before) k else alone.prototype_fault (kept truths before) k) (has_main_kept truths [] before m)
    ∙ elim (has_main before) as (λ b. IsEither b (IsCallFault context before k None) (IsPrototypeFault context before k None) → (if b then alone.call_fault (kept (truths_at context values) before) k else alone.prototype_fault (kept (truths_at context values) before) k) ≡ None) [
      | true ↦ λ c. call_fine context values before k a v m here c
      | false ↦ λ c. prototype_fine context values before k a v m here c
    ] (subst (λ (s : Sign). IsNameFault context before s None) e h)
