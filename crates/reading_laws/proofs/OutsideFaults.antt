-- Items whose names have no fault in a family have one first fault of a name, or none, whether all features have values from outside or
-- only those that code may use.
use Rattle.std.proofs.Common.{◌≡◌, ◌⊎◌, ℕ, Bool, true, false, not, ◌&&◌, ◌||◌, cond, List, [], ◌∷◌, ◌++◌, Option, Some, None, refl, sym, ap, subst, ◌∙◌, inl, inr}
use Rattle.std.specs.Prelude.{ℤ, nat_eq, option_map, if◌then◌else◌}
use Rattle.std.specs.List.{filter, list_any}
use Rattle.std.proofs.lemmas.Bool.{eq-eqb, or_right}
use Rattle.std.proofs.lemmas.List.Folds.{list_any-append}
use Rattle.fam_outer.specs.declared.faults.FileCode.{FileCode}
use Rattle.fam_outer.specs.declared.faults.FileCode.TheVariants.{Undeclared, Twice, FeatureInCode, ChangedConstant}
use Rattle.fam_outer.specs.declared.faults.Place.{Place}
use Rattle.cpp_groups.specs.declared.section.Section.{Section}
use Rattle.cpp_groups.specs.Kept.{all_kept, sections_after}
use Rattle.cpp_lines.specs.Faults.{or_later}
use Rattle.c_grammar.specs.declared.items.Item.{Item}
use Rattle.c_grammar.specs.declared.items.Sign.{Sign}
use Rattle.c_grammar.specs.declared.items.Sign.TheVariants as signs
use Rattle.c_grammar.specs.Changes.{is_change, name_at, changed_from, changed_behind, changed_outside, changed_at}
use Rattle.c_grammar.specs.Constants.{last_from}
use Rattle.c_grammar.specs.Grammar.{is_group}
use Rattle.c_grammar.specs.Kept.{directive_of, kept_from}
use Rattle.c_grammar.specs.Locals.{is_in_own, open_behind}
use Rattle.c_grammar.specs.Scopes.{names_in_scope, names_taken}
use Rattle.family_names.specs.Names.{NameContext, is_value, is_feature, IsFirstNameFault}
use Rattle.family_names.proofs.Features.{no_value}
use Rattle.c_parser.specs.FamilyItems.{is_name, has}
use Rattle.c_parser.specs.Names.{Outside, has_main, is_used_behind, constants_in_scope, has_value, limit_fault, name_fault, change_fault, constant_fault, name_fault_from}
use Rattle.c_parser.specs.Names as alone
use Rattle.c_parser.specs.Reading.{outside}
use Rattle.c_parser.specs.Variants.{given_of}
use Rattle.c_parser.proofs.KeptNames.{AreOutside}
use Rattle.reading_laws.proofs.KnownNames.{value_named, both_pass, names_free}
use Rattle.reading_laws.proofs.OutsideNames.{none_outside, some_outside}

abbrev some_code : FileCode → Option FileCode
some_code code = Some code

-- ---- what is known from outside

-- names with values, of which none are counted
abbrev pub uncounted : List ℕ → Outside
uncounted values = record { variables = 0; locals = 0; constants = 0; values = values }

-- those of features, and of these the values
abbrev pub features_at : NameContext → List ℤ → List ℕ
features_at context values = (outside (given_of context.model.features context.functions context.names values)).values

abbrev pub values_at : NameContext → List ℤ → List ℕ
values_at context values = filter (is_value context) (features_at context values)

has_all : (context : NameContext) (values : List ℤ) (n : ℕ) → has_value (uncounted (features_at context values)) n ≡ is_feature context n
has_all context values n = elim (is_feature context n) as (λ b. is_feature context n ≡ b → has_value (uncounted (features_at context values)) n ≡ b) [
  | true ↦ λ e. some_outside context values n e
  | false ↦ λ e. none_outside context values n e
] refl

has_those : (context : NameContext) (values : List ℤ) (n : ℕ) → has_value (uncounted (values_at context values)) n ≡ is_value context n
has_those context values n =
    both_pass (is_value context) (features_at context values) n
    ∙ (elim (is_value context n) as (λ b. is_value context n ≡ b → (b && has_value (uncounted (features_at context values)) n) ≡ b) [
      | true ↦ λ e. has_all context values n ∙ value_named context n e
      | false ↦ λ _. refl
    ] refl)

pub values_outside : (context : NameContext) (values : List ℤ) → AreOutside context (uncounted (values_at context values))
values_outside context values = record { variables = refl; locals = refl; constants = refl; values = has_those context values }

-- ---- both are the same for the names of items

abbrev AgreeAt : List ℕ → List ℕ → Sign → Type 0
AgreeAt ns ms (signs.Name n) = has_value (uncounted ns) n ≡ has_value (uncounted ms) n
AgreeAt ns ms _ = Unit {0}

abbrev AgreeIn : List ℕ → List ℕ → List Item → Type 0
AgreeIn ns ms [] = Unit {0}
AgreeIn ns ms (x ∷ xs) = AgreeAt ns ms x.sign × AgreeIn ns ms xs

abbrev AgreeLast : List ℕ → List ℕ → Option Item → Type 0
AgreeLast ns ms None = Unit {0}
AgreeLast ns ms (Some x) = AgreeAt ns ms x.sign

abbrev AgreeOn : List ℕ → List ℕ → Option (ℕ × Place) → Type 0
AgreeOn ns ms None = Unit {0}
AgreeOn ns ms (Some change) = has_value (uncounted ns) change.0 ≡ has_value (uncounted ms) change.0

agree_at : (ns ms : List ℕ) (changes : Bool) (s : Sign) (p : Place) → AgreeAt ns ms s → AgreeOn ns ms (name_at changes s p)
agree_at ns ms true (signs.Name n) p h = h
agree_at ns ms true _ p h = tt
agree_at ns ms false s p h = tt

agree_from : (ns ms : List ℕ) (p : Place) (s : Sign) (x : Item) → AgreeAt ns ms s → AgreeAt ns ms x.sign → AgreeOn ns ms (changed_from p s x)
agree_from ns ms p signs.PlusPlus x h k = agree_at ns ms true x.sign x.place k
agree_from ns ms p signs.MinusMinus x h k = agree_at ns ms true x.sign x.place k
agree_from ns ms p s x h k = agree_at ns ms (is_change x.sign) s p h

agree_behind : (ns ms : List ℕ) (last : Option Item) (x : Item) → AgreeLast ns ms last → AgreeAt ns ms x.sign → AgreeOn ns ms (changed_behind last x)
agree_behind ns ms None x h k = tt
agree_behind ns ms (Some y) x h k = agree_from ns ms y.place y.sign x h k

agree_outside : (ns ms : List ℕ) (opened : Option ℕ) (last : Option Item) (x : Item) → AgreeLast ns ms last → AgreeAt ns ms x.sign → AgreeOn ns ms (changed_outside opened last x)
agree_outside ns ms None last x h k = agree_behind ns ms last x h k
agree_outside ns ms (Some y) last x h k = tt

last_more : (last : Option Item) (before : List Item) (x : Item) → last_from last (before ++ x ∷ []) ≡ Some x
last_more last [] x = refl
last_more last (y ∷ ys) x = last_more (Some y) ys x

-- ---- so the faults are the same

same_name : (ns ms : List ℕ) (before : List Item) (s : Sign) → AgreeAt ns ms s → name_fault (uncounted ns) before s ≡ name_fault (uncounted ms) before s
same_name ns ms before (signs.Name n) h =
    let declared : Bool = list_any (nat_eq n) (names_in_scope before) in
    let taken : Bool = list_any (nat_eq n) (names_taken before) in
    ap (λ (b : Bool). if is_used_behind before then (if b || (not (is_in_own before n) && declared) then None else some_code (Undeclared None))
    else (if taken then some_code (Twice None) else (if b then some_code FeatureInCode else limit_fault (uncounted ns) n))) h
same_name ns ms before _ h = refl

same_constant : (ns ms constants : List ℕ) (change : Option (ℕ × Place)) → AgreeOn ns ms change → constant_fault (ns ++ constants) change ≡ constant_fault (ms ++ constants) change
same_constant ns ms constants None h = refl
same_constant ns ms constants (Some change) h =
    ap (λ (b : Bool). if b then Some (ChangedConstant, change.1) else None)
    (list_any-append (nat_eq change.0) ns constants ∙ ap (λ (b : Bool). b || list_any (nat_eq change.0) constants) h ∙ sym (list_any-append (nat_eq change.0) ms constants))

same_change : (ns ms : List ℕ) (before : List Item) (x : Item) → AgreeLast ns ms (last_from None before) → AgreeAt ns ms x.sign → change_fault (uncounted ns) before x ≡ change_fault (uncounted ms) before x
same_change ns ms before x h k =
    ap (λ (o : Option (FileCode × Place)). if has_main before then o else None) (same_constant ns ms (constants_in_scope before) (changed_at before x) (agree_outside ns ms (open_behind before) (last_from None before) x h k))

same_from : (ns ms : List ℕ) (before xs : List Item) → AgreeLast ns ms (last_from None before) → AgreeIn ns ms xs → name_fault_from (uncounted ns) before xs ≡ name_fault_from (uncounted ms) before xs
same_from ns ms before [] h k = refl
same_from ns ms before (x ∷ xs) h k =
    let last : AgreeLast ns ms (last_from None (before ++ x ∷ [])) = subst (AgreeLast ns ms) (sym (last_more None before x)) k.0 in
    ap (λ (o : Option FileCode). or_later (option_map (λ code. (code, x.place)) o) (or_later (change_fault (uncounted ns) before x) (name_fault_from (uncounted ns) (before ++ x ∷ []) xs))) (same_name ns ms before x.sign k.0)
    ∙ ap (λ (o : Option (FileCode × Place)). or_later (option_map (λ code. (code, x.place)) (name_fault (uncounted ms) before x.sign)) (or_later o (name_fault_from (uncounted ns) (before ++ x ∷ []) xs))) (same_change ns ms before x h k.0)
    ∙ ap (λ (o : Option (FileCode × Place)). or_later (option_map (λ code. (code, x.place)) (name_fault (uncounted ms) before x.sign)) (or_later (change_fault (uncounted ms) before x) o)) (same_from ns ms (before ++ x ∷ []) xs last k.1)

-- ---- items that stay of those without a fault in a family

agree_kept : (ns ms : List ℕ) (truths : List Bool) (sections : List Section) (xs : List Item) → AgreeIn ns ms xs → AgreeIn ns ms (kept_from truths sections xs)
agree_kept ns ms truths sections [] h = tt
agree_kept ns ms truths sections (x ∷ xs) h =
    let more = kept_from truths (sections_after truths sections (directive_of x.sign)) xs in
    elim (not (is_group x.sign) && all_kept sections) as (λ b. AgreeIn ns ms (cond b (x ∷ more) more)) [
      | true ↦ (h.0, agree_kept ns ms truths (sections_after truths sections (directive_of x.sign)) xs h.1)
      | false ↦ agree_kept ns ms truths (sections_after truths sections (directive_of x.sign)) xs h.1
    ]

-- a name that is no value's is no feature's
known_at : (context : NameContext) (values : List ℤ) (n : ℕ) → (is_feature context n ≡ false) ⊎ (is_value context n ≡ true) → has_value (uncounted (features_at context values)) n ≡ has_value (uncounted (values_at context values)) n
known_at context values n (inl e) = has_all context values n ∙ e ∙ sym (no_value context n e) ∙ sym (has_those context values n)
known_at context values n (inr e) = has_all context values n ∙ value_named context n e ∙ sym e ∙ sym (has_those context values n)

agree_sign : (context : NameContext) (values : List ℤ) (s : Sign) → ((n : ℕ) → is_name n s ≡ true → (is_feature context n ≡ false) ⊎ (is_value context n ≡ true)) → AgreeAt (features_at context values) (values_at context values) s
agree_sign context values (signs.Name n) h = known_at context values n (h n (eq-eqb n n refl))
agree_sign context values _ h = tt

agree_all : (context : NameContext) (values : List ℤ) (xs : List Item) → ((n : ℕ) → has n xs ≡ true → (is_feature context n ≡ false) ⊎ (is_value context n ≡ true)) → AgreeIn (features_at context values) (values_at context values) xs
agree_all context values [] h = tt
agree_all context values (x ∷ xs) h = (
  agree_sign context values x.sign (λ n e. h n (ap (λ (b : Bool). b || has n xs) e)),
  agree_all context values xs (λ n e. h n (or_right (is_name n x.sign) (has n xs) e)),
)

pub same_outside : (context : NameContext) (values : List ℤ) (truths : List Bool) (items : List Item) → IsFirstNameFault context items None
    → alone.first_name_fault (outside (given_of context.model.features context.functions context.names values)) (kept_from truths [] items) ≡ alone.first_name_fault (uncounted (values_at context values)) (kept_from truths [] items)
unfolding alone.first_name_fault
same_outside context values truths items h =
    same_from (features_at context values) (values_at context values) [] (kept_from truths [] items) tt
    (agree_kept (features_at context values) (values_at context values) truths [] items (agree_all context values items (names_free context items h)))
