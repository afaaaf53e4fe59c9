-- The names that the items of a file with groups declare, and the first fault of a name (ISO/IEC 9899:2011, 6.5.1 and 6.7).
-- Before `main` each name is that of a declaration, and so is a name of `main` behind a word of a type, `const` or a comma; each other
-- name of `main` is used. The scope of a name begins behind its declarator and initialiser, since it has no value before, and goes on to
-- the end of its block, or of the file where it stands before `main` (6.2.1); in it the name is not declared again. Variables of one name in
-- blocks beside one another are one variable, so a static one (6.2.4p3) is the only one of its name in `main`. A valid configuration
-- gives each condition a truth, and keeps the items that stand in kept groups. The name of an integer feature may be used in `main`: it is
-- that of a variable which begins with the feature's value, and is never changed. A function is declared before `main` and called behind
-- it (6.5.2.2 and 6.7.6.3).
use Rattle.std.specs.Prelude.{◌≡◌, ℕ, ◌+◌, ℤ, ◌-ℤ◌, unsigned_abs, nat_eq, nat_le, nat_lt, Bool, true, false, not, ◌&&◌, ◌||◌, List, [], ◌∷◌, ◌++◌, length, map, slice_get, Option, Some, None, if◌then◌else◌}
use Rattle.std.specs.List.{list_any, filter, sum_by}
use Rattle.std.specs.Str.{bytes_eq}
use Rattle.fam_outer.specs.declared.faults.Place.{Place}
use Rattle.fam_outer.specs.declared.faults.FileCode.{FileCode}
use Rattle.fam_outer.specs.declared.faults.FileCode.TheVariants.{Undeclared, Twice, FeatureInCode, TooManyVariables, TooManyValueTests, ChangedConstant, TooManyConstants}
use Rattle.linear_atoms.specs.declared.atoms.Atom.{Atom}
use Rattle.linear_atoms.specs.declared.atoms.Config.{Config}
use Rattle.linear_atoms.specs.declared.atoms.Feature.{Feature}
use Rattle.cpp_conditions.specs.declared.formulas.Formula.{Formula}
use Rattle.cpp_conditions.specs.declared.models.Model.{Model}
use Rattle.cpp_conditions.specs.Numbering.{vector_at}
use Rattle.cpp_conditions.specs.Propositions.{true_on}
use Rattle.cpp_conditions.specs.View.{formula}
use Rattle.cpp_groups.specs.declared.section.Section.{Section}
use Rattle.cpp_groups.specs.Kept.{all_kept, sections_after}
use Rattle.c_grammar.specs.declared.items.Item.{Item}
use Rattle.c_grammar.specs.declared.items.Sign.{Sign}
use Rattle.c_grammar.specs.declared.items.Sign.TheVariants as signs
use Rattle.c_grammar.specs.declared.constants.NameKind.TheVariants as kinds
use Rattle.c_grammar.specs.Changes.{changed_at}
use Rattle.c_grammar.specs.Constants.{is_constant, kind_after, of_constants}
use Rattle.c_grammar.specs.declared.constants.NameClass.{NameClass}
use Rattle.c_grammar.specs.declared.constants.NameClass.TheVariants as classes
use Rattle.c_grammar.specs.Classes.{class_of, is_class, class_in}
use Rattle.c_grammar.specs.Scopes.{in_scope, barred}
use Rattle.c_grammar.specs.Functions.{is_void, is_equals, stands_behind}
use Rattle.c_grammar.specs.Kept.{directive_of, kept}
use Rattle.c_grammar.specs.Locals.{declares_behind, is_in_own}
pub use Rattle.c_grammar.specs.Locals.{name_of, names_of, declared_by}
use Rattle.atom_solver.specs.Solutions.{Finds}
use Rattle.family_names.specs.Functions.{functions_at, callable_by, callable_at}
pub use Rattle.family_names.specs.AroundMain.{is_main, has_main, until_main, behind_main}

-- ---- declared names

-- the names that are in scope behind the items where each condition has a truth
abbrev pub in_scope_at : List Bool → List Item → List ℕ
in_scope_at truths items = names_of (kept truths (in_scope items))

-- the names that the next declarator may not declare where each condition has a truth: those that are in scope, and, whatever block they are
-- declared in, the static ones of `main`, or all of `main` where the next one is static
abbrev pub taken_at : List Bool → List Item → List ℕ
taken_at truths items = in_scope_at truths items ++ names_of (kept truths (barred items))

-- those in scope that are declared as constants
abbrev pub constants_at : List Bool → List Item → List ℕ
constants_at truths items = in_scope_at truths (of_constants items)

abbrev pub is_among : ℕ → List ℕ → Bool
is_among x numbers = list_any (nat_eq x) numbers

-- a number behind others, if it is not among them
abbrev pub with_number : List ℕ → ℕ → List ℕ
with_number seen x = if is_among x seen then seen else seen ++ x ∷ []

-- these numbers and others behind them, each once
abbrev pub each_once : List ℕ → List ℕ → List ℕ
each_once seen [] = seen
each_once seen (x ∷ xs) = each_once (with_number seen x) xs

-- ---- classes of declared names

-- the names of a class that the items declare, each once
abbrev pub names_of_class : NameClass → List Item → List ℕ
names_of_class class items = filter (λ x. is_class class (class_in items x)) (each_once [] (declared_by items))

abbrev pub constants_of : List Item → List ℕ
constants_of items = names_of_class classes.Constant items

-- the class of a name that is declared behind the items, where it is its first declaration
abbrev pub class_behind : List Item → NameClass
class_behind items = class_of (has_main items) (is_constant (kind_after kinds.Variable items))

-- ---- kept items

-- the sections that are open behind these items
abbrev pub sections_behind : List Bool → List Section → List Item → List Section
sections_behind truths sections [] = sections
sections_behind truths sections (x ∷ xs) = sections_behind truths (sections_after truths sections (directive_of x.sign)) xs

-- what stands behind these items is kept
abbrev pub is_kept : List Bool → List Item → Bool
is_kept truths before = all_kept (sections_behind truths [] before)

-- ---- configurations

-- what the items of a file are judged by: a model, the atoms and the conditions of the file's groups, its names, and the words of
-- its functions
pub record NameContext : Type 0 where
  pub model : Model
  pub atoms : List Atom
  pub conditions : List Formula
  pub names : List (List ℕ)
  pub functions : List (List ℕ)

-- the truths of the conditions, by those of the atoms
abbrev pub truths_on : List Formula → List Bool → List Bool
truths_on conditions vector = map (λ f. true_on vector (formula f)) conditions

-- the truths of the conditions at these values of the features
abbrev pub truths_at : NameContext → List ℤ → List Bool
truths_at context values = truths_on context.conditions (vector_at context.atoms values)

-- ---- features in code

-- the name is a feature's
abbrev pub is_feature_name : Model → Option (List ℕ) → Bool
is_feature_name model None = false
is_feature_name model (Some name) = list_any (λ f. bytes_eq f.name name) model.features

abbrev pub is_feature : NameContext → ℕ → Bool
is_feature context x = is_feature_name context.model (slice_get context.names x)

-- the word of the function is a feature's name
abbrev pub is_feature_function : NameContext → ℕ → Bool
is_feature_function context k = is_feature_name context.model (slice_get context.functions k)

-- the feature with the name, if there is one
abbrev pub feature_in : List Feature → List ℕ → Option Feature
feature_in [] name = None
feature_in (f ∷ fs) name = if bytes_eq f.name name then Some f else feature_in fs name

abbrev pub named_feature : Model → Option (List ℕ) → Option Feature
named_feature model None = None
named_feature model (Some name) = feature_in model.features name

abbrev pub feature_of : NameContext → ℕ → Option Feature
feature_of context x = named_feature context.model (slice_get context.names x)

abbrev pub is_integer : Option Feature → Bool
is_integer None = false
is_integer (Some f) = not f.boolean

-- the name is an integer feature's, which code may use as a value
abbrev pub is_value : NameContext → ℕ → Bool
is_value context x = is_integer (feature_of context x)

-- how many tests tell the value of the feature: high less low
abbrev pub width : Feature → ℕ
width f = unsigned_abs (f.high -ℤ f.low)

abbrev pub width_or_none : Option Feature → ℕ
width_or_none None = 0
width_or_none (Some f) = width f

-- how many tests tell the values of the features with these names
abbrev pub test_count : NameContext → List ℕ → ℕ
test_count context numbers = sum_by (λ x. width_or_none (feature_of context x)) numbers

-- the names of the features that the items use as values, each once
abbrev pub values_of : NameContext → List Item → List ℕ
values_of context items = each_once [] (filter (is_value context) (names_of (behind_main items)))

-- ---- what a configuration keeps

-- the name behind these items is kept, and no declaration of it is in scope, which it is behind its declarator
abbrev pub is_missed : NameContext → List Item → ℕ → List ℤ → Bool
is_missed context before x values =
    is_kept (truths_at context values) before && (is_in_own before x || not (is_among x (in_scope_at (truths_at context values) before)))

-- the name behind these items is kept, and may not be declared there
abbrev pub is_met_again : NameContext → List Item → ℕ → List ℤ → Bool
is_met_again context before x values =
    is_kept (truths_at context values) before && is_among x (taken_at (truths_at context values) before)

-- what stands behind these items is kept, and a declaration of the name as a constant is in scope; or the name is that of a value
abbrev pub is_met_constant : NameContext → List Item → ℕ → List ℤ → Bool
is_met_constant context before x values =
    is_kept (truths_at context values) before && (is_value context x || is_among x (constants_at (truths_at context values) before))

-- the function behind these items is kept, and a declaration of it with another result: with a value where it stands behind `void`,
-- and else with `void`
abbrev pub is_met_unlike : NameContext → List Item → ℕ → List ℤ → Bool
is_met_unlike context before k values =
    is_kept (truths_at context values) before && is_among k (functions_at (truths_at context values) (not (stands_behind is_void before)) before)

-- the function behind these items is kept, and no declaration of it with what is wanted: a value where it stands behind `=`
abbrev pub is_uncallable : NameContext → List Item → ℕ → List ℤ → Bool
is_uncallable context before k values =
    is_kept (truths_at context values) before && not (is_among k (callable_at (truths_at context values) (stands_behind is_equals before) before))

-- ---- faults

-- the code with the values of a configuration that was found, or another one
abbrev pub code_with : (Option (List ℤ) → FileCode) → Option FileCode → Option Config → Option FileCode
code_with code other None = other
code_with code other (Some config) = Some (code (Some config.values))

-- the code with the first valid configuration at which this holds, and another one where there is none
pub record IsWithFirst (model : Model) (holds : List ℤ → Bool) (code : Option (List ℤ) → FileCode) (other fault : Option FileCode) : Type 0 where
  pub found : Option Config
  pub finds : Finds model holds found
  pub fault_is : fault ≡ code_with code other found

-- the first where this is true, else the second
abbrev pub IsEither : Bool → Type 0 → Type 0 → Type 0
IsEither true First Second = First
IsEither false First Second = Second

-- where a feature is used as a value, these are used before it, and so many constants are declared: at its first use the tests are
-- more than 256 with its own, or it is the 17th of them together
abbrev pub value_fault : NameContext → List ℕ → ℕ → ℕ → Option FileCode
value_fault context used constants x =
    if is_among x used then None
    else (if nat_lt 256 (test_count context (used ++ x ∷ [])) then Some TooManyValueTests
    else (if nat_le 16 (constants + length used) then Some TooManyConstants else None))

-- where a name is used: it is an integer feature's, or a Boolean one's, or it has no declaration, or none of it is in scope at some
-- configuration
abbrev pub IsUseFault : NameContext → List Item → ℕ → Option FileCode → Type 0
IsUseFault context before x fault =
    IsEither (is_value context x) (fault ≡ value_fault context (values_of context before) (length (constants_of before)) x)
    (IsEither (is_feature context x) (fault ≡ Some FeatureInCode)
    (IsEither (is_among x (declared_by before)) (IsWithFirst context.model (is_missed context before x) Undeclared None fault) (fault ≡ Some (Undeclared None))))

-- one more name of this class, where there are so many of it, and so many features are used as values, with which constants are counted
abbrev pub full_fault : NameClass → ℕ → ℕ → Option FileCode
full_fault classes.Constant names values = if nat_le 16 (names + values) then Some TooManyConstants else None
full_fault _ names values = if nat_le 16 names then Some TooManyVariables else None

-- a name is a feature's, or it is new and the 17th of its class
abbrev pub new_name_fault : NameContext → List Item → ℕ → Option FileCode
new_name_fault context before x =
    if is_feature context x then Some FeatureInCode
    else (if is_among x (declared_by before) then None
    else full_fault (class_behind before) (length (names_of_class (class_behind before) before)) (length (values_of context before)))

-- where a name is declared: at some configuration it is taken by an earlier declaration, or it is a feature's or the 17th of its class
abbrev pub IsDeclarationFault : NameContext → List Item → ℕ → Option FileCode → Type 0
IsDeclarationFault context before x fault =
    IsWithFirst context.model (is_met_again context before x) Twice (new_name_fault context before x) fault

-- a function whose word is a feature's name
abbrev pub function_fault : NameContext → ℕ → Option FileCode
function_fault context k = if is_feature_function context k then Some FeatureInCode else None

-- where a function is declared: an earlier declaration of it with another result is kept too at some configuration, or its word is a
-- feature's name; it may be declared twice with the same result (6.7)
abbrev pub IsPrototypeFault : NameContext → List Item → ℕ → Option FileCode → Type 0
IsPrototypeFault context before k fault = IsWithFirst context.model (is_met_unlike context before k) Twice (function_fault context k) fault

-- where a function is called: it has no declaration with what is wanted, or at some configuration none of them is kept
abbrev pub IsCallFault : NameContext → List Item → ℕ → Option FileCode → Type 0
IsCallFault context before k fault =
    IsEither (is_among k (callable_by (stands_behind is_equals before) before)) (IsWithFirst context.model (is_uncallable context before k) Undeclared None fault) (fault ≡ Some (Undeclared None))

-- a name behind these items is used: it stands in `main`, and not where it is declared
abbrev pub is_used_behind : List Item → Bool
is_used_behind before = has_main before && not (declares_behind before)

-- the fault of an item behind these
abbrev pub IsNameFault : NameContext → List Item → Sign → Option FileCode → Type 0
IsNameFault context before (signs.Name x) fault =
    IsEither (is_used_behind before) (IsUseFault context before x fault) (IsDeclarationFault context before x fault)
IsNameFault context before (signs.Function k) fault =
    IsEither (has_main before) (IsCallFault context before k fault) (IsPrototypeFault context before k fault)
IsNameFault context before _ fault = fault ≡ None

-- where a name is changed: at some configuration it is kept, and it is a value's or a declaration of it as a constant is in scope;
-- whichever is not told
abbrev pub IsChangeOf : NameContext → List Item → Option (ℕ × Place) → Option FileCode → Type 0
IsChangeOf context before None fault = fault ≡ None
IsChangeOf context before (Some change) fault = IsWithFirst context.model (is_met_constant context before change.0) (λ example. ChangedConstant) None fault

-- the fault of a name that an item changes, together with the last one of those before it: only behind `main`
abbrev pub IsChangeFault : NameContext → List Item → Item → Option FileCode → Type 0
IsChangeFault context before x fault = IsEither (has_main before) (IsChangeOf context before (changed_at before x) fault) (fault ≡ None)

-- the place of the name that is changed
abbrev pub place_or : Option (ℕ × Place) → Place → Place
place_or None place = place
place_or (Some change) place = change.1

abbrev pub changed_place : List Item → Item → Place
changed_place before x = place_or (changed_at before x) x.place

-- the fault of an item at its place if it has one, else a later one
abbrev pub IsThisOr : Option FileCode → Place → Option (FileCode × Place) → Type 0 → Type 0
IsThisOr (Some code) place fault later = fault ≡ Some (code, place)
IsThisOr None place fault later = later

-- a constant that an item changes, else a later fault
abbrev pub IsChangeOr : NameContext → List Item → Item → Option (FileCode × Place) → Type 0 → Type 0
IsChangeOr context before x fault later = (code : Option FileCode) × IsChangeFault context before x code × IsThisOr code (changed_place before x) fault later

-- the first fault of a name among the items behind these: of an item that is its own name before what it changes, whose name
-- stands at it or directly before it
abbrev pub IsFaultFrom : NameContext → List Item → List Item → Option (FileCode × Place) → Type 0
IsFaultFrom context before [] fault = fault ≡ None
IsFaultFrom context before (x ∷ xs) fault =
    (code : Option FileCode) × IsNameFault context before x.sign code × IsThisOr code x.place fault (IsChangeOr context before x fault (IsFaultFrom context (before ++ x ∷ []) xs fault))

-- the first fault of a name in a file
abbrev pub IsFirstNameFault : NameContext → List Item → Option (FileCode × Place) → Type 0
IsFirstNameFault context items fault = IsFaultFrom context [] items fault
