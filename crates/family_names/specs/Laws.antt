-- Laws of the faults of names.
use Rattle.std.specs.Prelude.{◌≡◌, ℕ, ℤ, Bool, true, false, not, ◌||◌, List, length, Option, Some, None, if◌then◌else◌}
use Rattle.std.specs.List.{list_any}
use Rattle.fam_outer.specs.declared.faults.Place.{Place}
use Rattle.fam_outer.specs.declared.faults.FileCode.{FileCode}
use Rattle.fam_outer.specs.declared.faults.FileCode.TheVariants.{Undeclared, Twice, FeatureInCode}
use Rattle.cpp_conditions.specs.Validity.{plain}
use Rattle.c_grammar.specs.declared.items.Item.{Item}
use Rattle.c_grammar.specs.declared.items.Sign.TheVariants as signs
use Rattle.c_grammar.specs.Grammar.{is_group}
use Rattle.c_grammar.specs.Functions.{is_void, is_equals, stands_behind}
use Rattle.c_grammar.specs.Locals.{is_in_own}
use Rattle.c_grammar.specs.Scopes.{names_in_scope, names_taken}
use Rattle.family_names.specs.Functions.{functions_by, callable_by}
use Rattle.family_names.specs.Names.{NameContext, truths_at, has_main, declared_by, constants_of, values_of, is_among, is_feature, is_value, value_fault, new_name_fault, function_fault, IsWithFirst, IsEither, is_used_behind, IsNameFault, IsFirstNameFault}

-- a group directive stands among the items
abbrev pub has_groups : List Item → Bool
has_groups items = list_any (λ x. is_group x.sign) items

-- a name is used: an integer feature's, or a Boolean one's, or one that is not declared; of one that stands in its own declarator, or
-- behind the block of its declaration, the example is the least valid configuration
abbrev pub IsPlainUseFault : NameContext → List Item → ℕ → Option FileCode → Type 0
IsPlainUseFault context before x fault =
    IsEither (is_value context x) (fault ≡ value_fault context (values_of context before) (length (constants_of before)) x)
    (IsEither (is_feature context x) (fault ≡ Some FeatureInCode)
    (IsEither (not (is_among x (declared_by before))) (fault ≡ Some (Undeclared None))
    (IsEither (is_in_own before x || not (is_among x (names_in_scope before))) (IsWithFirst context.model (λ (values : List ℤ). true) Undeclared None fault) (fault ≡ None))))

-- the fault of a name without groups: of a second declaration of a name that is taken the example is the least valid configuration
abbrev pub IsPlainFault : NameContext → List Item → ℕ → Option FileCode → Type 0
IsPlainFault context before x fault =
    IsEither (is_used_behind before) (IsPlainUseFault context before x fault)
    (IsEither (is_among x (names_taken before)) (IsWithFirst context.model (λ (values : List ℤ). true) Twice (new_name_fault context before x) fault)
    (fault ≡ new_name_fault context before x))

-- behind items without groups, the fault of a name is the plain one
abbrev pub PlainNames : Type 0
PlainNames = (context : NameContext) (before : List Item) (x : ℕ) (fault : Option FileCode) → has_groups before ≡ false → IsNameFault context before (signs.Name x) fault → IsPlainFault context before x fault

-- a function is called
abbrev pub plain_call_fault : List Item → ℕ → Option FileCode
plain_call_fault before k = if is_among k (callable_by (stands_behind is_equals before) before) then None else Some (Undeclared None)

-- the fault of a function without groups: of an unlike declaration the example is the least valid configuration
abbrev pub IsPlainFunctionFault : NameContext → List Item → ℕ → Option FileCode → Type 0
IsPlainFunctionFault context before k fault =
    IsEither (has_main before) (fault ≡ plain_call_fault before k)
    (IsEither (is_among k (functions_by (not (stands_behind is_void before)) before)) (IsWithFirst context.model (λ (values : List ℤ). true) Twice (function_fault context k) fault)
    (fault ≡ function_fault context k))

-- so it is of functions
abbrev pub PlainFunctions : Type 0
PlainFunctions = (context : NameContext) (before : List Item) (k : ℕ) (fault : Option FileCode) → has_groups before ≡ false → IsNameFault context before (signs.Function k) fault → IsPlainFunctionFault context before k fault

-- one is as good as the other: the models have the same features and the same conditions as constraints, the names and the words
-- of functions are the same, and at each values the conditions have the same truths
pub record AreAlike (a b : NameContext) : Type 0 where
  pub models : plain a.model ≡ plain b.model
  pub names : a.names ≡ b.names
  pub functions : a.functions ≡ b.functions
  pub truths : (values : List ℤ) → truths_at a values ≡ truths_at b values

-- over settings that are alike, items have one first fault of a name, or none
abbrev pub NamesAreJudgedOnce : Type 0
NamesAreJudgedOnce = (a b : NameContext) (items : List Item) (f g : Option (FileCode × Place)) → AreAlike a b → IsFirstNameFault a items f → IsFirstNameFault b items g → f ≡ g
