-- What judging the names of items one by one answers.
use Rattle.std.specs.Prelude.{◌≡◌, ℕ, ℤ, Bool, true, false, not, ◌&&◌, ◌||◌, List, [], ◌∷◌, ◌++◌, length, Option, None, Some, option_map, if◌then◌else◌}
use Rattle.fam_outer.specs.declared.faults.Place.{Place}
use Rattle.fam_outer.specs.declared.faults.FileCode.{FileCode}
use Rattle.fam_outer.specs.declared.faults.FileCode.TheVariants.{Undeclared, Twice, FeatureInCode}
use Rattle.cpp_conditions.specs.Validity.{plain, IsValid}
use Rattle.cpp_groups.specs.Kept.{sections_after}
use Rattle.c_grammar.specs.declared.constants.NameClass.{NameClass}
use Rattle.c_grammar.specs.declared.constants.NameClass.TheVariants as classes
use Rattle.c_grammar.specs.declared.items.Item.{Item}
use Rattle.c_grammar.specs.declared.items.Sign.{Sign}
use Rattle.c_grammar.specs.declared.items.Sign.TheVariants as signs
use Rattle.c_grammar.specs.declared.scoped.Scoped.{Scoped}
use Rattle.c_grammar.specs.Changes.{IsTrack}
use Rattle.c_grammar.specs.Classes.{is_class}
use Rattle.c_grammar.specs.Constants.{of_constants}
use Rattle.c_grammar.specs.Grammar.{at}
use Rattle.c_grammar.specs.Kept.{directive_of}
use Rattle.c_grammar.specs.Scoped.{IsSound, is_inside, still}
use Rattle.family_names.specs.declared.declarations.Declaration.{Declaration}
use Rattle.family_names.specs.declared.constants.Constants.{Constants}
use Rattle.family_names.specs.declared.seen.Seen.{Seen}
use Rattle.family_names.specs.declared.functions.Functions.{Functions}
use Rattle.family_names.specs.declared.locals.Locals.{Locals}
use Rattle.family_names.specs.declared.values.Used.{Used}
use Rattle.family_names.specs.declared.groups.Group.{Group}
use Rattle.family_names.specs.declared.faults.Question.{Question}
use Rattle.family_names.specs.declared.faults.Question.TheVariants as questions
use Rattle.family_names.specs.Blocks.{is_shown, left_before, still_at, locals_by, locals_at, with_shown, AddsDeclaration, FollowsBlocks}
use Rattle.family_names.specs.Declarations.{is_declared, has_one}
use Rattle.family_names.specs.Functions.{functions_by, functions_at, callable_by, callable_at}
use Rattle.family_names.specs.Groups.{sections, are_kept}
use Rattle.family_names.specs.Names.{NameContext, truths_at, is_main, has_main, declared_by, names_of_class, values_of, test_count, is_among, with_number, each_once, sections_behind, is_feature, is_value, value_fault, full_fault, function_fault, IsWithFirst, IsEither, IsNameFault, IsChangeFault, changed_place}

-- the declarations tell of each number whether it is among these, and whether it is among those that are kept
pub record Tells (declarations : List Declaration) (numbers : List ℕ) (kept : List Bool → List ℕ) : Type 0 where
  pub any : (x : ℕ) → has_one declarations x ≡ is_among x numbers
  pub kept_is : (truths : List Bool) (x : ℕ) → is_declared truths declarations x ≡ is_among x (kept truths)

-- the declarations of functions with `void`, or those with a value
abbrev pub functions_in : Bool → Functions → List Declaration
functions_in true functions = functions.voids.items
functions_in false functions = functions.values.items

-- those of the functions that may be called: with a value where one is wanted, and else all
abbrev pub callable_in : Bool → Functions → List Declaration
callable_in true functions = functions.values.items
callable_in false functions = functions.all.items

-- what is known of functions behind these items
pub record AreFunctions (before : List Item) (functions : Functions) : Type 0 where
  pub kinds : (void : Bool) → Tells (functions_in void functions) (functions_by void before) (λ truths. functions_at truths void before)
  pub all : Tells functions.all.items (callable_by false before) (λ truths. callable_at truths false before)

-- the declarations of names in `main`, or only the static ones
abbrev pub locals_in : Bool → Locals → List Declaration
locals_in true locals = locals.statics.items
locals_in false locals = locals.all.items

-- what is known of the names that `main` declares in these items, whatever block they stand in
pub record AreLocals (before : List Item) (locals : Locals) : Type 0 where
  pub told : (only : Bool) → Tells (locals_in only locals) (locals_by only before) (λ truths. locals_at truths only before)

-- the names of a class that are seen, each once
abbrev pub names_in : NameClass → Seen → List ℕ
names_in classes.Variable seen = seen.variables.items
names_in classes.Local seen = seen.locals.items
names_in classes.Constant seen = seen.constants.items

-- what is known behind these items
pub record IsSeen (before : List Item) (seen : Seen) : Type 0 where
  pub groups : (truths : List Bool) → sections truths seen.groups ≡ sections_behind truths [] before
  pub main : seen.in_main ≡ has_main before
  pub names : seen.names.items ≡ each_once [] (declared_by before)
  pub classes : (class : NameClass) → names_in class seen ≡ names_of_class class before
  pub sound : IsSound seen.declarations
  pub inside : is_inside seen.declarations ≡ has_main before
  pub declarations : (n : ℕ) (truths : List Bool) (x : ℕ) → is_declared truths (still n seen.declarations) x ≡ is_among x (still_at n truths before)
  pub locals : AreLocals before seen.local_declarations
  pub functions : AreFunctions before seen.functions

-- what is known of features behind these items
pub record AreUsed (context : NameContext) (before : List Item) (used : Used) : Type 0 where
  pub names : used.names.items ≡ values_of context before
  pub tests : used.tests ≡ test_count context used.names.items

-- where one of these is kept at a valid configuration, a declaration of the same name is; so it is too where more blocks are left
pub record AreSettled (context : NameContext) (declarations settled : Scoped Declaration) : Type 0 where
  pub sound : IsSound settled
  pub inside : is_inside settled ≡ is_inside declarations
  pub among : (n : ℕ) (values : List ℤ) (x : ℕ) → IsValid (plain context.model) values → is_declared (truths_at context values) (still n settled) x ≡ true → is_declared (truths_at context values) (still n declarations) x ≡ true

-- no declaration of the name is kept
abbrev pub is_undeclared : NameContext → List Declaration → ℕ → List ℤ → Bool
is_undeclared context declarations x values = not (is_declared (truths_at context values) declarations x)

-- the name that stands in these groups is kept, and no declaration of it
abbrev pub is_missed : NameContext → List Group → List Declaration → ℕ → List ℤ → Bool
is_missed context groups declarations x values = are_kept (truths_at context values) groups && not (is_declared (truths_at context values) declarations x)

-- the name that stands in these groups is kept, and a declaration of it
abbrev pub is_met_again : NameContext → List Group → List Declaration → ℕ → List ℤ → Bool
is_met_again context groups declarations x values = are_kept (truths_at context values) groups && is_declared (truths_at context values) declarations x

-- the answer to the question is yes
abbrev pub is_so : NameContext → List Group → List Declaration → Question → ℕ → List ℤ → Bool
is_so context groups declarations questions.Undeclared = is_undeclared context declarations
is_so context groups declarations questions.Missed = is_missed context groups declarations
is_so context groups declarations questions.MetAgain = is_met_again context groups declarations

-- the declarations whose scope has begun, which is that of none where a name stands in its own declarator
abbrev pub begun : Bool → List Declaration → List Declaration
begun true declarations = []
begun false declarations = declarations

-- the fault of a name that is used and declared, and stands in no declarator of its own
pub record Misses (context : NameContext) (seen : Seen) (settled : Scoped Declaration) (x : ℕ) (fault : Option FileCode) : Type 0 where
  pub fault_is : IsWithFirst context.model (is_missed context seen.groups (still 0 seen.declarations) x) Undeclared None fault
  pub settled_is : AreSettled context seen.declarations settled

-- the fault of a feature that is used as a value; without one it is among those that are used
pub record UsesValue (context : NameContext) (constants : ℕ) (old : Used) (x : ℕ) (new : Used) (fault : Option FileCode) : Type 0 where
  pub fault_is : fault ≡ value_fault context old.names.items constants x
  pub names : fault ≡ None → new.names.items ≡ with_number old.names.items x
  pub tests : fault ≡ None → new.tests ≡ test_count context new.names.items

-- the fault of another name that is used, in its own declarator or not
abbrev pub IsOtherFault : NameContext → Seen → Bool → ℕ → Option FileCode → Type 0
IsOtherFault context seen own x fault =
    IsEither (is_feature context x) (fault ≡ Some FeatureInCode)
    (IsEither (is_among x seen.names.items) (IsWithFirst context.model (is_missed context seen.groups (begun own (still 0 seen.declarations)) x) Undeclared None fault) (fault ≡ Some (Undeclared None)))

-- the fault of a name that is used, in its own declarator or not
pub record Uses (context : NameContext) (seen : Seen) (old : Used) (settled : Scoped Declaration) (own : Bool) (x : ℕ) (new : Used) (fault : Option FileCode) : Type 0 where
  pub fault_is : IsEither (is_value context x) (UsesValue context (length seen.constants.items) old x new fault) (IsOtherFault context seen own x fault × (new ≡ old))
  pub settled_is : AreSettled context seen.declarations settled

-- the declarations that the next one, static or not, may not repeat: those in scope, and, in whatever block, those of `main` that are static,
-- or all of `main` where the next one is
abbrev pub taken_in : Bool → Seen → List Declaration
taken_in static seen = still 0 seen.declarations ++ locals_in (not static) seen.local_declarations

-- the fault of a declaration whose name no declaration before it has at the same configuration: of this class, if the name is new, where so
-- many features are used as values
abbrev pub new_fault : NameContext → Seen → ℕ → NameClass → ℕ → Option FileCode
new_fault context seen values class x =
    if is_feature context x then Some FeatureInCode
    else (if is_among x seen.names.items then None else full_fault class (length (names_in class seen)) values)

abbrev pub IsAgain : NameContext → Seen → ℕ → NameClass → Bool → ℕ → Option FileCode → Type 0
IsAgain context seen values class static x fault = IsWithFirst context.model (is_met_again context seen.groups (taken_in static seen) x) Twice (new_fault context seen values class x) fault

-- a name behind those of a class, where it is of that class and not among all names
abbrev pub with_new : Bool → List ℕ → List ℕ → ℕ → List ℕ
with_new is_of_class names others x = if is_of_class && not (is_among x names) then others ++ x ∷ [] else others

-- the name stands behind those of its class, where it is new
pub record HasName (old : Seen) (class : NameClass) (x : ℕ) (new : Seen) : Type 0 where
  pub groups : new.groups ≡ old.groups
  pub main : new.in_main ≡ old.in_main
  pub names : new.names.items ≡ with_number old.names.items x
  pub variables : new.variables.items ≡ with_new (is_class classes.Variable class) old.names.items old.variables.items x
  pub locals : new.locals.items ≡ with_new (is_class classes.Local class) old.names.items old.locals.items x
  pub constants : new.constants.items ≡ with_new (is_class classes.Constant class) old.names.items old.constants.items x
  pub functions : new.functions ≡ old.functions

-- a declaration in these groups stands behind the others of `main`, if it is one, and behind the static ones, if it is static too
pub record AddsLocal (old : Locals) (groups : List Group) (main static : Bool) (x : ℕ) (new : Locals) : Type 0 where
  pub all : new.all.items ≡ with_shown main old.all.items (record { name = x; groups = groups })
  pub statics : new.statics.items ≡ with_shown (main && static) old.statics.items (record { name = x; groups = groups })

-- and its declaration, which is static or not, behind the others, in the groups that stand here
pub record Adds (old : Seen) (class : NameClass) (static : Bool) (x : ℕ) (new : Seen) : Type 0 where
  pub named : HasName old class x new
  pub declarations : AddsDeclaration old.declarations old.groups x new.declarations
  pub locals : AddsLocal old.local_declarations old.groups old.in_main static x new.local_declarations

-- the fault of a name that is declared, as static or not, where so many features are used as values; without one it is added
pub record Declares (context : NameContext) (old : Seen) (values : ℕ) (class : NameClass) (static : Bool) (x : ℕ) (new : Seen) (fault : Option FileCode) : Type 0 where
  pub fault_is : IsAgain context old values class static x fault
  pub added : fault ≡ None → Adds old class static x new

-- the fault of a call in these groups, where a value is wanted or not
abbrev pub IsCall : NameContext → List Group → Functions → Bool → ℕ → Option FileCode → Type 0
IsCall context groups functions wants k fault =
    IsEither (has_one (callable_in wants functions) k) (IsWithFirst context.model (is_missed context groups (callable_in wants functions) k) Undeclared None fault) (fault ≡ Some (Undeclared None))

-- the fault of a function that is declared in these groups
abbrev pub IsUnlike : NameContext → List Group → Functions → Bool → ℕ → Option FileCode → Type 0
IsUnlike context groups functions void k fault = IsWithFirst context.model (is_met_again context groups (functions_in (not void) functions) k) Twice (function_fault context k) fault

-- the function is declared in these groups
pub record AddsFunction (old : Functions) (groups : List Group) (void : Bool) (k : ℕ) (new : Functions) : Type 0 where
  pub like : functions_in void new ≡ functions_in void old ++ record { name = k; groups = groups } ∷ []
  pub unlike : functions_in (not void) new ≡ functions_in (not void) old
  pub all : new.all.items ≡ old.all.items ++ record { name = k; groups = groups } ∷ []

-- the fault of a function that is declared; without one it is added
pub record DeclaresFunction (context : NameContext) (groups : List Group) (old : Functions) (void : Bool) (k : ℕ) (new : Functions) (fault : Option FileCode) : Type 0 where
  pub fault_is : IsUnlike context groups old void k fault
  pub added : fault ≡ None → AddsFunction old groups void k new

-- a sign that is no name and no function is seen
pub record Passes (old : Seen) (old_settled : Scoped Declaration) (sign : Sign) (new : Seen) (settled : Scoped Declaration) : Type 0 where
  pub groups : (truths : List Bool) → sections truths new.groups ≡ sections_after truths (sections truths old.groups) (directive_of sign)
  pub main : new.in_main ≡ (old.in_main || is_main sign)
  pub names : new.names.items ≡ old.names.items
  pub variables : new.variables.items ≡ old.variables.items
  pub locals : new.locals.items ≡ old.locals.items
  pub constants : new.constants.items ≡ old.constants.items
  pub functions : new.functions ≡ old.functions
  pub local_declarations : new.local_declarations ≡ old.local_declarations
  pub declarations : FollowsBlocks old.declarations old.in_main sign new.declarations
  pub settled_too : FollowsBlocks old_settled old.in_main sign settled

-- the fault of an item behind these; without one it is seen too
pub record Judges (context : NameContext) (before : List Item) (sign : Sign) (seen : Seen) (used : Used) (settled : Scoped Declaration) (fault : Option FileCode) : Type 0 where
  pub fault_is : IsNameFault context before sign fault
  pub seen_is : fault ≡ None → (p : Place) → IsSeen (before ++ at p sign ∷ []) seen
  pub used_is : fault ≡ None → (p : Place) → AreUsed context (before ++ at p sign ∷ []) used
  pub settled_is : fault ≡ None → AreSettled context seen.declarations settled

-- what is known of constants behind these items
pub record AreHeld (before : List Item) (constants : Constants) : Type 0 where
  pub track : IsTrack before constants.track
  pub sound : IsSound constants.declarations
  pub inside : is_inside constants.declarations ≡ has_main before
  pub declarations : (n : ℕ) (truths : List Bool) (x : ℕ) → is_declared truths (still n constants.declarations) x ≡ is_among x (still_at n truths (of_constants before))

-- the declarations, and one more in these groups where the sign is a name and it is a constant's
abbrev pub with_constant : List Declaration → Bool → List Group → Sign → List Declaration
with_constant declarations true groups (signs.Name x) = declarations ++ record { name = x; groups = groups } ∷ []
with_constant declarations _ groups _ = declarations

-- the declarations of constants behind a sign in these groups, which is a constant's name or not, and stands in `main` or not
pub record FollowsConstants (old : Scoped Declaration) (constant : Bool) (groups : List Group) (main : Bool) (sign : Sign) (new : Scoped Declaration) : Type 0 where
  pub sound : IsSound new
  pub inside : is_inside new ≡ (main || is_main sign)
  pub still_is : (n : ℕ) → still n new ≡ with_constant (still (left_before sign main n) old) (constant && is_shown n main) groups sign

-- what stands in these groups is kept, and one of these declarations of the name; or the name is that of a value
abbrev pub is_met_constant : NameContext → List Group → List Declaration → ℕ → List ℤ → Bool
is_met_constant context groups declarations x values = are_kept (truths_at context values) groups && (is_value context x || is_declared (truths_at context values) declarations x)

-- the fault of what an item changes behind these, at its place
pub record IsChange (context : NameContext) (before : List Item) (x : Item) (fault : Option (FileCode × Place)) : Type 0 where
  pub code : Option FileCode
  pub fault_is : IsChangeFault context before x code
  pub is : fault ≡ option_map (λ c. (c, changed_place before x)) code
