-- The names that the items of a file without groups declare, and the first fault of a name (ISO/IEC 9899:2011, 6.5.1, 6.5.2.2 and 6.7).
-- Before `main` each name is that of a declaration, and in it one behind a word of a type, `const` or a comma; the others are used. The scope
-- of a name that `main` declares begins behind its declarator and ends with its block (6.2.1); in it the name is not declared again, and a
-- static one (6.2.4p3) is the only one of its name in `main`. Among the items a `for` that declares variables stands as a block (6.8.5p5).
-- Functions are declared before `main`, and called in it.
use Rattle.std.specs.Prelude.{ℕ, ◌+◌, nat_eq, nat_lt, Bool, true, false, not, ◌&&◌, ◌||◌, List, [], ◌∷◌, ◌++◌, map, get_or, Option, Some, None, option_map, if◌then◌else◌}
use Rattle.std.specs.List.{list_any}
use Rattle.fam_outer.specs.declared.faults.Place.{Place}
use Rattle.fam_outer.specs.declared.faults.FileCode.{FileCode}
use Rattle.fam_outer.specs.declared.faults.FileCode.TheVariants.{Undeclared, Twice, FeatureInCode, TooManyVariables, ChangedConstant, TooManyConstants}
use Rattle.c_grammar.specs.declared.items.Item.{Item}
use Rattle.c_grammar.specs.declared.items.Sign.{Sign}
use Rattle.c_grammar.specs.declared.items.Sign.TheVariants as signs
use Rattle.c_grammar.specs.Changes.{changed_at}
use Rattle.c_grammar.specs.Constants.{of_constants}
use Rattle.c_grammar.specs.Functions.{is_void, is_equals, function_of, stands_behind, of_functions}
pub use Rattle.c_grammar.specs.Locals.{is_main, name_of, names_of, declared_by}
use Rattle.c_grammar.specs.Locals.{declares_behind, is_in_own}
use Rattle.c_grammar.specs.Scopes.{names_in_scope, names_taken}
use Rattle.cpp_lines.specs.Faults.{or_later}
use Rattle.c_tree.specs.declared.lists.Declared.{Declared}
use Rattle.c_parser.specs.Items.{with_name}

-- `main` stands among the items
abbrev pub has_main : List Item → Bool
has_main items = list_any (λ x. is_main x.sign) items

-- the names that are in scope behind the items as constants
abbrev pub constants_in_scope : List Item → List ℕ
constants_in_scope items = names_in_scope (of_constants items)

-- the functions among the items before `main`
abbrev pub prototypes_of : List Item → List ℕ
prototypes_of [] = []
prototypes_of (x ∷ xs) = if is_main x.sign then [] else function_of x.sign ++ prototypes_of xs

-- the functions that the items declare: with `void` where that is asked, else with a value
abbrev pub functions_by : Bool → List Item → List ℕ
functions_by void items = prototypes_of (of_functions void items)

-- those that may be called: where a value is wanted, no function with `void` (6.3.2.2)
abbrev pub callable_by : Bool → List Item → List ℕ
callable_by wants items = if wants then functions_by false items else functions_by false items ++ functions_by true items

-- the names that declarators declare, by their numbers
abbrev pub targets : List Declared → List ℕ
targets ds = map (λ d. d.target) ds

-- the names with these numbers
abbrev pub names_at : List (List ℕ) → List ℕ → List (List ℕ)
names_at names numbers = map (λ x. get_or names x []) numbers

-- these names and others behind them, each once
abbrev pub each_once : List (List ℕ) → List (List ℕ) → List (List ℕ)
each_once seen [] = seen
each_once seen (name ∷ names) = each_once (with_name seen name) names

-- what is known of the names of a file by their numbers: how many variables there are, which come first, how many names that `main` declares,
-- which come behind them, and how many constants behind these, where they are to be counted; and which names have values from outside, as
-- those of features have
pub record Outside : Type 0 where
  pub variables : ℕ
  pub locals : ℕ
  pub constants : ℕ
  pub values : List ℕ

abbrev pub has_value : Outside → ℕ → Bool
has_value o x = list_any (nat_eq x) o.values

-- the name with this number is the 17th of so many, which come behind so many others
abbrev pub is_seventeenth : ℕ → ℕ → ℕ → Bool
is_seventeenth others count x = nat_eq x (others + 16) && nat_lt 16 count

-- the name is the 17th variable, the 17th that `main` declares, or the 17th constant
abbrev pub limit_fault : Outside → ℕ → Option FileCode
limit_fault o x =
    if is_seventeenth 0 o.variables x || is_seventeenth o.variables o.locals x then Some TooManyVariables
    else (if is_seventeenth (o.variables + o.locals) o.constants x then Some TooManyConstants else None)

-- a name is declared that is taken, has a value from outside, or is one too many, where these are taken
abbrev pub declaration_fault : Outside → List ℕ → ℕ → Option FileCode
declaration_fault o taken x =
    if list_any (nat_eq x) taken then Some (Twice None)
    else (if has_value o x then Some FeatureInCode else limit_fault o x)

-- a name is used that is not in scope, or in its own declarator, and has no value from outside
abbrev pub use_fault : Outside → Bool → List ℕ → ℕ → Option FileCode
use_fault o own scope x = if has_value o x || (not own && list_any (nat_eq x) scope) then None else Some (Undeclared None)

-- a function is declared where these are declared otherwise (6.7p4); alike it may be declared again
abbrev pub unlike_fault : List ℕ → ℕ → Option FileCode
unlike_fault others k = if list_any (nat_eq k) others then Some (Twice None) else None

abbrev pub prototype_fault : List Item → ℕ → Option FileCode
prototype_fault before k = unlike_fault (functions_by (not (stands_behind is_void before)) before) k

-- a function is called where these may be called
abbrev pub uncallable_fault : List ℕ → ℕ → Option FileCode
uncallable_fault callable k = if list_any (nat_eq k) callable then None else Some (Undeclared None)

-- behind `=` a value is wanted
abbrev pub call_fault : List Item → ℕ → Option FileCode
call_fault before k = uncallable_fault (callable_by (stands_behind is_equals before) before) k

-- a name behind these items is used: it stands in `main`, and not where it is declared
abbrev pub is_used_behind : List Item → Bool
is_used_behind before = has_main before && not (declares_behind before)

-- the fault of an item behind these
abbrev pub name_fault : Outside → List Item → Sign → Option FileCode
name_fault o before (signs.Name x) =
    if is_used_behind before then use_fault o (is_in_own before x) (names_in_scope before) x else declaration_fault o (names_taken before) x
name_fault o before (signs.Function k) = if has_main before then call_fault before k else prototype_fault before k
name_fault o before _ = None

-- a constant is changed, where these are the constants
abbrev pub constant_fault : List ℕ → Option (ℕ × Place) → Option (FileCode × Place)
constant_fault constants None = None
constant_fault constants (Some change) = if list_any (nat_eq change.0) constants then Some (ChangedConstant, change.1) else None

-- the fault of a name that an item changes, together with the last one of those before it: only behind `main`; a name with a value from
-- outside is a constant
abbrev pub change_fault : Outside → List Item → Item → Option (FileCode × Place)
change_fault o before x = if has_main before then constant_fault (o.values ++ constants_in_scope before) (changed_at before x) else None

-- the first fault of a name among the items behind these: of an item that is its own name before what it changes, whose name
-- stands at it or directly before it
abbrev pub name_fault_from : Outside → List Item → List Item → Option (FileCode × Place)
name_fault_from o before [] = None
name_fault_from o before (x ∷ xs) =
    or_later (option_map (λ code. (code, x.place)) (name_fault o before x.sign)) (or_later (change_fault o before x) (name_fault_from o (before ++ x ∷ []) xs))

unfoldable pub first_name_fault : Outside → List Item → Option (FileCode × Place)
first_name_fault o items = name_fault_from o [] items
