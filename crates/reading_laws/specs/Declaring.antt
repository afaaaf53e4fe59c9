-- The names of a family by the grammar's own declarations.
use Rattle.std.specs.Prelude.{◌≡◌, ℕ, Bool, true, false, not, List, [], ◌∷◌, ◌++◌}
use Rattle.std.specs.List.{filter, list_any}
use Rattle.std.specs.Str.{bytes_eq}
use Rattle.fam_outer.specs.declared.dialect.Dialect.{Dialect}
use Rattle.cpp_conditions.specs.declared.models.Model.{Model}
use Rattle.cpp_conditions.specs.Validity.{Plain, plain}
use Rattle.cpp_lines.specs.Sections.{Told}
use Rattle.c_tree.specs.declared.lists.Declared.{Declared}
use Rattle.c_tree.specs.Project.{guards_hold}
use Rattle.c_grammar.specs.declared.items.Item.{Item}
use Rattle.c_grammar.specs.Grammar.{declared, Part, Declares, nothing, variables, prototype, void_prototype, definition, section, last_var, next_var, end_part, else_part, elif_part, Outer, Writes, Listed, File, Forms}
use Rattle.c_grammar.specs.declared.constants.NameKind.TheVariants as kinds
use Rattle.c_grammar.specs.Constants.{kind_after}
use Rattle.c_grammar.specs.Locals.{declares_behind, declared_by}
use Rattle.c_grammar.specs.LocalsOf.{of_kind, scope_in, constant_scope_in, declared_in}
use Rattle.c_tree.specs.Tree.{Code}
use Rattle.for_blocks.specs.Laws.{NoneDeclares}
use Rattle.family_names.specs.Names.{has_main, is_kept, in_scope_at, constants_at}
use Rattle.c_parser.specs.declared.family.Family.{Family}
use Rattle.c_parser.specs.FamilyItems.{HasItems, feature_names}
use Rattle.c_parser.specs.FamilyReading.{IsFamilyOf}
use Rattle.c_parser.specs.Names.{targets, names_at, each_once}
use Rattle.c_parser.specs.Order.{arranged}
use Rattle.c_parser.specs.Variants.{names_in}

-- the declarators whose guards hold
abbrev pub holding : List Bool → List Declared → List Declared
holding truths ds = filter (λ d. guards_hold truths d.guards) ds

-- what stands as declared, in the order of the text, is what the grammar declares before `main` and in it
abbrev pub DeclarationsAreOfTheGrammar : Type 0
DeclarationsAreOfTheGrammar = (items : List Item) (f : File) → (forms : Forms items f) → declared_by items ≡ targets (declared_in forms)

-- the declarators of constants among those that a list of items declares before `main`, in its order
abbrev pub constants_in : {part : Part} {us : List Item} {ds : List Declared} → Declares part us ds → List Declared
constants_in (nothing gs) = []
constants_in (variables gs {us} {vs} {ws} {ds} {es} {kind} o v d) = of_kind kind ds ++ constants_in d
constants_in (prototype q r s t gs o c v d) = constants_in d
constants_in (void_prototype p q r s t k gs o v d) = constants_in d
constants_in (definition gs {us} {ws} {es} {x} {n} o d) = declared x n gs ∷ constants_in d
constants_in (section p n gs a b d) = constants_in a ++ (constants_in b ++ constants_in d)
constants_in (last_var gs d o) = []
constants_in (next_var p gs d v) = []
constants_in (end_part p gs) = []
constants_in (else_part p q gs d) = constants_in d
constants_in (elif_part p n gs a b) = constants_in a ++ constants_in b

-- ---- scopes

-- where the conditions have truths, the names in scope behind declarations before `main`, and the constants among them, are those that the
-- grammar declares and whose guards hold
pub record HasOuterScope (truths : List Bool) {us : List Item} {ds : List Declared} (d : Declares (Outer []) us ds) : Type 0 where
  pub names : in_scope_at truths us ≡ targets (holding truths ds)
  pub constants : constants_at truths us ≡ targets (holding truths (constants_in d))

abbrev pub OuterScopesHold : Type 0
OuterScopesHold = (truths : List Bool) (us : List Item) (ds : List Declared) → (d : Declares (Outer []) us ds) → HasOuterScope truths d

-- a statement or a declaration of `main` that stays may begin behind these items
pub record BeginsInMain (truths : List Bool) (before : List Item) : Type 0 where
  pub main : has_main before ≡ true
  pub kept : is_kept truths before ≡ true
  pub free : declares_behind before ≡ false
  pub variable : kind_after kinds.Variable before ≡ kinds.Variable

-- behind statements of `main` the names in scope, and the constants among them, are those before the statements, and those that the grammar
-- declares in these, outside of blocks that are left, and whose guards hold
pub record HasInnerScope (truths : List Bool) (before : List Item) {i : Bool} {us : List Item} {c : Code} (w : Writes (Listed i) us c) : Type 0 where
  pub names : in_scope_at truths (before ++ us) ≡ in_scope_at truths before ++ targets (holding truths (scope_in [] w))
  pub constants : constants_at truths (before ++ us) ≡ constants_at truths before ++ targets (holding truths (constant_scope_in [] w))

-- so it is of statements in which no `for` declares variables. Where one does, their scope ends with it and at no brace (6.8.5p5); so the
-- names of a file are judged where each such `for` stands as a block, and there none declares variables (`BlocksDeclareNone`)
abbrev pub InnerScopesHold : Type 0
InnerScopesHold = (truths : List Bool) (i : Bool) (before us : List Item) (c : Code) → (w : Writes (Listed i) us c) → NoneDeclares us → BeginsInMain truths before → HasInnerScope truths before w

-- these names but for those of features
abbrev pub without_features : List (List ℕ) → List (List ℕ) → List (List ℕ)
without_features features names = filter (λ name. not (list_any (bytes_eq name) features)) names

-- the names are those that the spelled file declares before `main` and in it, each once: by their first declarations they stand as in its
-- text, and then the variables come before those that `main` declares, and these before the constants; behind them come the features that
-- its code names
pub record AreFamilyNames (dialect : Dialect) (model : Plain) (bytes : List ℕ) (names : List (List ℕ)) : Type 0 where
  pub told : Told
  pub items : List Item
  pub items_are : HasItems dialect model bytes told (record { names = names; items = items })
  pub file : File
  pub forms : Forms items file
  pub declared : without_features (feature_names model) items_are.first.names ≡ each_once [] (names_at names (targets (declared_in forms)))
  pub are : names ≡ arranged (feature_names model) items_are.first

-- so are those of a family
abbrev pub FamiliesHaveDeclaredNames : Type 0
FamiliesHaveDeclaredNames = (dialect : Dialect) (model : Model) (bytes : List ℕ) (f : Family) → IsFamilyOf dialect model bytes f → AreFamilyNames dialect (plain model) bytes (names_in f)
