-- Of which class the names of a file are by their first declarations: variables and constants that stand before `main`, and those that
-- `main` declares (ISO/IEC 9899:2011, 6.7.2.2, 6.7.3, 6.8.2 and 6.10.3).
use Rattle.std.specs.Prelude.{ℕ, nat_eq, Bool, true, false, not, ◌&&◌, ◌||◌, List, [], ◌∷◌, ◌++◌, if◌then◌else◌}
use Rattle.c_grammar.specs.declared.constants.NameClass.{NameClass}
use Rattle.c_grammar.specs.declared.constants.NameClass.TheVariants as classes
use Rattle.c_grammar.specs.declared.constants.NameKind.{NameKind}
use Rattle.c_grammar.specs.declared.constants.NameKind.TheVariants as kinds
use Rattle.c_grammar.specs.declared.items.Item.{Item}
use Rattle.c_grammar.specs.declared.items.Sign.{Sign}
use Rattle.c_grammar.specs.declared.items.Sign.TheVariants as signs
use Rattle.c_grammar.specs.Constants.{is_constant, kind_behind}
use Rattle.c_grammar.specs.Locals.{is_main, is_declaring}

-- a name that is declared in `main` or before it, as a constant or a variable
abbrev pub class_of : Bool → Bool → NameClass
class_of true constant = classes.Local
class_of false true = classes.Constant
class_of false false = classes.Variable

abbrev pub is_class : NameClass → NameClass → Bool
is_class classes.Variable classes.Variable = true
is_class classes.Local classes.Local = true
is_class classes.Constant classes.Constant = true
is_class _ _ = false

-- a name, with its class
abbrev pub name_as : NameClass → Sign → List (ℕ × NameClass)
name_as class (signs.Name x) = (x, class) ∷ []
name_as class _ = []

-- the names that items declare, each with its class, where the next one stands in `main` or not, behind a sign that a declarator stands
-- behind or not, and is of this kind: the names that `main` uses are none of them
abbrev pub classes_from : Bool → Bool → NameKind → List Item → List (ℕ × NameClass)
classes_from main declaring kind [] = []
classes_from main declaring kind (x ∷ xs) =
    (if main && not declaring then [] else name_as (class_of main (is_constant kind)) x.sign) ++ classes_from (main || is_main x.sign) (is_declaring x.sign) (kind_behind kind x.sign) xs

-- the names that the items declare, each with the class of the declaration
abbrev pub declared_classes : List Item → List (ℕ × NameClass)
declared_classes items = classes_from false false kinds.Variable items

-- the class that the first of these declarations of the name has; a variable's where there is none
abbrev pub first_class : List (ℕ × NameClass) → ℕ → NameClass
first_class [] x = classes.Variable
first_class (d ∷ ds) x = if nat_eq x d.0 then d.1 else first_class ds x

-- the class of the name by the items
abbrev pub class_in : List Item → ℕ → NameClass
class_in items x = first_class (declared_classes items) x
