-- The order of the names of a program: the variables that stand before `main`, then those that `main` declares, then the constants, each in
-- the order of their first occurrence, and then the features of the model that the code names, in the order of the model.
use Rattle.std.specs.Prelude.{◌≡◌, ℕ, Bool, not, ◌&&◌, List, [], ◌++◌, length, get_or, Option, None, unwrap_or, if◌then◌else◌}
use Rattle.std.specs.List.{filter, list_any, range_with_len}
use Rattle.std.specs.Str.{bytes_eq}
use Rattle.c_grammar.specs.declared.constants.NameKind.TheVariants as kinds
use Rattle.c_grammar.specs.declared.items.Item.{Item}
use Rattle.c_grammar.specs.declared.items.Sign.{Sign}
use Rattle.c_grammar.specs.Constants.{is_constant, kind_after}
use Rattle.c_grammar.specs.declared.constants.NameClass.{NameClass}
use Rattle.c_grammar.specs.declared.constants.NameClass.TheVariants as classes
use Rattle.c_grammar.specs.Classes.{class_of, is_class, name_as, first_class, class_in}
use Rattle.c_parser.specs.Items.{Listed}
use Rattle.c_parser.specs.Names.{has_main, names_at, each_once, is_used_behind}

-- the name with this number is no feature's, and of the class: a name that is nowhere declared is a variable's
abbrev pub is_of_class : NameClass → List (List ℕ) → Listed → ℕ → Bool
is_of_class class features l x = not (list_any (bytes_eq (get_or l.names x [])) features) && is_class class (class_in l.items x)

-- the numbers of the names of a class, in the order of their first occurrence
abbrev pub numbers_of : NameClass → List (List ℕ) → Listed → List ℕ
numbers_of class features l = filter (is_of_class class features l) (range_with_len 0 (length l.names))

abbrev pub variables_of : List (List ℕ) → Listed → List ℕ
variables_of features l = numbers_of classes.Variable features l

abbrev pub locals_of : List (List ℕ) → Listed → List ℕ
locals_of features l = numbers_of classes.Local features l

abbrev pub constants_of : List (List ℕ) → Listed → List ℕ
constants_of features l = numbers_of classes.Constant features l

-- the features that are named, each once, in the order of the model
abbrev pub features_of : List (List ℕ) → Listed → List (List ℕ)
features_of features l = each_once [] (filter (λ f. list_any (bytes_eq f) l.names) features)

-- the names of a text in the order of a program's, where these are the names of the model's features
abbrev pub arranged : List (List ℕ) → Listed → List (List ℕ)
arranged features l = names_at l.names (variables_of features l ++ (locals_of features l ++ constants_of features l)) ++ features_of features l

-- ---- classes that are kept by number

-- the class of the name: the one that is kept for its number, or else that of these later declarations
abbrev pub class_by : List (Option NameClass) → List (ℕ × NameClass) → ℕ → NameClass
class_by kept later x = unwrap_or (get_or kept x None) (first_class later x)

-- an item behind these declares the name, of this class
abbrev pub declared_as : List Item → Sign → List (ℕ × NameClass)
declared_as before sign = if is_used_behind before then [] else name_as (class_of (has_main before) (is_constant (kind_after kinds.Variable before))) sign

-- of each name the class is kept that its first declaration has
pub record AreClasses (count : ℕ) (items : List Item) (kept : List (Option NameClass)) : Type 0 where
  pub count_is : length kept ≡ count
  pub class_is : (x : ℕ) → class_by kept [] x ≡ class_in items x
