-- Which names a list of items declares as constants (ISO/IEC 9899:2011, 6.7.2.2, 6.7.3 and 6.10.3).
use Rattle.std.specs.Prelude.{◌≡◌, Bool, true, false, not, ◌||◌, List, [], ◌∷◌, Option, Some, if◌then◌else◌}
use Rattle.c_grammar.specs.declared.constants.NameKind.{NameKind}
use Rattle.c_grammar.specs.declared.constants.NameKind.TheVariants as kinds
use Rattle.c_grammar.specs.declared.items.Item.{Item}
use Rattle.c_grammar.specs.declared.items.Sign.{Sign}
use Rattle.c_grammar.specs.declared.items.Sign.TheVariants as signs
use Rattle.c_grammar.specs.Grammar.{is_group, File, Forms}

-- ---- constants

abbrev pub is_name : Sign → Bool
is_name (signs.Name x) = true
is_name _ = false

-- a name of this kind is a constant's
abbrev pub is_constant : NameKind → Bool
is_constant kinds.Variable = false
is_constant kinds.Constant = true
is_constant kinds.Defined = true

-- a definition has one name
abbrev pub kind_behind_name : NameKind → NameKind
kind_behind_name kinds.Variable = kinds.Variable
kind_behind_name kinds.Constant = kinds.Constant
kind_behind_name kinds.Defined = kinds.Variable

-- what the next name is behind a sign, where it would have been of this kind before it: a declaration with `const` or `enum`
-- goes on up to its semicolon, and a definition up to its name
abbrev pub kind_behind : NameKind → Sign → NameKind
kind_behind kind signs.Const = kinds.Constant
kind_behind kind signs.Enum = kinds.Constant
kind_behind kind signs.Define = kinds.Defined
kind_behind kind signs.Semicolon = kinds.Variable
kind_behind kind (signs.Name x) = kind_behind_name kind
kind_behind kind _ = kind

-- the items without the names that are no constant's, where the next one is of this kind
abbrev pub constants_from : NameKind → List Item → List Item
constants_from kind [] = []
constants_from kind (x ∷ xs) =
    if is_constant kind || not (is_name x.sign) then x ∷ constants_from (kind_behind kind x.sign) xs
    else constants_from (kind_behind kind x.sign) xs

-- without the names of variables: before `main`, those that are left are the names of constants
abbrev pub of_constants : List Item → List Item
of_constants items = constants_from kinds.Variable items

-- what the next name is behind these items
abbrev pub kind_after : NameKind → List Item → NameKind
kind_after kind [] = kind
kind_after kind (x ∷ xs) = kind_after (kind_behind kind x.sign) xs

-- the last of these items, or another one where there is none
abbrev pub last_from : Option Item → List Item → Option Item
last_from last [] = last
last_from last (x ∷ xs) = last_from (Some x) xs

-- ---- where group directives stand

-- a statement or a declaration goes on behind the sign
abbrev pub is_joining : Sign → Bool
is_joining (signs.Name x) = true
is_joining signs.PlusPlus = true
is_joining signs.MinusMinus = true
is_joining signs.Equals = true
is_joining signs.Void = true
is_joining _ = false

-- a group directive stands outside declarations with `const` or `enum`, not between `#define` and its name, and behind no name, `=` or
-- `void`
abbrev pub IsBetween : Bool → NameKind → Bool → Type 0
IsBetween true kind joined = (kind ≡ kinds.Variable) × (joined ≡ false)
IsBetween false kind joined = Unit {0}

abbrev pub AreApart : NameKind → Bool → List Item → Type 0
AreApart kind joined [] = Unit {0}
AreApart kind joined (x ∷ xs) = IsBetween (is_group x.sign) kind joined × AreApart (kind_behind kind x.sign) (is_joining x.sign) xs

-- so it is in a file
abbrev pub DirectivesStandApart : Type 0
DirectivesStandApart = (items : List Item) (f : File) → Forms items f → AreApart kinds.Variable false items
