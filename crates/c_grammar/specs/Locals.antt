-- Which names of a list of items are those of declarations (ISO/IEC 9899:2011, 6.7.6 and 6.8.2): each one before `main`, and behind it those
-- that stand behind a word of a type, `const`, or a comma; and in the declarator of which name `main` an item stands, whose scope begins
-- behind it.
use Rattle.std.specs.Prelude.{◌≡◌, ℕ, nat_eq, Bool, true, false, not, ◌&&◌, ◌||◌, List, [], ◌∷◌, ◌++◌, Option, Some, None, if◌then◌else◌}
use Rattle.c_grammar.specs.declared.items.Item.{Item}
use Rattle.c_grammar.specs.declared.items.Sign.{Sign}
use Rattle.c_grammar.specs.declared.items.Sign.TheVariants as signs
use Rattle.c_grammar.specs.Constants.{is_name}
pub use Rattle.c_grammar.specs.Items.{is_main, is_declaring}
use Rattle.c_grammar.specs.Functions.{stands_behind}
use Rattle.c_grammar.specs.Grammar.{is_group, File, Forms}

-- a name behind these items is declared in `main`
abbrev pub declares_behind : List Item → Bool
declares_behind before = stands_behind is_declaring before

-- the items without the names that `main` uses, where what comes next stands in it or not, and behind such a sign or not
abbrev pub declarations_from : Bool → Bool → List Item → List Item
declarations_from main declaring [] = []
declarations_from main declaring (x ∷ xs) =
    if main && not declaring && is_name x.sign then declarations_from (main || is_main x.sign) (is_declaring x.sign) xs
    else x ∷ declarations_from (main || is_main x.sign) (is_declaring x.sign) xs

-- without the names that `main` uses: those that are left are declared
abbrev pub of_declarations : List Item → List Item
of_declarations items = declarations_from false false items

-- the number of a name
abbrev pub name_of : Sign → List ℕ
name_of (signs.Name x) = x ∷ []
name_of _ = []

-- the names among the items, in their order
abbrev pub names_of : List Item → List ℕ
names_of [] = []
names_of (x ∷ xs) = name_of x.sign ++ names_of xs

-- the names that the items declare, in their order, whatever group they stand in
abbrev pub declared_by : List Item → List ℕ
declared_by items = names_of (of_declarations items)

-- the name whose declarator the next item stands in, behind a sign that stands behind such a one, or behind no such one
abbrev pub opened_by : Bool → Option ℕ → Sign → Option ℕ
opened_by true opened (signs.Name x) = Some x
opened_by declaring opened signs.Comma = None
opened_by declaring opened signs.Semicolon = None
opened_by declaring opened _ = opened

abbrev pub open_from : Bool → Option ℕ → List Item → Option ℕ
open_from declaring opened [] = opened
open_from declaring opened (x ∷ xs) = open_from (is_declaring x.sign) (opened_by declaring opened x.sign) xs

-- the name in whose declarator an item behind these stands
abbrev pub open_behind : List Item → Option ℕ
open_behind before = open_from false None before

-- an item behind these stands in the declarator of this name
abbrev pub is_open : ℕ → Option ℕ → Bool
is_open x None = false
is_open x (Some y) = nat_eq x y

abbrev pub is_in_own : List Item → ℕ → Bool
is_in_own before x = is_open x (open_behind before)

-- ---- where group directives stand

-- a group directive stands in no declarator, and behind no sign that a declarator stands behind
abbrev pub IsOutside : Bool → Bool → Option ℕ → Type 0
IsOutside true declaring opened = (declaring ≡ false) × (opened ≡ None)
IsOutside false declaring opened = Unit {0}

abbrev pub AreOutside : Bool → Option ℕ → List Item → Type 0
AreOutside declaring opened [] = Unit {0}
AreOutside declaring opened (x ∷ xs) = IsOutside (is_group x.sign) declaring opened × AreOutside (is_declaring x.sign) (opened_by declaring opened x.sign) xs

-- so it is in a file
abbrev pub DirectivesStandOutside : Type 0
DirectivesStandOutside = (items : List Item) (f : File) → Forms items f → AreOutside false None items
