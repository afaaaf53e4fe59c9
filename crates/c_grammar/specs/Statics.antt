-- The static variables and constants of `main` (ISO/IEC 9899:2011, 6.2.4p3 and 6.7.9p4): they have their values before the program starts, as
-- those that are declared before `main` have, with the guards of the groups around them.
use Rattle.std.specs.Prelude.{ℕ, ℤ, pos, neg_ℤ, Bool, true, false, ◌&&◌, List, [], ◌∷◌, ◌++◌, slice_get, Option, Some, option_map, if◌then◌else◌}
use Rattle.c_tree.specs.declared.tree.Op.TheVariants.{Sub}
use Rattle.c_tree.specs.declared.lists.Guard.{Guard}
use Rattle.c_tree.specs.declared.lists.Declared.{Declared}
use Rattle.c_grammar.specs.declared.items.Item.{Item}
use Rattle.c_grammar.specs.declared.items.Sign.{Sign}
use Rattle.c_grammar.specs.declared.items.Sign.TheVariants as signs
use Rattle.c_grammar.specs.Items.{is_main, is_declaring}
use Rattle.c_grammar.specs.Groups.{declared, Sections, Outermost, guards_of, groups_behind}

-- the items behind `main`
abbrev pub behind_main : List Item → List Item
behind_main [] = []
behind_main (x ∷ xs) = if is_main x.sign then xs else behind_main xs

-- a static declaration goes on behind the sign, where one goes on before it or not
abbrev pub static_behind : Bool → Sign → Bool
static_behind static signs.Static = true
static_behind static signs.Semicolon = false
static_behind static _ = static

-- ---- values

-- the sign of the item with this number
abbrev pub sign_at : List Item → ℕ → Option Sign
sign_at items k = option_map (λ x. x.sign) (slice_get items k)

-- the number behind `-`
abbrev pub negated_value : Option Sign → ℤ
negated_value (Some (signs.Number n)) = neg_ℤ n
negated_value _ = pos 0

-- the number behind `=`, or behind `-`
abbrev pub started_value : Option Sign → Option Sign → ℤ
started_value (Some (signs.Number n)) third = n
started_value (Some (signs.Oper Sub)) third = negated_value third
started_value _ third = pos 0

-- the value that begins behind a name; 0 where none does
abbrev pub value_of : Option Sign → Option Sign → Option Sign → ℤ
value_of (Some signs.Equals) second third = started_value second third
value_of _ second third = pos 0

abbrev pub value_ahead : List Item → ℤ
value_ahead items = value_of (sign_at items 0) (sign_at items 1) (sign_at items 2)

-- ---- declarators

-- a name that is declared as static, with the value that begins behind it
abbrev pub static_at : Bool → Sign → List Item → List Guard → List Declared
static_at true (signs.Name x) ahead gs = declared x (value_ahead ahead) gs ∷ []
static_at _ s ahead gs = []

-- the static declarators among items of `main`, where a static declaration goes on before them or not, behind a sign that a declarator stands
-- behind or not, and in these groups
abbrev pub statics_from : Bool → Bool → Sections → List Item → List Declared
statics_from static declaring secs [] = []
statics_from static declaring secs (x ∷ xs) =
    static_at (static && declaring) x.sign xs (guards_of secs) ++ statics_from (static_behind static x.sign) (is_declaring x.sign) (groups_behind secs x.sign) xs

-- the static declarators of `main`, in the order of the text
abbrev pub statics_by : List Item → List Declared
statics_by items = statics_from false false Outermost (behind_main items)
