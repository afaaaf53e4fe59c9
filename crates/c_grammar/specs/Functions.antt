-- Which functions outside a list of items declares, with a value or with `void`, and which calls want a value (ISO/IEC 9899:2011,
-- 6.5.2.2 and 6.7.6.3).
use Rattle.std.specs.Prelude.{ℕ, Bool, true, false, not, ◌&&◌, List, [], ◌∷◌, ◌++◌, Option, Some, None, if◌then◌else◌}
use Rattle.c_grammar.specs.declared.items.Item.{Item}
use Rattle.c_grammar.specs.declared.items.Sign.{Sign}
use Rattle.c_grammar.specs.declared.items.Sign.TheVariants as signs
use Rattle.c_grammar.specs.Constants.{last_from}

abbrev pub is_void : Sign → Bool
is_void signs.Void = true
is_void _ = false

abbrev pub is_equals : Sign → Bool
is_equals signs.Equals = true
is_equals _ = false

-- the number of a function
abbrev pub function_of : Sign → List ℕ
function_of (signs.Function k) = k ∷ []
function_of _ = []

abbrev pub is_function : Sign → Bool
is_function (signs.Function k) = true
is_function _ = false

-- the item has such a sign
abbrev pub has_sign : (Sign → Bool) → Option Item → Bool
has_sign is None = false
has_sign is (Some x) = is x.sign

-- the last of these items has such a sign
abbrev pub stands_behind : (Sign → Bool) → List Item → Bool
stands_behind is before = has_sign is (last_from None before)

-- behind `void` where `void` is asked, and else not behind it
abbrev pub is_as_asked : Bool → Bool → Bool
is_as_asked void behind = if void then behind else not behind

-- the items without the functions that stand not as is asked, where what stands before them is `void` or not
abbrev pub functions_from : Bool → Bool → List Item → List Item
functions_from void behind [] = []
functions_from void behind (x ∷ xs) =
    if is_function x.sign && not (is_as_asked void behind) then functions_from void (is_void x.sign) xs
    else x ∷ functions_from void (is_void x.sign) xs

-- without the functions that are declared with a value, or, where `void` is not asked, without those that are declared with `void`: before
-- `main`, those that are left are the names of the others
abbrev pub of_functions : Bool → List Item → List Item
of_functions void items = functions_from void false items

-- the functions among the items, in their order
abbrev pub functions_of : List Item → List ℕ
functions_of [] = []
functions_of (x ∷ xs) = function_of x.sign ++ functions_of xs
