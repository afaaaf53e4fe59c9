-- Which names are in scope behind a list of items (ISO/IEC 9899:2011, 6.2.1p4): those that are declared before `main`, and those of `main`
-- whose block is not left; and which may not be declared again. The braces of each group are balanced, so that blocks are left alike in each variant.
use Rattle.std.specs.Prelude.{◌≡◌, ◌<◌, ℕ, zero, suc, nat_le, Bool, true, false, not, ◌&&◌, ◌||◌, List, [], ◌∷◌, ◌++◌, Option, Some, None, if◌then◌else◌}
use Rattle.c_grammar.specs.declared.items.Item.{Item}
use Rattle.c_grammar.specs.declared.items.Sign.{Sign}
use Rattle.c_grammar.specs.declared.items.Sign.TheVariants as signs
use Rattle.c_grammar.specs.Constants.{is_name}
use Rattle.c_grammar.specs.Grammar.{is_group, File, Forms}
use Rattle.c_grammar.specs.Locals.{is_main, of_declarations, names_of}
use Rattle.c_grammar.specs.Statics.{static_behind}

-- ---- blocks

-- how many inner blocks are open behind a sign, where so many are before it; none where the block itself is left
abbrev pub inner_behind : ℕ → Sign → Option ℕ
inner_behind n signs.LeftBrace = Some (suc n)
inner_behind zero signs.RightBrace = None
inner_behind (suc n) signs.RightBrace = Some n
inner_behind n _ = Some n

-- and behind items; a block that is left stays so
abbrev pub inner_from : Option ℕ → List Item → Option ℕ
inner_from None xs = None
inner_from (Some n) [] = Some n
inner_from (Some n) (x ∷ xs) = inner_from (inner_behind n x.sign) xs

-- so many inner blocks, or more, are open
abbrev pub are_open : ℕ → Option ℕ → Bool
are_open n None = false
are_open n (Some m) = nat_le n m

-- the block in which these items begin is open behind them, and so many inner ones are
abbrev pub is_open_behind : ℕ → List Item → Bool
is_open_behind n items = are_open n (inner_from (Some 0) items)

-- ---- scopes

-- the items without the names of `main` whose block is left behind them, or as soon as so many more blocks are left; the next item stands
-- in `main` or not
abbrev pub scoped_from : ℕ → Bool → List Item → List Item
scoped_from n main [] = []
scoped_from n main (x ∷ xs) =
    if main && is_name x.sign && not (is_open_behind n xs) then scoped_from n (main || is_main x.sign) xs
    else x ∷ scoped_from n (main || is_main x.sign) xs

-- without the names that are out of scope where so many more blocks are left
abbrev pub still_in_scope : ℕ → List Item → List Item
still_in_scope n items = scoped_from n false (of_declarations items)

-- without the names that are out of scope behind them, and those that are used
abbrev pub in_scope : List Item → List Item
in_scope items = still_in_scope 0 items

-- the names that are in scope behind the items, whatever group they are declared in
abbrev pub names_in_scope : List Item → List ℕ
names_in_scope items = names_of (in_scope items)

-- ---- names that are taken

-- a static declaration goes on behind these items
abbrev pub static_after : Bool → List Item → Bool
static_after static [] = static
static_after static (x ∷ xs) = static_after (static_behind static x.sign) xs

abbrev pub is_static_behind : List Item → Bool
is_static_behind before = static_after false before

-- a name that stands here is one of `main`, and a static one where only these are asked
abbrev pub is_local : Bool → Bool → Bool → Bool
is_local only main static = main && (static || not only)

-- the items without the names that are none of these, where what comes next stands in `main` or not, and in a static declaration or not
abbrev pub locals_from : Bool → Bool → Bool → List Item → List Item
locals_from only main static [] = []
locals_from only main static (x ∷ xs) =
    if is_name x.sign && not (is_local only main static) then locals_from only (main || is_main x.sign) (static_behind static x.sign) xs
    else x ∷ locals_from only (main || is_main x.sign) (static_behind static x.sign) xs

-- without other names than those that `main` declares, or only those that it declares as static
abbrev pub of_locals : Bool → List Item → List Item
of_locals only items = locals_from only false false (of_declarations items)

-- without other names than those that the next declarator may not declare, whatever block they are declared in: a static variable is no other
-- variable of `main`
abbrev pub barred : List Item → List Item
barred before = of_locals (not (is_static_behind before)) before

-- the names that the next declarator may not declare, whatever group they are declared in
abbrev pub names_taken : List Item → List ℕ
names_taken before = names_in_scope before ++ names_of (barred before)

-- ---- where group directives stand

-- how many blocks are open behind a sign, where so many are before it
abbrev pub depth_behind : ℕ → Sign → ℕ
depth_behind depth signs.LeftBrace = suc depth
depth_behind (suc depth) signs.RightBrace = depth
depth_behind depth _ = depth

-- how many blocks are open where the open sections begin, the innermost first
abbrev pub begun_behind : List ℕ → ℕ → Sign → List ℕ
begun_behind begun depth (signs.GroupIf n) = depth ∷ begun
begun_behind (b ∷ begun) depth signs.GroupEnd = begun
begun_behind begun depth _ = begun

-- each part of a section begins and ends where as many blocks are open as where the section begins, and leaves none of these
abbrev pub IsLevel : List ℕ → ℕ → Sign → Type 0
IsLevel (b ∷ begun) depth (signs.GroupElif n) = b ≡ depth
IsLevel (b ∷ begun) depth signs.GroupElse = b ≡ depth
IsLevel (b ∷ begun) depth signs.GroupEnd = b ≡ depth
IsLevel (b ∷ begun) depth signs.RightBrace = b < depth
IsLevel begun depth _ = Unit {0}

abbrev pub AreLevel : List ℕ → ℕ → List Item → Type 0
AreLevel begun depth [] = Unit {0}
AreLevel begun depth (x ∷ xs) = IsLevel begun depth x.sign × AreLevel (begun_behind begun depth x.sign) (depth_behind depth x.sign) xs

-- so it is in a file
abbrev pub DirectivesStandLevel : Type 0
DirectivesStandLevel = (items : List Item) (f : File) → Forms items f → AreLevel [] 0 items

-- a group directive stands in no static declaration
abbrev pub IsBeside : Bool → Bool → Type 0
IsBeside true static = static ≡ false
IsBeside false static = Unit {0}

abbrev pub AreBeside : Bool → List Item → Type 0
AreBeside static [] = Unit {0}
AreBeside static (x ∷ xs) = IsBeside (is_group x.sign) static × AreBeside (static_behind static x.sign) xs

-- so it is in a file
abbrev pub DirectivesStandBeside : Type 0
DirectivesStandBeside = (items : List Item) (f : File) → Forms items f → AreBeside false items
