-- Static declarators of `main`, as they are found item by item: their names, values and guards.
use Rattle.std.proofs.Common.{◌<◌, ℕ, zero, suc, pos, Bool, true, false, List, [], ◌∷◌, ◌++◌, Option, Some, arith}
use Rattle.std.specs.Prelude.{IfSome, if◌then◌else◌, ◌&&◌}
use Rattle.std.specs.List.{All}
use Rattle.std.proofs.lemmas.Int.{ints}
use Rattle.std.proofs.lemmas.List.Elements.{All-append, All-cons, All-nil}
use Rattle.c_tree.specs.declared.tree.Op.TheVariants.{Sub}
use Rattle.c_tree.specs.declared.lists.Guard.{Guard}
use Rattle.c_tree.specs.Value.{IsInt}
use Rattle.c_tree.specs.Whole.{IsDeclaredOf}
use Rattle.c_tree.specs.Project.{IsGuarded}
use Rattle.c_grammar.specs.declared.items.Item.{Item}
use Rattle.c_grammar.specs.declared.items.Sign.{Sign}
use Rattle.c_grammar.specs.declared.items.Sign.TheVariants as signs
use Rattle.c_grammar.specs.Facts.{IsFit, AreFit, IsConditionOf, AreConditionsOf}
use Rattle.c_grammar.specs.Groups.{declared, Sections, Outermost, InPart, InLast, guards_of, in_next_part, in_last_part, left_group, groups_behind}
use Rattle.c_grammar.specs.Items.{is_main, is_declaring}
use Rattle.c_grammar.specs.Statics.{behind_main, static_behind, sign_at, negated_value, started_value, value_of, value_ahead, static_at, statics_from, statics_by}

-- ---- names and values

abbrev OptionFits : ℕ → Option Sign → Type 0
OptionFits n o = IfSome o (λ s. IsFit n s)

sign_fits : (n : ℕ) (items : List Item) (k : ℕ) → AreFit n items → OptionFits n (sign_at items k)
sign_fits n [] k h = tt
sign_fits n (x ∷ xs) zero h = h.0
sign_fits n (x ∷ xs) (suc k) h = sign_fits n xs k h.1

pub zero_is_int : IsInt (pos 0)
zero_is_int = record { low = omega (arith, ints); high = omega (arith, ints) }

negated_fits : (n : ℕ) (o : Option Sign) → OptionFits n o → IsInt (negated_value o)
negated_fits n (Some (signs.Number v)) h = record { low = omega (arith, ints, h.0, h.1); high = omega (arith, ints, h.0, h.1) }
negated_fits n _ h = zero_is_int

started_fits : (n : ℕ) (a b : Option Sign) → OptionFits n a → OptionFits n b → IsInt (started_value a b)
started_fits n (Some (signs.Number v)) b h i = record { low = omega (arith, ints, h.0, h.1); high = h.1 }
started_fits n (Some (signs.Oper Sub)) b h i = negated_fits n b i
started_fits n _ b h i = zero_is_int

value_fits : (n : ℕ) (a b c : Option Sign) → OptionFits n b → OptionFits n c → IsInt (value_of a b c)
value_fits n (Some signs.Equals) b c h i = started_fits n b c h i
value_fits n _ b c h i = zero_is_int

ahead_fits : (n : ℕ) (items : List Item) → AreFit n items → IsInt (value_ahead items)
ahead_fits n items h = value_fits n (sign_at items 0) (sign_at items 1) (sign_at items 2) (sign_fits n items 1 h) (sign_fits n items 2 h)

static_fits : (n : ℕ) (is : Bool) (s : Sign) (ahead : List Item) (gs : List Guard) → IsFit n s → AreFit n ahead → All (IsDeclaredOf n) (static_at is s ahead gs)
static_fits n true (signs.Name x) ahead gs h i = All-cons (IsDeclaredOf n) (declared x (value_ahead ahead) gs) [] (record { target = h; value = ahead_fits n ahead i }) (All-nil (IsDeclaredOf n))
static_fits n true _ ahead gs h i = All-nil (IsDeclaredOf n)
static_fits n false s ahead gs h i = All-nil (IsDeclaredOf n)

found_fit : (n : ℕ) (static declaring : Bool) (secs : Sections) (items : List Item) → AreFit n items → All (IsDeclaredOf n) (statics_from static declaring secs items)
found_fit n static declaring secs [] h = All-nil (IsDeclaredOf n)
found_fit n static declaring secs (x ∷ xs) h =
    All-append (IsDeclaredOf n) (static_at (static && declaring) x.sign xs (guards_of secs)) (statics_from (static_behind static x.sign) (is_declaring x.sign) (groups_behind secs x.sign) xs)
    (static_fits n (static && declaring) x.sign xs (guards_of secs) h.0 h.1)
    (found_fit n (static_behind static x.sign) (is_declaring x.sign) (groups_behind secs x.sign) xs h.1)

fit_behind_main : (n : ℕ) (items : List Item) → AreFit n items → AreFit n (behind_main items)
fit_behind_main n [] h = tt
fit_behind_main n (x ∷ xs) h = elim (is_main x.sign) as (λ (b : Bool). AreFit n (if b then xs else behind_main xs)) [ true ↦ h.1 | false ↦ fit_behind_main n xs h.1 ]

-- where the names are below a count and the numbers are those that an `int` has, so it is of static declarators
pub statics_fit : (n : ℕ) (items : List Item) → AreFit n items → All (IsDeclaredOf n) (statics_by items)
statics_fit n items h = found_fit n false false Outermost (behind_main items) (fit_behind_main n items h)

-- ---- guards

abbrev IsBelow : ℕ → Guard → Type 0
IsBelow n g = g.number < n

-- the conditions of the guards that may come to stand around an item are below a count
abbrev AreBelow : ℕ → Sections → Type 0
AreBelow n Outermost = Unit {0}
AreBelow n (InPart gs m outer) = All (IsBelow n) gs × (m < n) × AreBelow n outer
AreBelow n (InLast gs outer) = All (IsBelow n) gs × AreBelow n outer

more_below : (n m : ℕ) (b : Bool) (gs : List Guard) → m < n → All (IsBelow n) gs → All (IsBelow n) (gs ++ record { number = m; positive = b } ∷ [])
more_below n m b gs lt h = All-append (IsBelow n) gs (record { number = m; positive = b } ∷ []) h (All-cons (IsBelow n) (record { number = m; positive = b }) [] lt (All-nil (IsBelow n)))

guards_below : (n : ℕ) (secs : Sections) → AreBelow n secs → All (IsBelow n) (guards_of secs)
guards_below n Outermost h = All-nil (IsBelow n)
guards_below n (InPart gs m outer) h = more_below n m true gs h.1 h.0
guards_below n (InLast gs outer) h = h.0

next_below : (n m : ℕ) (secs : Sections) → m < n → AreBelow n secs → AreBelow n (in_next_part m secs)
next_below n m Outermost lt h = tt
next_below n m (InPart gs k outer) lt h = (more_below n k false gs h.1 h.0, lt, h.2)
next_below n m (InLast gs outer) lt h = h

last_below : (n : ℕ) (secs : Sections) → AreBelow n secs → AreBelow n (in_last_part secs)
last_below n Outermost h = tt
last_below n (InPart gs k outer) h = (more_below n k false gs h.1 h.0, h.2)
last_below n (InLast gs outer) h = h

left_below : (n : ℕ) (secs : Sections) → AreBelow n secs → AreBelow n (left_group secs)
left_below n Outermost h = tt
left_below n (InPart gs k outer) h = h.2
left_below n (InLast gs outer) h = h.1

below_behind : (n : ℕ) (secs : Sections) (s : Sign) → IsConditionOf n s → AreBelow n secs → AreBelow n (groups_behind secs s)
below_behind n secs (signs.GroupIf m) lt h = (guards_below n secs h, lt, h)
below_behind n secs (signs.GroupElif m) lt h = next_below n m secs lt h
below_behind n secs signs.GroupElse lt h = last_below n secs h
below_behind n secs signs.GroupEnd lt h = left_below n secs h
below_behind n secs _ lt h = h

static_guarded : (n : ℕ) (is : Bool) (s : Sign) (ahead : List Item) (gs : List Guard) → All (IsBelow n) gs → All (IsGuarded n) (static_at is s ahead gs)
static_guarded n true (signs.Name x) ahead gs h = All-cons (IsGuarded n) (declared x (value_ahead ahead) gs) [] h (All-nil (IsGuarded n))
static_guarded n true _ ahead gs h = All-nil (IsGuarded n)
static_guarded n false s ahead gs h = All-nil (IsGuarded n)

found_guarded : (n : ℕ) (static declaring : Bool) (secs : Sections) (items : List Item) → AreBelow n secs → AreConditionsOf n items → All (IsGuarded n) (statics_from static declaring secs items)
found_guarded n static declaring secs [] b h = All-nil (IsGuarded n)
found_guarded n static declaring secs (x ∷ xs) b h =
    All-append (IsGuarded n) (static_at (static && declaring) x.sign xs (guards_of secs)) (statics_from (static_behind static x.sign) (is_declaring x.sign) (groups_behind secs x.sign) xs)
    (static_guarded n (static && declaring) x.sign xs (guards_of secs) (guards_below n secs b))
    (found_guarded n (static_behind static x.sign) (is_declaring x.sign) (groups_behind secs x.sign) xs (below_behind n secs x.sign h.0 b) h.1)

conditions_behind_main : (n : ℕ) (items : List Item) → AreConditionsOf n items → AreConditionsOf n (behind_main items)
conditions_behind_main n [] h = tt
conditions_behind_main n (x ∷ xs) h = elim (is_main x.sign) as (λ (b : Bool). AreConditionsOf n (if b then xs else behind_main xs)) [ true ↦ h.1 | false ↦ conditions_behind_main n xs h.1 ]

-- the conditions of their guards are among those of the items
pub statics_guarded : (n : ℕ) (items : List Item) → AreConditionsOf n items → All (IsGuarded n) (statics_by items)
statics_guarded n items h = found_guarded n false false Outermost (behind_main items) tt (conditions_behind_main n items h)
