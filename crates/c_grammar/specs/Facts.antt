-- Facts of the items of a text (numbers, names, places that rise), and what they make of a program.
use Rattle.std.specs.Prelude.{◌≡◌, ◌≤◌, ◌<◌, ◌≤ℤ◌, ℕ, pos, false, List, [], ◌∷◌, IsTrue, length}
use Rattle.fam_outer.specs.declared.faults.Place.{Place}
use Rattle.c_tree.specs.Value.{greatest}
use Rattle.c_tree.specs.Tree.{Whole}
use Rattle.c_tree.specs.Project.{IsConditioned}
use Rattle.fam_outer.specs.Places.{is_before}
use Rattle.c_tree.specs.Whole.{IsProgram, IsPlainProgram}
use Rattle.c_grammar.specs.declared.items.Item.{Item}
use Rattle.c_grammar.specs.declared.items.Sign.{Sign}
use Rattle.c_grammar.specs.declared.items.Sign.TheVariants as signs
use Rattle.c_grammar.specs.Grammar.{File, Forms, has_groups, whole_of, Spells}
use Rattle.c_grammar.specs.Within.{FormsWithin}

abbrev pub IsFit : ℕ → Sign → Type 0
IsFit count (signs.Number n) = (pos 0 ≤ℤ n) × (n ≤ℤ greatest)
IsFit count (signs.Name x) = x < count
IsFit count _ = Unit {0}

-- the numbers are those that an `int` has, and the names are below a count
abbrev pub AreFit : ℕ → List Item → Type 0
AreFit count [] = Unit {0}
AreFit count (x ∷ w) = IsFit count x.sign × AreFit count w

abbrev pub IsBeforeItems : Place → List Item → Type 0
IsBeforeItems p [] = Unit {0}
IsBeforeItems p (x ∷ w) = IsTrue (is_before p x.place) × IsBeforeItems p w

-- the places rise
abbrev pub AreRising : List Item → Type 0
AreRising [] = Unit {0}
AreRising (x ∷ w) = IsBeforeItems x.place w × AreRising w

-- a file within the limits is a well-formed program
abbrev pub WellFormed : Type 0
WellFormed = (names : List (List ℕ)) (items : List Item) (f : File) → length names ≤ 48 → AreFit (length names) items → AreRising items → FormsWithin items f → IsProgram (whole_of names items f)

-- a file without groups is a plain program
abbrev pub PlainWithoutGroups : Type 0
PlainWithoutGroups = (names : List (List ℕ)) (items : List Item) (f : File) → has_groups items ≡ false → Forms items f → IsPlainProgram (whole_of names items f)

abbrev pub IsConditionOf : ℕ → Sign → Type 0
IsConditionOf count (signs.GroupIf n) = n < count
IsConditionOf count (signs.GroupElif n) = n < count
IsConditionOf count _ = Unit {0}

-- the numbers of conditions are below a count
abbrev pub AreConditionsOf : ℕ → List Item → Type 0
AreConditionsOf count [] = Unit {0}
AreConditionsOf count (x ∷ w) = IsConditionOf count x.sign × AreConditionsOf count w

-- the conditions of a program are those of its items
abbrev pub Conditioned : Type 0
Conditioned = (count : ℕ) (names : List (List ℕ)) (items : List Item) (p : Whole) → AreConditionsOf count items → Spells names p items → IsConditioned count p
