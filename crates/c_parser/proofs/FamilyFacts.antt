-- Facts of the items of a family: their places rise, their names and numbers are fit, and their conditions are those of the lines.
use Rattle.std.proofs.Common.{◌≡◌, ℕ, ◌+◌, ◌≤◌, ◌<◌, nat_eq, Bool, true, false, ◌||◌, cond, List, [], ◌∷◌, ◌++◌, refl, sym, subst, arith}
use Rattle.std.specs.Prelude.{IsTrue}
use Rattle.std.specs.List.{filter}
use Rattle.std.proofs.lemmas.Bool.{lt-ltb}
use Rattle.std.proofs.lemmas.Bool.Decides.{nat_tests}
use Rattle.fam_outer.specs.declared.faults.Place.{Place}
use Rattle.fam_outer.specs.Places.{is_before}
use Rattle.c_grammar.specs.declared.items.Item.{Item}
use Rattle.c_grammar.specs.declared.items.Sign.{Sign}
use Rattle.c_grammar.specs.declared.items.Sign.TheVariants as signs
use Rattle.c_grammar.specs.Facts.{AreFit, AreRising, IsBeforeItems, IsConditionOf, AreConditionsOf}
use Rattle.c_grammar.specs.Grammar.{is_group, has_groups}
use Rattle.cpp_lines.specs.declared.line.Line.{Line}
use Rattle.cpp_lines.specs.declared.line.LineKind.{LineKind}
use Rattle.cpp_lines.specs.declared.line.LineKind.TheVariants as kinds
use Rattle.cpp_lines.specs.Lines.{AreCounted}
use Rattle.cpp_lines.specs.Sections.{IsNumberedBelow, AreNumberedBelow}
use Rattle.c_parser.specs.FamilyItems.{stands_in, group_sign, or_directive, items_of_line, by_line}

-- ---- fit

fit_both : (count : ℕ) (xs ys : List Item) → AreFit count xs → AreFit count ys → AreFit count (xs ++ ys)
fit_both count [] ys h k = k
fit_both count (x ∷ xs) ys h k = (h.0, fit_both count xs ys h.1 k)

fit_some : (count : ℕ) (p : Item → Bool) (xs : List Item) → AreFit count xs → AreFit count (filter p xs)
fit_some count p [] h = tt
fit_some count p (x ∷ xs) h = elim (p x) as (λ t. AreFit count (cond t (x ∷ filter p xs) (filter p xs))) [ true ↦ (h.0, fit_some count p xs h.1) | false ↦ fit_some count p xs h.1 ]

fit_line : (count : ℕ) (kind : LineKind) (place : Place) (xs : List Item) → AreFit count xs → AreFit count (or_directive (group_sign kind) place xs)
fit_line count kinds.Code place xs h = h
fit_line count kinds.Include place xs h = h
fit_line count kinds.Define place xs h = h
fit_line count (kinds.If n) place xs h = (tt, tt)
fit_line count (kinds.Elif n) place xs h = (tt, tt)
fit_line count kinds.Else place xs h = (tt, tt)
fit_line count kinds.Endif place xs h = (tt, tt)

pub all_fit : (count : ℕ) (ls : List Line) (xs : List Item) → AreFit count xs → AreFit count (by_line ls xs)
all_fit count [] xs h = tt
all_fit count (l ∷ ls) xs h =
    fit_both count (items_of_line l xs) (by_line ls xs) (fit_line count l.kind l.place (filter (stands_in l.place.line) xs) (fit_some count (stands_in l.place.line) xs h)) (all_fit count ls xs h)

-- ---- conditions

conditions_both : (count : ℕ) (xs ys : List Item) → AreConditionsOf count xs → AreConditionsOf count ys → AreConditionsOf count (xs ++ ys)
conditions_both count [] ys h k = k
conditions_both count (x ∷ xs) ys h k = (h.0, conditions_both count xs ys h.1 k)

no_condition : (count : ℕ) (s : Sign) → is_group s ≡ false → IsConditionOf count s
no_condition count (signs.GroupIf n) e = absurd cc
no_condition count (signs.GroupElif n) e = absurd cc
no_condition count _ e = tt

neither : (a b : Bool) → (a || b) ≡ false → (a ≡ false) × (b ≡ false)
neither true b e = absurd cc
neither false b e = (refl, e)

conditions_some : (count : ℕ) (p : Item → Bool) (xs : List Item) → has_groups xs ≡ false → AreConditionsOf count (filter p xs)
conditions_some count p [] h = tt
conditions_some count p (x ∷ xs) h =
    let n = neither (is_group x.sign) (has_groups xs) h in
    elim (p x) as (λ t. AreConditionsOf count (cond t (x ∷ filter p xs) (filter p xs))) [ true ↦ (no_condition count x.sign n.0, conditions_some count p xs n.1) | false ↦ conditions_some count p xs n.1 ]

conditions_line : (count : ℕ) (kind : LineKind) (place : Place) (xs : List Item) → IsNumberedBelow count kind → AreConditionsOf count xs → AreConditionsOf count (or_directive (group_sign kind) place xs)
conditions_line count kinds.Code place xs n h = h
conditions_line count kinds.Include place xs n h = h
conditions_line count kinds.Define place xs n h = h
conditions_line count (kinds.If k) place xs n h = (n, tt)
conditions_line count (kinds.Elif k) place xs n h = (n, tt)
conditions_line count kinds.Else place xs n h = (tt, tt)
conditions_line count kinds.Endif place xs n h = (tt, tt)

pub all_conditions : (count : ℕ) (ls : List Line) (xs : List Item) → AreNumberedBelow count ls → has_groups xs ≡ false → AreConditionsOf count (by_line ls xs)
all_conditions count [] xs n h = tt
all_conditions count (l ∷ ls) xs n h =
    conditions_both count (items_of_line l xs) (by_line ls xs) (conditions_line count l.kind l.place (filter (stands_in l.place.line) xs) n.0 (conditions_some count (stands_in l.place.line) xs h)) (all_conditions count ls xs n.1 h)

-- ---- rising

abbrev pub AreOn : ℕ → List Item → Type 0
AreOn n [] = Unit {0}
AreOn n (x ∷ xs) = (x.place.line ≡ n) × AreOn n xs

abbrev pub AreFrom : ℕ → List Item → Type 0
AreFrom n [] = Unit {0}
AreFrom n (x ∷ xs) = (n ≤ x.place.line) × AreFrom n xs

pub is_on : (m n : ℕ) → nat_eq m n ≡ true → m ≡ n
is_on m n e = grind (arith, nat_tests)

some_on : (n : ℕ) (xs : List Item) → AreOn n (filter (stands_in n) xs)
some_on n [] = tt
some_on n (x ∷ xs) = elim (nat_eq x.place.line n) as (λ t. nat_eq x.place.line n ≡ t → AreOn n (cond t (x ∷ filter (stands_in n) xs) (filter (stands_in n) xs))) [
  | true ↦ λ e. (is_on x.place.line n e, some_on n xs)
  | false ↦ λ e. some_on n xs
] refl

line_on : (kind : LineKind) (place : Place) (xs : List Item) → AreOn place.line xs → AreOn place.line (or_directive (group_sign kind) place xs)
line_on kinds.Code place xs h = h
line_on kinds.Include place xs h = h
line_on kinds.Define place xs h = h
line_on (kinds.If k) place xs h = (refl, tt)
line_on (kinds.Elif k) place xs h = (refl, tt)
line_on kinds.Else place xs h = (refl, tt)
line_on kinds.Endif place xs h = (refl, tt)

before_some : (q : Place) (p : Item → Bool) (xs : List Item) → IsBeforeItems q xs → IsBeforeItems q (filter p xs)
before_some q p [] h = tt
before_some q p (x ∷ xs) h = elim (p x) as (λ t. IsBeforeItems q (cond t (x ∷ filter p xs) (filter p xs))) [ true ↦ (h.0, before_some q p xs h.1) | false ↦ before_some q p xs h.1 ]

rising_some : (p : Item → Bool) (xs : List Item) → AreRising xs → AreRising (filter p xs)
rising_some p [] h = tt
rising_some p (x ∷ xs) h = elim (p x) as (λ t. AreRising (cond t (x ∷ filter p xs) (filter p xs))) [ true ↦ (before_some x.place p xs h.0, rising_some p xs h.1) | false ↦ rising_some p xs h.1 ]

rising_line : (kind : LineKind) (place : Place) (xs : List Item) → AreRising xs → AreRising (or_directive (group_sign kind) place xs)
rising_line kinds.Code place xs h = h
rising_line kinds.Include place xs h = h
rising_line kinds.Define place xs h = h
rising_line (kinds.If k) place xs h = (tt, tt)
rising_line (kinds.Elif k) place xs h = (tt, tt)
rising_line kinds.Else place xs h = (tt, tt)
rising_line kinds.Endif place xs h = (tt, tt)

higher_before : (p q : Place) → p.line < q.line → IsTrue (is_before p q)
higher_before p q lt = rw (lt-ltb p.line q.line lt) refl

before_lower : (p : Place) (ys : List Item) → AreFrom (p.line + 1) ys → IsBeforeItems p ys
before_lower p [] h = tt
before_lower p (y ∷ ys) h = (higher_before p y.place (omega (arith, h.0)), before_lower p ys h.1)

before_both : (p : Place) (xs ys : List Item) → IsBeforeItems p xs → IsBeforeItems p ys → IsBeforeItems p (xs ++ ys)
before_both p [] ys h k = k
before_both p (x ∷ xs) ys h k = (h.0, before_both p xs ys h.1 k)

rising_both : (n : ℕ) (xs ys : List Item) → AreOn n xs → AreRising xs → AreFrom (n + 1) ys → AreRising ys → AreRising (xs ++ ys)
rising_both n [] ys o h f k = k
rising_both n (x ∷ xs) ys o h f k =
    (before_both x.place xs ys h.0 (before_lower x.place ys (subst (λ (i : ℕ). AreFrom (i + 1) ys) (sym o.0) f)), rising_both n xs ys o.1 h.1 f k)

pub from_on : (n m : ℕ) (xs : List Item) → n ≤ m → AreOn m xs → AreFrom n xs
from_on n m [] le h = tt
from_on n m (x ∷ xs) le h = (omega (arith, h.0), from_on n m xs le h.1)

pub from_both : (n : ℕ) (xs ys : List Item) → AreFrom n xs → AreFrom n ys → AreFrom n (xs ++ ys)
from_both n [] ys h k = k
from_both n (x ∷ xs) ys h k = (h.0, from_both n xs ys h.1 k)

all_on : (l : Line) (xs : List Item) → AreOn l.place.line (items_of_line l xs)
all_on l xs = line_on l.kind l.place (filter (stands_in l.place.line) xs) (some_on l.place.line xs)

all_from : (n m : ℕ) (ls : List Line) (xs : List Item) → n ≤ m → AreCounted m ls → AreFrom n (by_line ls xs)
all_from n m [] xs le c = tt
all_from n m (l ∷ ls) xs le c = from_both n (items_of_line l xs) (by_line ls xs) (from_on n l.place.line (items_of_line l xs) (omega (arith, c.0)) (all_on l xs)) (all_from n (m + 1) ls xs (omega arith) c.1)

pub all_rise : (n : ℕ) (ls : List Line) (xs : List Item) → AreCounted n ls → AreRising xs → AreRising (by_line ls xs)
all_rise n [] xs c h = tt
all_rise n (l ∷ ls) xs c h =
    rising_both l.place.line (items_of_line l xs) (by_line ls xs) (all_on l xs) (rising_line l.kind l.place (filter (stands_in l.place.line) xs) (rising_some (stands_in l.place.line) xs h))
    (all_from (l.place.line + 1) (n + 1) ls xs (omega (arith, c.0)) c.1) (all_rise (n + 1) ls xs c.1 h)
