-- Lists of numbers, each of which stands among them once, and so many numbers that each stand among a list.
use Rattle.std.proofs.Common.{◌≡◌, ◌⊎◌, inl, inr, ℕ, zero, suc, ◌+◌, ◌≤◌, ◌<◌, nat_eq, Bool, true, false, ◌||◌, cond, List, [], ◌∷◌, ◌++◌, length, refl, sym, ap, subst, ◌∙◌, arith}
use Rattle.std.specs.Prelude.{if◌then◌else◌}
use Rattle.std.proofs.lemmas.Bool.{or_right}
use Rattle.std.proofs.lemmas.Bool.Decides.{nat_tests}
use Rattle.std.specs.List.{filter}
use Rattle.std.proofs.lemmas.List.Folds.{list_any-append}
use Rattle.c_grammar.specs.declared.constants.NameClass.{NameClass}
use Rattle.c_grammar.specs.declared.constants.NameClass.TheVariants as classes
use Rattle.c_grammar.specs.Classes.{is_class}
use Rattle.family_names.specs.Names.{is_among, with_number, each_once}

-- ---- one of two

pub neither : (a b : Bool) → (a || b) ≡ false → (a ≡ false) × (b ≡ false)
neither true b e = absurd cc
neither false b e = (refl, e)

pub or_cases : (a b : Bool) → (a || b) ≡ true → (a ≡ true) ⊎ (b ≡ true)
or_cases true b h = inl refl
or_cases false b h = inr h

-- ---- among more

pub among_front : (x : ℕ) (xs ys : List ℕ) → is_among x xs ≡ true → is_among x (xs ++ ys) ≡ true
among_front x xs ys h = list_any-append (nat_eq x) xs ys ∙ ap (λ b. b || is_among x ys) h

-- ---- each once

pub same_number : (x : ℕ) → nat_eq x x ≡ true
same_number x = grind (arith, nat_tests)

with_keeps : (x y : ℕ) (seen : List ℕ) → is_among x seen ≡ true → is_among x (with_number seen y) ≡ true
with_keeps x y seen h = elim (is_among y seen) as (λ b. is_among x (cond b seen (seen ++ y ∷ [])) ≡ true) [ true ↦ h | false ↦ among_front x seen (y ∷ []) h ]

pub with_it : (x : ℕ) (seen : List ℕ) → is_among x (with_number seen x) ≡ true
with_it x seen = elim (is_among x seen) as (λ b. is_among x seen ≡ b → is_among x (cond b seen (seen ++ x ∷ [])) ≡ true) [
  | true ↦ λ e. e
  | false ↦ λ e. list_any-append (nat_eq x) seen (x ∷ []) ∙ or_right (is_among x seen) (nat_eq x x || false) (ap (λ b. b || false) (same_number x))
] refl

once_keeps : (x : ℕ) (seen ds : List ℕ) → is_among x seen ≡ true → is_among x (each_once seen ds) ≡ true
once_keeps x seen [] h = h
once_keeps x seen (d ∷ ds) h = once_keeps x (with_number seen d) ds (with_keeps x d seen h)

pub is_same : (x y : ℕ) → nat_eq x y ≡ true → x ≡ y
is_same x y e = grind (arith, nat_tests)

pub once_has : (x : ℕ) (seen ds : List ℕ) → is_among x ds ≡ true → is_among x (each_once seen ds) ≡ true
once_has x seen [] h = absurd cc
once_has x seen (d ∷ ds) h = elim (nat_eq x d) as (λ b. nat_eq x d ≡ b → (b || is_among x ds) ≡ true → is_among x (each_once (with_number seen d) ds) ≡ true) [
  | true ↦ λ e k. once_keeps x (with_number seen d) ds (subst (λ (y : ℕ). is_among x (with_number seen y) ≡ true) (is_same x d e) (with_it x seen))
  | false ↦ λ e k. once_has x (with_number seen d) ds k
] refl h

-- ---- so many numbers, each among a list

unfoldable pub without : ℕ → List ℕ → List ℕ
without x [] = []
without x (y ∷ ys) = if nat_eq x y then ys else y ∷ without x ys

pub one_less : (x : ℕ) (ys : List ℕ) → is_among x ys ≡ true → length (without x ys) + 1 ≡ length ys
unfolding without
one_less x [] h = absurd cc
one_less x (y ∷ ys) h = elim (nat_eq x y) as (λ b. (b || is_among x ys) ≡ true → length (cond b ys (y ∷ without x ys)) + 1 ≡ suc (length ys)) [
  | true ↦ λ _. omega arith
  | false ↦ λ k. omega (arith, one_less x ys k)
] h

not_first : (a b : Bool) → a ≡ false → (a || b) ≡ true → b ≡ true
not_first true b e h = absurd cc
not_first false b e h = h

pub others_stay : (x z : ℕ) (ys : List ℕ) → nat_eq z x ≡ false → is_among z ys ≡ true → is_among z (without x ys) ≡ true
unfolding without
others_stay x z [] n h = absurd cc
others_stay x z (y ∷ ys) n h = elim (nat_eq x y) as (λ b. nat_eq x y ≡ b → is_among z (cond b ys (y ∷ without x ys)) ≡ true) [
  | true ↦ λ e. not_first (nat_eq z y) (is_among z ys) (subst (λ (w : ℕ). nat_eq z w ≡ false) (is_same x y e) n) h
  | false ↦ λ e. (elim (nat_eq z y) as (λ b. (b || is_among z ys) ≡ true → (b || is_among z (without x ys)) ≡ true) [
    | true ↦ λ _. refl
    | false ↦ λ k. others_stay x z ys n k
  ] h)
] refl

below_differs : (z x : ℕ) → z < x → nat_eq z x ≡ false
below_differs z x h = grind (arith, nat_tests)

pub at_least : (n : ℕ) (ys : List ℕ) → ((x : ℕ) → x < n → is_among x ys ≡ true) → n ≤ length ys
at_least zero ys h = omega arith
at_least (suc n) ys h =
    let there : is_among n ys ≡ true = h n (omega arith) in
    omega (arith, one_less n ys there, at_least n (without n ys) (λ x lt. others_stay n x ys (below_differs x n lt) (h x (omega (arith, lt)))))

-- each name is of one class
class_more : (class : NameClass) (x : ℕ) (variables locals constants xs : List ℕ) → length variables + (length locals + length constants) ≡ length xs
    → length (cond (is_class classes.Variable class) (x ∷ variables) variables) + (length (cond (is_class classes.Local class) (x ∷ locals) locals) + length (cond (is_class classes.Constant class) (x ∷ constants) constants)) ≡ suc (length xs)
class_more classes.Variable x variables locals constants xs h = omega (arith, h)
class_more classes.Local x variables locals constants xs h = omega (arith, h)
class_more classes.Constant x variables locals constants xs h = omega (arith, h)

-- the numbers of which this is the class
abbrev pub of_class : NameClass → (ℕ → NameClass) → List ℕ → List ℕ
of_class class class_of xs = filter (λ x. is_class class (class_of x)) xs

pub all_classes : (class_of : ℕ → NameClass) (xs : List ℕ) → length (of_class classes.Variable class_of xs) + (length (of_class classes.Local class_of xs) + length (of_class classes.Constant class_of xs)) ≡ length xs
all_classes class_of [] = omega arith
all_classes class_of (x ∷ xs) = class_more (class_of x) x (of_class classes.Variable class_of xs) (of_class classes.Local class_of xs) (of_class classes.Constant class_of xs) xs (all_classes class_of xs)

pub among_both : (x : ℕ) (xs ys : List ℕ) (a : Bool) → a ≡ is_among x xs → (a || is_among x ys) ≡ true → is_among x (xs ++ ys) ≡ true
among_both x xs ys a e h = list_any-append (nat_eq x) xs ys ∙ ap (λ (b : Bool). b || is_among x ys) (sym e) ∙ h
