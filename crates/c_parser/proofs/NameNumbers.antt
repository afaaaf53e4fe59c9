-- The numbers of names in a list in which no name stands twice.
use Rattle.std.proofs.Common.{◌≡◌, ℕ, suc, ◌+◌, ◌<◌, cond, Bool, true, false, not, List, [], ◌∷◌, length, get_or, refl, sym, ap, ◌∙◌, arith}
use Rattle.std.specs.Prelude.{◌||◌, nat_eq}
use Rattle.std.specs.List.{list_any}
use Rattle.std.specs.Str.{bytes_eq}
use Rattle.std.proofs.lemmas.Bool.{eq-eqb, eqb-true, or_right}
use Rattle.std.proofs.lemmas.Slice.Eq.{bytes_eq-Decides}
use Rattle.c_parser.specs.Items.{number_in, AreDistinct}
use Rattle.c_parser.specs.Names.{names_at}
use Rattle.c_parser.proofs.Arranging.{same_text}
use Rattle.c_parser.proofs.Renumbering.{own_number}

or_left : (a b : Bool) → a ≡ true → (a || b) ≡ true
or_left true b e = refl
or_left false b e = absurd cc

one_on : (n : List ℕ) (ns : List (List ℕ)) (k : ℕ) → get_or (n ∷ ns) (1 + k) [] ≡ get_or ns k []
one_on n ns k = let e : 1 + k ≡ suc k = omega arith in ap (λ (i : ℕ). get_or (n ∷ ns) i []) e

-- at the number of a name stands this name
pub at_number : (names : List (List ℕ)) (w : List ℕ) → list_any (bytes_eq w) names ≡ true → get_or names (number_in names w) [] ≡ w
at_number [] w h = absurd cc
at_number (n ∷ ns) w h = elim (bytes_eq w n) as (λ b. bytes_eq w n ≡ b → (b || list_any (bytes_eq w) ns) ≡ true → get_or (n ∷ ns) (cond (not b) (1 + number_in ns w) 0) [] ≡ w) [
  | true ↦ λ e _. sym (same_text w n e)
  | false ↦ λ _ g. one_on n ns (number_in ns w) ∙ at_number ns w g
] refl h

-- the number of the name that stands at a number is this number
pub number_at : (names : List (List ℕ)) (k : ℕ) → AreDistinct names → k < length names → number_in names (get_or names k []) ≡ k
number_at names k h lt = own_number [] names k h lt

-- ---- the names with some numbers

-- these are numbers of so many names
abbrev pub AreBelow : ℕ → List ℕ → Type 0
AreBelow count xs = (x : ℕ) → list_any (nat_eq x) xs ≡ true → x < count

pub first_among : (x : ℕ) (xs : List ℕ) → list_any (nat_eq x) (x ∷ xs) ≡ true
first_among x xs = or_left (nat_eq x x) (list_any (nat_eq x) xs) (eq-eqb x x refl)

-- a name stands among those with some numbers if its number is one of these
pub name_among : (all : List (List ℕ)) (xs : List ℕ) (w : List ℕ) → list_any (bytes_eq w) all ≡ true → list_any (nat_eq (number_in all w)) xs ≡ true → list_any (bytes_eq w) (names_at all xs) ≡ true
name_among all [] w h e = absurd cc
name_among all (x ∷ xs) w h e = elim (nat_eq (number_in all w) x) as (λ b. nat_eq (number_in all w) x ≡ b → (b || list_any (nat_eq (number_in all w)) xs) ≡ true → (bytes_eq w (get_or all x []) || list_any (bytes_eq w) (names_at all xs)) ≡ true) [
  | true ↦ λ f _. or_left (bytes_eq w (get_or all x [])) (list_any (bytes_eq w) (names_at all xs))
      ((bytes_eq-Decides w (get_or all x [])).1 (sym (at_number all w h) ∙ ap (λ (i : ℕ). get_or all i []) (eqb-true (number_in all w) x f)))
  | false ↦ λ _ g. or_right (bytes_eq w (get_or all x [])) (list_any (bytes_eq w) (names_at all xs)) (name_among all xs w h g)
] refl e

-- and only then
pub number_among : (all : List (List ℕ)) (xs : List ℕ) (w : List ℕ) → AreDistinct all → AreBelow (length all) xs → list_any (bytes_eq w) (names_at all xs) ≡ true → list_any (nat_eq (number_in all w)) xs ≡ true
number_among all [] w h b e = absurd cc
number_among all (x ∷ xs) w h b e = elim (bytes_eq w (get_or all x [])) as (λ t. bytes_eq w (get_or all x []) ≡ t → (t || list_any (bytes_eq w) (names_at all xs)) ≡ true → (nat_eq (number_in all w) x || list_any (nat_eq (number_in all w)) xs) ≡ true) [
  | true ↦ λ f _. or_left (nat_eq (number_in all w) x) (list_any (nat_eq (number_in all w)) xs)
      (eq-eqb (number_in all w) x (ap (number_in all) (same_text w (get_or all x []) f) ∙ number_at all x h (b x (first_among x xs))))
  | false ↦ λ _ g. or_right (nat_eq (number_in all w) x) (list_any (nat_eq (number_in all w)) xs)
      (number_among all xs w h (λ y k. b y (or_right (nat_eq y x) (list_any (nat_eq y) xs) k)) g)
] refl e
