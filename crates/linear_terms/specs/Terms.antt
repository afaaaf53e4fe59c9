-- The terms of linear forms: numbers of variables by rising number, each with its coefficient, which is not 0.
use Rattle.std.specs.Prelude.{◌≢◌, ℕ, suc, ◌≤◌, ◌<◌, nat_le, ℤ, pos, ◌+ℤ◌, ◌*ℤ◌, unsigned_abs, Bool, true, ◌&&◌, if◌then◌else◌, List, [], ◌∷◌, ◌++◌, slice_index_or, Option, Some, None}
use Rattle.std.specs.declared.cmp.Ordering.{Ordering}
use Rattle.std.specs.declared.cmp.Ordering.TheVariants.{Less, Equal, Greater}
use Rattle.std.specs.Ordering.{nat_cmp, int_eq}

-- the terms' numbers rise from at least this one, and no coefficient is 0
abbrev pub RisesFrom : ℕ → List (ℕ × ℤ) → Type 0
RisesFrom least [] = Unit {0}
RisesFrom least (t ∷ ts) = (least ≤ t.0) × (t.1 ≢ pos 0) × RisesFrom (suc t.0) ts

abbrev pub IsRising : List (ℕ × ℤ) → Type 0
IsRising ts = RisesFrom 0 ts

-- each term's number is below this
abbrev pub AreBelow : ℕ → List (ℕ × ℤ) → Type 0
AreBelow count [] = Unit {0}
AreBelow count (t ∷ ts) = (t.0 < count) × AreBelow count ts

-- ---- values

-- the sum of the terms at the values of the variables
abbrev pub sum_at : List (ℕ × ℤ) → List ℤ → ℤ
sum_at [] values = pos 0
sum_at (t ∷ ts) values = (t.1 *ℤ slice_index_or values t.0 (pos 0)) +ℤ sum_at ts values

-- ---- sums and multiples

-- one term, or none where the coefficient is 0
abbrev pub one : ℕ → ℤ → List (ℕ × ℤ)
one n a = if int_eq a (pos 0) then [] else (n, a) ∷ []

-- a variable's multiple beside a term and those behind it
abbrev pub placed : Ordering → ℕ → ℤ → ℕ × ℤ → List (ℕ × ℤ) → List (ℕ × ℤ) → List (ℕ × ℤ)
placed Less n a t ts more = one n a ++ t ∷ ts
placed Equal n a t ts more = one n (a +ℤ t.1) ++ ts
placed Greater n a t ts more = t ∷ more

-- a multiple of one variable added to rising terms
abbrev pub with_term : ℕ → ℤ → List (ℕ × ℤ) → List (ℕ × ℤ)
with_term n a [] = one n a
with_term n a (t ∷ ts) = placed (nat_cmp n t.0) n a t ts (with_term n a ts)

-- each term of the first added to the second
abbrev pub terms_sum : List (ℕ × ℤ) → List (ℕ × ℤ) → List (ℕ × ℤ)
terms_sum [] us = us
terms_sum (t ∷ ts) us = with_term t.0 t.1 (terms_sum ts us)

abbrev pub terms_by : ℤ → List (ℕ × ℤ) → List (ℕ × ℤ)
terms_by k [] = []
terms_by k (t ∷ ts) = one t.0 (t.1 *ℤ k) ++ terms_by k ts

-- ---- sizes

-- the number does not pass the limit in size
abbrev pub is_within : ℕ → ℤ → Bool
is_within limit n = nat_le (unsigned_abs n) limit

-- no coefficient passes the limit in size
abbrev pub are_within : ℕ → List (ℕ × ℤ) → Bool
are_within limit [] = true
are_within limit (t ∷ ts) = is_within limit t.1 && are_within limit ts

-- the number, where it does not pass the limit in size
abbrev pub number_within : ℕ → ℤ → Option ℤ
number_within limit n = if is_within limit n then Some n else None

-- the terms, where none of their coefficients passes the limit in size
abbrev pub terms_within : ℕ → List (ℕ × ℤ) → Option (List (ℕ × ℤ))
terms_within limit ts = if are_within limit ts then Some ts else None
