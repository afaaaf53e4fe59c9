-- The nearest number is the least of those that cover the bound.
use Rattle.std.proofs.Common.{◌≡◌, ◌⊎◌, inl, inr, ℤ, ◌≤ℤ◌, int_le, int_lt, Bool, true, false, if◌then◌else◌, List, [], ◌∷◌, Contains, refl, arith}
use Rattle.std.proofs.lemmas.Int.{ints}
use Rattle.std.proofs.lemmas.List.Elements.{All-nil, All-cons, All-weaker, All-contains, Contains-append_right}
use Rattle.std.specs.Int.{int_min}
use Rattle.leaf_domain.specs.Thresholds.{nearest}
use Rattle.range_laws.specs.Nearest.{IsNearest, NearestIsLeast, NearestIsOne}

here : (t : ℤ) (ts : List ℤ) → Contains (t ∷ ts) t
here t ts = (0, omega arith, refl)

there : (limit t x : ℤ) (ts : List ℤ) → (x ≡ limit) ⊎ Contains ts x → (x ≡ limit) ⊎ Contains (t ∷ ts) x
there limit t x ts (inl e) = inl e
there limit t x ts (inr c) = inr (Contains-append_right (t ∷ []) ts x c)

-- a further number that covers the bound
covering : (limit : ℤ) (t : ℤ) (ts : List ℤ) (bound n : ℤ) → bound ≤ℤ t → IsNearest limit ts bound n → IsNearest limit (t ∷ ts) bound (int_min t n)
covering limit t ts bound n p i = by_test (int_lt n t) refl
  where
    later : (x : ℤ) → t ≤ℤ n → n ≤ℤ x → t ≤ℤ x
    later x l m = omega (arith, ints, l, m)

    by_test : (b : Bool) → int_lt n t ≡ b → IsNearest limit (t ∷ ts) bound (if b then n else t)
    by_test true e = record {
      covers = i.covers;
      within = i.within;
      step = there limit t n ts i.step;
      least = All-cons (λ x. bound ≤ℤ x → n ≤ℤ x) t ts (λ _. omega (arith, ints, e)) i.least;
    }
    by_test false e =
        let l : t ≤ℤ n = omega (arith, ints, e) in
        record {
          covers = p;
          within = omega (arith, ints, l, i.within);
          step = inr (here t ts);
          least = All-cons (λ x. bound ≤ℤ x → t ≤ℤ x) t ts (λ _. omega (arith, ints)) (All-weaker (λ x. bound ≤ℤ x → n ≤ℤ x) (λ x. bound ≤ℤ x → t ≤ℤ x) (λ x f c. later x l (f c)) ts i.least);
        }

-- one that does not
passing : (limit : ℤ) (t : ℤ) (ts : List ℤ) (bound n : ℤ) → int_le bound t ≡ false → IsNearest limit ts bound n → IsNearest limit (t ∷ ts) bound n
passing limit t ts bound n e i = record {
  covers = i.covers;
  within = i.within;
  step = there limit t n ts i.step;
  least = All-cons (λ x. bound ≤ℤ x → n ≤ℤ x) t ts (λ c. absurd (omega (arith, ints, e, c))) i.least;
}

-- one more number
next : (limit : ℤ) (t : ℤ) (ts : List ℤ) (bound n : ℤ) → IsNearest limit ts bound n → IsNearest limit (t ∷ ts) bound (if int_le bound t then int_min t n else n)
next limit t ts bound n i = by_test (int_le bound t) refl
  where
    by_test : (b : Bool) → int_le bound t ≡ b → IsNearest limit (t ∷ ts) bound (if b then int_min t n else n)
    by_test true e = covering limit t ts bound n (omega (arith, ints, e)) i
    by_test false e = passing limit t ts bound n e i

pub nearest-least : NearestIsLeast
nearest-least limit [] bound l = record { covers = l; within = omega (arith, ints); step = inl refl; least = All-nil (λ x. bound ≤ℤ x → limit ≤ℤ x) }
nearest-least limit (t ∷ ts) bound l = next limit t ts bound (nearest limit ts bound) (nearest-least limit ts bound l)

-- ---- only one number is the nearest
nearer : (limit : ℤ) (ts : List ℤ) (bound m n : ℤ) → IsNearest limit ts bound m → IsNearest limit ts bound n → m ≤ℤ n
nearer limit ts bound m n i j = by_step j.step
  where
    by_step : (n ≡ limit) ⊎ Contains ts n → m ≤ℤ n
    by_step (inl e) = omega (arith, ints, e, i.within)
    by_step (inr c) = All-contains (λ t. bound ≤ℤ t → m ≤ℤ t) ts n i.least c j.covers

pub nearest-one : NearestIsOne
nearest-one limit ts bound m n i j = omega (arith, ints, nearer limit ts bound m n i j, nearer limit ts bound n m j i)
