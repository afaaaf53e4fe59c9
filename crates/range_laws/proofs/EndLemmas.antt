-- Ends of ranges that are made by cases, and of ranges between given ends.
use Rattle.std.proofs.Common.{◌≡◌, ℤ, ◌≤ℤ◌, int_lt, Bool, true, false, if◌then◌else◌, refl, sym, arith}
use Rattle.std.proofs.lemmas.Int.{ints}
use Rattle.std.proofs.lemmas.Bool.{false≢true}
use Rattle.std.specs.Int.{int_min, int_max}
use Rattle.leaf_domain.specs.declared.range.Range.{Range}
use Rattle.leaf_domain.specs.Ranges.{Within, is_empty_range, empty_range, range_at, range_of_ends, cover_of, spread_of, hull_of}
use Rattle.leaf_domain.proofs.ArithmeticLemmas.{not_empty}
use Rattle.range_laws.specs.Ends.{EndsAre, IsLeastWith}

-- ---- a range that is not empty
pub some : (a : Range) → is_empty_range a ≡ false → a.low ≤ℤ a.high
some a e = grind (arith, ints)

pub low_in : (a : Range) → a.low ≤ℤ a.high → Within a.low a
low_in a p = record { low = omega (arith, ints); high = p }

pub high_in : (a : Range) → a.low ≤ℤ a.high → Within a.high a
high_in a p = record { low = p; high = omega (arith, ints) }

-- ---- ends by cases
pub ends_none : (P : ℤ → Type 0) → EndsAre P empty_range
ends_none P e = absurd (false≢true (sym e))

min_keeps : (P : ℤ → Type 0) (x y : ℤ) → P x → P y → P (int_min x y)
min_keeps P x y p q = by_test (int_lt y x)
  where
    by_test : (t : Bool) → P (if t then y else x)
    by_test true = q
    by_test false = p

max_keeps : (P : ℤ → Type 0) (x y : ℤ) → P x → P y → P (int_max x y)
max_keeps P x y p q = by_test (int_lt y x)
  where
    by_test : (t : Bool) → P (if t then x else y)
    by_test true = p
    by_test false = q

pub ends_spread : (P : ℤ → Type 0) (p q r s : ℤ) → P p → P q → P r → P s → EndsAre P (spread_of p q r s)
ends_spread P p q r s f g h k e = (
  min_keeps P (int_min p q) (int_min r s) (min_keeps P p q f g) (min_keeps P r s h k),
  max_keeps P (int_max p q) (int_max r s) (max_keeps P p q f g) (max_keeps P r s h k),
)

pub ends_hull : (P : ℤ → Type 0) (a b : Range) → EndsAre P a → EndsAre P b → EndsAre P (hull_of a b)
ends_hull P a b f g = by_tests (is_empty_range a) (is_empty_range b) refl refl
  where
    by_tests : (t u : Bool) → is_empty_range a ≡ t → is_empty_range b ≡ u → EndsAre P (if t then b else (if u then a else cover_of a b))
    by_tests true u d e = g
    by_tests false true d e = f
    by_tests false false d e = λ _. (min_keeps P a.low b.low (f d).0 (g e).0, max_keeps P a.high b.high (f d).1 (g e).1)

-- ---- a range between two ends, which is empty where they cross
pub ends_between : (P : ℤ → Type 0) (l h : ℤ) → (l ≤ℤ h → P l × P h) → EndsAre P (range_of_ends l h)
ends_between P l h f = by_test (int_lt h l) refl
  where
    by_test : (t : Bool) → int_lt h l ≡ t → EndsAre P (if t then empty_range else range_at l h)
    by_test true e = ends_none P
    by_test false e = λ _. f (omega (arith, ints))

pub within_ends : (n l h : ℤ) → Within n (range_of_ends l h) → (l ≤ℤ n) × (n ≤ℤ h)
within_ends n l h = by_test (int_lt h l)
  where
    by_test : (t : Bool) → Within n (if t then empty_range else range_at l h) → (l ≤ℤ n) × (n ≤ℤ h)
    by_test true w = absurd (omega (arith, ints, w.low, w.high))
    by_test false w = (w.low, w.high)

-- ---- a range whose ends are such numbers is the least that has them
pub least_by_ends : (P : ℤ → Type 0) (r : Range) → EndsAre P r → IsLeastWith P r
least_by_ends P r f c g n w =
    let e = f (not_empty n r w) in
    let l = g r.low e.0 in
    let h = g r.high e.1 in
    record { low = omega (arith, ints, l.low, w.low); high = omega (arith, ints, h.high, w.high) }
