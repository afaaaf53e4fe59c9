-- The ends of the ranges of features, and values within them.
use Rattle.std.proofs.Common.{◌≡◌, ℕ, zero, suc, ◌+◌, ◌<◌, ◌≤◌, ℤ, pos, negsuc, ◌+ℤ◌, ◌-ℤ◌, ◌≤ℤ◌, unsigned_abs, List, [], ◌∷◌, map, length, get_or, refl, ap, subst, sym, ◌∙◌, arith}
use Rattle.std.proofs.lemmas.Int.{ints}
use Rattle.std.proofs.lemmas.List.{get_or-map}
use Rattle.linear_atoms.specs.declared.atoms.Feature.{Feature}
use Rattle.linear_atoms.specs.Atoms.{AreRanges, IsWithin}
use Rattle.feature_values.specs.Values.{width, low_at, width_at}

-- a range that is not empty, with ends of at most 2^20 in size
pub record IsRange (f : Feature) : Type 0 where
  pub range : f.low ≤ℤ f.high
  pub low : unsigned_abs f.low ≤ 1048576
  pub high : unsigned_abs f.high ≤ 1048576

pub above_low : (low high : ℤ) → low ≤ℤ high → low +ℤ pos (unsigned_abs (high -ℤ low)) ≡ high
above_low low high h = by_size (high -ℤ low) refl
  where
    by_size : (z : ℤ) → high -ℤ low ≡ z → low +ℤ pos (unsigned_abs z) ≡ high
    by_size (pos n) e = omega (arith, ints)
    by_size (negsuc n) e = absurd (omega (arith, ints))

pub range_at : (fs : List Feature) (n : ℕ) (d : Feature) → AreRanges fs → n < length fs → IsRange (get_or fs n d)
range_at [] n d h l = absurd (omega arith)
range_at (f ∷ fs) zero d h l = record { range = h.0; low = h.1; high = h.2 }
range_at (f ∷ fs) (suc n) d h l = range_at fs n d h.3 (omega arith)

pub range_of : (fs : List Feature) (n : ℕ) (f : Feature) → AreRanges fs → n < length fs → f ≡ get_or fs n f → IsRange f
range_of fs n f h l e = subst IsRange (sym e) (range_at fs n f h l)

pub low_of : (fs : List Feature) (n : ℕ) (f : Feature) → n < length fs → f ≡ get_or fs n f → low_at fs n ≡ f.low
low_of fs n f l e = get_or-map (λ (g : Feature). g.low) fs n f (pos 0) l ∙ ap (λ (g : Feature). g.low) (sym e)

pub width_of : (fs : List Feature) (n : ℕ) (f : Feature) → n < length fs → f ≡ get_or fs n f → width_at fs n ≡ width f
width_of fs n f l e = get_or-map width fs n f 0 l ∙ ap width (sym e)

-- a value from a low up to so many above it
pub record IsBetween (low : ℤ) (count : ℕ) (v : ℤ) : Type 0 where
  pub above : low ≤ℤ v
  pub below : v ≤ℤ (low +ℤ pos count)

in_range : (low high v : ℤ) → low ≤ℤ v → v ≤ℤ high → IsBetween low (unsigned_abs (high -ℤ low)) v
in_range low high v h k = record { above = h; below = subst (λ z. v ≤ℤ z) (sym (above_low low high (omega (arith, ints)))) k }

pub within_at : (fs : List Feature) (vs : List ℤ) (n : ℕ) → IsWithin fs vs → IsBetween (low_at fs n) (width_at fs n) (get_or vs n (pos 0))
within_at [] [] n h = record { above = omega (arith, ints); below = omega (arith, ints) }
within_at [] (v ∷ vs) n h = absurd h
within_at (f ∷ fs) [] n h = absurd h
within_at (f ∷ fs) (v ∷ vs) zero h = in_range f.low f.high v h.0 h.1
within_at (f ∷ fs) (v ∷ vs) (suc n) h = within_at fs vs n h.2

-- a low and so many numbers above it are at most 2^20 in size
pub record AreSmall (low : ℤ) (count : ℕ) : Type 0 where
  pub least : (negsuc 1048575) ≤ℤ low
  pub greatest : (low +ℤ pos count) ≤ℤ pos 1048576

small_range : (low high : ℤ) → low ≤ℤ high → unsigned_abs low ≤ 1048576 → unsigned_abs high ≤ 1048576 → AreSmall low (unsigned_abs (high -ℤ low))
small_range low high h k l = record {
  least = least_of low k;
  greatest = subst (λ z. z ≤ℤ pos 1048576) (sym (above_low low high h)) (greatest_of high l);
}
  where
    least_of : (z : ℤ) → unsigned_abs z ≤ 1048576 → (negsuc 1048575) ≤ℤ z
    least_of (pos n) k = omega (arith, ints)
    least_of (negsuc n) k = omega (arith, ints)

    greatest_of : (z : ℤ) → unsigned_abs z ≤ 1048576 → z ≤ℤ pos 1048576
    greatest_of (pos n) k = omega (arith, ints)
    greatest_of (negsuc n) k = omega (arith, ints)

pub small_at : (fs : List Feature) (n : ℕ) → AreRanges fs → AreSmall (low_at fs n) (width_at fs n)
small_at [] n h = record { least = omega (arith, ints); greatest = omega (arith, ints) }
small_at (f ∷ fs) zero h = small_range f.low f.high h.0 h.1 h.2
small_at (f ∷ fs) (suc n) h = small_at fs n h.3
