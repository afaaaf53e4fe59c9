-- A bound that steps to the nearest threshold: it covers what it has to, and each step leaves fewer.
use Rattle.std.proofs.Common.{◌≡◌, ℕ, suc, ◌+◌, ◌<◌, ◌≤◌, ℤ, ◌<ℤ◌, ◌≤ℤ◌, int_le, int_lt, Bool, true, false, ◌&&◌, if◌then◌else◌, List, [], ◌∷◌, length, All, refl, ap, subst, arith}
use Rattle.std.proofs.lemmas.Int.{ints, clamps}
use Rattle.std.specs.Int.{int_min}
use Rattle.c_tree.specs.Value.{IsInt}
use Rattle.leaf_domain.specs.declared.thresholds.Multiple.{Multiple}
use Rattle.leaf_domain.specs.Thresholds.{nearest, steps_from, scaled}

-- what one number makes of the nearest of the others
abbrev nearer : Bool → ℤ → ℤ → ℤ
nearer covers t other = if covers then int_min t other else other

nearer_covers : (b : Bool) (t other bound : ℤ) → int_le bound t ≡ b → bound ≤ℤ other → bound ≤ℤ nearer b t other
nearer_covers true t other bound e h = omega (arith, ints, clamps, e, h)
nearer_covers false t other bound e h = h

pub nearest_covers : (limit : ℤ) (ts : List ℤ) (bound : ℤ) → bound ≤ℤ limit → bound ≤ℤ nearest limit ts bound
nearest_covers limit [] bound l = l
nearest_covers limit (t ∷ ts) bound l = nearer_covers (int_le bound t) t (nearest limit ts bound) bound refl (nearest_covers limit ts bound l)

nearer_below : (b : Bool) (t other limit : ℤ) → other ≤ℤ limit → nearer b t other ≤ℤ limit
nearer_below true t other limit h = omega (arith, ints, clamps, h)
nearer_below false t other limit h = h

pub nearest_below : (limit : ℤ) (ts : List ℤ) (bound : ℤ) → nearest limit ts bound ≤ℤ limit
nearest_below limit [] bound = omega (arith, ints)
nearest_below limit (t ∷ ts) bound = nearer_below (int_le bound t) t (nearest limit ts bound) limit (nearest_below limit ts bound)

-- one where both hold, and else none
abbrev count : Bool → Bool → ℕ
count p q = if p && q then 1 else 0

-- a greater bound counts no more numbers
counts_fall : (t limit a b : ℤ) (p q r : Bool) → int_lt b t ≡ p → int_lt a t ≡ q → a ≤ℤ b → count p r ≤ count q r
counts_fall t limit a b true true r e f l = omega arith
counts_fall t limit a b true false r e f l = absurd (omega (arith, ints, e, f, l))
counts_fall t limit a b false q r e f l = omega arith

last_falls : (limit a b : ℤ) (p q : Bool) → int_lt b limit ≡ p → int_lt a limit ≡ q → a ≤ℤ b → (if p then 1 else 0) ≤ (if q then 1 else 0)
last_falls limit a b true true e f l = omega arith
last_falls limit a b true false e f l = absurd (omega (arith, ints, e, f, l))
last_falls limit a b false q e f l = omega arith

pub steps_fall : (limit : ℤ) (ts : List ℤ) (a b : ℤ) → a ≤ℤ b → steps_from limit ts b ≤ steps_from limit ts a
steps_fall limit [] a b l = last_falls limit a b (int_lt b limit) (int_lt a limit) refl refl l
steps_fall limit (t ∷ ts) a b l =
    omega (arith, counts_fall t limit a b (int_lt b t) (int_lt a t) (int_lt t limit) refl refl l, steps_fall limit ts a b l)

last_fewer : (limit own : ℤ) (p q : Bool) → int_lt limit limit ≡ p → int_lt own limit ≡ q → own <ℤ limit → (if p then 1 else 0) < (if q then 1 else 0)
last_fewer limit own true q e f l = absurd (omega (arith, ints, e))
last_fewer limit own false true e f l = omega arith
last_fewer limit own false false e f l = absurd (omega (arith, ints, f, l))

-- a number between the bound and the limit is one step from the bound, and none from itself
counts_itself : (t limit own : ℤ) (p q r : Bool) → int_lt t t ≡ p → int_lt own t ≡ q → int_lt t limit ≡ r → own <ℤ t → t <ℤ limit → count p r + 1 ≤ count q r
counts_itself t limit own true q r e f g l m = absurd (omega (arith, ints, e))
counts_itself t limit own false true true e f g l m = omega arith
counts_itself t limit own false true false e f g l m = absurd (omega (arith, ints, g, m))
counts_itself t limit own false false r e f g l m = absurd (omega (arith, ints, f, l))

least_of : (limit : ℤ) (t : ℤ) (ts : List ℤ) (own n : ℤ) (b : Bool) → int_lt t n ≡ b → own <ℤ t → own ≤ℤ n → n ≤ℤ limit → steps_from limit ts n < steps_from limit ts own
    → steps_from limit (t ∷ ts) (int_min t n) < steps_from limit (t ∷ ts) own
least_of limit t ts own n true e l h m f = rw (first_least (omega (arith, ints, e))) (omega (arith, counts_itself t limit own (int_lt t t) (int_lt own t) (int_lt t limit) refl refl refl l (omega (arith, ints, e, m)), steps_fall limit ts own t (omega (arith, ints, l))))
  where
    first_least : t <ℤ n → int_min t n ≡ t
    first_least g = omega (arith, ints, clamps, g)
least_of limit t ts own n false e l h m f = rw (second_least (omega (arith, ints, e))) (omega (arith, counts_fall t limit own n (int_lt n t) (int_lt own t) (int_lt t limit) refl refl h, f))
  where
    second_least : n ≤ℤ t → int_min t n ≡ n
    second_least g = omega (arith, ints, clamps, g)

nearer_fewer : (limit : ℤ) (t : ℤ) (ts : List ℤ) (own bound n : ℤ) (b : Bool) → int_le bound t ≡ b → own <ℤ bound → bound ≤ℤ n → n ≤ℤ limit → steps_from limit ts n < steps_from limit ts own
    → steps_from limit (t ∷ ts) (nearer b t n) < steps_from limit (t ∷ ts) own
nearer_fewer limit t ts own bound n true e l h m f = least_of limit t ts own n (int_lt t n) refl (omega (arith, ints, e, l)) (omega (arith, ints, l, h)) m f
nearer_fewer limit t ts own bound n false e l h m f =
    omega (arith, counts_fall t limit own n (int_lt n t) (int_lt own t) (int_lt t limit) refl refl (omega (arith, ints, l, h)), f)

-- a bound that had to step has fewer steps after it
pub steps_fewer : (limit : ℤ) (ts : List ℤ) (own bound : ℤ) → own <ℤ bound → bound ≤ℤ limit → steps_from limit ts (nearest limit ts bound) < steps_from limit ts own
steps_fewer limit [] own bound l m = last_fewer limit own (int_lt limit limit) (int_lt own limit) refl refl (omega (arith, ints, l, m))
steps_fewer limit (t ∷ ts) own bound l m =
    nearer_fewer limit t ts own bound (nearest limit ts bound) (int_le bound t) refl l (nearest_covers limit ts bound m) (nearest_below limit ts bound) (steps_fewer limit ts own bound l m)

one_at_most : (p : Bool) → (if p then 1 else 0) ≤ 1
one_at_most true = omega arith
one_at_most false = omega arith

pub steps_few : (limit : ℤ) (ts : List ℤ) (bound : ℤ) → steps_from limit ts bound ≤ length ts + 1
steps_few limit [] bound = one_at_most (int_lt bound limit)
steps_few limit (t ∷ ts) bound = omega (arith, one_at_most (int_lt bound t && int_lt t limit), steps_few limit ts bound)

pub scaled_length : (m : Multiple) (ts : List ℤ) → length (scaled m ts) ≡ length ts
scaled_length m [] = refl
scaled_length m (t ∷ ts) = ap suc (scaled_length m ts)

-- the numbers behind the first are numbers of `int` too, and fewer
pub behind_int : (xs : List ℤ) (x : ℤ) (ys : List ℤ) → xs ≡ x ∷ ys → All IsInt xs → All IsInt ys
behind_int xs x ys e a k d l = (subst (λ zs. All IsInt zs) e a) (suc k) d (omega (arith, l))

pub fewer_behind : (xs : List ℤ) (x : ℤ) (ys : List ℤ) (n : ℕ) → n ≡ length xs → xs ≡ x ∷ ys → length ys < n
fewer_behind xs x ys n f e = omega (arith, f, ap length e)
