-- What the operations on the numbers of one variable keep.
use Rattle.std.proofs.Common.{◌≡◌, ◌≤◌, ℤ, pos, ◌-ℤ◌, ◌≤ℤ◌, ◌<ℤ◌, int_lt, unsigned_abs, Bool, true, false, if◌then◌else◌, refl, sym, ap, subst, ◌∙◌, arith}
use Rattle.std.specs.Int.{int_min, int_max}
use Rattle.std.specs.Ordering.{int_eq}
use Rattle.std.proofs.lemmas.Int.{ints, clamps}
use Rattle.std.proofs.lemmas.Nat.Gcd.{le_of_dvd}
use Rattle.strides.specs.declared.stride.Stride.{Stride}
use Rattle.strides.specs.declared.strided.Strided.{Strided}
use Rattle.strides.specs.Divisors.{gcd, IsMultiple}
use Rattle.strides.specs.Strides.{stride_at, HasStride, IsReduced, first_from, last_to, distance, joined_stride}
use Rattle.strides.specs.Strided.{least, greatest, strided_at, Has, is_bare, point_at, reduced, IsOwn, joined}
use Rattle.strides.proofs.Multiples.{multiple_same, multiple_difference, dvd_from_multiple, gcd_is, gcd_small}
use Rattle.strides.proofs.StrideLaws.{by_modulus, alone, residue_has, first_above, last_below, first_least, last_greatest, first_has, last_has, stride_zero, stride_modulus, stride_reduced, Divides3, joined_divides, joined_first, joined_second}

abbrev pub first_of : Strided → ℤ
first_of b = first_from b.low b.stride

abbrev pub last_of : Strided → ℤ
last_of b = last_to b.high b.stride

ordered : (b : Strided) → is_bare b ≡ false → first_of b ≤ℤ last_of b
ordered b e = omega (arith, ints)

pub first_in : (b : Strided) → is_bare b ≡ false → Has b (first_from b.low b.stride)
first_in b e =
    let k : first_of b ≤ℤ last_of b = ordered b e in
    let h : last_of b ≤ℤ b.high = last_below b.high b.stride in
    record { low = first_above b.low b.stride; high = omega (arith, ints); stride = first_has b.low b.high b.stride k }

pub last_in : (b : Strided) → is_bare b ≡ false → Has b (last_to b.high b.stride)
last_in b e =
    let k : first_of b ≤ℤ last_of b = ordered b e in
    let h : b.low ≤ℤ first_of b = first_above b.low b.stride in
    record { low = omega (arith, ints); high = last_below b.high b.stride; stride = last_has b.low b.high b.stride k }

has_first : (b : Strided) (n : ℤ) → Has b n → first_of b ≤ℤ n
has_first b n h = first_least b.low n b.stride h.low h.stride

has_last : (b : Strided) (n : ℤ) → Has b n → n ≤ℤ last_of b
has_last b n h = last_greatest b.high n b.stride h.high h.stride

pub has_not_bare : (b : Strided) (n : ℤ) → Has b n → is_bare b ≡ false
has_not_bare b n h =
    let p : first_of b ≤ℤ n = has_first b n h in
    let q : n ≤ℤ last_of b = has_last b n h in
    let k : first_of b ≤ℤ last_of b = omega (arith, ints) in
    grind (arith, ints)

-- ---- what `reduced` answers, case by case
abbrev reduced_by : Bool → Bool → Strided → Strided
reduced_by t u b = if t then b else (if u then point_at (first_of b) else strided_at (first_of b) (last_of b) b.stride)

reduced_is : (b : Strided) → reduced b ≡ reduced_by (is_bare b) (int_eq (first_of b) (last_of b)) b
unfolding reduced
reduced_is b = refl

by_tests : (P : Strided → Type 0) (b : Strided) → (is_bare b ≡ true → P b) → (is_bare b ≡ false → first_of b ≡ last_of b → P (point_at (first_of b))) → (is_bare b ≡ false → first_of b <ℤ last_of b → P (strided_at (first_of b) (last_of b) b.stride)) → (t u : Bool) → is_bare b ≡ t → int_eq (first_of b) (last_of b) ≡ u → P (reduced_by t u b)
by_tests P b bare point rest true u e f = bare e
by_tests P b bare point rest false true e f = point e (grind (arith, ints))
by_tests P b bare point rest false false e f = let k : first_of b ≤ℤ last_of b = ordered b e in rest e (grind (arith, ints))

pub by_reduced : (P : Strided → Type 0) (b : Strided) → (is_bare b ≡ true → P b) → (is_bare b ≡ false → first_of b ≡ last_of b → P (point_at (first_of b))) → (is_bare b ≡ false → first_of b <ℤ last_of b → P (strided_at (first_of b) (last_of b) b.stride)) → P (reduced b)
by_reduced P b bare point rest =
    subst P (sym (reduced_is b)) (by_tests P b bare point rest (is_bare b) (int_eq (first_of b) (last_of b)) refl refl)

pub point_has : (k n : ℤ) → n ≡ k → Has (point_at k) n
point_has k n e = record { low = omega (arith, ints); high = omega (arith, ints); stride = residue_has (stride_at 0 k) n e }

pub point_alone : (k n : ℤ) → Has (point_at k) n → n ≡ k
point_alone k n h = let p : k ≤ℤ n = h.low in let q : n ≤ℤ k = h.high in omega (arith, ints)

-- the same numbers
pub reduced_keeps : (b : Strided) (n : ℤ) → Has b n → Has (reduced b) n
reduced_keeps b n h =
    let p : first_of b ≤ℤ n = has_first b n h in
    let q : n ≤ℤ last_of b = has_last b n h in
    by_reduced (λ r. Has r n) b (λ e. h) (λ e f. point_has (first_of b) n (omega (arith, ints))) (λ e f. record { low = p; high = q; stride = h.stride })

pub reduced_back : (b : Strided) (n : ℤ) → Has (reduced b) n → Has b n
reduced_back b n =
    by_reduced (λ r. Has r n → Has b n) b
    (λ e h. h)
    (λ e f h. subst (Has b) (sym (point_alone (first_of b) n h)) (first_in b e))
    (λ e f h. rest (first_above b.low b.stride) (last_below b.high b.stride) h.low h.high h.stride)
  where
    rest : b.low ≤ℤ first_of b → last_of b ≤ℤ b.high → first_of b ≤ℤ n → n ≤ℤ last_of b → HasStride b.stride n → Has b n
    rest p q u w h = record { low = omega (arith, ints); high = omega (arith, ints); stride = h }

pub point_own : (n : ℤ) → least ≤ℤ n → n ≤ℤ greatest → IsOwn (point_at n)
point_own n h k = record {
  low = h;
  high = k;
  modulus = omega arith;
  residue = record { low = λ p. absurd (omega arith); high = λ p. absurd (omega arith) };
  some = has_not_bare (point_at n) n (point_has n n refl);
}

-- two numbers of a stride that differ are at least the modulus apart
pub stride_apart : (s : Stride) (p q : ℤ) → HasStride s p → HasStride s q → p <ℤ q → pos s.modulus ≤ℤ (q -ℤ p)
stride_apart s p q h k l =
    let m : IsMultiple s.modulus (q -ℤ p) = multiple_same s.modulus ((q -ℤ s.residue) -ℤ (p -ℤ s.residue)) (q -ℤ p) (omega (arith, ints)) (multiple_difference s.modulus _ _ k h) in
    let d : s.modulus ≤ unsigned_abs (q -ℤ p) = le_of_dvd (omega (arith, ints)) (dvd_from_multiple s.modulus (q -ℤ p) m) in
    omega (arith, ints)

pub reduced_own : (b : Strided) → least ≤ℤ b.low → b.high ≤ℤ greatest → IsReduced b.stride → is_bare b ≡ false → IsOwn (reduced b)
reduced_own b h k r e =
    let u : b.low ≤ℤ first_of b = first_above b.low b.stride in
    let w : last_of b ≤ℤ b.high = last_below b.high b.stride in
    let o : first_of b ≤ℤ last_of b = ordered b e in
    by_reduced IsOwn b
    (λ t. cc)
    (λ t f. point_own (first_of b) (omega (arith, ints)) (omega (arith, ints)))
    (λ t f.
    let m : pos b.stride.modulus ≤ℤ (last_of b -ℤ first_of b) = stride_apart b.stride (first_of b) (last_of b) (first_in b e).stride (last_in b e).stride f in
    record {
      low = omega (arith, ints);
      high = omega (arith, ints);
      modulus = omega (arith, ints);
      residue = r;
      some = has_not_bare (strided_at (first_of b) (last_of b) b.stride) (first_of b) (record { low = omega (arith, ints); high = o; stride = (first_in b e).stride });
    })

-- ---- bounds that are best
pub record IsBest (b : Strided) : Type 0 where
  pub low : Has b b.low
  pub high : Has b b.high
  pub point : b.low ≡ b.high → b ≡ point_at b.low

pub reduced_best : (b : Strided) → is_bare b ≡ false → IsBest (reduced b)
reduced_best b e =
    by_reduced IsBest b
    (λ t. cc)
    (λ t f. record { low = point_has _ _ refl; high = point_has _ _ refl; point = λ p. refl })
    (λ t f. record {
      low = record { low = omega (arith, ints); high = ordered b e; stride = (first_in b e).stride };
      high = record { low = ordered b e; high = omega (arith, ints); stride = (last_in b e).stride };
      point = λ p. absurd (omega (arith, ints));
    })

pub best_reduced : (b : Strided) → IsBest b → reduced b ≡ b
best_reduced b i =
    let f : first_of b ≡ b.low = same (first_above b.low b.stride) (has_first b b.low i.low) in
    let l : last_of b ≡ b.high = same (has_last b b.high i.high) (last_below b.high b.stride) in
    by_reduced (λ r. r ≡ b) b
    (λ t. refl)
    (λ t g. ap point_at f ∙ sym (i.point (sym f ∙ g ∙ l)))
    (λ t g. ap (λ x. strided_at x (last_of b) b.stride) f ∙ ap (λ x. strided_at b.low x b.stride) l)
  where
    same : {p q : ℤ} → p ≤ℤ q → q ≤ℤ p → q ≡ p
    same {p} {q} h k = omega (arith, ints)

pub point_best : (n : ℤ) → IsBest (point_at n)
point_best n = record { low = point_has n n refl; high = point_has n n refl; point = λ p. refl }

-- ---- joined
pub joined_has_first : (a b : Strided) (n : ℤ) → Has a n → Has (joined a b) n
joined_has_first a b n h =
    let p : a.low ≤ℤ n = h.low in
    let q : n ≤ℤ a.high = h.high in
    record { low = omega (arith, ints, clamps); high = omega (arith, ints, clamps); stride = joined_first a.stride b.stride n h.stride }

pub joined_has_second : (a b : Strided) (n : ℤ) → Has b n → Has (joined a b) n
joined_has_second a b n h =
    let p : b.low ≤ℤ n = h.low in
    let q : n ≤ℤ b.high = h.high in
    record { low = omega (arith, ints, clamps); high = omega (arith, ints, clamps); stride = joined_second a.stride b.stride n h.stride }

-- with modulus 0 the residue is between the bounds
pub own_residue : (b : Strided) → IsOwn b → b.stride.modulus ≡ 0 → (least ≤ℤ b.stride.residue) × (b.stride.residue ≤ℤ greatest)
own_residue b i z =
    let h : Has b (first_of b) = first_in b i.some in
    let e : first_of b ≡ b.stride.residue = alone b.stride (first_of b) z h.stride in
    let p : b.low ≤ℤ first_of b = h.low in
    let q : first_of b ≤ℤ b.high = h.high in
    let u : least ≤ℤ b.low = i.low in
    let w : b.high ≤ℤ greatest = i.high in
    (omega (arith, ints), omega (arith, ints))

joined_small : (a b : Strided) → IsOwn a → IsOwn b → (joined_stride a.stride b.stride).modulus ≤ 4294967295
joined_small a b i j =
    by_modulus a.stride.modulus
    (λ t z. by_modulus b.stride.modulus (λ u y. rw e (neither z y)) (λ u p. let k : g.modulus ≤ b.stride.modulus = le_of_dvd p d.second in let l : b.stride.modulus ≤ 4294967295 = j.modulus in omega arith))
    (λ t p. let k : g.modulus ≤ a.stride.modulus = le_of_dvd p d.first in let l : a.stride.modulus ≤ 4294967295 = i.modulus in omega arith)
  where
    g : Stride
    g = joined_stride a.stride b.stride

    d : Divides3 (joined_stride a.stride b.stride).modulus a.stride b.stride
    d = joined_divides a.stride b.stride

    e : (joined_stride a.stride b.stride).modulus ≡ gcd (gcd a.stride.modulus b.stride.modulus) (distance a.stride b.stride)
    e = stride_modulus _ a.stride.residue

    neither : a.stride.modulus ≡ 0 → b.stride.modulus ≡ 0 → gcd (gcd a.stride.modulus b.stride.modulus) (distance a.stride b.stride) ≤ 4294967295
    neither z y =
        let (p, q) = own_residue a i z in
        let (u, w) = own_residue b j y in
        let o : distance a.stride b.stride ≤ 4294967295 = omega (arith, ints) in
        let r : gcd a.stride.modulus b.stride.modulus ≤ 4294967295 = gcd_small _ _ _ 4294967295 (gcd_is a.stride.modulus b.stride.modulus) (omega arith) (omega arith) in
        gcd_small _ _ _ 4294967295 (gcd_is (gcd a.stride.modulus b.stride.modulus) (distance a.stride b.stride)) r o

pub joined_own : (a b : Strided) → IsOwn a → IsOwn b → IsOwn (joined a b)
joined_own a b i j =
    let p : least ≤ℤ a.low = i.low in
    let q : least ≤ℤ b.low = j.low in
    let u : a.high ≤ℤ greatest = i.high in
    let w : b.high ≤ℤ greatest = j.high in
    record {
      low = omega (arith, ints, clamps);
      high = omega (arith, ints, clamps);
      modulus = joined_small a b i j;
      residue = stride_reduced _ a.stride.residue;
      some = has_not_bare (joined a b) (first_of a) (joined_has_first a b (first_of a) (first_in a i.some));
    }

-- the join of best bounds is best
pub joined_best : (a b : Strided) → IsBest a → IsBest b → IsBest (joined a b)
joined_best a b i j = record { low = low_has (int_lt b.low a.low) refl; high = high_has (int_lt b.high a.high) refl; point = point }
  where
    low_has : (t : Bool) → int_lt b.low a.low ≡ t → Has (joined a b) (int_min a.low b.low)
    low_has true e = subst (Has (joined a b)) (grind (arith, ints, clamps)) (joined_has_second a b b.low j.low)
    low_has false e = subst (Has (joined a b)) (grind (arith, ints, clamps)) (joined_has_first a b a.low i.low)

    high_has : (t : Bool) → int_lt b.high a.high ≡ t → Has (joined a b) (int_max a.high b.high)
    high_has true e = subst (Has (joined a b)) (grind (arith, ints, clamps)) (joined_has_first a b a.high i.high)
    high_has false e = subst (Has (joined a b)) (grind (arith, ints, clamps)) (joined_has_second a b b.high j.high)

    no_modulus : (x : ℤ) → gcd (gcd 0 0) (unsigned_abs (x -ℤ x)) ≡ 0
    no_modulus x =
        let r : gcd 0 0 ≤ 0 = gcd_small _ _ _ 0 (gcd_is 0 0) (omega arith) (omega arith) in
        let o : unsigned_abs (x -ℤ x) ≤ 0 = omega (arith, ints) in
        let s : gcd (gcd 0 0) (unsigned_abs (x -ℤ x)) ≤ 0 = gcd_small _ _ _ 0 (gcd_is (gcd 0 0) (unsigned_abs (x -ℤ x))) r o in
        omega arith

    of_points : (x : ℤ) → joined (point_at x) (point_at x) ≡ point_at x
    of_points x =
        let s : joined_stride (stride_at 0 x) (stride_at 0 x) ≡ stride_at 0 x = stride_zero _ x (no_modulus x) ∙ ap (λ m. stride_at m x) (no_modulus x) in
        let l : int_min x x ≡ x = omega (arith, ints, clamps) in
        let h : int_max x x ≡ x = omega (arith, ints, clamps) in
        ap (λ y. strided_at y (int_max x x) (joined_stride (stride_at 0 x) (stride_at 0 x))) l ∙ ap (λ y. strided_at x y (joined_stride (stride_at 0 x) (stride_at 0 x))) h ∙ ap (strided_at x x) s

    same_points : (x : ℤ) → a ≡ point_at x → b ≡ point_at x → joined a b ≡ point_at (int_min a.low b.low)
    same_points x e f =
        let l : int_min x x ≡ x = omega (arith, ints, clamps) in
        ap (λ y. joined y b) e ∙ ap (joined (point_at x)) f ∙ of_points x ∙ ap point_at (sym l ∙ ap (λ y. int_min x (y.low)) (sym f) ∙ ap (λ y. int_min (y.low) b.low) (sym e))

    point : int_min a.low b.low ≡ int_max a.high b.high → joined a b ≡ point_at (int_min a.low b.low)
    point e =
        let p : a.low ≤ℤ a.high = i.low.high in
        let q : b.low ≤ℤ b.high = j.low.high in
        let u : a.low ≡ a.high = omega (arith, ints, clamps) in
        let w : b.low ≡ b.high = omega (arith, ints, clamps) in
        let x : b.low ≡ a.low = omega (arith, ints, clamps) in
        same_points a.low (i.point u) (j.point w ∙ ap point_at x)
