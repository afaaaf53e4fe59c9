-- Numbers by their best bounds lie in others exactly where each is one of the others; and no others lie between those of two and
-- those of both joined.
use Rattle.std.proofs.Common.{◌≡◌, ℕ, ◌≤ℤ◌, ◌<ℤ◌, ℤ, pos, ◌+ℤ◌, ◌-ℤ◌, int_lt, int_le, nat_eq, Bool, true, false, ◌&&◌, List, refl, sym, ap, subst, ◌∙◌, arith}
use Rattle.std.specs.Int.{◌∣◌}
use Rattle.std.proofs.lemmas.Int.{ints, clamps}
use Rattle.strides.specs.declared.stride.Stride.{Stride}
use Rattle.strides.specs.declared.strided.Strided.{Strided}
use Rattle.strides.specs.Divisors.{gcd, divides, IsMultiple}
use Rattle.strides.specs.Strides.{HasStride, distance, joined_stride, lies_in_stride}
use Rattle.strides.specs.Strided.{Has, joined, lies_in, range_of, narrowed}
use Rattle.strides.proofs.Multiples.{multiple_same, multiple_zero, multiple_sum, multiple_difference, multiple_from_dvd, dvd_from_multiple, multiple_finer, gcd_is, divides_true, divides_from}
use Rattle.strides.proofs.StrideLaws.{stride_has, stride_modulus, both, lies_in_has}
use Rattle.strides.proofs.StridedLaws.{stride_apart, IsBest}
use Rattle.strides.proofs.WideningLaws.{LiesIn, lies_in_parts, either}
use Rattle.leaf_domain.proofs.EndLemmas.{narrowed_low, narrowed_high}

both_true : (a b : Bool) → a ≡ true → b ≡ true → (a && b) ≡ true
both_true a b e f = ap (λ c. c && b) e ∙ f

-- ---- strides
-- one stride lies in another where the modulus and how far the residues are apart are multiples of the other's modulus
record IsFiner (s t : Stride) : Type 0 where
  pub modulus : t.modulus ∣ s.modulus
  pub apart : IsMultiple t.modulus (s.residue -ℤ t.residue)

finer : (s t : Stride) → lies_in_stride s t ≡ true → IsFiner s t
finer s t e =
    let (p, q) = both (divides t.modulus s.modulus) (divides t.modulus (distance s t)) e in
    record { modulus = divides_true t.modulus s.modulus p; apart = multiple_from_dvd t.modulus (s.residue -ℤ t.residue) (divides_true t.modulus (distance s t) q) }

lies_in_finer : (s t : Stride) → IsFiner s t → lies_in_stride s t ≡ true
lies_in_finer s t h =
    both_true (divides t.modulus s.modulus) (divides t.modulus (distance s t)) (divides_from t.modulus s.modulus h.modulus)
    (divides_from t.modulus (distance s t) (dvd_from_multiple t.modulus (s.residue -ℤ t.residue) h.apart))

-- a stride in which both lie has the joined one
joined_finer : (s t u : Stride) → IsFiner s u → IsFiner t u → IsFiner (joined_stride s t) u
joined_finer s t u h k = record { modulus = d; apart = multiple_same u.modulus ((s.residue -ℤ u.residue) -ℤ (s.residue -ℤ (joined_stride s t).residue)) _ (apart_by s.residue (joined_stride s t).residue u.residue) (multiple_difference u.modulus _ _ h.apart r) }
  where
    g : ℕ
    g = gcd (gcd s.modulus t.modulus) (distance s t)

    between : IsMultiple u.modulus (s.residue -ℤ t.residue)
    between = multiple_same u.modulus ((s.residue -ℤ u.residue) -ℤ (t.residue -ℤ u.residue)) _ (apart_both s.residue t.residue u.residue) (multiple_difference u.modulus _ _ h.apart k.apart)
      where
        apart_both : (a b c : ℤ) → a -ℤ b ≡ (a -ℤ c) -ℤ (b -ℤ c)
        apart_both a b c = omega (arith, ints)

    of_both : u.modulus ∣ gcd (gcd s.modulus t.modulus) (distance s t)
    of_both =
        (gcd_is (gcd s.modulus t.modulus) (distance s t)).2 u.modulus ((gcd_is s.modulus t.modulus).2 u.modulus h.modulus k.modulus)
        (dvd_from_multiple u.modulus (s.residue -ℤ t.residue) between)

    d : u.modulus ∣ (joined_stride s t).modulus
    d = subst (λ m. u.modulus ∣ m) (sym (stride_modulus (gcd (gcd s.modulus t.modulus) (distance s t)) s.residue)) of_both

    own : IsMultiple (gcd (gcd s.modulus t.modulus) (distance s t)) (s.residue -ℤ s.residue)
    own = multiple_same _ (pos 0) (s.residue -ℤ s.residue) (omega (arith, ints)) (multiple_zero _)

    r : IsMultiple u.modulus (s.residue -ℤ (joined_stride s t).residue)
    r = multiple_finer u.modulus (joined_stride s t).modulus _ d (stride_has (gcd (gcd s.modulus t.modulus) (distance s t)) s.residue s.residue own)

    apart_by : (a b c : ℤ) → b -ℤ c ≡ (a -ℤ c) -ℤ (a -ℤ b)
    apart_by a b c = omega (arith, ints)

-- ---- numbers in others
lies_in_by : (a b : Strided) → LiesIn a b → lies_in a b ≡ true
lies_in_by a b h =
    both_true (int_le b.low a.low) (int_le a.high b.high && lies_in_stride a.stride b.stride) (low h.low)
    (both_true (int_le a.high b.high) (lies_in_stride a.stride b.stride) (low h.high) h.stride)
  where
    low : {p q : ℤ} → p ≤ℤ q → int_le p q ≡ true
    low {p} {q} l = grind (arith, ints)

pub joined_inside : (a b c : Strided) → lies_in a c ≡ true → lies_in b c ≡ true → lies_in (joined a b) c ≡ true
joined_inside a b c e f =
    let i : LiesIn a c = lies_in_parts a c e in
    let j : LiesIn b c = lies_in_parts b c f in
    let p : c.low ≤ℤ a.low = i.low in
    let q : c.low ≤ℤ b.low = j.low in
    let u : a.high ≤ℤ c.high = i.high in
    let w : b.high ≤ℤ c.high = j.high in
    lies_in_by (joined a b) c (record {
      low = omega (arith, ints, clamps);
      high = omega (arith, ints, clamps);
      stride = lies_in_finer (joined_stride a.stride b.stride) c.stride (joined_finer a.stride b.stride c.stride (finer a.stride c.stride i.stride) (finer b.stride c.stride j.stride));
    })

-- the modulus is a multiple of that of each stride that has the best bounds and the numbers between them
modulus_multiple : (a : Strided) (m : ℕ) (k : ℤ) → IsBest a → ((n : ℤ) → Has a n → IsMultiple m (n -ℤ k)) → IsMultiple m (pos a.stride.modulus)
modulus_multiple a m k h i = by_order (int_lt a.low a.high) refl
  where
    order : a.low ≤ℤ a.high
    order = h.low.high

    by_order : (t : Bool) → int_lt a.low a.high ≡ t → IsMultiple m (pos a.stride.modulus)
    by_order true e =
        let l : a.low <ℤ a.high = omega (arith, ints, e) in
        let w : pos a.stride.modulus ≤ℤ (a.high -ℤ a.low) = stride_apart a.stride a.low a.high h.low.stride h.high.stride l in
        let n : Has a (a.low +ℤ pos a.stride.modulus) = record { low = omega (arith, ints); high = omega (arith, ints, w); stride = next } in
        multiple_same m (((a.low +ℤ pos a.stride.modulus) -ℤ k) -ℤ (a.low -ℤ k)) _ (step a.low (pos a.stride.modulus) k) (multiple_difference m _ _ (i (a.low +ℤ pos a.stride.modulus) n) (i a.low h.low))
      where
        step : (l d c : ℤ) → d ≡ ((l +ℤ d) -ℤ c) -ℤ (l -ℤ c)
        step l d c = omega (arith, ints)

        moved : (l d c : ℤ) → (l +ℤ d) -ℤ c ≡ (l -ℤ c) +ℤ d
        moved l d c = omega (arith, ints)

        next : HasStride a.stride (a.low +ℤ pos a.stride.modulus)
        next =
            multiple_same a.stride.modulus ((a.low -ℤ a.stride.residue) +ℤ pos a.stride.modulus) _ (moved a.low (pos a.stride.modulus) a.stride.residue)
            (multiple_sum a.stride.modulus _ _ h.low.stride (multiple_itself a.stride.modulus))
          where
            multiple_itself : (d : ℕ) → IsMultiple d (pos d)
            multiple_itself d = record { times = pos 1; value = omega (arith, ints) }
    by_order false e =
        let s : a.low ≡ a.high = omega (arith, ints, e, order) in
        let z : pos 0 ≡ pos a.stride.modulus = sym (ap (λ (b : Strided). pos b.stride.modulus) (h.point s)) in
        subst (IsMultiple m) z (multiple_zero m)

-- by its best bounds, one whose numbers are all the other's lies in the other
pub inside_seen : (a b : Strided) → IsBest a → ((n : ℤ) → Has a n → Has b n) → lies_in a b ≡ true
inside_seen a b h i =
    lies_in_by a b (record { low = (i a.low h.low).low; high = (i a.high h.high).high; stride = lies_in_finer a.stride b.stride (record { modulus = d; apart = c }) })
  where
    d : b.stride.modulus ∣ a.stride.modulus
    d = dvd_from_multiple b.stride.modulus (pos a.stride.modulus) (modulus_multiple a b.stride.modulus b.stride.residue h (λ n k. (i n k).stride))

    apart_by : (l p q : ℤ) → p -ℤ q ≡ (l -ℤ q) -ℤ (l -ℤ p)
    apart_by l p q = omega (arith, ints)

    c : IsMultiple b.stride.modulus (a.stride.residue -ℤ b.stride.residue)
    c =
        multiple_same b.stride.modulus ((a.low -ℤ b.stride.residue) -ℤ (a.low -ℤ a.stride.residue)) _ (apart_by a.low a.stride.residue b.stride.residue)
        (multiple_difference b.stride.modulus _ _ (i a.low h.low).stride (multiple_finer b.stride.modulus a.stride.modulus _ d h.low.stride))

-- ---- narrowed by numbers that lie in it, it has no number more
pub narrowed_only : (ts : List ℤ) (x g : Strided) (n : ℤ) → lies_in g x ≡ true → Has (narrowed ts x g) n → Has x n
narrowed_only ts x g n e h = record {
  low = in_order _ _ _ (narrowed_low (λ m. x.low ≤ℤ m) ts (range_of x) (range_of g) (same x.low) i.low) h.low;
  high = in_order _ _ _ h.high (narrowed_high (λ m. m ≤ℤ x.high) ts (range_of x) (range_of g) (same x.high) i.high);
  stride = either (λ s. HasStride s n → HasStride x.stride n) (nat_eq x.stride.modulus 1) x.stride g.stride (λ k. k) (λ k. lies_in_has g.stride x.stride n i.stride k) h.stride;
}
  where
    i : LiesIn g x
    i = lies_in_parts g x e

    same : (m : ℤ) → m ≤ℤ m
    same m = omega (arith, ints)

    in_order : (l m o : ℤ) → l ≤ℤ m → m ≤ℤ o → l ≤ℤ o
    in_order l m o p q = omega (arith, ints)
