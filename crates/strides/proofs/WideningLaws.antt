-- What comparing, widening and narrowing the numbers of one variable keep.
use Rattle.std.proofs.Common.{◌≡◌, ◌≢◌, ℕ, ◌+◌, ◌<◌, ◌≤◌, nat_eq, ℤ, ◌≤ℤ◌, int_le, Bool, true, false, ◌&&◌, if◌then◌else◌, List, length, ◌*◌, refl, sym, ap, subst, ◌∙◌, arith}
use Rattle.std.specs.Int.{◌∣◌}
use Rattle.std.proofs.lemmas.Bool.Decides.{nat_tests}
use Rattle.std.proofs.lemmas.Int.{ints}
use Rattle.leaf_domain.specs.Ends.{widened_range, ends_left}
use Rattle.leaf_domain.proofs.EndLemmas.{widened_low_first, widened_low_second, widened_high_first, widened_high_second, widened_low_inside, widened_high_inside, ends_fall, ends_fewer_low, ends_fewer_high, ends_few, narrowed_low, narrowed_high}
use Rattle.strides.specs.declared.stride.Stride.{Stride}
use Rattle.strides.specs.declared.strided.Strided.{Strided}
use Rattle.strides.specs.Divisors.{divides}
use Rattle.strides.specs.Strides.{HasStride, IsReduced, distance, joined_stride, lies_in_stride, stride_count}
use Rattle.strides.specs.Strided.{least, greatest, Has, is_bare, IsOwn, lies_in, range_of, widened, narrowed, steps_left}
use Rattle.strides.proofs.Multiples.{divides_from}
use Rattle.strides.proofs.StrideLaws.{Divides3, joined_divides, joined_first, joined_second, lies_in_has, both}
use Rattle.strides.proofs.StridedLaws.{first_in, has_not_bare, joined_own}
use Rattle.strides.proofs.Digits.{count_small, count_falls}

-- ---- one in another
pub record LiesIn (a b : Strided) : Type 0 where
  pub low : b.low ≤ℤ a.low
  pub high : a.high ≤ℤ b.high
  pub stride : lies_in_stride a.stride b.stride ≡ true

pub lies_in_parts : (a b : Strided) → lies_in a b ≡ true → LiesIn a b
lies_in_parts a b e =
    let (p, q) = both (int_le b.low a.low) (int_le a.high b.high && lies_in_stride a.stride b.stride) e in
    let (u, w) = both (int_le a.high b.high) (lies_in_stride a.stride b.stride) q in
    record { low = omega (arith, ints); high = omega (arith, ints); stride = w }

pub has_wider : (a b : Strided) (n : ℤ) → lies_in a b ≡ true → Has a n → Has b n
has_wider a b n e h =
    let i : LiesIn a b = lies_in_parts a b e in
    let p : b.low ≤ℤ a.low = i.low in
    let q : a.high ≤ℤ b.high = i.high in
    let u : a.low ≤ℤ n = h.low in
    let w : n ≤ℤ a.high = h.high in
    record { low = omega (arith, ints); high = omega (arith, ints); stride = lies_in_has a.stride b.stride n i.stride h.stride }

-- ---- widened
pub widened_has_first : (ts : List ℤ) (x g : Strided) (n : ℤ) → IsOwn x → IsOwn g → Has x n → Has (widened ts x g) n
widened_has_first ts x g n i j h = record {
  low = widened_low_first ts (range_of x) (range_of g) n j.low h.low;
  high = widened_high_first ts (range_of x) (range_of g) n j.high h.high;
  stride = joined_first x.stride g.stride n h.stride;
}

pub widened_has_second : (ts : List ℤ) (x g : Strided) (n : ℤ) → IsOwn x → IsOwn g → Has g n → Has (widened ts x g) n
widened_has_second ts x g n i j h = record {
  low = widened_low_second ts (range_of x) (range_of g) n j.low h.low;
  high = widened_high_second ts (range_of x) (range_of g) n j.high h.high;
  stride = joined_second x.stride g.stride n h.stride;
}

pub widened_own : (ts : List ℤ) (x g : Strided) → IsOwn x → IsOwn g → IsOwn (widened ts x g)
widened_own ts x g i j = record {
  low = widened_low_inside ts (range_of x) (range_of g) i.low;
  high = widened_high_inside ts (range_of x) (range_of g) i.high;
  modulus = (joined_own x g i j).modulus;
  residue = (joined_own x g i j).residue;
  some = has_not_bare (widened ts x g) _ (widened_has_first ts x g _ i j (first_in x i.some));
}

-- ---- how many steps are left
-- where the second stride does not lie in the first, the modulus of both is another
apart_moves : (s t : Stride) → lies_in_stride t s ≡ false → (joined_stride s t).modulus ≢ s.modulus
apart_moves s t e f =
    let d : Divides3 (joined_stride s t).modulus s t = joined_divides s t in
    let p : divides s.modulus t.modulus ≡ true = divides_from s.modulus t.modulus (subst (λ k. k ∣ t.modulus) f d.second) in
    let o : distance s t ≡ distance t s = omega (arith, ints) in
    let q : divides s.modulus (distance t s) ≡ true = divides_from s.modulus (distance t s) (subst (λ k. k ∣ distance t s) f (subst (λ k. (joined_stride s t).modulus ∣ k) o d.apart)) in
    let u : lies_in_stride t s ≡ true = ap (λ v. v && divides s.modulus (distance t s)) p ∙ q in
    cc

stride_falls : (s t : Stride) → (joined_stride s t).modulus ≤ 4294967295 → stride_count (joined_stride s t).modulus ≤ stride_count s.modulus
stride_falls s t k = by_same (nat_eq (joined_stride s t).modulus s.modulus) refl
  where
    by_same : (b : Bool) → nat_eq (joined_stride s t).modulus s.modulus ≡ b → stride_count (joined_stride s t).modulus ≤ stride_count s.modulus
    by_same true e = let f : (joined_stride s t).modulus ≡ s.modulus = grind (arith, nat_tests) in subst (λ m. stride_count m ≤ stride_count s.modulus) (sym f) (omega arith)
    by_same false e =
        let f : (joined_stride s t).modulus ≢ s.modulus = grind (arith, nat_tests) in
        let g : stride_count (joined_stride s t).modulus < stride_count s.modulus = count_falls _ s.modulus (joined_divides s t).first f k in
        omega arith

pub widened_falls : (ts : List ℤ) (x g : Strided) → IsOwn x → IsOwn g → steps_left ts (widened ts x g) ≤ steps_left ts x
widened_falls ts x g i j = sum _ _ _ _ (ends_fall ts (range_of x) (range_of g) j.low j.high) (stride_falls x.stride g.stride (joined_own x g i j).modulus)
  where
    sum : (a b c d : ℕ) → a ≤ c → b ≤ d → a + b ≤ c + d
    sum a b c d p q = omega arith

pub widened_fewer : (ts : List ℤ) (x g : Strided) → IsOwn x → IsOwn g → lies_in g x ≡ false → steps_left ts (widened ts x g) < steps_left ts x
widened_fewer ts x g i j e = by_parts (int_le x.low g.low) (int_le g.high x.high) (lies_in_stride g.stride x.stride) refl refl refl e
  where
    ends : ends_left ts (widened_range ts (range_of x) (range_of g)) ≤ ends_left ts (range_of x)
    ends = ends_fall ts (range_of x) (range_of g) j.low j.high

    stride : stride_count (joined_stride x.stride g.stride).modulus ≤ stride_count x.stride.modulus
    stride = stride_falls x.stride g.stride (joined_own x g i j).modulus

    first : (a b c d : ℕ) → a < c → b ≤ d → a + b < c + d
    first a b c d p q = omega arith

    second : (a b c d : ℕ) → a ≤ c → b < d → a + b < c + d
    second a b c d p q = omega arith

    no_false : true ≡ false → ⊥
    no_false z = cc

    by_parts : (s t u : Bool) → int_le x.low g.low ≡ s → int_le g.high x.high ≡ t → lies_in_stride g.stride x.stride ≡ u → (int_le x.low g.low && (int_le g.high x.high && lies_in_stride g.stride x.stride)) ≡ false → steps_left ts (widened ts x g) < steps_left ts x
    by_parts false t u k l m f = first _ _ _ _ (ends_fewer_low ts (range_of x) (range_of g) j.low j.high k) stride
    by_parts true false u k l m f = first _ _ _ _ (ends_fewer_high ts (range_of x) (range_of g) j.low j.high l) stride
    by_parts true true false k l m f = second _ _ _ _ ends (count_falls _ x.stride.modulus (joined_divides x.stride g.stride).first (apart_moves x.stride g.stride m) (joined_own x g i j).modulus)
    by_parts true true true k l m f = absurd (no_false (sym (ap (λ v. v && (int_le g.high x.high && lies_in_stride g.stride x.stride)) k ∙ ap (λ v. v && lies_in_stride g.stride x.stride) l ∙ m) ∙ f))

pub steps_few : (ts : List ℤ) (b : Strided) → IsOwn b → steps_left ts b ≤ 35 * (length ts + 1)
steps_few ts b i = sum _ _ (length ts) (ends_few ts (range_of b)) (count_small b.stride.modulus i.modulus)
  where
    sum : (a b n : ℕ) → a ≤ 2 * (n + 1) → b ≤ 33 → a + b ≤ 35 * (n + 1)
    sum a b n p q = omega arith

-- ---- narrowed
pub either : (P : Stride → Type 0) (t : Bool) (s g : Stride) → P s → P g → P (if t then g else s)
either P true s g p q = q
either P false s g p q = p

pub narrowed_own : (ts : List ℤ) (x g : Strided) → IsOwn x → IsOwn g → is_bare (narrowed ts x g) ≡ false → IsOwn (narrowed ts x g)
narrowed_own ts x g i j e = record {
  low = narrowed_low (λ n. least ≤ℤ n) ts (range_of x) (range_of g) i.low j.low;
  high = narrowed_high (λ n. n ≤ℤ greatest) ts (range_of x) (range_of g) i.high j.high;
  modulus = either (λ s. s.modulus ≤ 4294967295) (nat_eq x.stride.modulus 1) x.stride g.stride i.modulus j.modulus;
  residue = either IsReduced (nat_eq x.stride.modulus 1) x.stride g.stride i.residue j.residue;
  some = e;
}

pub narrowed_has : (ts : List ℤ) (x g : Strided) (n : ℤ) → lies_in g x ≡ true → Has g n → Has (narrowed ts x g) n
narrowed_has ts x g n e h =
    let k : Has x n = has_wider g x n e h in
    record {
      low = narrowed_low (λ m. m ≤ℤ n) ts (range_of x) (range_of g) k.low h.low;
      high = narrowed_high (λ m. n ≤ℤ m) ts (range_of x) (range_of g) k.high h.high;
      stride = either (λ s. HasStride s n) (nat_eq x.stride.modulus 1) x.stride g.stride k.stride h.stride;
    }
