-- What the ends of a widened or narrowed range cover, and how many steps they have left.
use Rattle.std.proofs.Common.{◌≡◌, ◌+◌, ◌*◌, ◌<◌, ◌≤◌, ℤ, neg_ℤ, ◌≤ℤ◌, ◌<ℤ◌, int_lt, int_le, Bool, true, false, if◌then◌else◌, List, length, refl, sym, subst, arith}
use Rattle.std.proofs.lemmas.Int.{ints}
use Rattle.c_tree.specs.Value.{least, greatest}
use Rattle.leaf_domain.specs.declared.range.Range.{Range}
use Rattle.leaf_domain.specs.declared.thresholds.Multiple.TheVariants.{One, MinusOne}
use Rattle.leaf_domain.specs.Thresholds.{scaled, nearest, steps_from}
use Rattle.leaf_domain.specs.Ends.{low_step, high_step, is_low_step, is_high_step, widened_range, narrowed_range, low_steps_left, high_steps_left, ends_left}
use Rattle.leaf_domain.proofs.ThresholdLemmas.{nearest_covers, nearest_below, steps_fewer, steps_few, scaled_length}

-- ---- one step
pub low_step_covers : (ts : List ℤ) (l : ℤ) → least ≤ℤ l → low_step ts l ≤ℤ l
low_step_covers ts l h = omega (arith, ints, nearest_covers (neg_ℤ least) (scaled MinusOne ts) (neg_ℤ l) (omega (arith, ints, h)))

pub low_step_inside : (ts : List ℤ) (l : ℤ) → least ≤ℤ low_step ts l
low_step_inside ts l = omega (arith, ints, nearest_below (neg_ℤ least) (scaled MinusOne ts) (neg_ℤ l))

pub high_step_covers : (ts : List ℤ) (h : ℤ) → h ≤ℤ greatest → h ≤ℤ high_step ts h
high_step_covers ts h p = nearest_covers greatest (scaled One ts) h p

pub high_step_inside : (ts : List ℤ) (h : ℤ) → high_step ts h ≤ℤ greatest
high_step_inside ts h = nearest_below greatest (scaled One ts) h

low_step_fewer : (ts : List ℤ) (own l : ℤ) → l <ℤ own → least ≤ℤ l → low_steps_left ts (low_step ts l) < low_steps_left ts own
low_step_fewer ts own l h m =
    subst (λ n. steps_from (neg_ℤ least) (scaled MinusOne ts) n < low_steps_left ts own) (sym (twice (nearest (neg_ℤ least) (scaled MinusOne ts) (neg_ℤ l))))
    (steps_fewer (neg_ℤ least) (scaled MinusOne ts) (neg_ℤ own) (neg_ℤ l) (omega (arith, ints, h)) (omega (arith, ints, m)))
  where
    twice : (n : ℤ) → neg_ℤ (neg_ℤ n) ≡ n
    twice n = omega (arith, ints)

high_step_fewer : (ts : List ℤ) (own h : ℤ) → own <ℤ h → h ≤ℤ greatest → high_steps_left ts (high_step ts h) < high_steps_left ts own
high_step_fewer ts own h l m = steps_fewer greatest (scaled One ts) own h l m

-- ---- the ends of a widened range
-- the low with this test of whether the other moves it
abbrev low_by : Bool → List ℤ → ℤ → ℤ → ℤ
low_by moves ts own other = if moves then low_step ts other else own

abbrev high_by : Bool → List ℤ → ℤ → ℤ → ℤ
high_by moves ts own other = if moves then high_step ts other else own

low_by_first : (b : Bool) (ts : List ℤ) (own other n : ℤ) → int_lt other own ≡ b → least ≤ℤ other → own ≤ℤ n → low_by b ts own other ≤ℤ n
low_by_first true ts own other n e l h = omega (arith, ints, low_step_covers ts other l, e, h)
low_by_first false ts own other n e l h = h

low_by_second : (b : Bool) (ts : List ℤ) (own other n : ℤ) → int_lt other own ≡ b → least ≤ℤ other → other ≤ℤ n → low_by b ts own other ≤ℤ n
low_by_second true ts own other n e l h = omega (arith, ints, low_step_covers ts other l, h)
low_by_second false ts own other n e l h = omega (arith, ints, e, h)

high_by_first : (b : Bool) (ts : List ℤ) (own other n : ℤ) → int_lt own other ≡ b → other ≤ℤ greatest → n ≤ℤ own → n ≤ℤ high_by b ts own other
high_by_first true ts own other n e l h = omega (arith, ints, high_step_covers ts other l, e, h)
high_by_first false ts own other n e l h = h

high_by_second : (b : Bool) (ts : List ℤ) (own other n : ℤ) → int_lt own other ≡ b → other ≤ℤ greatest → n ≤ℤ other → n ≤ℤ high_by b ts own other
high_by_second true ts own other n e l h = omega (arith, ints, high_step_covers ts other l, h)
high_by_second false ts own other n e l h = omega (arith, ints, e, h)

-- a widened low is at most each number that either low is at most
pub widened_low_first : (ts : List ℤ) (x g : Range) (n : ℤ) → least ≤ℤ g.low → x.low ≤ℤ n → (widened_range ts x g).low ≤ℤ n
widened_low_first ts x g n l h = low_by_first (int_lt g.low x.low) ts x.low g.low n refl l h

pub widened_low_second : (ts : List ℤ) (x g : Range) (n : ℤ) → least ≤ℤ g.low → g.low ≤ℤ n → (widened_range ts x g).low ≤ℤ n
widened_low_second ts x g n l h = low_by_second (int_lt g.low x.low) ts x.low g.low n refl l h

pub widened_high_first : (ts : List ℤ) (x g : Range) (n : ℤ) → g.high ≤ℤ greatest → n ≤ℤ x.high → n ≤ℤ (widened_range ts x g).high
widened_high_first ts x g n l h = high_by_first (int_lt x.high g.high) ts x.high g.high n refl l h

pub widened_high_second : (ts : List ℤ) (x g : Range) (n : ℤ) → g.high ≤ℤ greatest → n ≤ℤ g.high → n ≤ℤ (widened_range ts x g).high
widened_high_second ts x g n l h = high_by_second (int_lt x.high g.high) ts x.high g.high n refl l h

pub widened_low_inside : (ts : List ℤ) (x g : Range) → least ≤ℤ x.low → least ≤ℤ (widened_range ts x g).low
widened_low_inside ts x g h = by_test (int_lt g.low x.low)
  where
    by_test : (b : Bool) → least ≤ℤ low_by b ts x.low g.low
    by_test true = low_step_inside ts g.low
    by_test false = h

pub widened_high_inside : (ts : List ℤ) (x g : Range) → x.high ≤ℤ greatest → (widened_range ts x g).high ≤ℤ greatest
widened_high_inside ts x g h = by_test (int_lt x.high g.high)
  where
    by_test : (b : Bool) → high_by b ts x.high g.high ≤ℤ greatest
    by_test true = high_step_inside ts g.high
    by_test false = h

-- ---- the steps that are left
low_by_left : (b : Bool) (ts : List ℤ) (own other : ℤ) → int_lt other own ≡ b → least ≤ℤ other → low_steps_left ts (low_by b ts own other) ≤ low_steps_left ts own
low_by_left true ts own other e l = omega (arith, low_step_fewer ts own other (omega (arith, ints, e)) l)
low_by_left false ts own other e l = omega arith

high_by_left : (b : Bool) (ts : List ℤ) (own other : ℤ) → int_lt own other ≡ b → other ≤ℤ greatest → high_steps_left ts (high_by b ts own other) ≤ high_steps_left ts own
high_by_left true ts own other e l = omega (arith, high_step_fewer ts own other (omega (arith, ints, e)) l)
high_by_left false ts own other e l = omega arith

-- a range that is within `int` leaves no more steps
pub ends_fall : (ts : List ℤ) (x g : Range) → least ≤ℤ g.low → g.high ≤ℤ greatest → ends_left ts (widened_range ts x g) ≤ ends_left ts x
ends_fall ts x g l h = omega (arith, low_by_left (int_lt g.low x.low) ts x.low g.low refl l, high_by_left (int_lt x.high g.high) ts x.high g.high refl h)

low_by_fewer : (b : Bool) (ts : List ℤ) (own other : ℤ) → int_lt other own ≡ b → least ≤ℤ other → int_le own other ≡ false → low_steps_left ts (low_by b ts own other) < low_steps_left ts own
low_by_fewer true ts own other e l f = low_step_fewer ts own other (omega (arith, ints, e)) l
low_by_fewer false ts own other e l f = absurd (omega (arith, ints, e, f))

high_by_fewer : (b : Bool) (ts : List ℤ) (own other : ℤ) → int_lt own other ≡ b → other ≤ℤ greatest → int_le other own ≡ false → high_steps_left ts (high_by b ts own other) < high_steps_left ts own
high_by_fewer true ts own other e l f = high_step_fewer ts own other (omega (arith, ints, e)) l
high_by_fewer false ts own other e l f = absurd (omega (arith, ints, e, f))

-- one that moves the low, or the high, leaves fewer
pub ends_fewer_low : (ts : List ℤ) (x g : Range) → least ≤ℤ g.low → g.high ≤ℤ greatest → int_le x.low g.low ≡ false → ends_left ts (widened_range ts x g) < ends_left ts x
ends_fewer_low ts x g l h f = omega (arith, low_by_fewer (int_lt g.low x.low) ts x.low g.low refl l f, high_by_left (int_lt x.high g.high) ts x.high g.high refl h)

pub ends_fewer_high : (ts : List ℤ) (x g : Range) → least ≤ℤ g.low → g.high ≤ℤ greatest → int_le g.high x.high ≡ false → ends_left ts (widened_range ts x g) < ends_left ts x
ends_fewer_high ts x g l h f = omega (arith, low_by_left (int_lt g.low x.low) ts x.low g.low refl l, high_by_fewer (int_lt x.high g.high) ts x.high g.high refl h f)

pub ends_few : (ts : List ℤ) (r : Range) → ends_left ts r ≤ 2 * (length ts + 1)
ends_few ts r =
    omega (arith, steps_few (neg_ℤ least) (scaled MinusOne ts) (neg_ℤ r.low), scaled_length MinusOne ts, steps_few greatest (scaled One ts) r.high, scaled_length One ts)

-- ---- the ends of a narrowed range
-- what two numbers keep, one of them keeps
one_of : (P : ℤ → Type 0) (b : Bool) (m n : ℤ) → P m → P n → P (if b then n else m)
one_of P true m n p q = q
one_of P false m n p q = p

pub narrowed_low : (P : ℤ → Type 0) (ts : List ℤ) (x g : Range) → P x.low → P g.low → P (narrowed_range ts x g).low
narrowed_low P ts x g p q = one_of P (is_low_step ts x.low) x.low g.low p q

pub narrowed_high : (P : ℤ → Type 0) (ts : List ℤ) (x g : Range) → P x.high → P g.high → P (narrowed_range ts x g).high
narrowed_high P ts x g p q = one_of P (is_high_step ts x.high) x.high g.high p q
