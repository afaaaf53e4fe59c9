-- Strides whose numbers lie in ranges, part by part: their ends, and what widening and narrowing make of both.
use Rattle.std.proofs.Common.{◌≡◌, ℕ, zero, suc, ◌<◌, ℤ, neg_ℤ, ◌≤ℤ◌, int_lt, int_le, Bool, true, false, if◌then◌else◌, List, [], ◌∷◌, length, map, slice_index_or, slice_set, refl, arith}
use Rattle.std.specs.Int.{int_min}
use Rattle.std.proofs.lemmas.Int.{ints, clamps}
use Rattle.c_tree.specs.Value.{least, greatest}
use Rattle.leaf_domain.specs.declared.range.Range.{Range}
use Rattle.leaf_domain.specs.declared.thresholds.Multiple.TheVariants.{One, MinusOne}
use Rattle.leaf_domain.specs.Thresholds.{nearest, scaled}
use Rattle.leaf_domain.specs.Ends.{low_step, high_step, is_low_step, is_high_step, widened_range, narrowed_range}
use Rattle.leaf_domain.specs.Ranges.{Within}
use Rattle.leaf_domain.proofs.EndLemmas.{low_step_covers, high_step_covers}
use Rattle.leaf_domain.proofs.Variables.{both}
use Rattle.interval_leaf.specs.Intervals as interval
use Rattle.strides.specs.declared.strided.Strided.{Strided}
use Rattle.strides.specs.Strided.{Has, lies_in, range_of, widened, narrowed}
use Rattle.strides.proofs.WideningLaws.{LiesIn, lies_in_parts}
use Rattle.product_leaf.specs.StrideLeaves.{part_in, AllHave, all_lie_in, widened_all, narrowed_all}
use Rattle.sharp_leaf.proofs.WideStrides.{AllWithin}

-- ---- a greater bound steps no less far
abbrev nearer : Bool → ℤ → ℤ → ℤ
nearer covers t other = if covers then int_min t other else other

nearer_rises : (t m n a b : ℤ) (p q : Bool) → int_le a t ≡ p → int_le b t ≡ q → a ≤ℤ b → m ≤ℤ n → nearer p t m ≤ℤ nearer q t n
nearer_rises t m n a b true true e f l h = omega (arith, ints, clamps, h)
nearer_rises t m n a b true false e f l h = omega (arith, ints, clamps, h)
nearer_rises t m n a b false true e f l h = absurd (omega (arith, ints, e, f, l))
nearer_rises t m n a b false false e f l h = h

nearest_rises : (limit : ℤ) (ts : List ℤ) (a b : ℤ) → a ≤ℤ b → nearest limit ts a ≤ℤ nearest limit ts b
nearest_rises limit [] a b l = omega (arith, ints)
nearest_rises limit (t ∷ ts) a b l = nearer_rises t (nearest limit ts a) (nearest limit ts b) a b (int_le a t) (int_le b t) refl refl l (nearest_rises limit ts a b l)

low_step_rises : (ts : List ℤ) (k l : ℤ) → k ≤ℤ l → low_step ts k ≤ℤ low_step ts l
low_step_rises ts k l h = omega (arith, ints, nearest_rises (neg_ℤ least) (scaled MinusOne ts) (neg_ℤ l) (neg_ℤ k) (omega (arith, ints, h)))

-- ---- ranges that lie in others, widened and narrowed from the same range
abbrev low_by : Bool → List ℤ → ℤ → ℤ → ℤ
low_by moves ts own other = if moves then low_step ts other else own

abbrev high_by : Bool → List ℤ → ℤ → ℤ → ℤ
high_by moves ts own other = if moves then high_step ts other else own

low_by_rises : (ts : List ℤ) (own k l : ℤ) (p q : Bool) → int_lt k own ≡ p → int_lt l own ≡ q → least ≤ℤ k → k ≤ℤ l → low_by p ts own k ≤ℤ low_by q ts own l
low_by_rises ts own k l true true e f i h = low_step_rises ts k l h
low_by_rises ts own k l true false e f i h = omega (arith, ints, low_step_covers ts k i, e)
low_by_rises ts own k l false true e f i h = absurd (omega (arith, ints, e, f, h))
low_by_rises ts own k l false false e f i h = omega (arith, ints)

high_by_rises : (ts : List ℤ) (own k l : ℤ) (p q : Bool) → int_lt own k ≡ p → int_lt own l ≡ q → l ≤ℤ greatest → k ≤ℤ l → high_by p ts own k ≤ℤ high_by q ts own l
high_by_rises ts own k l true true e f i h = nearest_rises greatest (scaled One ts) k l h
high_by_rises ts own k l true false e f i h = absurd (omega (arith, ints, e, f, h))
high_by_rises ts own k l false true e f i h = omega (arith, ints, high_step_covers ts l i, f)
high_by_rises ts own k l false false e f i h = omega (arith, ints)

-- one of two numbers, by a test
either_rises : (t : Bool) (own k l : ℤ) → k ≤ℤ l → (if t then k else own) ≤ℤ (if t then l else own)
either_rises true own k l h = h
either_rises false own k l h = omega (arith, ints)

in_order : (l m o : ℤ) → l ≤ℤ m → m ≤ℤ o → l ≤ℤ o
in_order l m o p q = omega (arith, ints)

widened_within : (ts : List ℤ) (x g : Strided) (h : Range) (n : ℤ) → interval.IsOwn h → lies_in g (part_in h) ≡ true → Has (widened ts x g) n → Within n (widened_range ts (range_of x) h)
widened_within ts x g h n o e k =
    let i : LiesIn g (part_in h) = lies_in_parts g (part_in h) e in
    record {
      low = in_order _ _ _ (low_by_rises ts x.low h.low g.low (int_lt h.low x.low) (int_lt g.low x.low) refl refl o.low i.low) k.low;
      high = in_order _ _ _ k.high (high_by_rises ts x.high g.high h.high (int_lt x.high g.high) (int_lt x.high h.high) refl refl o.high i.high);
    }

narrowed_within : (ts : List ℤ) (x g : Strided) (h : Range) (n : ℤ) → lies_in g (part_in h) ≡ true → Has (narrowed ts x g) n → Within n (narrowed_range ts (range_of x) h)
narrowed_within ts x g h n e k =
    let i : LiesIn g (part_in h) = lies_in_parts g (part_in h) e in
    record {
      low = in_order _ _ _ (either_rises (is_low_step ts x.low) x.low h.low g.low i.low) k.low;
      high = in_order _ _ _ k.high (either_rises (is_high_step ts x.high) x.high g.high h.high i.high);
    }

-- ---- all variables
pub widened_all_within : (ts : List ℤ) (xs gs : List Strided) (hs : List Range) (s : List ℤ) → length gs ≡ length hs → interval.AllOwn hs → all_lie_in gs (map part_in hs) ≡ true
    → AllHave (widened_all ts xs gs) s → AllWithin (interval.widened_all ts (map range_of xs) hs) s
widened_all_within ts [] gs hs s e o t k = k
widened_all_within ts (x ∷ xs) [] [] s e o t k = k
widened_all_within ts (x ∷ xs) [] (h ∷ hs) s e o t k = absurd (omega (arith, e))
widened_all_within ts (x ∷ xs) (g ∷ gs) [] s e o t k = absurd (omega (arith, e))
widened_all_within ts (x ∷ xs) (g ∷ gs) (h ∷ hs) [] e o t k = absurd k
widened_all_within ts (x ∷ xs) (g ∷ gs) (h ∷ hs) (n ∷ s) e o t k =
    let (p, q) = both (lies_in g (part_in h)) (all_lie_in gs (map part_in hs)) t in
    (widened_within ts x g h n o.0 p k.0, widened_all_within ts xs gs hs s (omega (arith, e)) o.1 q k.1)

pub narrowed_all_within : (ts : List ℤ) (xs gs : List Strided) (hs : List Range) (s : List ℤ) → length gs ≡ length hs → all_lie_in gs (map part_in hs) ≡ true
    → AllHave (narrowed_all ts xs gs) s → AllWithin (interval.narrowed_all ts (map range_of xs) hs) s
narrowed_all_within ts [] gs hs s e t k = k
narrowed_all_within ts (x ∷ xs) [] [] s e t k = k
narrowed_all_within ts (x ∷ xs) [] (h ∷ hs) s e t k = absurd (omega (arith, e))
narrowed_all_within ts (x ∷ xs) (g ∷ gs) [] s e t k = absurd (omega (arith, e))
narrowed_all_within ts (x ∷ xs) (g ∷ gs) (h ∷ hs) [] e t k = absurd k
narrowed_all_within ts (x ∷ xs) (g ∷ gs) (h ∷ hs) (n ∷ s) e t k =
    let (p, q) = both (lies_in g (part_in h)) (all_lie_in gs (map part_in hs)) t in
    (narrowed_within ts x g h n p k.0, narrowed_all_within ts xs gs hs s (omega (arith, e)) q k.1)

-- ---- one variable
pub read_within : (d : Strided) (r : Range) (gs : List Strided) (hs : List Range) (x : ℕ) (n : ℤ) → x < length gs → length gs ≡ length hs → all_lie_in gs (map part_in hs) ≡ true
    → Within n (range_of (slice_index_or gs x d)) → Within n (slice_index_or hs x r)
read_within d r [] hs x n l e t k = absurd (omega (arith, l))
read_within d r (g ∷ gs) [] x n l e t k = absurd (omega (arith, e))
read_within d r (g ∷ gs) (h ∷ hs) zero n l e t k =
    let i : LiesIn g (part_in h) = lies_in_parts g (part_in h) (both (lies_in g (part_in h)) (all_lie_in gs (map part_in hs)) t).0 in
    record { low = in_order _ _ _ i.low k.low; high = in_order _ _ _ k.high i.high }
read_within d r (g ∷ gs) (h ∷ hs) (suc x) n l e t k =
    read_within d r gs hs x n (omega (arith, l)) (omega (arith, e)) (both (lies_in g (part_in h)) (all_lie_in gs (map part_in hs)) t).1 k

pub put_within : (r : Range) (hs : List Range) (s : List ℤ) (x : ℕ) (n : ℤ) → AllWithin hs s → Within n (slice_index_or hs x r) → AllWithin hs (slice_set s x n)
put_within r [] [] x n k w = tt
put_within r [] (i ∷ s) x n k w = absurd k
put_within r (h ∷ hs) [] x n k w = absurd k
put_within r (h ∷ hs) (i ∷ s) zero n k w = (w, k.1)
put_within r (h ∷ hs) (i ∷ s) (suc x) n k w = (k.0, put_within r hs s x n k.1 w)
