-- A folded range lies within `int`, has each wrapped number, and is shifted by a multiple of 2^32 where one brings it there.
use Rattle.std.proofs.Common.{◌≡◌, ◌⊎◌, inl, inr, ℤ, pos, neg_ℤ, ◌+ℤ◌, ◌-ℤ◌, ◌≤ℤ◌, int_le, Bool, true, false, if◌then◌else◌, refl, ap, ◌∙◌, arith}
use Rattle.std.proofs.lemmas.Int.{ints}
use Rattle.c_tree.specs.Value.{greatest, IsInt, wrapped}
use Rattle.c_tree.proofs.Values.{IsInt-wrapped, wrapped_differs}
use Rattle.leaf_domain.specs.declared.range.Range.{Range}
use Rattle.leaf_domain.specs.Ranges.{Within, IsInInt, empty_range, is_empty_range, range_at, whole_int, upward_of, shifted_of, fold_of, shifted_by, turns, FoldHolds}
use Rattle.leaf_domain.proofs.ArithmeticLemmas.{not_empty}

upward_in_int : (l width : ℤ) → IsInt l → pos 0 ≤ℤ width → IsInInt (upward_of l width)
upward_in_int l width h k = by_test (int_le width (greatest -ℤ l)) refl
  where
    by_test : (t : Bool) → int_le width (greatest -ℤ l) ≡ t → IsInInt (if t then range_at l (l +ℤ width) else whole_int)
    by_test true e = let g : width ≤ℤ (greatest -ℤ l) = grind (arith, ints) in record { low = h; high = record { low = omega (arith, ints, h.low, h.high); high = omega (arith, ints, h.low, h.high) } }
    by_test false e = grind (arith, ints)

pub fold_in_int : (a : Range) → IsInInt (fold_of a)
fold_in_int a = by_test (is_empty_range a) refl
  where
    by_test : (t : Bool) → is_empty_range a ≡ t → IsInInt (if t then empty_range else shifted_of a.low a.high)
    by_test true e = grind (arith, ints)
    by_test false e = upward_in_int (wrapped a.low) (a.high -ℤ a.low) (IsInt-wrapped a.low) (let g : a.low ≤ℤ a.high = grind (arith, ints) in omega (arith, ints))

upward_holds : (n l h : ℤ) → l ≤ℤ n → n ≤ℤ h → Within (wrapped n) (upward_of (wrapped l) (h -ℤ l))
upward_holds n l h p q = by_test (int_le (h -ℤ l) (greatest -ℤ wrapped l)) refl
  where
    w : IsInt (wrapped n)
    w = IsInt-wrapped n

    u : IsInt (wrapped l)
    u = IsInt-wrapped l

    moved : (h -ℤ l) ≤ℤ (greatest -ℤ wrapped l) → wrapped n ≡ wrapped l +ℤ (n -ℤ l)
    moved g = let d = wrapped_differs n in let e = wrapped_differs l in omega (arith, ints, d.1, e.1, w.low, w.high, u.low, u.high)

    by_test : (t : Bool) → int_le (h -ℤ l) (greatest -ℤ wrapped l) ≡ t → Within (wrapped n) (if t then range_at (wrapped l) (wrapped l +ℤ (h -ℤ l)) else whole_int)
    by_test true e =
        let g : (h -ℤ l) ≤ℤ (greatest -ℤ wrapped l) = grind (arith, ints) in
        let m : wrapped n ≡ wrapped l +ℤ (n -ℤ l) = moved g in
        record { low = omega (arith, ints); high = omega (arith, ints) }
    by_test false e = record { low = w.low; high = w.high }

pub fold_holds : (n : ℤ) (a : Range) → Within n a → Within (wrapped n) (fold_of a)
fold_holds n a h = rw (not_empty n a h) (upward_holds n a.low a.high h.low h.high)

-- ---- the shift

-- a number that a multiple of 2^32 brings within `int` is brought there as its wrapped number
one_turn : (n k : ℤ) → IsInt (n +ℤ turns k) → wrapped n ≡ n +ℤ turns k
one_turn n k h = let w = IsInt-wrapped n in let d = wrapped_differs n in omega (arith, ints, d.1, w.low, w.high, h.low, h.high)

abbrev Shifts : Range → Range → Type 0
Shifts a r = ((k : ℤ) × IsInInt (shifted_by (turns k) a) × (r ≡ shifted_by (turns k) a)) ⊎ (((k : ℤ) → IsInInt (shifted_by (turns k) a) → ⊥) × (r ≡ whole_int))

moved_low : (l k : ℤ) → l ≡ wrapped l +ℤ turns k → wrapped l ≡ l +ℤ turns (neg_ℤ k)
moved_low l k e = omega (arith, ints)

moved_high : (l h w k : ℤ) → w ≡ l +ℤ turns k → w +ℤ (h -ℤ l) ≡ h +ℤ turns k
moved_high l h w k e = omega (arith, ints)

shifted : (l h w d : ℤ) → w ≡ l +ℤ d → w +ℤ (h -ℤ l) ≡ h +ℤ d → range_at w (w +ℤ (h -ℤ l)) ≡ shifted_by d (range_at l h)
shifted l h w d e f = ap (λ x. range_at x (w +ℤ (h -ℤ l))) e ∙ ap (range_at (l +ℤ d)) f

shifted_in_int : (l h w d : ℤ) → w ≡ l +ℤ d → w +ℤ (h -ℤ l) ≡ h +ℤ d → IsInt w → l ≤ℤ h → (h -ℤ l) ≤ℤ (greatest -ℤ w) → IsInInt (shifted_by d (range_at l h))
shifted_in_int l h w d e f i o g = record { low = record { low = omega (arith, ints, i.low); high = omega (arith, ints, i.high) }; high = record { low = omega (arith, ints, i.low); high = omega (arith, ints) } }

none_fits : (l h k : ℤ) → IsInInt (shifted_by (turns k) (range_at l h)) → int_le (h -ℤ l) (greatest -ℤ wrapped l) ≡ false → ⊥
none_fits l h k i e =
    let w : wrapped l ≡ l +ℤ turns k = one_turn l k i.low in
    let g : (h -ℤ l) ≤ℤ (greatest -ℤ wrapped l) = omega (arith, ints, i.high.high) in
    grind (arith, ints)

upward_shifts : (l h : ℤ) → l ≤ℤ h → Shifts (range_at l h) (upward_of (wrapped l) (h -ℤ l))
upward_shifts l h o = by_test (int_le (h -ℤ l) (greatest -ℤ wrapped l)) refl
  where
    by_test : (t : Bool) → int_le (h -ℤ l) (greatest -ℤ wrapped l) ≡ t → Shifts (range_at l h) (if t then range_at (wrapped l) (wrapped l +ℤ (h -ℤ l)) else whole_int)
    by_test true e =
        let g : (h -ℤ l) ≤ℤ (greatest -ℤ wrapped l) = grind (arith, ints) in
        let d = wrapped_differs l in
        let p : wrapped l ≡ l +ℤ turns (neg_ℤ d.0) = moved_low l d.0 d.1 in
        let q : wrapped l +ℤ (h -ℤ l) ≡ h +ℤ turns (neg_ℤ d.0) = moved_high l h (wrapped l) (neg_ℤ d.0) p in
        inl (neg_ℤ d.0, shifted_in_int l h (wrapped l) (turns (neg_ℤ d.0)) p q (IsInt-wrapped l) o g, shifted l h (wrapped l) (turns (neg_ℤ d.0)) p q)
    by_test false e = inr (λ k i. none_fits l h k i e, refl)

fold_some : (a : Range) → is_empty_range a ≡ false → fold_of a ≡ shifted_of a.low a.high
fold_some a e = ap (λ t. if t then empty_range else shifted_of a.low a.high) e

fold_none : (a : Range) → is_empty_range a ≡ true → fold_of a ≡ empty_range
fold_none a e = ap (λ t. if t then empty_range else shifted_of a.low a.high) e

fold_shifts : (a : Range) → is_empty_range a ≡ false → Shifts a (fold_of a)
fold_shifts a e = rw e (let o : a.low ≤ℤ a.high = grind (arith, ints) in upward_shifts a.low a.high o)

pub fold_is : (a : Range) → FoldHolds a
fold_is a = record { empty = fold_none a; shifts = fold_shifts a; holds = λ n. fold_holds n a }
