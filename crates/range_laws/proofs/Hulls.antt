-- The numbers of hulls and meets.
use Rattle.std.proofs.Common.{◌≡◌, inl, inr, ℤ, ◌≤ℤ◌, false, refl, subst, arith}
use Rattle.std.proofs.lemmas.Int.{ints, clamps}
use Rattle.std.specs.Int.{int_min, int_max}
use Rattle.leaf_domain.specs.declared.range.Range.{Range}
use Rattle.leaf_domain.specs.Ranges.{Within, is_empty_range, hull_of, cover_of, meet_of}
use Rattle.leaf_domain.proofs.ArithmeticLemmas.{hull_first, hull_second}
use Rattle.leaf_domain.proofs.CutLemmas.{ends_hold}
use Rattle.range_laws.specs.Ends.{EndsAre}
use Rattle.range_laws.specs.Joins.{IsInEither, IsLeastOfBoth, HullIsLeast, CoverIsLeast, MeetIsExact}
use Rattle.range_laws.proofs.EndLemmas.{some, low_in, high_in, ends_hull, within_ends, least_by_ends}

held : (a b : Range) (n : ℤ) → IsInEither a b n → Within n (hull_of a b)
held a b n (inl w) = hull_first n a b w
held a b n (inr w) = hull_second n a b w

first_ends : (a b : Range) → EndsAre (IsInEither a b) a
first_ends a b e = (inl (low_in a (some a e)), inl (high_in a (some a e)))

second_ends : (a b : Range) → EndsAre (IsInEither a b) b
second_ends a b e = (inr (low_in b (some b e)), inr (high_in b (some b e)))

pub hull-least : HullIsLeast
hull-least a b = record {
  holds = held a b;
  least = least_by_ends (IsInEither a b) (hull_of a b) (ends_hull (IsInEither a b) a b (first_ends a b) (second_ends a b));
}

cover_is_hull : (a b : Range) → is_empty_range a ≡ false → is_empty_range b ≡ false → hull_of a b ≡ cover_of a b
cover_is_hull a b e f = rw (e, f) refl

pub cover-least : CoverIsLeast
cover-least a b e f = subst (IsLeastOfBoth a b) (cover_is_hull a b e f) (hull-least a b)

both : (a b : Range) (n : ℤ) → Within n (meet_of a b) → Within n a × Within n b
both a b n w = let (l, h) = within_ends n (int_max a.low b.low) (int_min a.high b.high) w in (
  record { low = omega (arith, ints, clamps); high = omega (arith, ints, clamps) },
  record { low = omega (arith, ints, clamps); high = omega (arith, ints, clamps) },
)

pub meet-exact : MeetIsExact
meet-exact a b n = (both a b n, λ p. ends_hold n (int_max a.low b.low) (int_min a.high b.high) (lows p) (highs p))
  where
    lows : Within n a × Within n b → int_max a.low b.low ≤ℤ n
    lows p = omega (arith, ints, clamps, p.0.low, p.1.low)

    highs : Within n a × Within n b → n ≤ℤ int_min a.high b.high
    highs p = omega (arith, ints, clamps, p.0.high, p.1.high)
