-- The numbers that a cut leaves, and its ends, are met.
use Rattle.std.proofs.Common.{◌≡◌, ◌≢◌, ℤ, pos, ◌+ℤ◌, ◌-ℤ◌, ◌≤ℤ◌, int_lt, int_le, Bool, true, false, not, if◌then◌else◌, ◌||◌, refl, ap, arith}
use Rattle.std.proofs.lemmas.Int.{ints, clamps}
use Rattle.std.specs.Int.{int_min, int_max}
use Rattle.std.specs.Ordering.{int_eq}
use Rattle.leaf_domain.specs.declared.range.Range.{Range}
use Rattle.leaf_domain.specs.declared.compare.Compare.{Compare}
use Rattle.leaf_domain.specs.declared.compare.Compare.TheVariants.{Lt, Le, Gt, Ge, Eq, Ne}
use Rattle.leaf_domain.specs.Ranges.{Within, is_empty_range, empty_range, is_single}
use Rattle.leaf_domain.specs.Compares.{cut_of, cut_of_some, raised_past, lowered_past, without_number}
use Rattle.range_laws.specs.Ends.{EndsAre}
use Rattle.range_laws.specs.Cuts.{IsMet, CutIsExact, EndsAreMet, CutIsLeast}
use Rattle.range_laws.proofs.EndLemmas.{some, low_in, high_in, ends_none, ends_between, within_ends, least_by_ends}

under : (n m : ℤ) → n ≤ℤ (m -ℤ pos 1) → int_lt n m ≡ true
under n m p = grind (arith, ints)

over : (n m : ℤ) → (m +ℤ pos 1) ≤ℤ n → int_lt m n ≡ true
over n m p = grind (arith, ints)

at_most : (n m : ℤ) → n ≤ℤ m → int_le n m ≡ true
at_most n m p = grind (arith, ints)

itself : (n : ℤ) → int_eq n n ≡ true
itself n = grind (arith, ints)

same : (n m : ℤ) → int_eq n m ≡ true → n ≡ m
same n m e = grind (arith, ints)

-- ---- what a number of the range differs from
differs : (n : ℤ) (a b : Range) → Within n a → b.low ≤ℤ b.high → (b.low ≡ n → b.high ≡ n → ⊥) → IsMet Ne a b n
differs n a b w q o = by_tests (int_eq n b.low) (int_eq n b.high) refl refl
  where
    by_tests : (t u : Bool) → int_eq n b.low ≡ t → int_eq n b.high ≡ u → IsMet Ne a b n
    by_tests false u d e = record { own = w; other = b.low; other_within = low_in b q; holds = ap not d }
    by_tests true false d e = record { own = w; other = b.high; other_within = high_in b q; holds = ap not e }
    by_tests true true d e = absurd (o (grind (arith, ints)) (grind (arith, ints)))

-- ---- the numbers that remain
within_without : (n : ℤ) (a : Range) (c : ℤ) → Within n (without_number a c) → Within n a
within_without n a c w = let (l, h) = within_ends n (raised_past a.low c) (lowered_past a.high c) w in record { low = low a.low l; high = high a.high h }
  where
    low : (x : ℤ) → raised_past x c ≤ℤ n → x ≤ℤ n
    low x l = grind (arith, ints)

    high : (x : ℤ) → n ≤ℤ lowered_past x c → n ≤ℤ x
    high x l = grind (arith, ints)

some_met : (op : Compare) (a b : Range) (n : ℤ) → b.low ≤ℤ b.high → (op ≡ Ne → b.low ≡ n → b.high ≡ n → ⊥) → Within n (cut_of_some op a b) → IsMet op a b n
some_met Lt a b n q o w = let (l, h) = within_ends n a.low (int_min a.high (b.high -ℤ pos 1)) w in record {
  own = record { low = l; high = omega (arith, ints, clamps) };
  other = b.high;
  other_within = high_in b q;
  holds = under n b.high (omega (arith, ints, clamps));
}
some_met Le a b n q o w = let (l, h) = within_ends n a.low (int_min a.high b.high) w in record {
  own = record { low = l; high = omega (arith, ints, clamps) };
  other = b.high;
  other_within = high_in b q;
  holds = at_most n b.high (omega (arith, ints, clamps));
}
some_met Gt a b n q o w = let (l, h) = within_ends n (int_max a.low (b.low +ℤ pos 1)) a.high w in record {
  own = record { low = omega (arith, ints, clamps); high = h };
  other = b.low;
  other_within = low_in b q;
  holds = over n b.low (omega (arith, ints, clamps));
}
some_met Ge a b n q o w = let (l, h) = within_ends n (int_max a.low b.low) a.high w in record {
  own = record { low = omega (arith, ints, clamps); high = h };
  other = b.low;
  other_within = low_in b q;
  holds = at_most b.low n (omega (arith, ints, clamps));
}
some_met Eq a b n q o w = let (l, h) = within_ends n (int_max a.low b.low) (int_min a.high b.high) w in record {
  own = record { low = omega (arith, ints, clamps); high = omega (arith, ints, clamps) };
  other = n;
  other_within = record { low = omega (arith, ints, clamps); high = omega (arith, ints, clamps) };
  holds = itself n;
}
some_met Ne a b n q o w = differs n a b (kept (is_single b) w) q (o refl)
  where
    kept : (t : Bool) → Within n (if t then without_number a b.low else a) → Within n a
    kept true v = within_without n a b.low v
    kept false v = v

pub cut-exact : CutIsExact
cut-exact op a b n o = by_tests (is_empty_range a) (is_empty_range b) refl
  where
    by_tests : (t u : Bool) → is_empty_range b ≡ u → Within n (if t || u then empty_range else cut_of_some op a b) → IsMet op a b n
    by_tests true u e w = absurd (omega (arith, ints, w.low, w.high))
    by_tests false true e w = absurd (omega (arith, ints, w.low, w.high))
    by_tests false false e w = some_met op a b n (some b e) o w

-- ---- the ends
-- where each number that remains is met, so are the ends
ends_exact : (op : Compare) (a b : Range) → op ≢ Ne → EndsAre (IsMet op a b) (cut_of op a b)
ends_exact op a b o e =
    let p = some (cut_of op a b) e in
    (cut-exact op a b (cut_of op a b).low (λ f. absurd (o f)) (low_in (cut_of op a b) p), cut-exact op a b (cut_of op a b).high (λ f. absurd (o f)) (high_in (cut_of op a b) p))

-- without the number of which `b` consists, each end differs from it
ends_without : (a b : Range) → b.low ≤ℤ b.high → EndsAre (IsMet Ne a b) (without_number a b.low)
ends_without a b q = ends_between (IsMet Ne a b) (raised_past a.low c) (lowered_past a.high c) met
  where
    c : ℤ
    c = b.low

    raised : (x : ℤ) → int_eq (raised_past x c) c ≡ false
    raised x = grind (arith, ints)

    lowered : (x : ℤ) → int_eq (lowered_past x c) c ≡ false
    lowered x = grind (arith, ints)

    rises : (x : ℤ) → x ≤ℤ raised_past x c
    rises x = grind (arith, ints)

    falls : (x : ℤ) → lowered_past x c ≤ℤ x
    falls x = grind (arith, ints)

    met : raised_past a.low c ≤ℤ lowered_past a.high c → IsMet Ne a b (raised_past a.low c) × IsMet Ne a b (lowered_past a.high c)
    met p = let l = rises a.low in let h = falls a.high in (
      record { own = record { low = l; high = omega (arith, ints, p, h) }; other = c; other_within = low_in b q; holds = ap not (raised a.low) },
      record { own = record { low = omega (arith, ints, p, l); high = h }; other = c; other_within = low_in b q; holds = ap not (lowered a.high) },
    )

not_single : (b : Range) (n : ℤ) → is_single b ≡ false → b.low ≡ n → b.high ≡ n → ⊥
not_single b n e f g = grind (arith, ints)

ends_unequal : (a b : Range) → a.low ≤ℤ a.high → b.low ≤ℤ b.high → EndsAre (IsMet Ne a b) (cut_of_some Ne a b)
ends_unequal a b p q = by_test (is_single b) refl
  where
    by_test : (t : Bool) → is_single b ≡ t → EndsAre (IsMet Ne a b) (if t then without_number a b.low else a)
    by_test true e = ends_without a b q
    by_test false e = λ _. (differs a.low a b (low_in a p) q (not_single b a.low e), differs a.high a b (high_in a p) q (not_single b a.high e))

ends_ne : (a b : Range) → EndsAre (IsMet Ne a b) (cut_of Ne a b)
ends_ne a b = by_tests (is_empty_range a) (is_empty_range b) refl refl
  where
    by_tests : (t u : Bool) → is_empty_range a ≡ t → is_empty_range b ≡ u → EndsAre (IsMet Ne a b) (if t || u then empty_range else cut_of_some Ne a b)
    by_tests true u d e = ends_none (IsMet Ne a b)
    by_tests false true d e = ends_none (IsMet Ne a b)
    by_tests false false d e = ends_unequal a b (some a d) (some b e)

pub ends-met : EndsAreMet
ends-met Ne a b = ends_ne a b
ends-met op a b = ends_exact op a b (λ e. cc)

pub cut-least : CutIsLeast
cut-least op a b = least_by_ends (IsMet op a b) (cut_of op a b) (ends-met op a b)
