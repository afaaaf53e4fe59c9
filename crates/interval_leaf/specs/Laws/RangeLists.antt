-- Ranges meet the laws of a domain of one variable, and what the code's proofs ask of lists of them.
use Rattle.std.proofs.Common.{◌≡◌, ℕ, int_le, ◌≤ℤ◌, ◌+◌, ◌*◌, ◌<◌, ◌≤◌, ℤ, Bool, true, false, ◌&&◌, ◌||◌, List, [], ◌∷◌, length, slice_set, refl, ap, sym, ◌∙◌, arith}
use Rattle.std.specs.List.{list_any}
use Rattle.std.proofs.lemmas.Int.{ints, clamps}
use Rattle.c_tree.specs.Value.{IsInt, least, greatest}
use Rattle.leaf_domain.specs.declared.range.Range.{Range}
use Rattle.leaf_domain.specs.Ranges.{Within, IsInInt, is_empty_range, cover_of, empty_range}
use Rattle.leaf_domain.specs.Ends.{widened_range, narrowed_range, ends_left}
use Rattle.leaf_domain.proofs.EndLemmas.{widened_low_first, widened_low_second, widened_high_first, widened_high_second, widened_low_inside, widened_high_inside, ends_fall, ends_fewer_low, ends_fewer_high, ends_few, narrowed_low, narrowed_high}
use Rattle.leaf_domain.proofs.Variables.{each_zipped, each_set}
use Rattle.nonrelational_leaf.specs.PartLaws.{PartLaws}
use Rattle.interval_leaf.specs.Intervals.{ranges, numbers_of, pairs_of, met_range, IsOwn, AllOwn, HasEnds, AllEnds, point_of, lies_in, narrowed_all}

pub pairs_numbers : (rs : List Range) → pairs_of (numbers_of rs) ≡ rs
pairs_numbers [] = refl
pairs_numbers (r ∷ rs) = ap (λ x. r ∷ x) (pairs_numbers rs)

-- ---- ranges that a leaf can have
cover_own : (a b : Range) → IsOwn a → IsOwn b → IsOwn (cover_of a b)
cover_own a b h k = record { low = omega (arith, ints, clamps); order = omega (arith, ints, clamps); high = omega (arith, ints, clamps) }

in_order : (l m h : ℤ) → l ≤ℤ m → m ≤ℤ h → l ≤ℤ h
in_order l m h p q = omega (arith, ints)

widened_own : (ts : List ℤ) (a b : Range) → IsOwn a → IsOwn b → IsOwn (widened_range ts a b)
widened_own ts a b h k = record {
  low = widened_low_inside ts a b h.low;
  order = in_order _ _ _ (widened_low_first ts a b a.high k.low h.order) (widened_high_first ts a b a.high k.high (omega (arith, ints)));
  high = widened_high_inside ts a b h.high;
}

narrowed_ends : (ts : List ℤ) (a b : Range) → IsOwn a → IsOwn b → HasEnds (narrowed_range ts a b)
narrowed_ends ts a b h k = (narrowed_low (λ n. least ≤ℤ n) ts a b h.low k.low, narrowed_high (λ n. n ≤ℤ greatest) ts a b h.high k.high)

pub narrowed_all_ends : (ts : List ℤ) (us bs : List Range) → AllOwn us → AllOwn bs → AllEnds (narrowed_all ts us bs)
narrowed_all_ends ts us bs h k = each_zipped IsOwn HasEnds (narrowed_range ts) (narrowed_ends ts) us bs h k

pub own_from_ends : (r : Range) → HasEnds r → is_empty_range r ≡ false → IsOwn r
own_from_ends r h e = grind (arith, ints)

pub own_from_all_ends : (rs : List Range) → AllEnds rs → list_any is_empty_range rs ≡ false → AllOwn rs
own_from_all_ends [] h e = tt
own_from_all_ends (r ∷ rs) h e = let (p, q) = apart (is_empty_range r) (list_any is_empty_range rs) e in (own_from_ends r h.0 p, own_from_all_ends rs h.1 q)
  where
    apart : (a b : Bool) → (a || b) ≡ false → (a ≡ false) × (b ≡ false)
    apart true b f = cc
    apart false b f = (refl, f)

pub own_set : (rs : List Range) (x : ℕ) (r : Range) → AllOwn rs → IsOwn r → AllOwn (slice_set rs x r)
own_set rs x r h k = each_set IsOwn rs x r h k

-- ---- stores
cover_first : (n : ℤ) (a b : Range) → Within n a → Within n (cover_of a b)
cover_first n a b h = record { low = omega (arith, ints, clamps); high = omega (arith, ints, clamps) }

cover_second : (n : ℤ) (a b : Range) → Within n b → Within n (cover_of a b)
cover_second n a b h = record { low = omega (arith, ints, clamps); high = omega (arith, ints, clamps) }

within_wider : (n : ℤ) (a b : Range) → lies_in a b ≡ true → Within n a → Within n b
within_wider n a b e h = grind (arith, ints)

widened_first : (ts : List ℤ) (x g : Range) (n : ℤ) → IsOwn x → IsOwn g → Within n x → Within n (widened_range ts x g)
widened_first ts x g n p q h = record { low = widened_low_first ts x g n q.low h.low; high = widened_high_first ts x g n q.high h.high }

widened_second : (ts : List ℤ) (x g : Range) (n : ℤ) → IsOwn x → IsOwn g → Within n g → Within n (widened_range ts x g)
widened_second ts x g n p q h = record { low = widened_low_second ts x g n q.low h.low; high = widened_high_second ts x g n q.high h.high }

narrowed_holds : (ts : List ℤ) (x g : Range) (n : ℤ) → lies_in g x ≡ true → Within n g → Within n (narrowed_range ts x g)
narrowed_holds ts x g n e h =
    let k : Within n x = within_wider n g x e h in
    record { low = narrowed_low (λ l. l ≤ℤ n) ts x g k.low h.low; high = narrowed_high (λ m. n ≤ℤ m) ts x g k.high h.high }

not_empty_within : (n : ℤ) (r : Range) → Within n r → is_empty_range r ≡ false
not_empty_within n r h = grind (arith, ints)

-- ---- how many steps are left
widened_fewer : (ts : List ℤ) (x g : Range) → IsOwn g → lies_in g x ≡ false → ends_left ts (widened_range ts x g) < ends_left ts x
widened_fewer ts x g h e = by_low (int_le x.low g.low) refl
  where
    by_low : (b : Bool) → int_le x.low g.low ≡ b → ends_left ts (widened_range ts x g) < ends_left ts x
    by_low true f = ends_fewer_high ts x g h.low h.high (sym (ap (λ b. b && int_le g.high x.high) f) ∙ e)
    by_low false f = ends_fewer_low ts x g h.low h.high f

-- ---- one variable
own_in_int : (r : Range) → IsOwn r → IsInInt r
own_in_int r h = record { low = record { low = h.low; high = omega (arith, ints) }; high = record { low = omega (arith, ints); high = h.high } }

point_own : (n : ℤ) → IsInt n → IsOwn (point_of n)
point_own n h = record { low = h.low; order = omega (arith, ints); high = h.high }

point_has : (n : ℤ) → Within n (point_of n)
point_has n = record { low = omega (arith, ints); high = omega (arith, ints) }

point_alone : (n m : ℤ) → Within m (point_of n) → m ≡ n
point_alone n m h = omega (arith, ints)

meet_within : (n : ℤ) (a b : Range) → Within n a → Within n b → Within n (met_range a b)
meet_within n a b h g = grind (arith, ints, clamps)

meet_ends : (a b : Range) → IsOwn a → IsInInt b → HasEnds (met_range a b)
meet_ends a b h g = let p : least ≤ℤ a.low = h.low in let q : a.high ≤ℤ greatest = h.high in grind (arith, ints, clamps)

empty_in_int : IsInInt empty_range
empty_in_int = record { low = record { low = omega (arith, ints); high = omega (arith, ints) }; high = record { low = omega (arith, ints); high = omega (arith, ints) } }

pub range_laws : PartLaws ranges
range_laws = record {
  parts_told = pairs_numbers;
  point_own = point_own;
  point_has = point_has;
  point_alone = point_alone;
  number = λ r. r.low;
  own_has = λ r h. record { low = omega (arith, ints); high = h.order };
  has_not_bare = λ r n. not_empty_within n r;
  best_own = λ r h. h;
  best_has = λ r n. (λ h. h, λ h. h);
  leq_has = λ a b n. within_wider n a b;
  join_own = cover_own;
  join_first = λ a b n. cover_first n a b;
  join_second = λ a b n. cover_second n a b;
  widen_own = widened_own;
  widen_first = widened_first;
  widen_second = widened_second;
  widen_falls = λ ts a b h k. ends_fall ts a b k.low k.high;
  widen_fewer = λ ts a b h k. widened_fewer ts a b k;
  steps_few = λ ts r h. ends_few ts r;
  narrow_own = λ ts a b h k. own_from_ends (narrowed_range ts a b) (narrowed_ends ts a b h k);
  narrow_has = narrowed_holds;
  range_in_int = own_in_int;
  range_has = λ r n h. h;
  bare_in_int = empty_in_int;
  bare_is_empty = refl;
  meet_own = λ a r h i. own_from_ends (met_range a r) (meet_ends a r h i);
  meet_has = λ a r n. meet_within n a r;
  range_own = λ r i. own_from_ends r (i.low.low, i.high.high);
  in_range = λ r n h. h;
  form_own = λ rs f r i. own_from_ends r (i.low.low, i.high.high);
  form_has = λ rs f r s g h w. w;
}
