-- The ends of a folded range are wrapped numbers of the range.
use Rattle.std.proofs.Common.{◌≡◌, ◌⊎◌, inl, inr, ℤ, pos, negsuc, neg_ℤ, ◌+ℤ◌, ◌-ℤ◌, ◌≤ℤ◌, int_lt, Bool, true, false, refl, sym, subst, arith}
use Rattle.std.proofs.lemmas.Int.{ints}
use Rattle.c_tree.specs.Value.{least, greatest, IsInt, wrapped}
use Rattle.c_tree.proofs.Values.{IsInt-wrapped, wrapped_differs}
use Rattle.leaf_domain.specs.declared.range.Range.{Range}
use Rattle.leaf_domain.specs.Ranges.{Within, IsInInt, is_empty_range, empty_range, whole_int, fold_of, shifted_by, turns}
use Rattle.leaf_domain.proofs.FoldLemmas.{fold_is}
use Rattle.range_laws.specs.Ends.{EndsAre}
use Rattle.range_laws.specs.Folds.{IsWrapped, FoldEndsAreWrapped, FoldIsLeast, FoldIsExact}
use Rattle.range_laws.proofs.EndLemmas.{some, low_in, high_in, ends_none, least_by_ends}

-- a number of `int` is the wrapped one of each from which it differs by a multiple of 2^32
wraps_to : (n k x : ℤ) → n +ℤ turns k ≡ x → IsInt x → wrapped n ≡ x
wraps_to n k x e h = let w = IsInt-wrapped n in let d = wrapped_differs n in omega (arith, ints, d.1, w.low, w.high, h.low, h.high, e)

-- ---- a range that a multiple brings within `int`
shifted_wraps : (a : Range) (k x : ℤ) → IsInInt (shifted_by (turns k) a) → Within x (shifted_by (turns k) a) → IsWrapped a x
shifted_wraps a k x i w = record {
  number = x -ℤ turns k;
  number_within = record { low = omega (arith, ints, w.low); high = omega (arith, ints, w.high) };
  wraps = wraps_to (x -ℤ turns k) k x (omega (arith, ints)) (record { low = omega (arith, ints, w.low, i.low.low); high = omega (arith, ints, w.high, i.high.high) });
}

pub fold-exact : FoldIsExact
fold-exact a t k i w = by_empty (is_empty_range a) refl
  where
    by_shift : ((s : ℤ) × IsInInt (shifted_by (turns s) a) × (fold_of a ≡ shifted_by (turns s) a)) ⊎ (((s : ℤ) → IsInInt (shifted_by (turns s) a) → ⊥) × (fold_of a ≡ whole_int)) → IsWrapped a k
    by_shift (inl (s, j, e)) = shifted_wraps a s k j (subst (Within k) e w)
    by_shift (inr (f, e)) = absurd (f t i)

    by_empty : (b : Bool) → is_empty_range a ≡ b → IsWrapped a k
    by_empty true e = let v : Within k empty_range = subst (Within k) ((fold_is a).empty e) w in absurd (omega (arith, ints, v.low, v.high))
    by_empty false e = by_shift ((fold_is a).shifts e)

-- ---- a range that none does crosses from the greatest `int` to the least
record Crosses (a : Range) : Type 0 where
  turn : ℤ
  low : a.low ≤ℤ (greatest +ℤ turns turn)
  high : ((greatest +ℤ turns turn) +ℤ pos 1) ≤ℤ a.high

crosses : (a : Range) → a.low ≤ℤ a.high → ((s : ℤ) → IsInInt (shifted_by (turns s) a) → ⊥) → Crosses a
crosses a p f = by_test (int_lt (greatest +ℤ turns d.0) a.high) refl
  where
    d : (k : ℤ) × (a.low ≡ wrapped a.low +ℤ turns k)
    d = wrapped_differs a.low

    by_test : (t : Bool) → int_lt (greatest +ℤ turns d.0) a.high ≡ t → Crosses a
    by_test true e = let w = IsInt-wrapped a.low in record { turn = d.0; low = omega (arith, ints, w.high, d.1); high = omega (arith, ints, e) }
    by_test false e = let w = IsInt-wrapped a.low in absurd (f (neg_ℤ d.0) (record {
      low = record { low = omega (arith, ints, w.low, d.1); high = omega (arith, ints, w.high, d.1) };
      high = record { low = omega (arith, ints, w.low, d.1, p); high = omega (arith, ints, e) };
    }))

whole_ends : (a : Range) → Crosses a → IsWrapped a least × IsWrapped a greatest
whole_ends a c = (
  record {
    number = (greatest +ℤ turns c.turn) +ℤ pos 1;
    number_within = record { low = omega (arith, ints, c.low); high = c.high };
    wraps = wraps_to ((greatest +ℤ turns c.turn) +ℤ pos 1) (negsuc 0 -ℤ c.turn) least (omega (arith, ints)) (record { low = omega (arith, ints); high = omega (arith, ints) });
  },
  record {
    number = greatest +ℤ turns c.turn;
    number_within = record { low = c.low; high = omega (arith, ints, c.high) };
    wraps = wraps_to (greatest +ℤ turns c.turn) (neg_ℤ c.turn) greatest (omega (arith, ints)) (record { low = omega (arith, ints); high = omega (arith, ints) });
  },
)

pub fold-ends : FoldEndsAreWrapped
fold-ends a = by_empty (is_empty_range a) refl
  where
    shifted : (s : ℤ) → a.low ≤ℤ a.high → IsInInt (shifted_by (turns s) a) → EndsAre (IsWrapped a) (shifted_by (turns s) a)
    shifted s p j _ =
        let q : (shifted_by (turns s) a).low ≤ℤ (shifted_by (turns s) a).high = omega (arith, ints, p) in
        (shifted_wraps a s (shifted_by (turns s) a).low j (low_in (shifted_by (turns s) a) q), shifted_wraps a s (shifted_by (turns s) a).high j (high_in (shifted_by (turns s) a) q))

    by_shift : a.low ≤ℤ a.high → ((s : ℤ) × IsInInt (shifted_by (turns s) a) × (fold_of a ≡ shifted_by (turns s) a)) ⊎ (((s : ℤ) → IsInInt (shifted_by (turns s) a) → ⊥) × (fold_of a ≡ whole_int)) → EndsAre (IsWrapped a) (fold_of a)
    by_shift p (inl (s, j, e)) = subst (EndsAre (IsWrapped a)) (sym e) (shifted s p j)
    by_shift p (inr (f, e)) = subst (EndsAre (IsWrapped a)) (sym e) (λ _. whole_ends a (crosses a p f))

    by_empty : (b : Bool) → is_empty_range a ≡ b → EndsAre (IsWrapped a) (fold_of a)
    by_empty true e = subst (EndsAre (IsWrapped a)) (sym ((fold_is a).empty e)) (ends_none (IsWrapped a))
    by_empty false e = by_shift (some a e) ((fold_is a).shifts e)

pub fold-least : FoldIsLeast
fold-least a = least_by_ends (IsWrapped a) (fold_of a) (fold-ends a)
