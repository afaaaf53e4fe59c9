-- A leaf of intervals as a leaf of strides that has each number of each range.
use Rattle.std.proofs.Common.{◌≡◌, ℕ, ℤ, ◌↔◌, List, [], ◌∷◌, Option, Some, None, length, map, sym, subst, ◌∙◌, arith}
use Rattle.std.proofs.lemmas.Int.{ints}
use Rattle.std.proofs.lemmas.List.{length-map}
use Rattle.leaf_domain.specs.declared.range.Range.{Range}
use Rattle.leaf_domain.specs.Ranges.{Within}
use Rattle.leaf_domain.specs.Leaves.{LeafValue}
use Rattle.nonrelational_leaf.specs.Lifted as lifted
use Rattle.nonrelational_leaf.proofs.PartLists as lists
use Rattle.nonrelational_leaf.proofs.LiftedLaws.{at}
use Rattle.interval_leaf.specs.Intervals as interval
use Rattle.strides.specs.Strided.{IsOwn}
use Rattle.strides.proofs.StridedLaws.{has_not_bare}
use Rattle.product_leaf.specs.StrideLeaves.{numbers_of, stride_parts, strides, part_in, AllOwn, AllHave, IsStrideLeaf}
use Rattle.product_leaf.specs.Laws.Parts.{fours_numbers}
use Rattle.product_leaf.specs.Laws.StrideLaws.{stride_part_laws}

-- each variable lies in its range
abbrev pub AllWithin : List Range → List ℤ → Type 0
AllWithin rs s = lifted.AllHave interval.ranges rs s

abbrev pub wide_content : Option (List ℤ) → Option (List ℤ)
wide_content None = None
wide_content (Some ns) = Some (numbers_of (map part_in (interval.pairs_of ns)))

-- a leaf of intervals as one of strides
abbrev pub wide_strides : LeafValue → LeafValue
wide_strides w = record { variables = w.variables; content = wide_content w.content }

-- ---- it is a leaf of strides
wide_own : (r : Range) → interval.IsOwn r → IsOwn (part_in r)
wide_own r h =
    let w : Within r.low r = record { low = omega (arith, ints); high = h.order } in
    record {
      low = h.low;
      high = h.high;
      modulus = omega arith;
      residue = record { low = λ p. omega (arith, ints); high = λ p. omega (arith, ints) };
      some = has_not_bare (part_in r) r.low (stride_part_laws.in_range r r.low w);
    }

all_own : (rs : List Range) → interval.AllOwn rs → AllOwn (map part_in rs)
all_own [] h = tt
all_own (r ∷ rs) h = (wide_own r h.0, all_own rs h.1)

wide_leaf : (n : ℕ) (c : Option (List ℤ)) → interval.IsInterval (at n c) → IsStrideLeaf (wide_strides (at n c))
wide_leaf n None p = (p.0, tt)
wide_leaf n (Some ns) p =
    let e : length (map part_in (interval.pairs_of ns)) ≡ n = length-map (interval.pairs_of ns) part_in ∙ sym p.1.1 in
    subst (λ k. IsStrideLeaf (at k (Some (numbers_of (map part_in (interval.pairs_of ns)))))) e
    (lists.is_leaf stride_parts stride_part_laws (map part_in (interval.pairs_of ns)) (omega (arith, e, p.0)) (all_own (interval.pairs_of ns) p.1.2))

pub wide_valid : (w : LeafValue) → interval.intervals.valid w → strides.valid (wide_strides w)
wide_valid w p = wide_leaf w.variables w.content p

-- ---- it holds the same stores
all_have : (rs : List Range) (s : List ℤ) → AllWithin rs s → AllHave (map part_in rs) s
all_have [] [] h = tt
all_have [] (n ∷ s) h = absurd h
all_have (r ∷ rs) [] h = absurd h
all_have (r ∷ rs) (n ∷ s) h = (stride_part_laws.in_range r n h.0, all_have rs s h.1)

all_within : (rs : List Range) (s : List ℤ) → AllHave (map part_in rs) s → AllWithin rs s
all_within [] [] h = tt
all_within [] (n ∷ s) h = absurd h
all_within (r ∷ rs) [] h = absurd h
all_within (r ∷ rs) (n ∷ s) h = (record { low = h.0.low; high = h.0.high }, all_within rs s h.1)

by_content : (n : ℕ) (c : Option (List ℤ)) (s : List ℤ) → (strides.holds (wide_strides (at n c)) s) ↔ (interval.intervals.holds (at n c) s)
by_content n None s = (λ h. h, λ h. h)
by_content n (Some ns) s = (
  λ h. all_within (interval.pairs_of ns) s (subst (λ xs. AllHave xs s) (fours_numbers (map part_in (interval.pairs_of ns))) h),
  λ h. subst (λ xs. AllHave xs s) (sym (fours_numbers (map part_in (interval.pairs_of ns)))) (all_have (interval.pairs_of ns) s h),
)

pub wide_holds : (w : LeafValue) (s : List ℤ) → (strides.holds (wide_strides w) s) ↔ (interval.intervals.holds w s)
wide_holds w s = by_content w.variables w.content s
