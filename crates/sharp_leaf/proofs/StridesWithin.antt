-- Strides that follow remainders are below intervals.
use Rattle.std.proofs.Common.{◌≡◌, inl, inr, ℕ, zero, suc, ◌<◌, ℤ, pos, ◌≤ℤ◌, Bool, true, false, if◌then◌else◌, List, [], ◌∷◌, Option, Some, None, length, map, slice_index_or, slice_set, refl, sym, subst, ◌∙◌, arith}
use Rattle.std.specs.List.{list_any}
use Rattle.std.proofs.lemmas.Int.{ints, clamps}
use Rattle.leaf_domain.specs.declared.form.Form.{Form}
use Rattle.leaf_domain.specs.declared.operation.Operation.{Operation}
use Rattle.leaf_domain.specs.declared.range.Range.{Range}
use Rattle.leaf_domain.specs.declared.compare.Compare.{Compare}
use Rattle.leaf_domain.specs.Forms.{IsForm}
use Rattle.leaf_domain.specs.Operations.{IsOperation}
use Rattle.leaf_domain.specs.Ranges.{Within, IsInInt, empty_range}
use Rattle.leaf_domain.specs.Leaves.{LeafValue, Alike, IsLeafLike, nothing_of, at_store}
use Rattle.leaf_domain.specs.Exactness.{IsStorePut}
use Rattle.leaf_domain.proofs.Variables.{length_replaced, held_length}
use Rattle.leaf_domain.proofs.OnlyHeld.{replaced_back, put_at, put_back, put_other}
use Rattle.nonrelational_leaf.specs.Lifted.{all_best, part_at as lifted_at}
use Rattle.nonrelational_leaf.proofs.PartLists as lists
use Rattle.nonrelational_leaf.proofs.LiftedLaws.{at, made_back, below_of}
use Rattle.interval_leaf.specs.Intervals as interval
use Rattle.interval_leaf.specs.Laws.{interval_laws}
use Rattle.interval_leaf.specs.Laws.RangeLists.{range_laws, pairs_numbers}
use Rattle.strides.specs.declared.strided.Strided.{Strided}
use Rattle.strides.specs.declared.stride.Stride.{Stride}
use Rattle.strides.specs.Strided.{Has, is_bare, point_at, range_of, reduced, strided_in}
use Rattle.strides.proofs.StridedLaws.{reduced_back}
use Rattle.product_leaf.specs.StrideLeaves.{stride_parts, strides, fours_of, part_at, part_in, met_part, form_stride, AllHave, IsStrideLeaf, leaf_of, best_parts, all_lie_in, widened_all, narrowed_all, settled, stride_with}
use Rattle.product_leaf.specs.Laws.{stride_laws}
use Rattle.product_leaf.specs.Laws.Parts.{fours_numbers}
use Rattle.product_leaf.specs.Laws.StrideLaws.{stride_part_laws}
use Rattle.product_leaf.proofs.ExactLaws.{strides_exact, ordered_by_stores}
use Rattle.congruence_leaf.specs.Remainders.{stride_less, stride_modulo}
use Rattle.congruence_leaf.specs.TwoStrides.{strided_met}
use Rattle.congruence_leaf.specs.Laws.TwoStrides.{met_only}
use Rattle.congruence_leaf.specs.Congruences.{leaf_results, results_in, congruence_set, divided_part, congruence_meet, congruences}
use Rattle.congruence_leaf.specs.Laws.{congruence_laws}
use Rattle.congruence_leaf.proofs.MeetCases.{meet_cases}
use Rattle.sharp_leaf.specs.BelowIntervals.{IsUnder, HasRanges, IsBelowIntervals}
use Rattle.sharp_leaf.proofs.BelowParts.{congruence_least}
use Rattle.sharp_leaf.proofs.WideStrides.{AllWithin, wide_strides, wide_valid, wide_holds}
use Rattle.sharp_leaf.proofs.RangesWithin.{widened_all_within, narrowed_all_within, read_within, put_within}

-- the leaf itself has the strides
abbrev pub own : LeafValue → LeafValue
own v = v

abbrev IsIn : LeafValue → LeafValue → Type 0
IsIn v w = IsUnder congruences own v w

-- each store of the strides is one of the intervals
abbrev HasStores : LeafValue → LeafValue → Type 0
HasStores v w = (s : List ℤ) → strides.holds v s → interval.intervals.holds w s

answered : (v w a b : LeafValue) → IsIn v w → IsLeafLike congruences v a → IsLeafLike interval.intervals w b → HasStores a b → IsIn a b
answered v w a b u i j h = record { first = i.valid; second = j.valid; same = i.same ∙ u.same ∙ sym j.same; stores = h }

over : (v w : LeafValue) (x : ℕ) → IsIn v w → x < v.variables → x < w.variables
over v w x u l = subst (λ n. x < n) u.same l

interval_alike : (v w x y : LeafValue) → IsIn v w → IsIn x y → v.variables ≡ x.variables → Alike interval.intervals w y
interval_alike v w x y u t e = record { first = u.second; second = t.second; same = sym u.same ∙ e ∙ t.same }

stride_alike : (v w x y : LeafValue) → IsIn v w → IsIn x y → v.variables ≡ x.variables → Alike congruences v x
stride_alike v w x y u t e = record { first = u.first; second = t.first; same = e }

form_over : (v w : LeafValue) (f : Form) → IsIn v w → IsForm v.variables f → IsForm w.variables f
form_over v w f u g = subst (λ n. IsForm n f) u.same g

-- ---- part by part
intervals_hold : (rs : List Range) (s : List ℤ) → AllWithin rs s → interval.intervals.holds (interval.interval_of rs) s
intervals_hold rs s h = subst (λ xs. AllWithin xs s) (sym (pairs_numbers rs)) h

wide_leq : (v w : LeafValue) → IsIn v w → strides.leq v (wide_strides w) ≡ true
wide_leq v w u =
    (ordered_by_stores v (wide_strides w) (record { first = u.first; second = wide_valid w u.second; same = u.same })).1
    (λ s h. (wide_holds w s).1 (u.stores s h))

-- the best parts lie in the ranges
parts_lie : (n m : ℕ) (us ns : List ℤ) → IsIn (at n (Some us)) (at m (Some ns)) → all_lie_in (best_parts (at n (Some us))) (map part_in (interval.pairs_of ns)) ≡ true
parts_lie n m us ns u =
    subst (λ ps. all_lie_in (best_parts (at n (Some us))) ps ≡ true) (fours_numbers (map part_in (interval.pairs_of ns))) (wide_leq (at n (Some us)) (at m (Some ns)) u)

as_many : (n m : ℕ) (us ns : List ℤ) → IsIn (at n (Some us)) (at m (Some ns)) → length (best_parts (at n (Some us))) ≡ length (interval.pairs_of ns)
as_many n m us ns u =
    let p : IsStrideLeaf (at n (Some us)) = u.first in
    let q : interval.IsInterval (at m (Some ns)) = u.second in
    lists.length_best stride_parts stride_part_laws (fours_of us) ∙ sym p.1.1 ∙ u.same ∙ q.1.1

-- a leaf of strides that is not Nothing has a store
not_in_nothing : (n m : ℕ) (us : List ℤ) → IsIn (at n (Some us)) (at m None) → {Q : Type 0} → Q
not_in_nothing n m us u =
    let p : IsStrideLeaf (at n (Some us)) = u.first in
    let (s, h) = lists.some_store stride_parts stride_part_laws (fours_of us) p.1.2 in
    absurd (u.stores s h)

-- ---- bounds
bounds_in : (n m : ℕ) (c d : Option (List ℤ)) (x : ℕ) (s : List ℤ) (k : ℤ) → IsIn (at n c) (at m d) → x < n → strides.holds (at n c) s → Within k (strides.bounds_of (at n c) x) → Within k (interval.intervals.bounds_of (at m d) x)
bounds_in n m None d x s k u l h w = absurd h
bounds_in n m (Some us) None x s k u l h w = not_in_nothing n m us u
bounds_in n m (Some us) (Some ns) x s k u l h w =
    let p : IsStrideLeaf (at n (Some us)) = u.first in
    read_within (part_in empty_range) empty_range (best_parts (at n (Some us))) (interval.pairs_of ns) x k
    (below_of x n (length (best_parts (at n (Some us)))) l (p.1.1 ∙ sym (lists.length_best stride_parts stride_part_laws (fours_of us))))
    (as_many n m us ns u) (parts_lie n m us ns u) w

-- ---- widening and narrowing
widened_in : (ts : List ℤ) (n m k l : ℕ) (c d e f : Option (List ℤ)) → IsIn (at n c) (at m d) → IsIn (at k e) (at l f) → n ≡ k → HasRanges own (at n c) (at m d) → HasStores (strides.widen ts (at n c) (at k e)) (interval.intervals.widen ts (at m d) (at l f))
widened_in ts n m k l None d e f u t a r s h =
    interval_laws.widen_holds ts (at m d) (at l f) s (interval_alike (at n None) (at m d) (at k e) (at l f) u t a) (inr (t.stores s ((stride_laws.best_holds (at k e) s t.first).0 h)))
widened_in ts n m k l (Some us) d None f u t a r s h =
    interval_laws.widen_holds ts (at m d) (at l f) s (interval_alike (at n (Some us)) (at m d) (at k None) (at l f) u t a) (inl (u.stores s h))
widened_in ts n m k l (Some us) None (Some bs) f u t a r s h = not_in_nothing n m us u
widened_in ts n m k l (Some us) (Some ns) (Some bs) None u t a r s h = not_in_nothing k l bs t
widened_in ts n m k l (Some us) (Some ns) (Some bs) (Some hs) u t a r s h =
    let q : interval.IsInterval (at l (Some hs)) = t.second in
    intervals_hold (interval.widened_all ts (interval.pairs_of ns) (interval.pairs_of hs)) s
    (subst (λ rs. AllWithin (interval.widened_all ts rs (interval.pairs_of hs)) s) r
    (widened_all_within ts (fours_of us) (best_parts (at k (Some bs))) (interval.pairs_of hs) s (as_many k l bs hs t) q.1.2 (parts_lie k l bs hs t)
    (made_back stride_parts stride_part_laws (widened_all ts (fours_of us) (best_parts (at k (Some bs)))) s h)))

settled_back : (ps : List Strided) (s : List ℤ) → strides.holds (settled ps) s → AllHave ps s
settled_back ps s = by_test (list_any is_bare ps)
  where
    by_test : (t : Bool) → strides.holds (if t then nothing_of (length ps) else leaf_of ps) s → AllHave ps s
    by_test true h = absurd h
    by_test false h = made_back stride_parts stride_part_laws ps s h

settled_hold : (rs : List Range) (s : List ℤ) → AllWithin rs s → interval.intervals.holds (interval.settled rs) s
settled_hold rs s h = rw (lists.none_bare interval.ranges range_laws rs s h) (intervals_hold rs s h)

narrowed_in : (ts : List ℤ) (n m k l : ℕ) (c d e f : Option (List ℤ)) → IsIn (at n c) (at m d) → IsIn (at k e) (at l f) → n ≡ k → HasRanges own (at n c) (at m d) → HasStores (strides.narrow ts (at n c) (at k e)) (interval.intervals.narrow ts (at m d) (at l f))
narrowed_in ts n m k l None d e f u t a r s h = absurd h
narrowed_in ts n m k l (Some us) d None f u t a r s h = absurd h
narrowed_in ts n m k l (Some us) None (Some bs) f u t a r s h = not_in_nothing n m us u
narrowed_in ts n m k l (Some us) (Some ns) (Some bs) None u t a r s h = not_in_nothing k l bs t
narrowed_in ts n m k l (Some us) (Some ns) (Some bs) (Some hs) u t a r s h =
    settled_hold (interval.narrowed_all ts (interval.pairs_of ns) (interval.pairs_of hs)) s
    (subst (λ rs. AllWithin (interval.narrowed_all ts rs (interval.pairs_of hs)) s) r
    (narrowed_all_within ts (fours_of us) (best_parts (at k (Some bs))) (interval.pairs_of hs) s (as_many k l bs hs t) (parts_lie k l bs hs t)
    (settled_back (narrowed_all ts (fours_of us) (best_parts (at k (Some bs)))) s h)))

-- ---- join
joined_in : (v w x y : LeafValue) → IsIn v w → IsIn x y → v.variables ≡ x.variables → HasStores (strides.join v x) (interval.intervals.join w y)
joined_in v w x y u t a s h =
    let j : Alike interval.intervals w y = interval_alike v w x y u t a in
    let r : IsLeafLike interval.intervals w (interval.intervals.join w y) = interval_laws.join_answers w y j in
    (wide_holds (interval.intervals.join w y) s).0
    (congruence_least v x (wide_strides (interval.intervals.join w y)) (stride_alike v w x y u t a) (wide_valid (interval.intervals.join w y) r.valid) (r.same ∙ sym u.same)
    (λ i k. (wide_holds (interval.intervals.join w y) i).1 (interval_laws.join_holds w y i j (inl (u.stores i k))))
    (λ i k. (wide_holds (interval.intervals.join w y) i).1 (interval_laws.join_holds w y i j (inr (t.stores i k)))) s h)

-- ---- one variable
-- where a leaf with another part for a variable holds a store, so do its parts
with_back : (n : ℕ) (us : List ℤ) (x : ℕ) (p : Strided) (s : List ℤ) → strides.holds (stride_with (at n (Some us)) x p) s → AllHave (slice_set (fours_of us) x p) s
with_back n us x p s = by_test (is_bare p)
  where
    by_test : (t : Bool) → strides.holds (if t then nothing_of n else leaf_of (all_best stride_parts (slice_set (fours_of us) x p))) s → AllHave (slice_set (fours_of us) x p) s
    by_test true h = absurd h
    by_test false h = lists.best_back stride_parts stride_part_laws (slice_set (fours_of us) x p) s (made_back stride_parts stride_part_laws (all_best stride_parts (slice_set (fours_of us) x p)) s h)

-- it is a store of the leaf with the variable put as one of the part's numbers
put_of : (n : ℕ) (c : Option (List ℤ)) (x : ℕ) (p : Strided) (r : Range) (s : List ℤ) → IsStrideLeaf (at n c) → x < n → ((k : ℤ) → Has p k → Within k r) → strides.holds (stride_with (at n c) x p) s → IsStorePut strides (at n c) x r s
put_of n None x p r s v l i h = absurd h
put_of n (Some us) x p r s v l i h =
    let k : x < length (fours_of us) = below_of x n (length (fours_of us)) l v.1.1 in
    let w : AllHave (slice_set (fours_of us) x p) s = with_back n us x p s h in
    let m : ℤ = stride_part_laws.number (lifted_at stride_parts (fours_of us) x) in
    let f : length s ≡ length (fours_of us) = held_length Has (slice_set (fours_of us) x p) s w ∙ length_replaced (fours_of us) x p in
    record {
      store = slice_set s x m;
      held = put_other Has (part_in empty_range) (fours_of us) s x p m k w (stride_part_laws.own_has (lifted_at stride_parts (fours_of us) x) (lists.part_own stride_parts stride_part_laws (fours_of us) x k v.1.2));
      number = at_store s x;
      within = i (at_store s x) (put_at Has (fours_of us) s x p k w);
      put = replaced_back s x m (below_of x (length (fours_of us)) (length s) k (sym f));
    }

-- so a leaf of intervals with the variable set to a range holds it, where the part lies in the range
set_in : (v w : LeafValue) (x : ℕ) (p : Strided) (r : Range) → IsIn v w → x < v.variables → IsInInt r → ((k : ℤ) → Has p k → Within k r) → HasStores (stride_with v x p) (interval.intervals.set_range w x r)
set_in v w x p r u l j i s h =
    let q : IsStorePut strides v x r s = put_of v.variables v.content x p r s u.first l i h in
    subst (λ t. interval.intervals.holds (interval.intervals.set_range w x r) t) (sym q.put)
    (interval_laws.set_holds w x r q.store q.number u.second (over v w x u l) j (u.stores q.store q.held) q.within)

results_within : (b : Option Strided) (r : Range) (k : ℤ) → Has (results_in b r) k → Within k r
results_within None r k h = record { low = h.low; high = h.high }
results_within (Some b) r k h =
    let p : (met_part b r).low ≤ℤ k = h.low in
    let q : k ≤ℤ (met_part b r).high = h.high in
    record { low = omega (arith, ints, clamps); high = omega (arith, ints, clamps) }

-- a variable set to what an operation gives, as one set to any number of the range
pub set_below : (v : LeafValue) (x : ℕ) (p : Operation) (r : Range) (s : List ℤ) → strides.valid v → x < v.variables → IsInInt r → strides.holds (congruence_set v x p r) s → strides.holds (strides.set_range v x r) s
set_below v x p r s a l i h =
    let q : IsStorePut strides v x r s = put_of v.variables v.content x (results_in (leaf_results v p) r) r s a l (results_within (leaf_results v p) r) h in
    subst (λ t. strides.holds (strides.set_range v x r) t) (sym q.put) (stride_laws.set_holds v x r q.store q.number a l i q.held q.within)

-- ---- a comparison of a remainder changes no bound but to a lesser range
met_within : (a : Strided) (t : Stride) (k : ℤ) → Has (strided_met a t) k → Within k (range_of a)
met_within a t k h = let u : Has a k = (met_only a t k h).0 in record { low = u.low; high = u.high }

divided_within : (bs : List Strided) (x : ℕ) (c m : ℤ) (b : Strided) (k : ℤ) → Has (divided_part bs x c m b) k → Within k (range_of (part_at bs x))
divided_within bs x c m b k h = met_within (part_at bs x) (stride_less c (stride_modulo m b.stride)) k h

divided_in : (n m : ℕ) (c d : Option (List ℤ)) (x : ℕ) (k q : ℤ) (b : Strided) → IsIn (at n c) (at m d) → x < n → HasStores (stride_with (at n c) x (divided_part (best_parts (at n c)) x k q b)) (at m d)
divided_in n m None d x k q b u l s h = absurd h
divided_in n m (Some us) None x k q b u l s h = not_in_nothing n m us u
divided_in n m (Some us) (Some ns) x k q b u l s h =
    let p : IsStrideLeaf (at n (Some us)) = u.first in
    let i : IsStorePut strides (at n (Some us)) x (range_of (part_at (best_parts (at n (Some us))) x)) s =
    put_of n (Some us) x (divided_part (best_parts (at n (Some us))) x k q b) (range_of (part_at (best_parts (at n (Some us))) x)) s u.first l
    (divided_within (best_parts (at n (Some us))) x k q b) h in
    let w : Within i.number (slice_index_or (interval.pairs_of ns) x empty_range) =
    read_within (point_at (pos 0)) empty_range (best_parts (at n (Some us))) (interval.pairs_of ns) x i.number
    (below_of x n (length (best_parts (at n (Some us)))) l (p.1.1 ∙ sym (lists.length_best stride_parts stride_part_laws (fours_of us))))
    (as_many n m us ns u) (parts_lie n m us ns u) i.within in
    subst (λ t. AllWithin (interval.pairs_of ns) t) (sym i.put) (put_within empty_range (interval.pairs_of ns) i.store x i.number (u.stores i.store i.held) w)

met_in : (v w : LeafValue) (p : Operation) (op : Compare) (r : Range) → IsIn v w → IsOperation v.variables p → HasStores (congruence_meet v p op r) w
met_in v w p op r u o =
    meet_cases (λ a. HasStores a w) v p op r o u.stores (λ s h. absurd h)
    (λ x m b l. divided_in v.variables w.variables v.content w.content x p.left.constant m b u l)

-- nor does it add a store
divided_below : (n : ℕ) (c : Option (List ℤ)) (x : ℕ) (k q : ℤ) (b : Strided) (s : List ℤ) → IsStrideLeaf (at n c) → x < n → strides.holds (stride_with (at n c) x (divided_part (best_parts (at n c)) x k q b)) s → strides.holds (at n c) s
divided_below n None x k q b s v l h = absurd h
divided_below n (Some us) x k q b s v l h =
    let i : x < length (fours_of us) = below_of x n (length (fours_of us)) l v.1.1 in
    let p : Strided = divided_part (best_parts (at n (Some us))) x k q b in
    let w : AllHave (slice_set (fours_of us) x p) s = with_back n us x p s h in
    let m : Has (part_at (best_parts (at n (Some us))) x) (at_store s x) =
    (met_only (part_at (best_parts (at n (Some us))) x) (stride_less k (stride_modulo q b.stride)) (at_store s x) (put_at Has (fours_of us) s x p i w)).0 in
    put_back Has (point_at (pos 0)) (fours_of us) s x p i w (read_best (fours_of us) x (at_store s x) i m)
  where
    read_best : (bs : List Strided) (x : ℕ) (n : ℤ) → x < length bs → Has (part_at (map reduced bs) x) n → Has (part_at bs x) n
    read_best [] x n l h = absurd (omega arith)
    read_best (b ∷ bs) zero n l h = reduced_back b n h
    read_best (b ∷ bs) (suc x) n l h = read_best bs x n (omega arith) h

pub met_below : (v : LeafValue) (p : Operation) (op : Compare) (r : Range) (s : List ℤ) → strides.valid v → IsOperation v.variables p → strides.holds (congruence_meet v p op r) s → strides.holds v s
met_below v p op r s a o =
    meet_cases (λ u. strides.holds u s → strides.holds v s) v p op r o (λ h. h) (λ h. absurd h)
    (λ x m b l. divided_below v.variables v.content x p.left.constant m b s a l)

-- ---- all operations
pub congruences_below : IsBelowIntervals congruences own
congruences_below = record {
  holds = λ v w s u h. u.stores s h;
  start = λ s l a. record {
    first = congruence_laws.start_valid s l a;
    second = interval_laws.start_valid s l a;
    same = congruence_laws.start_variables s ∙ sym (interval_laws.start_variables s);
    stores = λ t h. (interval_laws.start_holds s t).1 ((congruence_laws.start_holds s t).0 h);
  };
  nothing = λ n l. record { first = congruence_laws.nothing_valid n l; second = interval_laws.nothing_valid n l; same = refl; stores = λ s h. absurd (congruence_laws.nothing_holds n s h) };
  best = λ v w u. answered v w (congruences.best v) (interval.intervals.best w) u (congruence_laws.best_answers v u.first) (interval_laws.best_answers w u.second)
      (λ s h. (interval_laws.best_holds w s u.second).1 (u.stores s ((congruence_laws.best_holds v s u.first).0 h)));
  join = λ v w x y u t e. answered v w (congruences.join v x) (interval.intervals.join w y) u (congruence_laws.join_answers v x (stride_alike v w x y u t e)) (interval_laws.join_answers w y (interval_alike v w x y u t e))
      (joined_in v w x y u t e);
  widen = λ ts v w x y u t e r. answered v w (congruences.widen ts v x) (interval.intervals.widen ts w y) u (congruence_laws.widen_answers ts v x (stride_alike v w x y u t e)) (interval_laws.widen_answers ts w y (interval_alike v w x y u t e))
      (widened_in ts v.variables w.variables x.variables y.variables v.content w.content x.content y.content u t e r);
  narrow = λ ts v w x y u t e r. answered v w (congruences.narrow ts v x) (interval.intervals.narrow ts w y) u (congruence_laws.narrow_answers ts v x (stride_alike v w x y u t e)) (interval_laws.narrow_answers ts w y (interval_alike v w x y u t e))
      (narrowed_in ts v.variables w.variables x.variables y.variables v.content w.content x.content y.content u t e r);
  bounds = λ v w x s n u l h k. bounds_in v.variables w.variables v.content w.content x s n u l h k;
  meet_range = λ v w x r u l i. answered v w (congruences.meet_range v x r) (interval.intervals.meet_range w x r) u (congruence_laws.meet_answers v x r u.first l i) (interval_laws.meet_answers w x r u.second (over v w x u l) i)
      (λ s h. let (k, j) = strides_exact.meet_only v x r s u.first l i h in interval_laws.meet_holds w x r s u.second (over v w x u l) i (u.stores s k) j);
  meet_form = λ v w f op u g. answered v w (congruences.meet_form v f op) (interval.intervals.meet_form w f op) u (congruence_laws.meet_form_answers v f op u.first g) (interval_laws.meet_form_answers w f op u.second (form_over v w f u g))
      (λ s h. (interval_laws.best_holds w s u.second).1 (u.stores s (strides_exact.meet_form_only v f op s u.first g h)));
  set_range = λ v w x r u l i. answered v w (congruences.set_range v x r) (interval.intervals.set_range w x r) u (congruence_laws.set_answers v x r u.first l i) (interval_laws.set_answers w x r u.second (over v w x u l) i)
      (set_in v w x (part_in r) r u l i (λ k h. record { low = h.low; high = h.high }));
  set_form = λ v w x f r u l g i. answered v w (congruences.set_form v x f r) (interval.intervals.set_form w x f r) u (congruence_laws.set_form_answers v x f r u.first l g i) (interval_laws.set_form_answers w x f r u.second (over v w x u l) (form_over v w f u g) i)
      (set_in v w x (strided_in r (form_stride (best_parts v) f)) r u l i (λ k h. record { low = h.low; high = h.high }));
  meet_operation = λ v w p op r u o i. answered v w (congruences.meet_operation v p op r) w u (congruence_laws.meet_operation_answers v p op r u.first o i) (record { valid = u.second; same = refl })
      (met_in v w p op r u o);
  set_operation = λ v w x p r u l o i. answered v w (congruences.set_operation v x p r) (interval.intervals.set_range w x r) u (congruence_laws.set_operation_answers v x p r u.first l o i) (interval_laws.set_answers w x r u.second (over v w x u l) i)
      (set_in v w x (results_in (leaf_results v p) r) r u l i (results_within (leaf_results v p) r));
}
