-- The operations on squares, quotients and remainders answer leaves of strides, and keep each store.
use Rattle.std.proofs.Common.{◌≡◌, ℕ, zero, suc, ◌<◌, ℤ, pos, ◌+ℤ◌, ◌-ℤ◌, ◌*ℤ◌, ◌≤ℤ◌, int_rem, Bool, true, false, if◌then◌else◌, List, [], ◌∷◌, length, slice_index_or, slice_set, Option, Some, None, IfSome, refl, ap, sym, subst, ◌∙◌, arith, map}
use Rattle.std.proofs.lemmas.Int.{ints, clamps}
use Rattle.leaf_domain.specs.declared.form.Form.{Form}
use Rattle.leaf_domain.specs.declared.operation.Operation.{Operation}
use Rattle.leaf_domain.specs.declared.range.Range.{Range}
use Rattle.leaf_domain.specs.declared.compare.Compare.{Compare}
use Rattle.leaf_domain.specs.Compares.{holds_between}
use Rattle.leaf_domain.specs.Forms.{IsForm, form_at}
use Rattle.leaf_domain.specs.Operations.{IsOperation, Operates}
use Rattle.leaf_domain.specs.Ranges.{Within, IsInInt, empty_range}
use Rattle.leaf_domain.specs.Leaves.{IsLeafLike, IsStepsFrom, nothing_of, at_store}
use Rattle.leaf_domain.proofs.Variables.{length_replaced, held_set, held_part}
use Rattle.nonrelational_leaf.proofs.PartLists as lists
use Rattle.nonrelational_leaf.proofs.LiftedLaws.{at}
use Rattle.strides.specs.declared.stride.Stride.{Stride}
use Rattle.strides.specs.declared.strided.Strided.{Strided}
use Rattle.strides.specs.Divisors.{IsMultiple}
use Rattle.strides.specs.Strides.{HasStride, IsReduced}
use Rattle.strides.specs.Strided.{least, greatest, Has, IsOwn, is_bare, point_at, range_of, reduced, best_part}
use Rattle.strides.proofs.StridedLaws.{has_not_bare, reduced_keeps, reduced_best, by_reduced}
use Rattle.strides.proofs.Multiples.{multiple_same, multiple_difference}
use Rattle.product_leaf.specs.StrideLeaves.{stride_parts, strides, fours_of, part_at, part_in, met_part, AllOwn, AllHave, IsStrideLeaf, leaf_of, best_parts, stride_with}
use Rattle.product_leaf.specs.Laws.Parts.{IsLimited, limited_best, fours_numbers, read_has, read_own}
use Rattle.product_leaf.proofs.Meanings.{read_at}
use Rattle.product_leaf.specs.Laws.StrideLaws.{stride_part_laws, range_limited}
use Rattle.congruence_leaf.specs.Remainders.{stride_less, stride_modulo, strided_cut}
use Rattle.congruence_leaf.specs.TwoStrides.{part_by, strided_met}
use Rattle.congruence_leaf.specs.declared.functions.Function.{Function}
use Rattle.congruence_leaf.specs.declared.functions.Function.TheVariants.{Square, Quotient, Remainder}
use Rattle.congruence_leaf.specs.Congruences.{lone_variable, form_numbers, is_in_int, function_of, applied_by, results_by, results_of, leaf_results, results_range, results_in, congruence_set, divided_part, divided_with, value_with, met_by, congruence_meet}
use Rattle.congruence_leaf.specs.Laws.Remainders.{empty_in_int, less_has, less_reduced, cut_has, dividend_has, rem_told}
use Rattle.congruence_leaf.specs.Laws.TwoStrides.{common_reduced, met_has}
use Rattle.congruence_leaf.specs.Laws.Results.{IsLone, lone_is, IsValue, function_told, best_has, applied_reduced, results_have}

-- ---- one part for another
with_answers : (n : ℕ) (c : Option (List ℤ)) (x : ℕ) (p : Strided) → IsStrideLeaf (at n c) → (is_bare p ≡ false → IsOwn (reduced p)) → IsLeafLike strides (at n c) (stride_with (at n c) x p)
with_answers n None x p v k = record { valid = v; same = refl }
with_answers n (Some us) x p v k = by_test (is_bare p) refl
  where
    by_test : (t : Bool) → is_bare p ≡ t → IsLeafLike strides (at n (Some us)) (if t then nothing_of n else leaf_of (map reduced (slice_set (fours_of us) x p)))
    by_test true e = record { valid = (v.0, tt); same = refl }
    by_test false e =
        let l : length (map reduced (slice_set (fours_of us) x p)) ≡ n =
        lists.length_best stride_parts stride_part_laws (slice_set (fours_of us) x p) ∙ length_replaced (fours_of us) x p ∙ sym v.1.1 in
        record {
          valid = lists.is_leaf stride_parts stride_part_laws (map reduced (slice_set (fours_of us) x p)) (omega (arith, l, v.0)) (lists.own_best_set stride_parts stride_part_laws (fours_of us) x p v.1.2 (k e));
          same = l;
        }

with_holds : (n : ℕ) (us : List ℤ) (x : ℕ) (p : Strided) (s : List ℤ) (k : ℤ) → Has p k → AllHave (slice_set (fours_of us) x p) s → strides.holds (stride_with (at n (Some us)) x p) s
with_holds n us x p s k w h =
    rw (has_not_bare p k w) (subst (λ ps. AllHave ps s) (sym (fours_numbers (map reduced (slice_set (fours_of us) x p)))) (lists.best_have stride_parts stride_part_laws (slice_set (fours_of us) x p) s h))

with_set : (n : ℕ) (c : Option (List ℤ)) (x : ℕ) (p : Strided) (s : List ℤ) (k : ℤ) → strides.holds (at n c) s → Has p k → strides.holds (stride_with (at n c) x p) (slice_set s x k)
with_set n None x p s k h w = absurd h
with_set n (Some us) x p s k h w = with_holds n us x p (slice_set s x k) k w (held_set Has (fours_of us) s x p k h w)

-- the variable as it is has the part too
with_kept : (n : ℕ) (c : Option (List ℤ)) (x : ℕ) (p : Strided) (s : List ℤ) → strides.holds (at n c) s → Has p (slice_index_or s x (pos 0)) → strides.holds (stride_with (at n c) x p) s
with_kept n None x p s h w = absurd h
with_kept n (Some us) x p s h w = with_holds n us x p s (slice_index_or s x (pos 0)) w (held_part Has (fours_of us) s x p h w)

-- ---- the parts of a leaf that holds a store
pub best_count : (n : ℕ) (us : List ℤ) → IsStrideLeaf (at n (Some us)) → n ≡ length (best_parts (at n (Some us)))
best_count n us v = v.1.1 ∙ sym (lists.length_best stride_parts stride_part_laws (fours_of us))

pub best_own : (n : ℕ) (us : List ℤ) → IsStrideLeaf (at n (Some us)) → AllOwn (best_parts (at n (Some us)))
best_own n us v = lists.own_best stride_parts stride_part_laws (fours_of us) v.1.2

best_have : (n : ℕ) (us : List ℤ) (s : List ℤ) → strides.holds (at n (Some us)) s → AllHave (best_parts (at n (Some us))) s
best_have n us s h = lists.best_have stride_parts stride_part_laws (fours_of us) s h

-- both the value and the low end of its range have the stride
pub step_holds : (n : ℕ) (c : Option (List ℤ)) (x : ℕ) (s : List ℤ) → IsStrideLeaf (at n c) → x < n → strides.holds (at n c) s
    → IsStepsFrom (strides.bounds_of (at n c) x).low (part_at (best_parts (at n c)) x).stride.modulus (at_store s x)
step_holds n None x s v l h = absurd h
step_holds n (Some us) x s v l h =
    let bs : List Strided = best_parts (at n (Some us)) in
    let i : x < length bs = omega (arith, l, best_count n us v) in
    steps (part_at bs x) (strides.bounds_of (at n (Some us)) x) (at_store s x) (ap (λ (r : Range). r.low) (range_at_best bs x i)) (each_best (fours_of us) x v.1.2 i) (read_has bs s x i (best_have n us s h))
  where
    range_at_best : (bs : List Strided) (x : ℕ) → x < length bs → range_of (part_at bs x) ≡ range_of (slice_index_or bs x (part_in empty_range))
    range_at_best bs x i = ap range_of (read_at bs x (point_at (pos 0)) (part_in empty_range) i)

    apart : (n l k p : ℤ) → l ≡ k → n -ℤ l ≡ p → n ≡ k +ℤ p
    apart n l k p e v = omega (arith, ints)

    steps : (b : Strided) (r : Range) (n : ℤ) → b.low ≡ r.low → Has b b.low → Has b n → IsStepsFrom r.low b.stride.modulus n
    steps b r n e low h =
        let m : IsMultiple b.stride.modulus (n -ℤ b.low) = multiple_same b.stride.modulus ((n -ℤ b.stride.residue) -ℤ (b.low -ℤ b.stride.residue)) (n -ℤ b.low) (omega (arith, ints)) (multiple_difference b.stride.modulus _ _ h.stride low.stride) in
        let v : n -ℤ b.low ≡ m.times *ℤ pos b.stride.modulus = m.value in
        record { steps = m.times; value = apart n b.low r.low (m.times *ℤ pos b.stride.modulus) e v }

    each_best : (us : List Strided) (x : ℕ) → AllOwn us → x < length (map reduced us) → Has (part_at (map reduced us) x) (part_at (map reduced us) x).low
    each_best [] x o i = absurd (omega arith)
    each_best (b ∷ us) zero o i = (reduced_best b o.0.some).low
    each_best (b ∷ us) (suc x) o i = each_best us x o.1 (omega arith)

operation_over : (n m : ℕ) (p : Operation) → n ≡ m → IsOperation n p → IsOperation m p
operation_over n m p e o = subst (λ k. IsOperation k p) e o

pub leaf_results_have : (n : ℕ) (c : Option (List ℤ)) (p : Operation) (s : List ℤ) (k : ℤ) → IsStrideLeaf (at n c) → IsOperation n p → strides.holds (at n c) s → Operates p s k → IfSome (leaf_results (at n c) p) (λ b. Has b k)
leaf_results_have n None p s k v o h w = absurd h
leaf_results_have n (Some us) p s k v o h w = results_have (best_parts (at n (Some us))) p s k (operation_over n _ p (best_count n us v) o) (best_have n us s h) w

-- ---- the range
pub operation_holds : (n : ℕ) (c : Option (List ℤ)) (p : Operation) (r : Range) (s : List ℤ) (k : ℤ) → IsStrideLeaf (at n c) → IsOperation n p → strides.holds (at n c) s → Operates p s k → results_range (leaf_results (at n c) p) ≡ Some r → Within k r
operation_holds n c p r s k v o h w e = by_results (leaf_results (at n c) p) (leaf_results_have n c p s k v o h w) e
  where
    by_results : (b : Option Strided) → IfSome b (λ b. Has b k) → results_range b ≡ Some r → Within k r
    by_results None i f = cc
    by_results (Some b) i f =
        let w : Within k (range_of b) = record { low = i.low; high = i.high } in
        let g : range_of b ≡ r = cc in
        subst (λ q. Within k q) g w

-- ---- the strides of results are reduced
pub best_reduced_stride : (b : Strided) → IsReduced b.stride → IsReduced (reduced b).stride
best_reduced_stride b h = by_reduced (λ r. IsReduced r.stride) b (λ e. h) (λ e f. record { low = λ p. absurd (omega arith); high = λ p. absurd (omega arith) }) (λ e f. h)

pub values_reduced : (d : Option Strided) (g : Function) → IsReduced (applied_by d g).stride
values_reduced None g = (range_limited empty_range empty_in_int).residue
values_reduced (Some d) g = applied_reduced d g

pub results_reduced : (bs : List Strided) (p : Operation) → IfSome (results_of bs p) (λ b. IsReduced b.stride)
unfolding results_of
results_reduced bs p = by_function (function_of p)
  where
    by_function : (g : Option Function) → IfSome (results_by bs p.left g) (λ b. IsReduced b.stride)
    by_function None = tt
    by_function (Some g) = best_reduced_stride (applied_by (best_part (form_numbers bs p.left)) g) (values_reduced (best_part (form_numbers bs p.left)) g)

pub leaf_reduced : (n : ℕ) (c : Option (List ℤ)) (p : Operation) → IfSome (leaf_results (at n c) p) (λ b. IsReduced b.stride)
leaf_reduced n None p = tt
leaf_reduced n (Some us) p = results_reduced (best_parts (at n (Some us))) p

-- ---- a variable set to a result
pub met_limited : (b : Strided) (r : Range) → IsReduced b.stride → IsInInt r → IsLimited (met_part b r)
met_limited b r h i =
    let p : least ≤ℤ r.low = i.low.low in
    let q : r.high ≤ℤ greatest = i.high.high in
    record { low = omega (arith, ints, clamps); high = omega (arith, ints, clamps); residue = h }

in_limited : (b : Option Strided) (r : Range) → IfSome b (λ b. IsReduced b.stride) → IsInInt r → IsLimited (results_in b r)
in_limited None r h i = range_limited r i
in_limited (Some b) r h i = met_limited b r h i

in_has : (b : Option Strided) (r : Range) (k : ℤ) → IfSome b (λ b. Has b k) → Within k r → Has (results_in b r) k
in_has None r k h w = stride_part_laws.in_range r k w
in_has (Some b) r k h w =
    let p : b.low ≤ℤ k = h.low in
    let q : k ≤ℤ b.high = h.high in
    record { low = omega (arith, ints, clamps); high = omega (arith, ints, clamps); stride = h.stride }

pub set_answers : (n : ℕ) (c : Option (List ℤ)) (x : ℕ) (p : Operation) (r : Range) → IsStrideLeaf (at n c) → IsInInt r → IsLeafLike strides (at n c) (congruence_set (at n c) x p r)
set_answers n c x p r v i =
    with_answers n c x (results_in (leaf_results (at n c) p) r) v
    (limited_best (results_in (leaf_results (at n c) p) r) (in_limited (leaf_results (at n c) p) r (leaf_reduced n c p) i))

pub set_holds : (n : ℕ) (c : Option (List ℤ)) (x : ℕ) (p : Operation) (r : Range) (s : List ℤ) (k : ℤ) → IsStrideLeaf (at n c) → IsOperation n p → strides.holds (at n c) s → Operates p s k → Within k r → strides.holds (congruence_set (at n c) x p r) (slice_set s x k)
set_holds n c x p r s k v o h w i =
    with_set n c x (results_in (leaf_results (at n c) p) r) s k h (in_has (leaf_results (at n c) p) r k (leaf_results_have n c p s k v o h w) i)

-- ---- a comparison with a result
pub met_limited_by : (b : Strided) (t : Stride) → IsOwn b → IsReduced t → IsLimited (strided_met b t)
unfolding strided_met
met_limited_by b t h k =
    common_reduced b.stride t (λ o. IsLimited (part_by b o)) h.residue k (range_limited empty_range empty_in_int)
    (λ u i. record { low = h.low; high = h.high; residue = i })

pub lone_below : (n : ℕ) (f : Form) (x : ℕ) → IsForm n f → lone_variable f.terms ≡ Some x → x < n
lone_below n f x g e = (lone_is n f [] x g e).below

divided_limited : (bs : List Strided) (x : ℕ) (c m : ℤ) (b : Strided) → x < length bs → AllOwn bs → IsLimited (divided_part bs x c m b)
divided_limited bs x c m b l o =
    met_limited_by (part_at bs x) (stride_less c (stride_modulo m b.stride)) (read_own bs x l o) (less_reduced c (stride_modulo m b.stride))

divided_has : (bs : List Strided) (x : ℕ) (c m : ℤ) (f : ℤ) (b : Strided) (v : ℤ) → Has (part_at bs x) v → f ≡ v +ℤ c → Has b (int_rem f m) → Has (divided_part bs x c m b) v
divided_has bs x c m f b v h e k =
    let p : HasStride (stride_modulo m b.stride) f = dividend_has m f b.stride k.stride in
    let q : HasStride (stride_less c (stride_modulo m b.stride)) (f -ℤ c) = less_has c f (stride_modulo m b.stride) p in
    met_has (part_at bs x) (stride_less c (stride_modulo m b.stride)) v h (subst (λ y. HasStride (stride_less c (stride_modulo m b.stride)) y) (back f v c e) q)
  where
    back : (f v c : ℤ) → f ≡ v +ℤ c → f -ℤ c ≡ v
    back f v c e = omega (arith, ints)

divided_answers : (n : ℕ) (c : Option (List ℤ)) (f : Form) (m : ℤ) (b : Strided) → IsStrideLeaf (at n c) → IsForm n f → IsLeafLike strides (at n c) (divided_with (at n c) (lone_variable f.terms) f.constant m b)
divided_answers n c f m b v g = by_variable (lone_variable f.terms) refl
  where
    by_variable : (o : Option ℕ) → lone_variable f.terms ≡ o → IsLeafLike strides (at n c) (divided_with (at n c) o f.constant m b)
    by_variable None e = record { valid = v; same = refl }
    by_variable (Some x) e = by_content c v
      where
        by_content : (c : Option (List ℤ)) → IsStrideLeaf (at n c) → IsLeafLike strides (at n c) (stride_with (at n c) x (divided_part (best_parts (at n c)) x f.constant m b))
        by_content None v = record { valid = v; same = refl }
        by_content (Some us) v =
            let l : x < length (best_parts (at n (Some us))) = subst (λ k. x < k) (best_count n us v) (lone_below n f x g e) in
            with_answers n (Some us) x (divided_part (best_parts (at n (Some us))) x f.constant m b) v
            (limited_best (divided_part (best_parts (at n (Some us))) x f.constant m b) (divided_limited (best_parts (at n (Some us))) x f.constant m b l (best_own n us v)))

value_answers : (n : ℕ) (c : Option (List ℤ)) (f : Form) (b : Option Strided) (g : Function) → IsStrideLeaf (at n c) → IsForm n f → IsLeafLike strides (at n c) (value_with (at n c) f b g)
value_answers n c f None g v i = record { valid = (v.0, tt); same = refl }
value_answers n c f (Some b) Square v i = record { valid = v; same = refl }
value_answers n c f (Some b) (Quotient m) v i = record { valid = v; same = refl }
value_answers n c f (Some b) (Remainder m) v i = divided_answers n c f m b v i

pub meet_answers : (n : ℕ) (c : Option (List ℤ)) (p : Operation) (op : Compare) (r : Range) → IsStrideLeaf (at n c) → IsOperation n p → IsLeafLike strides (at n c) (congruence_meet (at n c) p op r)
meet_answers n c p op r v o = by_results (function_of p) (leaf_results (at n c) p)
  where
    by_test : (g : Function) (b : Strided) (t : Bool) → IsLeafLike strides (at n c) (if t then value_with (at n c) p.left (best_part (strided_cut op b r)) g else at n c)
    by_test g b true = value_answers n c p.left (best_part (strided_cut op b r)) g v o.left
    by_test g b false = record { valid = v; same = refl }

    by_results : (g : Option Function) (b : Option Strided) → IsLeafLike strides (at n c) (met_by (at n c) p.left g b op r)
    by_results None b = record { valid = v; same = refl }
    by_results (Some g) None = record { valid = v; same = refl }
    by_results (Some g) (Some b) = by_test g b (is_in_int (range_of b))

divided_holds : (n : ℕ) (us : List ℤ) (f : Form) (m : ℤ) (b : Strided) (s : List ℤ) → IsStrideLeaf (at n (Some us)) → IsForm n f → strides.holds (at n (Some us)) s → Has b (int_rem (form_at f s) m) → strides.holds (divided_with (at n (Some us)) (lone_variable f.terms) f.constant m b) s
divided_holds n us f m b s v i h k = by_variable (lone_variable f.terms) refl
  where
    by_variable : (x : Option ℕ) → lone_variable f.terms ≡ x → strides.holds (divided_with (at n (Some us)) x f.constant m b) s
    by_variable None t = h
    by_variable (Some x) t =
        let l : IsLone n f s x = lone_is n f s x i t in
        let u : Has (part_at (best_parts (at n (Some us))) x) (slice_index_or s x (pos 0)) = read_has (best_parts (at n (Some us))) s x (subst (λ i. x < i) (best_count n us v) l.below) (best_have n us s h) in
        with_kept n (Some us) x (divided_part (best_parts (at n (Some us))) x f.constant m b) s h
        (divided_has (best_parts (at n (Some us))) x f.constant m (form_at f s) b (slice_index_or s x (pos 0)) u l.value k)

-- the values among which is that of the function at the store
value_holds : (n : ℕ) (us : List ℤ) (f : Form) (b : Strided) (g : Function) (s : List ℤ) (k : ℤ) → IsStrideLeaf (at n (Some us)) → IsForm n f → strides.holds (at n (Some us)) s → IsValue g (form_at f s) k → Has b k → strides.holds (value_with (at n (Some us)) f (Some b) g) s
value_holds n us f b Square s k v i h e u = h
value_holds n us f b (Quotient m) s k v i h e u = h
value_holds n us f b (Remainder m) s k v i h e u = divided_holds n us f m b s v i h (subst (Has b) (sym (rem_told (form_at f s) m k e.0).1) u)

pub meet_holds : (n : ℕ) (c : Option (List ℤ)) (p : Operation) (op : Compare) (r : Range) (s : List ℤ) (k j : ℤ) → IsStrideLeaf (at n c) → IsOperation n p → strides.holds (at n c) s → Operates p s k → Within j r → holds_between op k j ≡ true → strides.holds (congruence_meet (at n c) p op r) s
meet_holds n None p op r s k j v o h w i e = absurd h
meet_holds n (Some us) p op r s k j v o h w i e = by_function (function_of p) refl
  where
    by_test : (g : Function) → IsValue g (form_at p.left s) k → (b : Strided) → Has b k → (t : Bool) → strides.holds (if t then value_with (at n (Some us)) p.left (best_part (strided_cut op b r)) g else at n (Some us)) s
    by_test g f b u false = h
    by_test g f b u true =
        let q : Has (strided_cut op b r) k = cut_has op b r k j u i e in
        best_has (λ d. strides.holds (value_with (at n (Some us)) p.left d g) s) (strided_cut op b r) (has_not_bare (strided_cut op b r) k q)
        (value_holds n us p.left (reduced (strided_cut op b r)) g s k v o.left h f (reduced_keeps (strided_cut op b r) k q))

    by_results : (g : Function) → IsValue g (form_at p.left s) k → (b : Option Strided) → IfSome b (λ b. Has b k) → strides.holds (met_by (at n (Some us)) p.left (Some g) b op r) s
    by_results g f None u = h
    by_results g f (Some b) u = by_test g f b u (is_in_int (range_of b))

    by_function : (g : Option Function) → function_of p ≡ g → strides.holds (met_by (at n (Some us)) p.left g (leaf_results (at n (Some us)) p) op r) s
    by_function None f = h
    by_function (Some g) f = by_results g ((function_told p g f).value s k w) (leaf_results (at n (Some us)) p) (leaf_results_have n (Some us) p s k v o h w)

pub meet_nothing : (n : ℕ) (p : Operation) (op : Compare) (r : Range) → congruence_meet (nothing_of n) p op r ≡ nothing_of n
meet_nothing n p op r = by_function (function_of p)
  where
    by_function : (g : Option Function) → met_by (nothing_of n) p.left g None op r ≡ nothing_of n
    by_function None = refl
    by_function (Some g) = refl
