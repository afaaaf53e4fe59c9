-- The laws of octagons.
use Rattle.std.proofs.Common.{◌≡◌, ◌⊎◌, inl, inr, ◌↔◌, ℕ, ◌+◌, ◌*◌, ◌/◌, ◌≤◌, ◌<◌, ℤ, pos, neg_ℤ, ◌+ℤ◌, ◌-ℤ◌, ◌*ℤ◌, ◌≤ℤ◌, int_le, Bool, true, false, List, ◌++◌, Option, Some, None, All, length, slice_set, refl, sym, ◌∙◌, subst, arith, if◌then◌else◌}
use Rattle.std.proofs.lemmas.Int.{ints}
use Rattle.std.proofs.lemmas.Bool.Decides.{nat_tests}
use Rattle.c_tree.specs.Value.{IsInt}
use Rattle.leaf_domain.specs.declared.form.Form.{Form}
use Rattle.leaf_domain.specs.declared.range.Range.{Range}
use Rattle.leaf_domain.specs.declared.compare.Compare.{Compare}
use Rattle.leaf_domain.specs.Compares.{holds_between}
use Rattle.leaf_domain.specs.Ranges.{Within, IsInInt, is_empty_range, empty_range, range_at}
use Rattle.leaf_domain.specs.Forms.{form_at, IsForm}
use Rattle.leaf_domain.proofs.ArithmeticLemmas.{one_step}
use Rattle.leaf_domain.proofs.Answered.{some_held}
use Rattle.leaf_domain.proofs.ArithmeticLemmas.{not_empty}
use Rattle.leaf_domain.specs.Leaves.{LeafValue, LeafLaws, IsLeafLike, nothing_of, is_nothing_of, at_store}
use Rattle.leaf_domain.specs.Thresholds.{nearest, steps_from}
use Rattle.leaf_domain.proofs.ThresholdLemmas.{steps_fewer, steps_few, scaled_length}
use Rattle.octagon_matrix.specs.Terms.{type_bound}
use Rattle.octagon_matrix.specs.Matrices.{MatrixValue, entry_of, IsMatrix}
use Rattle.octagon_matrix.specs.Stores.{value_at, term_value, IsStore, Holds}
use Rattle.octagon_closure.specs.Best.{Reaches, IsBest}
use Rattle.octagon_closure.specs.Sweeps.{half}
use Rattle.octagon_closure.proofs.HalfNumbers.{half-below, half-above}
use Rattle.octagon_leaf.specs.Pairs.{sum_pairs}
use Rattle.octagon_leaf.specs.Greatest.{matrix_of, leaf_of, difference, best_of, standing}
use Rattle.octagon_leaf.specs.declared.shape.Shape.{Shape}
use Rattle.octagon_leaf.specs.declared.shape.Shape.TheVariants.{Constant, Terms, Other}
use Rattle.octagon_leaf.specs.declared.meets.Meet.{Meet}
use Rattle.octagon_leaf.specs.Shapes.{shape_of, edge_range, compared, between, equal_to}
use Rattle.octagon_leaf.specs.Octagons.{octagons, matrix_at, IsOctagon, ContentHolds, octagon_holds, octagon_best, best_matrix, met_all, octagon_start, is_below, octagon_leq, greater, octagon_join, multiple_of, steps_of, widened, octagon_widen, narrowed, octagon_narrow, octagon_steps_left, octagon_bounds, shape_range, octagon_form_range, octagon_meet_range, meet_shape, octagon_meet_form, dropped, has_variable, octagon_set_range, moved, set_term, set_shape, octagon_set_form}
use Rattle.octagon_leaf.specs.Meeting.{AreMeets}
use Rattle.octagon_leaf.specs.Laws.OverPairs.{pairs-tell, pairs-fail, pairs-less, pairs-most}
use Rattle.octagon_leaf.specs.Laws.Best.{of-entry, IsBounded, bounded-store, Answered, unmet, held, answered, best-stores, stores-best, standing-is}
use Rattle.octagon_leaf.specs.Laws.Meets.{bounded-kept, bounded-all, variables-all, AllMet, all-holds}
use Rattle.octagon_leaf.specs.Laws.Terms.{plus-value, minus-value, bounded-dropped, dropped-holds, bounded-moved, moved-holds, set-here, set-other}
use Rattle.octagon_leaf.specs.Laws.Forms.{ShapeHolds, shape-holds, edge-within, compared-met, compared-meets}
use Rattle.octagon_leaf.specs.Laws.Matrices.{start-alone, start-itself, start-kept, greater-bounded, greater-first, greater-second, widened-kept, widened-first, widened-second, narrowed-kept, narrowed-holds}

abbrev at : ℕ → Option (List ℤ) → LeafValue
at n c = record { variables = n; content = c }

-- ---- the leaf of the best bounds of a matrix
of-best-answers : (a : LeafValue) (m : MatrixValue) → IsBounded m → m.variables ≡ a.variables → IsLeafLike octagons a (best_of m)
of-best-answers a m p e = by_answer (answered m p)
  where
    by_answer : Answered m → IsLeafLike octagons a (best_of m)
    by_answer (unmet u f g) = rw f (record { valid = (p.few, tt); same = e })
    by_answer (held x q k f g) = rw f (record { valid = (k.few, (k, (q.met.0, stores-best m x q.met.0 q q.met.1))); same = q.variables ∙ e })

best-of-holds : (m : MatrixValue) (s : List ℤ) → IsBounded m → Holds m s → octagon_holds (best_of m) s
best-of-holds m s p h = by_answer (answered m p)
  where
    by_answer : Answered m → octagon_holds (best_of m) s
    by_answer (unmet u f g) = absurd (u s h)
    by_answer (held x q k f g) = rw f (stores-best m x s q h)

pub holds-best-of : (m : MatrixValue) (s : List ℤ) → IsBounded m → octagon_holds (best_of m) s → Holds m s
holds-best-of m s p h = by_answer (answered m p)
  where
    by_answer : Answered m → Holds m s
    by_answer (unmet u f g) = absurd (rw f at h)
    by_answer (held x q k f g) = best-stores m x s q (rw f at h)

standing-answers : (a : LeafValue) (m : MatrixValue) → IsMatrix m → m.variables ≡ a.variables → IsLeafLike octagons a (standing m)
standing-answers a m p e = by_answer (answered m (bounded-kept m p))
  where
    by_answer : Answered m → IsLeafLike octagons a (standing m)
    by_answer (unmet u f g) = rw g (record { valid = (p.few, tt); same = e })
    by_answer (held x q k f g) = rw g (record { valid = (p.few, (p, q.met)); same = e })

-- ---- the best matrix of a leaf
pub record IsClosed (n : ℕ) (ns : List ℤ) : Type 0 where
  pub matrix : MatrixValue
  pub best : IsBest (matrix_at n ns) matrix
  pub kept : IsMatrix matrix
  pub is : octagon_best (at n (Some ns)) ≡ leaf_of matrix

pub closed : (n : ℕ) (ns : List ℤ) → IsOctagon (at n (Some ns)) → IsClosed n ns
closed n ns p = by_answer (answered (matrix_at n ns) (bounded-kept (matrix_at n ns) p.1.0))
  where
    by_answer : Answered (matrix_at n ns) → IsClosed n ns
    by_answer (unmet u f g) = absurd (u p.1.1.0 p.1.1.1)
    by_answer (held x q k f g) = record { matrix = x; best = q; kept = k; is = f }

pub closed-holds : (n : ℕ) (ns : List ℤ) (c : IsClosed n ns) (s : List ℤ) → Holds (matrix_at n ns) s → Holds c.matrix s
closed-holds n ns c s h = stores-best (matrix_at n ns) c.matrix s c.best h

-- ---- start
start-valid : (s : List ℤ) → length s ≤ 48 → All IsInt s → IsOctagon (octagon_start s)
start-valid s l h = (l, (start-kept s l h, (s, start-itself s)))

start-holds : (s t : List ℤ) → octagon_holds (octagon_start s) t ↔ (t ≡ s)
start-holds s t = (λ h. start-alone s t h, λ e. let P : List ℤ → Type 0 = λ u. octagon_holds (octagon_start s) u in subst P (sym e) (start-itself s))

-- ---- one leaf
pub some-holds : (n : ℕ) (c : Option (List ℤ)) → IsOctagon (at n c) → is_nothing_of (at n c) ≡ false → (s : List ℤ) × ContentHolds n c s
some-holds n None p e = cc
some-holds n (Some ns) p e = p.1.1

holds-length : (n : ℕ) (c : Option (List ℤ)) (s : List ℤ) → ContentHolds n c s → length s ≡ n
holds-length n None s h = absurd h
holds-length n (Some ns) s h = h.size

best-answers : (n : ℕ) (c : Option (List ℤ)) → IsOctagon (at n c) → IsLeafLike octagons (at n c) (octagon_best (at n c))
best-answers n None p = record { valid = p; same = refl }
best-answers n (Some ns) p = of-best-answers (at n (Some ns)) (matrix_at n ns) (bounded-kept (matrix_at n ns) p.1.0) refl

best-holds : (n : ℕ) (c : Option (List ℤ)) (s : List ℤ) → IsOctagon (at n c) → octagon_holds (octagon_best (at n c)) s ↔ ContentHolds n c s
best-holds n None s p = (λ h. h, λ h. h)
best-holds n (Some ns) s p =
    let b : IsBounded (matrix_at n ns) = bounded-kept (matrix_at n ns) p.1.0 in (λ h. holds-best-of (matrix_at n ns) s b h, λ h. best-of-holds (matrix_at n ns) s b h)

-- ---- leq
le-tells : (x y : ℤ) → int_le x y ≡ true → x ≤ℤ y
le-tells x y e = grind (arith, ints)

below-holds : (x m : MatrixValue) (s : List ℤ) → m.variables ≡ x.variables → is_below x m ≡ true → Holds x s → Holds m s
below-holds x m s e f h = record {
  size = h.size ∙ sym e;
  bounds = λ a b i j.
      let i' : a < 2 * x.variables = rw e at i in
      let j' : b < 2 * x.variables = rw e at j in
      omega (arith, ints, h.bounds a b i' j', le-tells (entry_of x a b) (entry_of m a b) (pairs-tell (2 * x.variables) (λ c d. int_le (entry_of x c d) (entry_of m c d)) f a b i' j'));
}

leq-holds : (n k : ℕ) (c d : Option (List ℤ)) (s : List ℤ) → IsOctagon (at n c) → IsOctagon (at k d) → n ≡ k → octagon_leq (at n c) (at k d) ≡ true → ContentHolds n c s → ContentHolds k d s
leq-holds n k None d s p q e f h = absurd h
leq-holds n k (Some us) None s p q e f h = cc
leq-holds n k (Some us) (Some vs) s p q e f h =
    let z : IsClosed n us = closed n us p in
    below-holds z.matrix (matrix_at k vs) s (sym (z.best.variables ∙ e)) (rw (z.is) at f) (closed-holds n us z s h)

leq-nothing : (n k : ℕ) (c : Option (List ℤ)) → octagon_leq (at n c) (nothing_of k) ≡ true → is_nothing_of (at n c) ≡ true
leq-nothing n k None e = refl
leq-nothing n k (Some us) e = cc

-- ---- join
join-answers : (n k : ℕ) (c d : Option (List ℤ)) → IsOctagon (at n c) → IsOctagon (at k d) → n ≡ k → IsLeafLike octagons (at n c) (octagon_join (at n c) (at k d))
join-answers n k None d p q e = record { valid = q; same = sym e }
join-answers n k (Some us) None p q e = record { valid = p; same = refl }
join-answers n k (Some us) (Some vs) p q e =
    let z : IsClosed n us = closed n us p in
    let w : IsClosed k vs = closed k vs q in
    let P : ℕ → Type 0 = λ i. IsBounded (matrix_of i (greater z.matrix w.matrix)) in
    rw (z.is, w.is)
    (of-best-answers (at n (Some us)) (matrix_of n (greater z.matrix w.matrix)) (subst P z.best.variables (greater-bounded z.matrix w.matrix z.kept w.kept (w.best.variables ∙ (sym e ∙ sym z.best.variables)))) refl)

join-holds : (n k : ℕ) (c d : Option (List ℤ)) (s : List ℤ) → IsOctagon (at n c) → IsOctagon (at k d) → n ≡ k → ContentHolds n c s ⊎ ContentHolds k d s → octagon_holds (octagon_join (at n c) (at k d)) s
join-holds n k None d s p q e (inl h) = absurd h
join-holds n k None d s p q e (inr h) = h
join-holds n k (Some us) None s p q e (inl h) = h
join-holds n k (Some us) None s p q e (inr h) = absurd h
join-holds n k (Some us) (Some vs) s p q e (inl h) =
    let z : IsClosed n us = closed n us p in
    let w : IsClosed k vs = closed k vs q in
    let P : ℕ → Type 0 = λ i. IsBounded (matrix_of i (greater z.matrix w.matrix)) in
    let Q : ℕ → Type 0 = λ i. Holds (matrix_of i (greater z.matrix w.matrix)) s in
    rw (z.is, w.is)
    (best-of-holds (matrix_of n (greater z.matrix w.matrix)) s (subst P z.best.variables (greater-bounded z.matrix w.matrix z.kept w.kept (w.best.variables ∙ (sym e ∙ sym z.best.variables))))
    (subst Q z.best.variables (greater-first z.matrix w.matrix s (closed-holds n us z s h))))
join-holds n k (Some us) (Some vs) s p q e (inr h) =
    let z : IsClosed n us = closed n us p in
    let w : IsClosed k vs = closed k vs q in
    let f : w.matrix.variables ≡ z.matrix.variables = w.best.variables ∙ (sym e ∙ sym z.best.variables) in
    let P : ℕ → Type 0 = λ i. IsBounded (matrix_of i (greater z.matrix w.matrix)) in
    let Q : ℕ → Type 0 = λ i. Holds (matrix_of i (greater z.matrix w.matrix)) s in
    rw (z.is, w.is)
    (best-of-holds (matrix_of n (greater z.matrix w.matrix)) s (subst P z.best.variables (greater-bounded z.matrix w.matrix z.kept w.kept f))
    (subst Q z.best.variables (greater-second z.matrix w.matrix s f (closed-holds k vs w s h))))

nothing-join : (n : ℕ) (c : Option (List ℤ)) → octagon_join (at n c) (nothing_of n) ≡ at n c
nothing-join n None = refl
nothing-join n (Some us) = refl

-- ---- widen
widen-answers : (ts : List ℤ) (n k : ℕ) (c d : Option (List ℤ)) → IsOctagon (at n c) → IsOctagon (at k d) → n ≡ k → IsLeafLike octagons (at n c) (octagon_widen ts (at n c) (at k d))
widen-answers ts n k None d p q e = let a = best-answers k d q in record { valid = a.valid; same = a.same ∙ sym e }
widen-answers ts n k (Some us) None p q e = record { valid = p; same = refl }
widen-answers ts n k (Some us) (Some vs) p q e =
    let w : IsClosed k vs = closed k vs q in
    let f : n ≡ w.matrix.variables = e ∙ sym w.best.variables in
    rw (w.is)
    (record {
      valid = (p.0, (widened-kept ts (matrix_at n us) w.matrix p.1.0 w.kept f, (p.1.1.0, widened-first ts (matrix_at n us) w.matrix p.1.1.0 p.1.0 w.kept f p.1.1.1)));
      same = refl;
    })

widen-holds : (ts : List ℤ) (n k : ℕ) (c d : Option (List ℤ)) (s : List ℤ) → IsOctagon (at n c) → IsOctagon (at k d) → n ≡ k → ContentHolds n c s ⊎ ContentHolds k d s → octagon_holds (octagon_widen ts (at n c) (at k d)) s
widen-holds ts n k None d s p q e (inl h) = absurd h
widen-holds ts n k None d s p q e (inr h) = (best-holds k d s q).1 h
widen-holds ts n k (Some us) None s p q e (inl h) = h
widen-holds ts n k (Some us) None s p q e (inr h) = absurd h
widen-holds ts n k (Some us) (Some vs) s p q e (inl h) =
    let w : IsClosed k vs = closed k vs q in rw (w.is) (widened-first ts (matrix_at n us) w.matrix s p.1.0 w.kept (e ∙ sym w.best.variables) h)
widen-holds ts n k (Some us) (Some vs) s p q e (inr h) =
    let w : IsClosed k vs = closed k vs q in rw (w.is) (widened-second ts (matrix_at n us) w.matrix s p.1.0 w.kept (e ∙ sym w.best.variables) (closed-holds k vs w s h))

-- an entry that stays has as many steps left, and one that the other leaf passes has fewer
steps-stay : (limit : ℤ) (ts : List ℤ) (k o : ℤ) (b : Bool) → int_le k o ≡ b → k ≤ℤ limit → steps_from limit ts (if b then o else nearest limit ts k) ≤ steps_from limit ts o
steps-stay limit ts k o true e l = omega arith
steps-stay limit ts k o false e l = omega (arith, steps_fewer limit ts o k (omega (arith, ints, e)) l)

steps-passed : (limit : ℤ) (ts : List ℤ) (k o : ℤ) → int_le k o ≡ false → k ≤ℤ limit → steps_from limit ts (if int_le k o then o else nearest limit ts k) < steps_from limit ts o
steps-passed limit ts k o e l = rw (e) (steps_fewer limit ts o k (omega (arith, ints, e)) l)

-- how many steps an entry can still take
abbrev entry_steps : List ℤ → MatrixValue → ℕ → ℕ → ℕ
entry_steps ts m a b = steps_from (type_bound a b) (steps_of ts a b) (entry_of m a b)

widened-fewer : (ts : List ℤ) (x g : MatrixValue) → IsMatrix x → IsMatrix g → x.variables ≡ g.variables → is_below g x ≡ false
    → sum_pairs (2 * x.variables) (entry_steps ts (matrix_of x.variables (widened ts x g))) < sum_pairs (2 * x.variables) (entry_steps ts x)
widened-fewer ts x g p q e f =
    let (a, b, h, k, i) = pairs-fail (2 * g.variables) (λ c d. int_le (entry_of g c d) (entry_of x c d)) f in
    let h' : a < 2 * x.variables = omega (arith, e) in
    let k' : b < 2 * x.variables = omega (arith, e) in
    pairs-less (2 * x.variables) (entry_steps ts (matrix_of x.variables (widened ts x g))) (entry_steps ts x)
    (λ c d l m. rw (of-entry x.variables (widened ts x g) c d l m) (steps-stay (type_bound c d) (steps_of ts c d) (entry_of g c d) (entry_of x c d) (int_le (entry_of g c d) (entry_of x c d)) refl (q.most c d (rw (← e) l) (rw (← e) m))))
    a b h' k' (rw (of-entry x.variables (widened ts x g) a b h' k') (steps-passed (type_bound a b) (steps_of ts a b) (entry_of g a b) (entry_of x a b) i (q.most a b h k)))

widen-grows : (ts : List ℤ) (n k : ℕ) (c d : Option (List ℤ)) → IsOctagon (at n c) → IsOctagon (at k d) → n ≡ k → is_nothing_of (at n c) ≡ false → is_nothing_of (at k d) ≡ false → octagon_leq (at k d) (at n c) ≡ false → octagon_steps_left ts (octagon_widen ts (at n c) (at k d)) < octagon_steps_left ts (at n c)
widen-grows ts n k None d p q e f g h = cc
widen-grows ts n k (Some us) None p q e f g h = cc
widen-grows ts n k (Some us) (Some vs) p q e f g h =
    let w : IsClosed k vs = closed k vs q in rw (w.is) (widened-fewer ts (matrix_at n us) w.matrix p.1.0 w.kept (e ∙ sym w.best.variables) (rw (w.is) at h))

steps-few : (ts : List ℤ) (n : ℕ) (c : Option (List ℤ)) → octagon_steps_left ts (at n c) ≤ 4 * (n * n) * (length ts + 1)
steps-few ts n None = omega arith
steps-few ts n (Some us) =
    let e : (2 * n) * ((2 * n) * (length ts + 1)) ≡ 4 * (n * n) * (length ts + 1) = grind arith in
    rw (← e) (pairs-most (2 * n) (length ts + 1) (entry_steps ts (matrix_at n us)) (λ a b i j. entry-few a b))
  where
    entry-few : (a b : ℕ) → entry_steps ts (matrix_at n us) a b ≤ length ts + 1
    entry-few a b = rw (scaled_length (multiple_of a b) ts) at (steps_few (type_bound a b) (steps_of ts a b) (entry_of (matrix_at n us) a b))

-- ---- narrow
narrow-answers : (ts : List ℤ) (n k : ℕ) (c d : Option (List ℤ)) → IsOctagon (at n c) → IsOctagon (at k d) → n ≡ k → IsLeafLike octagons (at n c) (octagon_narrow ts (at n c) (at k d))
narrow-answers ts n k None d p q e = record { valid = p; same = refl }
narrow-answers ts n k (Some us) None p q e = record { valid = q; same = sym e }
narrow-answers ts n k (Some us) (Some vs) p q e =
    let w : IsClosed k vs = closed k vs q in
    rw (w.is) (standing-answers (at n (Some us)) (matrix_of n (narrowed ts (matrix_at n us) w.matrix)) (narrowed-kept ts (matrix_at n us) w.matrix p.1.0 w.kept (e ∙ sym w.best.variables)) refl)

standing-holds : (m : MatrixValue) (s : List ℤ) → IsMatrix m → Holds m s → octagon_holds (standing m) s
standing-holds m s p h = rw (standing-is m s (bounded-kept m p) h) h

narrow-holds : (ts : List ℤ) (n k : ℕ) (c d : Option (List ℤ)) (s : List ℤ) → IsOctagon (at n c) → IsOctagon (at k d) → n ≡ k → octagon_leq (at k d) (at n c) ≡ true → ContentHolds k d s → octagon_holds (octagon_narrow ts (at n c) (at k d)) s
narrow-holds ts n k c None s p q e f h = absurd h
narrow-holds ts n k None (Some vs) s p q e f h = cc
narrow-holds ts n k (Some us) (Some vs) s p q e f h =
    let w : IsClosed k vs = closed k vs q in
    let g : n ≡ w.matrix.variables = e ∙ sym w.best.variables in
    let i : Holds w.matrix s = closed-holds k vs w s h in
    rw (w.is)
    (standing-holds (matrix_of n (narrowed ts (matrix_at n us) w.matrix)) s (narrowed-kept ts (matrix_at n us) w.matrix p.1.0 w.kept g)
    (narrowed-holds ts (matrix_at n us) w.matrix s g (leq-holds k n (Some vs) (Some us) s q p (sym e) f h) i))

-- ---- bounds and forms
term-bound : (v d : ℤ) → (v -ℤ neg_ℤ v) ≤ℤ d → v ≤ℤ half d
term-bound v d h = omega (arith, ints, half-above d)

bound-exact : (v d : ℤ) → (v -ℤ neg_ℤ v) ≡ d → half d ≡ v
bound-exact v d e = omega (arith, ints, half-above d, half-below d)

pub plus-difference : (s : List ℤ) (x : ℕ) → difference s (2 * x) (2 * x + 1) ≡ value_at s x -ℤ neg_ℤ (value_at s x)
plus-difference s x = rw (plus-value s x, minus-value s x) refl

pub minus-difference : (s : List ℤ) (x : ℕ) → difference s (2 * x + 1) (2 * x) ≡ neg_ℤ (value_at s x) -ℤ neg_ℤ (neg_ℤ (value_at s x))
minus-difference s x = rw (plus-value s x, minus-value s x) (omega (arith, ints))

bounds-hold : (n : ℕ) (c : Option (List ℤ)) (x : ℕ) (s : List ℤ) → IsOctagon (at n c) → x < n → ContentHolds n c s → Within (at_store s x) (octagon_bounds (at n c) x)
bounds-hold n None x s p l h = absurd h
bounds-hold n (Some us) x s p l h =
    let z : IsClosed n us = closed n us p in
    let i : 2 * x < 2 * n = omega arith in
    let j : 2 * x + 1 < 2 * n = omega arith in
    let u = z.best.most s (2 * x) (2 * x + 1) h i j in
    let w = z.best.most s (2 * x + 1) (2 * x) h j i in
    rw (z.is)
    (record {
      low = omega (arith, ints, term-bound (neg_ℤ (value_at s x)) (entry_of z.matrix (2 * x + 1) (2 * x)) (rw (minus-difference s x) at w));
      high = term-bound (value_at s x) (entry_of z.matrix (2 * x) (2 * x + 1)) (rw (plus-difference s x) at u);
    })

bounds-int : (n : ℕ) (c : Option (List ℤ)) (x : ℕ) → IsOctagon (at n c) → x < n → IsInInt (octagon_bounds (at n c) x)
bounds-int n None x p l = record { low = record { low = omega (arith, ints); high = omega (arith, ints) }; high = record { low = omega (arith, ints); high = omega (arith, ints) } }
bounds-int n (Some us) x p l =
    let z : IsClosed n us = closed n us p in
    let i : 2 * x < 2 * n = omega arith in
    let j : 2 * x + 1 < 2 * n = omega arith in
    let b : IsBounded (matrix_at n us) = bounded-kept (matrix_at n us) p.1.0 in
    let r : Reaches (matrix_at n us) (2 * x) (2 * x + 1) (entry_of z.matrix (2 * x) (2 * x + 1)) = z.best.reached (2 * x) (2 * x + 1) i j in
    let t : Reaches (matrix_at n us) (2 * x + 1) (2 * x) (entry_of z.matrix (2 * x + 1) (2 * x)) = z.best.reached (2 * x + 1) (2 * x) j i in
    let o : IsStore n r.store = bounded-store (matrix_at n us) r.store b r.holds in
    let u : IsStore n t.store = bounded-store (matrix_at n us) t.store b t.holds in
    let f : half (entry_of z.matrix (2 * x) (2 * x + 1)) ≡ value_at r.store x = bound-exact (value_at r.store x) (entry_of z.matrix (2 * x) (2 * x + 1)) (sym (plus-difference r.store x) ∙ r.reached) in
    let g : half (entry_of z.matrix (2 * x + 1) (2 * x)) ≡ neg_ℤ (value_at t.store x) = bound-exact (neg_ℤ (value_at t.store x)) (entry_of z.matrix (2 * x + 1) (2 * x)) (sym (minus-difference t.store x) ∙ t.reached) in
    let o1 = o.least x l in
    let o2 = o.most x l in
    let u1 = u.least x l in
    let u2 = u.most x l in
    rw (z.is, f, g)
    (record { low = record { low = omega (arith, ints); high = omega (arith, ints) }; high = record { low = omega (arith, ints); high = omega (arith, ints) } })

some-same : (r t : Range) → Some r ≡ Some t → r ≡ t
some-same r t e = cc

form-by : (n : ℕ) (us : List ℤ) (z : IsClosed n us) (g : Shape) (r : Range) (s : List ℤ) (v : ℤ) → Holds (matrix_at n us) s → ShapeHolds n g s v → shape_range (at n (Some us)) g ≡ Some r → Within v r
form-by n us z Other r s v h k e = cc
form-by n us z (Constant c) r s v h k e =
    let f : range_at c c ≡ r = some-same (range_at c c) r e in
    rw (← f, k) (record { low = omega (arith, ints); high = omega (arith, ints) })
form-by n us z (Terms q) r s v h k e =
    let f : edge_range (entry_of z.matrix) q ≡ r = some-same (edge_range (entry_of z.matrix) q) r (rw (z.is) at e) in
    rw (← f) (edge-within n z.matrix q s v z.best.variables (closed-holds n us z s h) k)

form-holds : (n : ℕ) (c : Option (List ℤ)) (f : Form) (r : Range) (s : List ℤ) → IsOctagon (at n c) → IsForm n f → ContentHolds n c s → octagon_form_range (at n c) f ≡ Some r → Within (form_at f s) r
form-holds n None f r s p g h e = absurd h
form-holds n (Some us) f r s p g h e = form-by n us (closed n us p) (shape_of f) r s (form_at f s) h (shape-holds n f s g) e

form-nothing : (n : ℕ) (g : Shape) (r : Range) → shape_range (nothing_of n) g ≡ Some r → is_empty_range r ≡ true
form-nothing n Other r e = cc
form-nothing n (Constant c) r e = rw (← some-same empty_range r e) refl
form-nothing n (Terms q) r e = rw (← some-same empty_range r e) refl

-- ---- meets
pub between-meets : (n x : ℕ) (r : Range) → x < n → AreMeets n (between x r)
between-meets n x r h = (
  record { first = omega arith; second = omega arith; apart = omega arith },
  (record { first = omega arith; second = omega arith; apart = omega arith }, tt),
)

doubled-high : (v h : ℤ) → v ≤ℤ h → (v -ℤ neg_ℤ v) ≤ℤ (pos 2 *ℤ h)
doubled-high v h i = omega (arith, ints)

doubled-low : (v l : ℤ) → l ≤ℤ v → (neg_ℤ v -ℤ neg_ℤ (neg_ℤ v)) ≤ℤ neg_ℤ (pos 2 *ℤ l)
doubled-low v l i = omega (arith, ints)

between-met : (x : ℕ) (r : Range) (s : List ℤ) → Within (value_at s x) r → AllMet (between x r) s
between-met x r s w = (
  rw (plus-difference s x) (doubled-high (value_at s x) r.high w.high),
  (rw (minus-difference s x) (doubled-low (value_at s x) r.low w.low), tt),
)

not-empty : (v : ℤ) (r : Range) → Within v r → is_empty_range r ≡ false
not-empty v r w = grind (arith, ints)

unless-empty : (n : ℕ) (us : List ℤ) (r : Range) (m : MatrixValue) (t : Bool) → n ≤ 48 → IsBounded m → m.variables ≡ n → IsLeafLike octagons (at n (Some us)) (if t then nothing_of n else best_of m)
unless-empty n us r m true l p e = record { valid = (l, tt); same = refl }
unless-empty n us r m false l p e = of-best-answers (at n (Some us)) m p e

meet-answers : (n : ℕ) (c : Option (List ℤ)) (x : ℕ) (r : Range) → IsOctagon (at n c) → IsLeafLike octagons (at n c) (octagon_meet_range (at n c) x r)
meet-answers n None x r p = record { valid = p; same = refl }
meet-answers n (Some us) x r p =
    let z : IsClosed n us = closed n us p in
    rw (z.is) (unless-empty n us r (met_all z.matrix (between x r)) (is_empty_range r) p.0 (bounded-all z.matrix (between x r) (bounded-kept z.matrix z.kept)) (variables-all z.matrix (between x r) ∙ z.best.variables))

meet-holds : (n : ℕ) (c : Option (List ℤ)) (x : ℕ) (r : Range) (s : List ℤ) → IsOctagon (at n c) → x < n → ContentHolds n c s → Within (at_store s x) r → octagon_holds (octagon_meet_range (at n c) x r) s
meet-holds n None x r s p l h w = absurd h
meet-holds n (Some us) x r s p l h w =
    let z : IsClosed n us = closed n us p in
    let b : IsBounded z.matrix = bounded-kept z.matrix z.kept in
    rw (z.is, not-empty (at_store s x) r w)
    (best-of-holds (met_all z.matrix (between x r)) s (bounded-all z.matrix (between x r) b)
    (all-holds z.matrix (between x r) s b (between-meets z.matrix.variables x r (rw (z.best.variables) l)) (closed-holds n us z s h) (between-met x r s w)))

if-answers : (n : ℕ) (us : List ℤ) (t : Bool) → IsOctagon (at n (Some us)) → IsLeafLike octagons (at n (Some us)) (if t then octagon_best (at n (Some us)) else nothing_of n)
if-answers n us true p = best-answers n (Some us) p
if-answers n us false p = record { valid = (p.0, tt); same = refl }

meet-shape-answers : (n : ℕ) (us : List ℤ) (g : Shape) (op : Compare) → IsOctagon (at n (Some us)) → IsLeafLike octagons (at n (Some us)) (meet_shape (at n (Some us)) g op)
meet-shape-answers n us Other op p = best-answers n (Some us) p
meet-shape-answers n us (Constant c) op p = if-answers n us (holds_between op c (pos 0)) p
meet-shape-answers n us (Terms e) op p =
    let z : IsClosed n us = closed n us p in
    let es : List Meet = compared e op (edge_range (entry_of z.matrix) e) in
    rw (z.is) (of-best-answers (at n (Some us)) (met_all z.matrix es) (bounded-all z.matrix es (bounded-kept z.matrix z.kept)) (variables-all z.matrix es ∙ z.best.variables))

meet-form-answers : (n : ℕ) (c : Option (List ℤ)) (f : Form) (op : Compare) → IsOctagon (at n c) → IsLeafLike octagons (at n c) (octagon_meet_form (at n c) f op)
meet-form-answers n None f op p = record { valid = p; same = refl }
meet-form-answers n (Some us) f op p = meet-shape-answers n us (shape_of f) op p

meet-shape-holds : (n : ℕ) (us : List ℤ) (g : Shape) (op : Compare) (s : List ℤ) (v : ℤ) → IsOctagon (at n (Some us)) → Holds (matrix_at n us) s → ShapeHolds n g s v → holds_between op v (pos 0) ≡ true → octagon_holds (meet_shape (at n (Some us)) g op) s
meet-shape-holds n us Other op s v p h k e = (best-holds n (Some us) s p).1 h
meet-shape-holds n us (Constant c) op s v p h k e =
    let f : holds_between op c (pos 0) ≡ true = rw (← k) e in rw f ((best-holds n (Some us) s p).1 h)
meet-shape-holds n us (Terms q) op s v p h k e =
    let z : IsClosed n us = closed n us p in
    let b : IsBounded z.matrix = bounded-kept z.matrix z.kept in
    let i : Holds z.matrix s = closed-holds n us z s h in
    let es : List Meet = compared q op (edge_range (entry_of z.matrix) q) in
    let P : ℕ → Type 0 = λ a. AreMeets a es in
    rw (z.is)
    (best-of-holds (met_all z.matrix es) s (bounded-all z.matrix es b)
    (all-holds z.matrix es s b (subst P (sym z.best.variables) (compared-meets n q op (edge_range (entry_of z.matrix) q) k.edge)) i
    (compared-met n q op (edge_range (entry_of z.matrix) q) s v k (edge-within n z.matrix q s v z.best.variables i k) e)))

meet-form-holds : (n : ℕ) (c : Option (List ℤ)) (f : Form) (op : Compare) (s : List ℤ) → IsOctagon (at n c) → IsForm n f → ContentHolds n c s → holds_between op (form_at f s) (pos 0) ≡ true → octagon_holds (octagon_meet_form (at n c) f op) s
meet-form-holds n None f op s p g h e = absurd h
meet-form-holds n (Some us) f op s p g h e = meet-shape-holds n us (shape_of f) op s (form_at f s) p h (shape-holds n f s g) e

-- ---- one variable put as numbers of a range
pub within-int : (v : ℤ) (r : Range) → IsInInt r → Within v r → IsInt v
within-int v r i w = record { low = omega (arith, ints, i.low.low, w.low); high = omega (arith, ints, i.high.high, w.high) }

pub set-met : (n : ℕ) (x : ℕ) (r : Range) (s : List ℤ) (v : ℤ) → length s ≡ n → x < n → Within v r → AllMet (between x r) (slice_set s x v)
set-met n x r s v e l w = between-met x r (slice_set s x v) (rw (set-here n s x v e l) w)

dropped-met : (y : MatrixValue) (es : List Meet) (x : ℕ) (s : List ℤ) (v : ℤ) → IsMatrix y → Holds y s → x < y.variables → IsInt v → AreMeets y.variables es → AllMet es (slice_set s x v) → octagon_holds (best_of (met_all (dropped y x) es)) (slice_set s x v)
dropped-met y es x s v k h l i q a =
    let b : IsBounded y = bounded-kept y k in
    best-of-holds (met_all (dropped y x) es) (slice_set s x v) (bounded-all (dropped y x) es (bounded-dropped y x b)) (all-holds (dropped y x) es (slice_set s x v) (bounded-dropped y x b) q (dropped-holds y s x v b h l i) a)

dropped-answers : (n : ℕ) (us : List ℤ) (z : IsClosed n us) (x : ℕ) (es : List Meet) → IsLeafLike octagons (at n (Some us)) (best_of (met_all (dropped z.matrix x) es))
dropped-answers n us z x es =
    of-best-answers (at n (Some us)) (met_all (dropped z.matrix x) es) (bounded-all (dropped z.matrix x) es (bounded-dropped z.matrix x (bounded-kept z.matrix z.kept))) (variables-all (dropped z.matrix x) es ∙ z.best.variables)

set-answers : (n : ℕ) (c : Option (List ℤ)) (x : ℕ) (r : Range) → IsOctagon (at n c) → IsLeafLike octagons (at n c) (octagon_set_range (at n c) x r)
set-answers n None x r p = record { valid = p; same = refl }
set-answers n (Some us) x r p =
    let z : IsClosed n us = closed n us p in
    let es : List Meet = between x r in
    rw (z.is)
    (unless-empty n us r (met_all (dropped z.matrix x) es) (is_empty_range r) p.0 (bounded-all (dropped z.matrix x) es (bounded-dropped z.matrix x (bounded-kept z.matrix z.kept))) (variables-all (dropped z.matrix x) es ∙ z.best.variables))

set-holds : (n : ℕ) (c : Option (List ℤ)) (x : ℕ) (r : Range) (s : List ℤ) (v : ℤ) → IsOctagon (at n c) → x < n → IsInInt r → ContentHolds n c s → Within v r → octagon_holds (octagon_set_range (at n c) x r) (slice_set s x v)
set-holds n None x r s v p l i h w = absurd h
set-holds n (Some us) x r s v p l i h w =
    let z : IsClosed n us = closed n us p in
    let l' : x < z.matrix.variables = omega (arith, z.best.variables) in
    rw (z.is, not-empty v r w)
    (dropped-met z.matrix (between x r) x s v z.kept (closed-holds n us z s h) l' (within-int v r i w) (between-meets z.matrix.variables x r l') (set-met n x r s v h.size l w))

-- ---- one variable put as the value of a form
pub set-term-bounded : (y : MatrixValue) (x t : ℕ) (c : ℤ) (r : Range) (b : Bool) → IsBounded y → IsBounded (if b then met_all (moved y x t c) (between x r) else met_all (dropped y x) (equal_to x t c ++ between x r))
set-term-bounded y x t c r true b = bounded-all (moved y x t c) (between x r) (bounded-moved y x t c b)
set-term-bounded y x t c r false b = bounded-all (dropped y x) (equal_to x t c ++ between x r) (bounded-dropped y x b)

pub set-term-variables : (y : MatrixValue) (x t : ℕ) (c : ℤ) (r : Range) (b : Bool) → (if b then met_all (moved y x t c) (between x r) else met_all (dropped y x) (equal_to x t c ++ between x r)).variables ≡ y.variables
set-term-variables y x t c r true = variables-all (moved y x t c) (between x r)
set-term-variables y x t c r false = variables-all (dropped y x) (equal_to x t c ++ between x r)

if-double-answers : (n : ℕ) (us : List ℤ) (x : ℕ) (m : MatrixValue) (r : Range) (d : Bool) → IsOctagon (at n (Some us)) → IsBounded m → m.variables ≡ n → IsLeafLike octagons (at n (Some us)) (if d then best_of m else octagon_set_range (at n (Some us)) x r)
if-double-answers n us x m r true p b e = of-best-answers (at n (Some us)) m b e
if-double-answers n us x m r false p b e = set-answers n (Some us) x r p

set-shape-answers : (n : ℕ) (us : List ℤ) (x : ℕ) (g : Shape) (r : Range) → IsOctagon (at n (Some us)) → IsLeafLike octagons (at n (Some us)) (set_shape (at n (Some us)) x g r)
set-shape-answers n us x Other r p = set-answers n (Some us) x r p
set-shape-answers n us x (Constant c) r p =
    let z : IsClosed n us = closed n us p in rw (z.is) (dropped-answers n us z x (between x (range_at c c) ++ between x r))
set-shape-answers n us x (Terms e) r p =
    let z : IsClosed n us = closed n us p in
    if-double-answers n us x (set_term (best_matrix (at n (Some us))) x e.first e.constant r) r e.is_double p
    (set-term-bounded (best_matrix (at n (Some us))) x e.first e.constant r (has_variable x e.first) (rw (z.is) (bounded-kept z.matrix z.kept)))
    (set-term-variables (best_matrix (at n (Some us))) x e.first e.constant r (has_variable x e.first) ∙ rw (z.is) (z.best.variables))

if-set-answers : (n : ℕ) (us : List ℤ) (w : LeafValue) (t : Bool) → n ≤ 48 → IsLeafLike octagons (at n (Some us)) w → IsLeafLike octagons (at n (Some us)) (if t then nothing_of n else w)
if-set-answers n us w true l a = record { valid = (l, tt); same = refl }
if-set-answers n us w false l a = a

set-form-answers : (n : ℕ) (c : Option (List ℤ)) (x : ℕ) (f : Form) (r : Range) → IsOctagon (at n c) → IsLeafLike octagons (at n c) (octagon_set_form (at n c) x f r)
set-form-answers n None x f r p = record { valid = p; same = refl }
set-form-answers n (Some us) x f r p = if-set-answers n us (set_shape (at n (Some us)) x (shape_of f) r) (is_empty_range r) p.0 (set-shape-answers n us x (shape_of f) r p)

differs : (t x : ℕ) → has_variable x t ≡ false → (t / 2 ≡ x → ⊥)
differs t x e = grind (arith, nat_tests)

apart-from : (t x : ℕ) → has_variable x t ≡ false → (2 * x ≡ t → ⊥)
apart-from t x e g = differs t x e (omega arith)

pub equal-meets : (n x t : ℕ) (c : ℤ) (r : Range) → x < n → t < 2 * n → has_variable x t ≡ false → AreMeets n (equal_to x t c ++ between x r)
equal-meets n x t c r l h e = (
  record { first = omega arith; second = h; apart = apart-from t x e },
  (record { first = h; second = omega arith; apart = λ g. apart-from t x e (sym g) }, between-meets n x r l),
)

equal-met : (n x t : ℕ) (c : ℤ) (r : Range) (s : List ℤ) → length s ≡ n → x < n → has_variable x t ≡ false → Within (term_value s t +ℤ c) r → AllMet (equal_to x t c ++ between x r) (slice_set s x (term_value s t +ℤ c))
equal-met n x t c r s e l f w =
    let u : List ℤ = slice_set s x (term_value s t +ℤ c) in
    let g : term_value u (2 * x) ≡ term_value s t +ℤ c = plus-value u x ∙ set-here n s x (term_value s t +ℤ c) e l in
    let h : term_value u t ≡ term_value s t = set-other n s x t (term_value s t +ℤ c) e l f in
    (omega (arith, ints, g, h), (omega (arith, ints, g, h), set-met n x r s (term_value s t +ℤ c) e l w))

set-term-holds : (n : ℕ) (y : MatrixValue) (x t : ℕ) (c : ℤ) (r : Range) (s : List ℤ) (b : Bool) → has_variable x t ≡ b → IsMatrix y → y.variables ≡ n → Holds y s → x < n → t < 2 * n → IsInInt r → Within (term_value s t +ℤ c) r
    → octagon_holds (best_of (if b then met_all (moved y x t c) (between x r) else met_all (dropped y x) (equal_to x t c ++ between x r))) (slice_set s x (term_value s t +ℤ c))
set-term-holds n y x t c r s true e k g h l j i w =
    let b : IsBounded y = bounded-kept y k in
    let l' : x < y.variables = omega (arith, g) in
    let j' : t < 2 * y.variables = omega (arith, g) in
    best-of-holds (met_all (moved y x t c) (between x r)) (slice_set s x (term_value s t +ℤ c)) (bounded-all (moved y x t c) (between x r) (bounded-moved y x t c b))
    (all-holds (moved y x t c) (between x r) (slice_set s x (term_value s t +ℤ c)) (bounded-moved y x t c b) (between-meets y.variables x r l')
    (moved-holds y s x t c b h l' j' (within-int (term_value s t +ℤ c) r i w)) (set-met y.variables x r s (term_value s t +ℤ c) h.size l' w))
set-term-holds n y x t c r s false e k g h l j i w =
    let l' : x < y.variables = omega (arith, g) in
    let j' : t < 2 * y.variables = omega (arith, g) in
    dropped-met y (equal_to x t c ++ between x r) x s (term_value s t +ℤ c) k h l' (within-int (term_value s t +ℤ c) r i w) (equal-meets y.variables x t c r l' j' e) (equal-met y.variables x t c r s h.size l' e w)

if-double-holds : (n : ℕ) (us : List ℤ) (x : ℕ) (m : MatrixValue) (r : Range) (s : List ℤ) (v : ℤ) (d : Bool) → IsOctagon (at n (Some us)) → x < n → IsInInt r → Holds (matrix_at n us) s → Within v r → (d ≡ true → octagon_holds (best_of m) (slice_set s x v))
    → octagon_holds (if d then best_of m else octagon_set_range (at n (Some us)) x r) (slice_set s x v)
if-double-holds n us x m r s v true p l i h w k = k refl
if-double-holds n us x m r s v false p l i h w k = set-holds n (Some us) x r s v p l i h w

set-shape-holds : (n : ℕ) (us : List ℤ) (x : ℕ) (g : Shape) (r : Range) (s : List ℤ) (v : ℤ) → IsOctagon (at n (Some us)) → x < n → IsInInt r → Holds (matrix_at n us) s → ShapeHolds n g s v → Within v r → octagon_holds (set_shape (at n (Some us)) x g r) (slice_set s x v)
set-shape-holds n us x Other r s v p l i h k w = set-holds n (Some us) x r s v p l i h w
set-shape-holds n us x (Constant c) r s v p l i h k w =
    let z : IsClosed n us = closed n us p in
    let l' : x < z.matrix.variables = omega (arith, z.best.variables) in
    let q : AreMeets z.matrix.variables (between x (range_at c c) ++ between x r) =
    ((between-meets z.matrix.variables x (range_at c c) l').0, ((between-meets z.matrix.variables x (range_at c c) l').1.0, between-meets z.matrix.variables x r l')) in
    let o : Within v (range_at c c) = record { low = omega (arith, ints, k); high = omega (arith, ints, k) } in
    let a : AllMet (between x (range_at c c)) (slice_set s x v) = set-met n x (range_at c c) s v h.size l o in
    rw (z.is)
    (dropped-met z.matrix (between x (range_at c c) ++ between x r) x s v z.kept (closed-holds n us z s h) l' (within-int v r i w) q (a.0, (a.1.0, set-met n x r s v h.size l w)))
set-shape-holds n us x (Terms e) r s v p l i h k w =
    let z : IsClosed n us = closed n us p in
    if-double-holds n us x (set_term (best_matrix (at n (Some us))) x e.first e.constant r) r s v e.is_double p l i h w
    (λ d. let f : v ≡ term_value s e.first +ℤ e.constant = k.term d in
    rw (z.is, f) (set-term-holds n z.matrix x e.first e.constant r s (has_variable x e.first) refl z.kept z.best.variables (closed-holds n us z s h) l k.edge.first i (rw f at w)))

set-form-holds : (n : ℕ) (c : Option (List ℤ)) (x : ℕ) (f : Form) (r : Range) (s : List ℤ) → IsOctagon (at n c) → x < n → IsForm n f → IsInInt r → ContentHolds n c s → Within (form_at f s) r → octagon_holds (octagon_set_form (at n c) x f r) (slice_set s x (form_at f s))
set-form-holds n None x f r s p l g i h w = absurd h
set-form-holds n (Some us) x f r s p l g i h w =
    rw (not-empty (form_at f s) r w) (set-shape-holds n us x (shape_of f) r s (form_at f s) p l i h (shape-holds n f s g) w)

-- octagons give an operation no range
abbrev no_operation_range : Option Range
no_operation_range = None

no_range : (r : Range) (P : Type 0) → no_operation_range ≡ Some r → P
no_range r P e = cc

pub octagon_laws : LeafLaws octagons
octagon_laws = record {
  valid_few = λ a p. p.0;
  start_valid = start-valid;
  start_variables = λ s. refl;
  start_holds = start-holds;
  nothing_valid = λ n l. (l, tt);
  nothing_holds = λ n s h. h;
  holds_length = λ a s p. holds-length a.variables a.content s;
  best_answers = λ a. best-answers a.variables a.content;
  best_holds = λ a. best-holds a.variables a.content;
  best_nothing = λ n. refl;
  leq_holds = λ a b s k. leq-holds a.variables b.variables a.content b.content s k.first k.second k.same;
  nothing_leq = λ n a. refl;
  leq_nothing = λ n a. leq-nothing a.variables n a.content;
  join_answers = λ a b k. join-answers a.variables b.variables a.content b.content k.first k.second k.same;
  join_holds = λ a b s k. join-holds a.variables b.variables a.content b.content s k.first k.second k.same;
  join_some = λ a b k e. let t = some-holds a.variables a.content k.first e in some_held octagons (λ n s h. h) (octagon_join a b) t.0 (join-holds a.variables b.variables a.content b.content t.0 k.first k.second k.same (inl t.1));
  join_nothing = λ a. refl;
  nothing_join = λ a. nothing-join a.variables a.content;
  widen_answers = λ ts a b k. widen-answers ts a.variables b.variables a.content b.content k.first k.second k.same;
  widen_holds = λ ts a b s k. widen-holds ts a.variables b.variables a.content b.content s k.first k.second k.same;
  widen_some = λ ts a b k e. let t = some-holds a.variables a.content k.first e in some_held octagons (λ n s h. h) (octagon_widen ts a b) t.0 (widen-holds ts a.variables b.variables a.content b.content t.0 k.first k.second k.same (inl t.1));
  widen_grows = λ ts a b k. widen-grows ts a.variables b.variables a.content b.content k.first k.second k.same;
  steps_few = λ ts a p. steps-few ts a.variables a.content;
  narrow_answers = λ ts a b k. narrow-answers ts a.variables b.variables a.content b.content k.first k.second k.same;
  narrow_holds = λ ts a b s k. narrow-holds ts a.variables b.variables a.content b.content s k.first k.second k.same;
  narrow_nothing = λ ts n a. refl;
  bounds_in_int = λ a x. bounds-int a.variables a.content x;
  bounds_hold = λ a x s. bounds-hold a.variables a.content x s;
  bounds_some = λ a x p l e. let t = some-holds a.variables a.content p e in not_empty _ (octagon_bounds a x) (bounds-hold a.variables a.content x t.0 p l t.1);
  bounds_nothing = λ n x. refl;
  step_holds = λ a x s p l h. one_step (octagon_bounds a x).low (at_store s x);
  form_holds = λ a f r s. form-holds a.variables a.content f r s;
  form_nothing = λ n f r. form-nothing n (shape_of f) r;
  meet_answers = λ a x r p l i. meet-answers a.variables a.content x r p;
  meet_holds = λ a x r s p l i. meet-holds a.variables a.content x r s p l;
  meet_nothing = λ n x r. refl;
  meet_form_answers = λ a f op p g. meet-form-answers a.variables a.content f op p;
  meet_form_holds = λ a f op s. meet-form-holds a.variables a.content f op s;
  meet_form_nothing = λ n f op. refl;
  set_answers = λ a x r p l i. set-answers a.variables a.content x r p;
  set_holds = λ a x r s n. set-holds a.variables a.content x r s n;
  set_nothing = λ n x r. refl;
  set_form_answers = λ a x f r p l g i. set-form-answers a.variables a.content x f r p;
  set_form_holds = λ a x f r s. set-form-holds a.variables a.content x f r s;
  set_form_nothing = λ n x f r. refl;
  operation_holds = λ a p r s n h o w g e. no_range r (Within n r) e;
  meet_operation_answers = λ a p op r h o i. record { valid = h; same = refl };
  meet_operation_holds = λ a p op r s n m h o i w g k e. w;
  meet_operation_nothing = λ n p op r. refl;
  set_operation_answers = λ a x p r h l o i. set-answers a.variables a.content x r h;
  set_operation_holds = λ a x p r s n h l o i w g k. set-holds a.variables a.content x r s n h l i w k;
  set_operation_nothing = λ n x p r. refl;
}
