-- Octagons are exact: which stores their operations do not add.
use Rattle.std.proofs.Common.{◌≡◌, ℕ, ◌*◌, ◌<◌, ℤ, pos, ◌≤ℤ◌, int_le, Bool, true, false, List, Option, Some, None, slice_set, refl, sym, ◌∙◌, subst, arith, if◌then◌else◌}
use Rattle.std.proofs.lemmas.Int.{ints, clamps}
use Rattle.leaf_domain.specs.declared.form.Form.{Form}
use Rattle.leaf_domain.specs.declared.range.Range.{Range}
use Rattle.leaf_domain.specs.declared.compare.Compare.{Compare}
use Rattle.leaf_domain.specs.Compares.{holds_between}
use Rattle.leaf_domain.specs.Ranges.{Within, is_empty_range}
use Rattle.leaf_domain.specs.Forms.{form_at, IsForm}
use Rattle.leaf_domain.specs.Leaves.{LeafValue, nothing_of, at_store}
use Rattle.leaf_domain.specs.Thresholds.{is_step}
use Rattle.leaf_domain.specs.Exactness.{LeafExactness, IsStorePut}
use Rattle.octagon_matrix.specs.Terms.{type_bound}
use Rattle.octagon_matrix.specs.Matrices.{MatrixValue, entry_of, IsMatrix}
use Rattle.octagon_matrix.specs.Stores.{value_at, Holds}
use Rattle.octagon_closure.specs.Best.{Reaches, IsBest}
use Rattle.octagon_leaf.specs.declared.shape.Edge.{Edge}
use Rattle.octagon_leaf.specs.declared.shape.Shape.{Shape}
use Rattle.octagon_leaf.specs.declared.shape.Shape.TheVariants.{Constant, Terms, Other}
use Rattle.octagon_leaf.specs.declared.meets.Meet.{Meet}
use Rattle.octagon_leaf.specs.Greatest.{matrix_of, best_of, standing}
use Rattle.octagon_leaf.specs.Shapes.{shape_of, edge_range, compared, between}
use Rattle.octagon_leaf.specs.Octagons.{octagons, matrix_at, IsOctagon, ContentHolds, octagon_holds, octagon_best, met_all, dropped, is_below, octagon_leq, greater, octagon_join, steps_of, narrowed, octagon_narrow, octagon_meet_range, meet_shape, octagon_meet_form, octagon_set_range}
use Rattle.octagon_leaf.specs.Meeting.{AreMeets}
use Rattle.octagon_leaf.specs.Exact.{LeqIsInclusion, JoinIsLeast}
use Rattle.octagon_leaf.specs.Laws.{octagon_laws}
use Rattle.octagon_leaf.specs.Laws.OverPairs.{pairs-tell, tell-pairs}
use Rattle.octagon_leaf.specs.Laws.Best.{of-bounds, IsBounded, Answered, unmet, held, answered, best-own, best-stores}
use Rattle.octagon_leaf.specs.Laws.Meets.{bounded-kept, bounded-all, AllMet, holds-all}
use Rattle.octagon_leaf.specs.Laws.Terms.{bounded-dropped}
use Rattle.octagon_leaf.specs.Laws.Forms.{ShapeHolds, shape-holds, compared-meets}
use Rattle.octagon_leaf.specs.Laws.Matrices.{greater-bounded, narrowed-kept}
use Rattle.octagon_leaf.specs.Laws.OctagonLaws.{IsClosed, some-holds, closed, holds-best-of, between-meets}
use Rattle.octagon_leaf.proofs.Assigning.{met-within}
use Rattle.octagon_leaf.proofs.Moving.{set-back}
use Rattle.octagon_leaf.proofs.Extending.{Extends, extends}

abbrev at : ℕ → Option (List ℤ) → LeafValue
at n c = record { variables = n; content = c }

-- ---- meets
unless-empty : (n : ℕ) (m : MatrixValue) (s : List ℤ) (t : Bool) → octagon_holds (if t then nothing_of n else best_of m) s → octagon_holds (best_of m) s
unless-empty n m s true h = absurd h
unless-empty n m s false h = h

meet-only : (n : ℕ) (c : Option (List ℤ)) (x : ℕ) (r : Range) (s : List ℤ) → IsOctagon (at n c) → x < n → octagon_holds (octagon_meet_range (at n c) x r) s → ContentHolds n c s × Within (at_store s x) r
meet-only n None x r s p l h = absurd h
meet-only n (Some us) x r s p l h =
    let z : IsClosed n us = closed n us p in
    let b : IsBounded z.matrix = bounded-kept z.matrix z.kept in
    let m : MatrixValue = met_all z.matrix (between x r) in
    let g : Holds m s = holds-best-of m s (bounded-all z.matrix (between x r) b) (unless-empty n m s (is_empty_range r) (rw (z.is) at h)) in
    let i : Holds z.matrix s × AllMet (between x r) s = holds-all z.matrix (between x r) s b (between-meets z.matrix.variables x r (rw (z.best.variables) l)) g in
    (best-stores (matrix_at n us) z.matrix s z.best i.0, met-within x r s i.1)

-- what meets the comparison of a form
pub terms-met : (n : ℕ) (us : List ℤ) (e : Edge) (op : Compare) (s : List ℤ) (v : ℤ) (z : IsClosed n us) → ShapeHolds n (Terms e) s v → octagon_holds (best_of (met_all z.matrix (compared e op (edge_range (entry_of z.matrix) e)))) s
    → Holds (matrix_at n us) s × AllMet (compared e op (edge_range (entry_of z.matrix) e)) s
terms-met n us e op s v z k h =
    let b : IsBounded z.matrix = bounded-kept z.matrix z.kept in
    let es : List Meet = compared e op (edge_range (entry_of z.matrix) e) in
    let P : ℕ → Type 0 = λ a. AreMeets a es in
    let g : Holds (met_all z.matrix es) s = holds-best-of (met_all z.matrix es) s (bounded-all z.matrix es b) h in
    let i : Holds z.matrix s × AllMet es s = holds-all z.matrix es s b (subst P (sym z.best.variables) (compared-meets n e op (edge_range (entry_of z.matrix) e) k.edge)) g in
    (best-stores (matrix_at n us) z.matrix s z.best i.0, i.1)

pub where-true : (n : ℕ) (us : List ℤ) (s : List ℤ) (t : Bool) → IsOctagon (at n (Some us)) → octagon_holds (if t then octagon_best (at n (Some us)) else nothing_of n) s → Holds (matrix_at n us) s × (t ≡ true)
where-true n us s true p h = ((octagon_laws.best_holds (at n (Some us)) s p).0 h, refl)
where-true n us s false p h = absurd h

meet-shape-only : (n : ℕ) (us : List ℤ) (g : Shape) (op : Compare) (s : List ℤ) (v : ℤ) → IsOctagon (at n (Some us)) → ShapeHolds n g s v → octagon_holds (meet_shape (at n (Some us)) g op) s → Holds (matrix_at n us) s
meet-shape-only n us Other op s v p k h = (octagon_laws.best_holds (at n (Some us)) s p).0 h
meet-shape-only n us (Constant c) op s v p k h = (where-true n us s (holds_between op c (pos 0)) p h).0
meet-shape-only n us (Terms e) op s v p k h = let z : IsClosed n us = closed n us p in (terms-met n us e op s v z k (rw (z.is) at h)).0

meet-form-only : (n : ℕ) (c : Option (List ℤ)) (f : Form) (op : Compare) (s : List ℤ) → IsOctagon (at n c) → IsForm n f → octagon_holds (octagon_meet_form (at n c) f op) s → ContentHolds n c s
meet-form-only n None f op s p g h = absurd h
meet-form-only n (Some us) f op s p g h = meet-shape-only n us (shape_of f) op s (form_at f s) p (shape-holds n f s g) h

-- ---- one variable put as a number
-- a store of the entries without a variable is a store of all with the variable put as the number that it is
pub record Replaced (m : MatrixValue) (x : ℕ) (s : List ℤ) : Type 0 where
  pub store : List ℤ
  pub held : Holds m store
  pub put : s ≡ slice_set store x (value_at s x)
  pub other : ℤ
  pub is : store ≡ slice_set s x other

pub replaced : (m : MatrixValue) (x : ℕ) (s : List ℤ) → IsMatrix m → IsBest m m → x < m.variables → Holds (dropped m x) s → Replaced m x s
replaced m x s k q l d =
    let e : Extends m x s = extends m x s k q l d in record { store = slice_set s x e.value; held = e.holds; put = sym (set-back s x e.value); other = e.value; is = refl }

set-only : (n : ℕ) (c : Option (List ℤ)) (x : ℕ) (r : Range) (s : List ℤ) → IsOctagon (at n c) → x < n → octagon_holds (octagon_set_range (at n c) x r) s → IsStorePut octagons (at n c) x r s
set-only n None x r s p l h = absurd h
set-only n (Some us) x r s p l h =
    let z : IsClosed n us = closed n us p in
    let d : MatrixValue = dropped z.matrix x in
    let m : MatrixValue = met_all d (between x r) in
    let b : IsBounded d = bounded-dropped z.matrix x (bounded-kept z.matrix z.kept) in
    let l' : x < z.matrix.variables = rw (z.best.variables) l in
    let g : Holds m s = holds-best-of m s (bounded-all d (between x r) b) (unless-empty n m s (is_empty_range r) (rw (z.is) at h)) in
    let i : Holds d s × AllMet (between x r) s = holds-all d (between x r) s b (between-meets z.matrix.variables x r l') g in
    let o : Replaced z.matrix x s = replaced z.matrix x s z.kept (best-own (matrix_at n us) z.matrix z.best) l' i.0 in
    record { store = o.store; held = best-stores (matrix_at n us) z.matrix o.store z.best o.held; number = value_at s x; within = met-within x r s i.1; put = o.put }

-- ---- narrowing
standing-only : (m : MatrixValue) (s : List ℤ) → IsBounded m → octagon_holds (standing m) s → Holds m s
standing-only m s p h = by_answer (answered m p)
  where
    by_answer : Answered m → Holds m s
    by_answer (unmet u f g) = absurd (rw g at h)
    by_answer (held x q k f g) = rw g at h

lesser-of : (k o : ℤ) (b : Bool) → k ≤ℤ o → (if b then k else o) ≤ℤ o
lesser-of k o true h = h
lesser-of k o false h = omega (arith, ints)

le-tells : (x y : ℤ) → int_le x y ≡ true → x ≤ℤ y
le-tells x y e = grind (arith, ints)

tells-le : (x y : ℤ) → x ≤ℤ y → int_le x y ≡ true
tells-le x y e = grind (arith, ints)

below-entry : (x m : MatrixValue) (a b : ℕ) → is_below x m ≡ true → a < 2 * x.variables → b < 2 * x.variables → entry_of x a b ≤ℤ entry_of m a b
below-entry x m a b f i j = le-tells (entry_of x a b) (entry_of m a b) (pairs-tell (2 * x.variables) (λ c d. int_le (entry_of x c d) (entry_of m c d)) f a b i j)

narrowed-only : (ts : List ℤ) (x g : MatrixValue) (s : List ℤ) → x.variables ≡ g.variables → is_below g x ≡ true → Holds (matrix_of x.variables (narrowed ts x g)) s → Holds x s
narrowed-only ts x g s e f h = record {
  size = h.size;
  bounds = λ a b i j.
      omega (arith, ints, of-bounds x.variables (narrowed ts x g) s a b h i j, lesser-of (entry_of g a b) (entry_of x a b) (is_step (type_bound a b) (steps_of ts a b) (entry_of x a b)) (below-entry g x a b f (rw (← e) i) (rw (← e) j)));
}

narrow-only : (ts : List ℤ) (n k : ℕ) (c d : Option (List ℤ)) (s : List ℤ) → IsOctagon (at n c) → IsOctagon (at k d) → n ≡ k → octagon_leq (at k d) (at n c) ≡ true → octagon_holds (octagon_narrow ts (at n c) (at k d)) s → ContentHolds n c s
narrow-only ts n k None d s p q e f h = absurd h
narrow-only ts n k (Some us) None s p q e f h = absurd h
narrow-only ts n k (Some us) (Some vs) s p q e f h =
    let w : IsClosed k vs = closed k vs q in
    let g : n ≡ w.matrix.variables = e ∙ sym w.best.variables in
    let m : MatrixValue = matrix_of n (narrowed ts (matrix_at n us) w.matrix) in
    narrowed-only ts (matrix_at n us) w.matrix s g (rw (w.is) at f) (standing-only m s (bounded-kept m (narrowed-kept ts (matrix_at n us) w.matrix p.1.0 w.kept g)) (rw (w.is) at h))

pub leaf-exact : LeafExactness octagons
leaf-exact = record {
  some_holds = λ a. some-holds a.variables a.content;
  meet_only = λ a x r s p l i. meet-only a.variables a.content x r s p l;
  meet_form_only = λ a f op s p g. meet-form-only a.variables a.content f op s p g;
  set_only = λ a x r s p l i. set-only a.variables a.content x r s p l;
  narrow_only = λ ts a b s k. narrow-only ts a.variables b.variables a.content b.content s k.first k.second k.same;
}

-- ---- the order
-- an entry of the best matrix is at most that of each matrix that all its stores meet
entry-least : (n : ℕ) (us : List ℤ) (z : IsClosed n us) (m : MatrixValue) → m.variables ≡ n → ((s : List ℤ) → Holds (matrix_at n us) s → Holds m s) → (a b : ℕ) → a < 2 * n → b < 2 * n → entry_of z.matrix a b ≤ℤ entry_of m a b
entry-least n us z m e f a b i j =
    let r : Reaches (matrix_at n us) a b (entry_of z.matrix a b) = z.best.reached a b i j in
    let h : Holds m r.store = f r.store r.holds in
    omega (arith, ints, r.reached, h.bounds a b (rw e i) (rw e j))

leq-from : (n k : ℕ) (c d : Option (List ℤ)) → IsOctagon (at n c) → IsOctagon (at k d) → n ≡ k → ((s : List ℤ) → ContentHolds n c s → ContentHolds k d s) → octagon_leq (at n c) (at k d) ≡ true
leq-from n k None d p q e f = refl
leq-from n k (Some us) None p q e f = absurd (f p.1.1.0 p.1.1.1)
leq-from n k (Some us) (Some vs) p q e f =
    let z : IsClosed n us = closed n us p in
    let m : MatrixValue = matrix_at k vs in
    rw (z.is)
    (tell-pairs (2 * z.matrix.variables) (λ a b. int_le (entry_of z.matrix a b) (entry_of m a b))
    (λ a b i j. tells-le (entry_of z.matrix a b) (entry_of m a b) (entry-least n us z m (sym e) f a b (rw (z.best.variables) at i) (rw (z.best.variables) at j))))

pub leq-inclusion : LeqIsInclusion
leq-inclusion a b k = (λ e s h. octagon_laws.leq_holds a b s k e h, λ f. leq-from a.variables b.variables a.content b.content k.first k.second k.same f)

join-by : (n k j : ℕ) (c d x : Option (List ℤ)) → IsOctagon (at n c) → IsOctagon (at k d) → n ≡ k → j ≡ n → ((s : List ℤ) → ContentHolds n c s → ContentHolds j x s) → ((s : List ℤ) → ContentHolds k d s → ContentHolds j x s)
    → (s : List ℤ) → octagon_holds (octagon_join (at n c) (at k d)) s → ContentHolds j x s
join-by n k j None d x p q e i f g s h = g s h
join-by n k j (Some us) None x p q e i f g s h = f s h
join-by n k j (Some us) (Some vs) None p q e i f g s h = absurd (f p.1.1.0 p.1.1.1)
join-by n k j (Some us) (Some vs) (Some xs) p q e i f g s h =
    let z : IsClosed n us = closed n us p in
    let w : IsClosed k vs = closed k vs q in
    let m : MatrixValue = matrix_of n (greater z.matrix w.matrix) in
    let P : ℕ → Type 0 = λ y. IsBounded (matrix_of y (greater z.matrix w.matrix)) in
    let b : IsBounded m = subst P z.best.variables (greater-bounded z.matrix w.matrix z.kept w.kept (w.best.variables ∙ (sym e ∙ sym z.best.variables))) in
    let o : Holds m s = holds-best-of m s b (rw (z.is, w.is) at h) in
    record {
      size = o.size ∙ sym i;
      bounds = λ y t l r.
          let l' : y < 2 * n = rw i at l in
          let r' : t < 2 * n = rw i at r in
          omega (arith, ints, clamps, of-bounds n (greater z.matrix w.matrix) s y t o l' r', entry-least n us z (matrix_at j xs) i f y t l' r', entry-least k vs w (matrix_at j xs) (i ∙ e) g y t (rw (← e) l') (rw (← e) r'));
    }

pub join-least : JoinIsLeast
join-least a b c k p e f g s h = join-by a.variables b.variables c.variables a.content b.content c.content k.first k.second k.same e f g s h
