-- Ranges are exact: each end is a value at a store of the leaf.
use Rattle.std.proofs.Common.{◌≡◌, ℕ, ◌+◌, ◌*◌, ◌<◌, ℤ, neg_ℤ, ◌+ℤ◌, ◌-ℤ◌, Bool, true, false, List, [], Option, Some, None, sym, ◌∙◌, arith}
use Rattle.std.proofs.lemmas.Int.{ints}
use Rattle.leaf_domain.specs.declared.form.Form.{Form}
use Rattle.leaf_domain.specs.declared.range.Range.{Range}
use Rattle.leaf_domain.specs.Ranges.{range_at}
use Rattle.leaf_domain.specs.Forms.{form_at, IsForm}
use Rattle.leaf_domain.specs.Leaves.{LeafValue, is_nothing_of, at_store}
use Rattle.octagon_matrix.specs.Matrices.{entry_of}
use Rattle.octagon_matrix.specs.Stores.{value_at}
use Rattle.octagon_closure.specs.Best.{Reaches}
use Rattle.octagon_closure.specs.Sweeps.{half}
use Rattle.octagon_closure.proofs.HalfNumbers.{half-below, half-above}
use Rattle.octagon_leaf.specs.declared.shape.Edge.{Edge}
use Rattle.octagon_leaf.specs.declared.shape.Shape.{Shape}
use Rattle.octagon_leaf.specs.declared.shape.Shape.TheVariants.{Constant, Terms, Other}
use Rattle.octagon_leaf.specs.Greatest.{difference}
use Rattle.octagon_leaf.specs.Shapes.{shape_of, scaled, halved, edge_range}
use Rattle.octagon_leaf.specs.Octagons.{matrix_at, IsOctagon, octagon_bounds, octagon_form_range, shape_range}
use Rattle.octagon_leaf.specs.Exact.{IsReached, BoundsAreReached, FormRangesAreReached}
use Rattle.octagon_leaf.specs.Laws.Forms.{EdgeHolds, ShapeHolds, shape-holds}
use Rattle.octagon_leaf.specs.Laws.OctagonLaws.{IsClosed, closed, plus-difference, minus-difference}
use Rattle.octagon_leaf.proofs.ExactForms.{turned-back}

abbrev at : ℕ → Option (List ℤ) → LeafValue
at n c = record { variables = n; content = c }

-- ---- variables
half-exact : (v d : ℤ) → (v -ℤ neg_ℤ v) ≡ d → v ≡ half d
half-exact v d e = omega (arith, ints, half-above d, half-below d)

half-exact_back : (v d : ℤ) → (neg_ℤ v -ℤ neg_ℤ (neg_ℤ v)) ≡ d → v ≡ neg_ℤ (half d)
half-exact_back v d e = omega (arith, ints, half-above d, half-below d)

bounds-reached : (n : ℕ) (c : Option (List ℤ)) (x : ℕ) → IsOctagon (at n c) → is_nothing_of (at n c) ≡ false → x < n
    → IsReached (at n c) (λ s. at_store s x) (octagon_bounds (at n c) x).low × IsReached (at n c) (λ s. at_store s x) (octagon_bounds (at n c) x).high
bounds-reached n None x p f l = cc
bounds-reached n (Some us) x p f l =
    let z : IsClosed n us = closed n us p in
    let i : 2 * x < 2 * n = omega arith in
    let j : 2 * x + 1 < 2 * n = omega arith in
    let r : Reaches (matrix_at n us) (2 * x) (2 * x + 1) (entry_of z.matrix (2 * x) (2 * x + 1)) = z.best.reached (2 * x) (2 * x + 1) i j in
    let t : Reaches (matrix_at n us) (2 * x + 1) (2 * x) (entry_of z.matrix (2 * x + 1) (2 * x)) = z.best.reached (2 * x + 1) (2 * x) j i in
    rw (z.is) (
      record { store = t.store; held = t.holds; reached = half-exact_back (value_at t.store x) (entry_of z.matrix (2 * x + 1) (2 * x)) (sym (minus-difference t.store x) ∙ t.reached) },
      record { store = r.store; held = r.holds; reached = half-exact (value_at r.store x) (entry_of z.matrix (2 * x) (2 * x + 1)) (sym (plus-difference r.store x) ∙ r.reached) },
    )

pub bounds-exact : BoundsAreReached
bounds-exact a x p f l = bounds-reached a.variables a.content x p f l

-- ---- forms
high-by : (d : Bool) (v c p w : ℤ) → scaled d v ≡ w +ℤ scaled d c → w ≡ p → v ≡ c +ℤ halved d p
high-by true v c p w e f = omega (arith, ints, half-below p, half-above p)
high-by false v c p w e f = omega (arith, ints)

low-by : (d : Bool) (v c p w u : ℤ) → scaled d v ≡ w +ℤ scaled d c → u ≡ neg_ℤ w → u ≡ p → v ≡ c -ℤ halved d p
low-by true v c p w u e f g = omega (arith, ints, half-below p, half-above p)
low-by false v c p w u e f g = omega (arith, ints)

some-same : (r t : Range) → Some r ≡ Some t → r ≡ t
some-same r t e = cc

edge-reached : (n : ℕ) (us : List ℤ) (z : IsClosed n us) (f : Form) (e : Edge) → ((s : List ℤ) → EdgeHolds n e s (form_at f s))
    → IsReached (at n (Some us)) (form_at f) (edge_range (entry_of z.matrix) e).low × IsReached (at n (Some us)) (form_at f) (edge_range (entry_of z.matrix) e).high
edge-reached n us z f e k =
    let i : e.first < 2 * n = (k []).edge.first in
    let j : e.second < 2 * n = (k []).edge.second in
    let p : ℤ = entry_of z.matrix e.first e.second in
    let q : ℤ = entry_of z.matrix e.second e.first in
    let r : Reaches (matrix_at n us) e.first e.second p = z.best.reached e.first e.second i j in
    let t : Reaches (matrix_at n us) e.second e.first q = z.best.reached e.second e.first j i in (
      record {
        store = t.store;
        held = t.holds;
        reached = low-by e.is_double (form_at f t.store) e.constant q (difference t.store e.first e.second) (difference t.store e.second e.first) (k t.store).value (turned-back t.store e.first e.second) t.reached;
      },
      record { store = r.store; held = r.holds; reached = high-by e.is_double (form_at f r.store) e.constant p (difference r.store e.first e.second) (k r.store).value r.reached },
    )

shape-reached : (n : ℕ) (us : List ℤ) (f : Form) (g : Shape) (r : Range) → IsOctagon (at n (Some us)) → ((s : List ℤ) → ShapeHolds n g s (form_at f s)) → shape_range (at n (Some us)) g ≡ Some r
    → IsReached (at n (Some us)) (form_at f) r.low × IsReached (at n (Some us)) (form_at f) r.high
shape-reached n us f Other r p k e = cc
shape-reached n us f (Constant c) r p k e =
    let h : range_at c c ≡ r = some-same (range_at c c) r e in
    rw (← h) (record { store = p.1.1.0; held = p.1.1.1; reached = k p.1.1.0 }, record { store = p.1.1.0; held = p.1.1.1; reached = k p.1.1.0 })
shape-reached n us f (Terms q) r p k e =
    let z : IsClosed n us = closed n us p in
    let h : edge_range (entry_of z.matrix) q ≡ r = some-same (edge_range (entry_of z.matrix) q) r (rw (z.is) at e) in
    rw (← h) (edge-reached n us z f q k)

form-reached : (n : ℕ) (c : Option (List ℤ)) (f : Form) (r : Range) → IsOctagon (at n c) → is_nothing_of (at n c) ≡ false → IsForm n f → octagon_form_range (at n c) f ≡ Some r
    → IsReached (at n c) (form_at f) r.low × IsReached (at n c) (form_at f) r.high
form-reached n None f r p o g e = cc
form-reached n (Some us) f r p o g e = shape-reached n us f (shape_of f) r p (λ s. shape-holds n f s g) e

pub form-ranges-exact : FormRangesAreReached
form-ranges-exact a f r p o g e = form-reached a.variables a.content f r p o g e
