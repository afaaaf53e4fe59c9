-- What the meanings of the operations are over the best matrix of a leaf.
use Rattle.std.proofs.Common.{◌≡◌, ℕ, ◌+◌, ◌*◌, ℤ, neg_ℤ, Bool, true, false, Some, List, [], ◌∷◌, ◌++◌, ◌&&◌, refl, sym, ◌∙◌, ap, subst, if◌then◌else◌}
use Rattle.leaf_domain.specs.declared.form.Form.{Form}
use Rattle.leaf_domain.specs.declared.range.Range.{Range}
use Rattle.leaf_domain.specs.declared.compare.Compare.{Compare}
use Rattle.leaf_domain.specs.Forms.{form_at, IsForm, IsFormNumber}
use Rattle.leaf_domain.specs.Ranges.{is_empty_range, range_at}
use Rattle.leaf_domain.specs.Leaves.{LeafValue, is_nothing_of}
use Rattle.octagon_matrix.specs.Matrices.{MatrixValue, entry_of}
use Rattle.octagon_closure.specs.Sweeps.{half}
use Rattle.octagon_leaf.specs.declared.shape.Edge.{Edge}
use Rattle.octagon_leaf.specs.declared.shape.Shape.{Shape}
use Rattle.octagon_leaf.specs.declared.shape.Shape.TheVariants.{Constant, Terms, Other}
use Rattle.octagon_leaf.specs.Greatest.{matrix_of, leaf_of, best_of, standing}
use Rattle.octagon_leaf.specs.Shapes.{is_unit, shape_by, shape_of, edge_range, compared, between}
use Rattle.octagon_leaf.specs.Octagons.{met_all, dropped, is_below, greater, widened, narrowed, set_term, octagon_leq, octagon_join, octagon_widen, octagon_narrow, octagon_bounds, octagon_form_range, shape_range, octagon_meet_range, octagon_meet_form, meet_shape, octagon_set_range, octagon_set_form, set_shape}
use Rattle.octagon_leaf.specs.Meeting.{IsClosedOf, IsStandingOf, IsEdge}
use Rattle.octagon_leaf.specs.Laws.Forms.{ShapeHolds, shape-holds}

pub set-range-is : (v : LeafValue) (m : MatrixValue) (x : ℕ) (r : Range) → IsClosedOf v m → is_empty_range r ≡ false → octagon_set_range v x r ≡ best_of (met_all (dropped m x) (between x r))
set-range-is v m x r k e = rw (k.is, k.some, e) refl

pub meet-range-is : (v : LeafValue) (m : MatrixValue) (x : ℕ) (r : Range) → IsClosedOf v m → is_empty_range r ≡ false → octagon_meet_range v x r ≡ best_of (met_all m (between x r))
meet-range-is v m x r k e = rw (k.is, k.some, e) refl

pub shape-edge : (n : ℕ) (f : Form) (e : Edge) → IsForm n f → shape_of f ≡ Terms e → IsEdge n e
shape-edge n f e h g = let P : Shape → Type 0 = λ s. ShapeHolds n s [] (form_at f []) in (subst P g (shape-holds n f [] h)).edge

pub meet-form-is : (v : LeafValue) (m : MatrixValue) (f : Form) (e : Edge) (op : Compare) → IsClosedOf v m → shape_of f ≡ Terms e → octagon_meet_form v f op ≡ best_of (met_all m (compared e op (edge_range (entry_of m) e)))
meet-form-is v m f e op k g =
    let P : Shape → Type 0 = λ s. (if is_nothing_of v then v else meet_shape v s op) ≡ best_of (met_all m (compared e op (edge_range (entry_of m) e))) in
    let u : P (Terms e) = rw (k.is, k.some) refl in
    subst P (sym g) u

pub set-form-is : (v : LeafValue) (m : MatrixValue) (x : ℕ) (f : Form) (e : Edge) (r : Range) → IsClosedOf v m → is_empty_range r ≡ false → shape_of f ≡ Terms e → e.is_double ≡ true → octagon_set_form v x f r ≡ best_of (set_term m x e.first e.constant r)
set-form-is v m x f e r k h g d =
    let P : Shape → Type 0 = λ s. (if is_nothing_of v then v else set_shape v x s r) ≡ best_of (set_term m x e.first e.constant r) in
    let u : P (Terms e) = rw (k.is, k.some, d) refl in
    rw (h) (subst P (sym g) u)

pub set-other-is : (v : LeafValue) (m : MatrixValue) (x : ℕ) (f : Form) (r : Range) → IsClosedOf v m → is_empty_range r ≡ false → shape_of f ≡ Other → octagon_set_form v x f r ≡ octagon_set_range v x r
set-other-is v m x f r k h g =
    let P : Shape → Type 0 = λ s. (if is_nothing_of v then v else set_shape v x s r) ≡ octagon_set_range v x r in
    let u : P Other = rw (k.some) refl in
    let w : octagon_set_form v x f r ≡ (if is_nothing_of v then v else set_shape v x (shape_of f) r) = rw (h) refl in
    w ∙ subst P (sym g) u

pub bounds-is : (v : LeafValue) (m : MatrixValue) (x : ℕ) → IsClosedOf v m → octagon_bounds v x ≡ range_at (neg_ℤ (half (entry_of m (2 * x + 1) (2 * x)))) (half (entry_of m (2 * x) (2 * x + 1)))
bounds-is v m x k = rw (k.is, k.some) refl

pub edge-range-is : (v : LeafValue) (m : MatrixValue) (f : Form) (e : Edge) → IsClosedOf v m → shape_of f ≡ Terms e → octagon_form_range v f ≡ Some (edge_range (entry_of m) e)
edge-range-is v m f e k g =
    let P : Shape → Type 0 = λ s. shape_range v s ≡ Some (edge_range (entry_of m) e) in
    let u : P (Terms e) = rw (k.is, k.some) refl in
    subst P (sym g) u

pub leq-is : (v w : LeafValue) (m k : MatrixValue) → IsClosedOf v m → IsStandingOf w k → octagon_leq v w ≡ is_below m k
leq-is v w m k p q = rw (q.is, p.is, p.some) refl

pub join-is : (v w : LeafValue) (m k : MatrixValue) → IsClosedOf v m → IsClosedOf w k → octagon_join v w ≡ best_of (matrix_of m.variables (greater m k))
join-is v w m k p q = rw (p.is, q.is, p.some, q.some) (ap (λ i. best_of (matrix_of i (greater m k))) (sym p.variables))

pub widen-is : (ts : List ℤ) (v w : LeafValue) (m k : MatrixValue) → IsStandingOf v m → IsClosedOf w k → octagon_widen ts v w ≡ leaf_of (matrix_of m.variables (widened ts m k))
widen-is ts v w m k p q = rw (p.is, q.is, q.some) refl

pub narrow-is : (ts : List ℤ) (v w : LeafValue) (m k : MatrixValue) → IsStandingOf v m → IsClosedOf w k → octagon_narrow ts v w ≡ standing (matrix_of m.variables (narrowed ts m k))
narrow-is ts v w m k p q = rw (p.is, q.is, q.some) refl

pub set-constant-is : (v : LeafValue) (m : MatrixValue) (x : ℕ) (f : Form) (c : ℤ) (r : Range) → IsClosedOf v m → is_empty_range r ≡ false → shape_of f ≡ Constant c → octagon_set_form v x f r ≡ best_of (met_all (dropped m x) (between x (range_at c c) ++ between x r))
set-constant-is v m x f c r k h g =
    let P : Shape → Type 0 = λ s. (if is_nothing_of v then v else set_shape v x s r) ≡ best_of (met_all (dropped m x) (between x (range_at c c) ++ between x r)) in
    let u : P (Constant c) = rw (k.is, k.some) refl in
    let w : octagon_set_form v x f r ≡ (if is_nothing_of v then v else set_shape v x (shape_of f) r) = rw (h) refl in
    w ∙ subst P (sym g) u

single-constant : (u : Bool) (e : Edge) (k c : ℤ) → (if u then Terms e else Other) ≡ Constant c → k ≡ c
single-constant true e k c h = cc
single-constant false e k c h = cc

constant-by : (ts : List (ℕ × ℤ)) (k c : ℤ) → shape_by ts k ≡ Constant c → k ≡ c
constant-by [] k c e = cc
constant-by (t ∷ []) k c e = single-constant (is_unit t.1) _ k c e
constant-by (t ∷ u ∷ []) k c e = single-constant (is_unit t.1 && is_unit u.1) _ k c e
constant-by (t ∷ u ∷ v ∷ ts) k c e = cc

pub shape-constant : (n : ℕ) (f : Form) (c : ℤ) → IsForm n f → shape_of f ≡ Constant c → IsFormNumber c
shape-constant n f c h e = subst IsFormNumber (constant-by f.terms f.constant c e) h.constant
