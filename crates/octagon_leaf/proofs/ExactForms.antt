-- Of octagonal forms, octagons hold just the stores that they must.
use Rattle.std.proofs.Common.{◌≡◌, ◌≢◌, ℕ, ◌*◌, ◌<◌, ℤ, pos, neg_ℤ, ◌+ℤ◌, ◌-ℤ◌, ◌≤ℤ◌, Bool, true, false, ◌&&◌, List, [], ◌∷◌, ◌++◌, Option, Some, None, slice_set, refl, sym, ◌∙◌, ap, subst, arith, if◌then◌else◌}
use Rattle.std.specs.Bool.{⊤}
use Rattle.std.proofs.lemmas.Int.{ints}
use Rattle.leaf_domain.specs.declared.form.Form.{Form}
use Rattle.leaf_domain.specs.declared.range.Range.{Range}
use Rattle.leaf_domain.specs.declared.compare.Compare.{Compare}
use Rattle.leaf_domain.specs.declared.compare.Compare.TheVariants.{Lt, Le, Gt, Ge, Eq, Ne}
use Rattle.leaf_domain.specs.Compares.{holds_between}
use Rattle.leaf_domain.specs.Ranges.{Within, IsInInt, is_empty_range, range_at}
use Rattle.leaf_domain.specs.Forms.{form_at, IsForm}
use Rattle.leaf_domain.specs.Leaves.{LeafValue, nothing_of}
use Rattle.octagon_matrix.specs.Matrices.{MatrixValue, entry_of}
use Rattle.octagon_matrix.specs.Stores.{value_at, term_value, Holds}
use Rattle.octagon_leaf.specs.declared.shape.Edge.{Edge}
use Rattle.octagon_leaf.specs.declared.shape.Shape.{Shape}
use Rattle.octagon_leaf.specs.declared.shape.Shape.TheVariants.{Constant, Terms, Other}
use Rattle.octagon_leaf.specs.declared.meets.Meet.{Meet}
use Rattle.octagon_leaf.specs.Greatest.{difference, best_of}
use Rattle.octagon_leaf.specs.Shapes.{is_unit, shape_by, shape_of, scaled, edge_range, compared, between, equal_to}
use Rattle.octagon_leaf.specs.Octagons.{matrix_at, IsOctagon, ContentHolds, octagon_holds, met_all, dropped, moved, has_variable, meet_shape, octagon_meet_form, set_shape, octagon_set_form}
use Rattle.octagon_leaf.specs.Meeting.{AreMeets}
use Rattle.octagon_leaf.specs.Exact.{has_one_unit, has_two_units, MeetFormIsExact, IsFormPut, SetFormIsExact}
use Rattle.octagon_leaf.specs.Laws.{octagon_laws}
use Rattle.octagon_leaf.specs.Laws.Best.{IsBounded, best-own, best-stores}
use Rattle.octagon_leaf.specs.Laws.Meets.{bounded-kept, bounded-all, AllMet, holds-all}
use Rattle.octagon_leaf.specs.Laws.Terms.{plus-value, set-other, bounded-dropped, bounded-moved}
use Rattle.octagon_leaf.specs.Laws.Forms.{EdgeHolds, ShapeHolds, shape-holds}
use Rattle.octagon_leaf.specs.Laws.OctagonLaws.{IsClosed, closed, holds-best-of, between-meets, equal-meets}
use Rattle.octagon_leaf.proofs.Closed.{both-meets, met-both}
use Rattle.octagon_leaf.proofs.Assigning.{met-within}
use Rattle.octagon_leaf.proofs.Moving.{Unmoved, unmoved, unmoved-holds, same-variable}
use Rattle.octagon_leaf.proofs.Exactness.{terms-met, where-true, Replaced, replaced}

abbrev at : ℕ → Option (List ℤ) → LeafValue
at n c = record { variables = n; content = c }

-- ---- comparisons
at_most-tells : (d : Bool) (v c n w : ℤ) → scaled d v ≡ w +ℤ scaled d c → w ≤ℤ neg_ℤ (scaled d (c +ℤ n)) → (v +ℤ n) ≤ℤ pos 0
at_most-tells true v c n w e h = omega (arith, ints)
at_most-tells false v c n w e h = omega (arith, ints)

at_least-tells : (d : Bool) (v c n w u : ℤ) → scaled d v ≡ w +ℤ scaled d c → u ≡ neg_ℤ w → u ≤ℤ neg_ℤ (scaled d (n -ℤ c)) → (n -ℤ v) ≤ℤ pos 0
at_least-tells true v c n w u e f h = omega (arith, ints)
at_least-tells false v c n w u e f h = omega (arith, ints)

lt-from : (v : ℤ) → (v +ℤ pos 1) ≤ℤ pos 0 → holds_between Lt v (pos 0) ≡ true
lt-from v h = grind (arith, ints)

le-from : (v : ℤ) → (v +ℤ pos 0) ≤ℤ pos 0 → holds_between Le v (pos 0) ≡ true
le-from v h = grind (arith, ints)

gt-from : (v : ℤ) → (pos 1 -ℤ v) ≤ℤ pos 0 → holds_between Gt v (pos 0) ≡ true
gt-from v h = grind (arith, ints)

ge-from : (v : ℤ) → (pos 0 -ℤ v) ≤ℤ pos 0 → holds_between Ge v (pos 0) ≡ true
ge-from v h = grind (arith, ints)

eq-from : (v : ℤ) → (v +ℤ pos 0) ≤ℤ pos 0 → (pos 0 -ℤ v) ≤ℤ pos 0 → holds_between Eq v (pos 0) ≡ true
eq-from v h k = grind (arith, ints)

pub turned-back : (s : List ℤ) (a b : ℕ) → difference s b a ≡ neg_ℤ (difference s a b)
turned-back s a b = omega (arith, ints)

most-told : (n : ℕ) (e : Edge) (s : List ℤ) (v k : ℤ) → EdgeHolds n e s v → difference s e.first e.second ≤ℤ neg_ℤ (scaled e.is_double (e.constant +ℤ k)) → (v +ℤ k) ≤ℤ pos 0
most-told n e s v k h l = at_most-tells e.is_double v e.constant k (difference s e.first e.second) h.value l

least-told : (n : ℕ) (e : Edge) (s : List ℤ) (v k : ℤ) → EdgeHolds n e s v → difference s e.second e.first ≤ℤ neg_ℤ (scaled e.is_double (k -ℤ e.constant)) → (k -ℤ v) ≤ℤ pos 0
least-told n e s v k h l = at_least-tells e.is_double v e.constant k (difference s e.first e.second) (difference s e.second e.first) h.value (turned-back s e.first e.second) l

-- at a store that meets what is met for a comparison, it holds
compared-tells : (n : ℕ) (e : Edge) (op : Compare) (r : Range) (s : List ℤ) (v : ℤ) → EdgeHolds n e s v → op ≢ Ne → AllMet (compared e op r) s → holds_between op v (pos 0) ≡ true
compared-tells n e Lt r s v h d a = lt-from v (most-told n e s v (pos 1) h a.0)
compared-tells n e Le r s v h d a = le-from v (most-told n e s v (pos 0) h a.0)
compared-tells n e Gt r s v h d a = gt-from v (least-told n e s v (pos 1) h a.0)
compared-tells n e Ge r s v h d a = ge-from v (least-told n e s v (pos 0) h a.0)
compared-tells n e Eq r s v h d a = eq-from v (most-told n e s v (pos 0) h a.0) (least-told n e s v (pos 0) h a.1.0)
compared-tells n e Ne r s v h d a = absurd (d refl)

terms-seen : (t : Bool) (e : Edge) → t ≡ true → (if t then Terms e else Other) ≢ Other
terms-seen true e f = λ g. cc
terms-seen false e f = absurd (cc)

two-shape : (ts : List (ℕ × ℤ)) (c : ℤ) → has_two_units ts ≡ true → shape_by ts c ≢ Other
two-shape [] c e = λ g. cc
two-shape (t ∷ []) c e = terms-seen (is_unit t.1) _ e
two-shape (t ∷ u ∷ []) c e = terms-seen (is_unit t.1 && is_unit u.1) _ e
two-shape (t ∷ u ∷ v ∷ ts) c e = absurd (cc)

shape-exact : (n : ℕ) (us : List ℤ) (g : Shape) (op : Compare) (s : List ℤ) (v : ℤ) → IsOctagon (at n (Some us)) → ShapeHolds n g s v → g ≢ Other → op ≢ Ne → octagon_holds (meet_shape (at n (Some us)) g op) s → Holds (matrix_at n us) s × (holds_between op v (pos 0) ≡ true)
shape-exact n us Other op s v p k o d h = absurd (o refl)
shape-exact n us (Constant c) op s v p k o d h =
    let w : Holds (matrix_at n us) s × (holds_between op c (pos 0) ≡ true) = where-true n us s (holds_between op c (pos 0)) p h in (w.0, rw k (w.1))
shape-exact n us (Terms e) op s v p k o d h =
    let z : IsClosed n us = closed n us p in
    let w : Holds (matrix_at n us) s × AllMet (compared e op (edge_range (entry_of z.matrix) e)) s = terms-met n us e op s v z k (rw (z.is) at h) in
    (w.0, compared-tells n e op (edge_range (entry_of z.matrix) e) s v k d w.1)

meet-exact : (n : ℕ) (c : Option (List ℤ)) (f : Form) (op : Compare) (s : List ℤ) → IsOctagon (at n c) → IsForm n f → has_two_units f.terms ≡ true → op ≢ Ne → octagon_holds (octagon_meet_form (at n c) f op) s → ContentHolds n c s × (holds_between op (form_at f s) (pos 0) ≡ true)
meet-exact n None f op s p g u d h = absurd h
meet-exact n (Some us) f op s p g u d h = shape-exact n us (shape_of f) op s (form_at f s) p (shape-holds n f s g) (two-shape f.terms f.constant u) d h

pub meet-form-exact : MeetFormIsExact
meet-form-exact a f op s p g u d = (λ h. meet-exact a.variables a.content f op s p g u d h, λ k. octagon_laws.meet_form_holds a f op s p g k.0 k.1)

-- ---- one variable put as the value of a form
abbrev IsOneTerm : Shape → Type 0
IsOneTerm (Constant c) = ⊤
IsOneTerm (Terms e) = e.is_double ≡ true
IsOneTerm Other = ⊥

one-seen : (t : Bool) (e : Edge) → t ≡ true → e.is_double ≡ true → IsOneTerm (if t then Terms e else Other)
one-seen true e f g = g
one-seen false e f g = absurd (cc)

one-shape : (ts : List (ℕ × ℤ)) (c : ℤ) → has_one_unit ts ≡ true → IsOneTerm (shape_by ts c)
one-shape [] c e = tt
one-shape (t ∷ []) c e = one-seen (is_unit t.1) _ e refl
one-shape (t ∷ u ∷ ts) c e = absurd (cc)

-- a store of the matrix, put as the number that the variable is
record Put (n : ℕ) (us : List ℤ) (x : ℕ) (r : Range) (s : List ℤ) (value : List ℤ → ℤ) : Type 0 where
  store : List ℤ
  held : Holds (matrix_at n us) store
  within : Within (value_at s x) r
  put : s ≡ slice_set store x (value_at s x)
  is : value_at s x ≡ value store

constant-is : (v c : ℤ) → Within v (range_at c c) → v ≡ c
constant-is v c w = omega (arith, ints, w.low, w.high)

put-constant : (n : ℕ) (us : List ℤ) (z : IsClosed n us) (x : ℕ) (c : ℤ) (r : Range) (s : List ℤ) → x < n → octagon_holds (best_of (met_all (dropped z.matrix x) (between x (range_at c c) ++ between x r))) s → Put n us x r s (λ u. c)
put-constant n us z x c r s l h =
    let d : MatrixValue = dropped z.matrix x in
    let es : List Meet = between x (range_at c c) ++ between x r in
    let b : IsBounded d = bounded-dropped z.matrix x (bounded-kept z.matrix z.kept) in
    let l' : x < z.matrix.variables = rw (z.best.variables) l in
    let q : AreMeets z.matrix.variables es = both-meets z.matrix.variables (between x (range_at c c)) (between x r) (between-meets z.matrix.variables x (range_at c c) l') (between-meets z.matrix.variables x r l') in
    let i : Holds d s × AllMet es s = holds-all d es s b q (holds-best-of (met_all d es) s (bounded-all d es b) h) in
    let j : AllMet (between x (range_at c c)) s × AllMet (between x r) s = met-both (between x (range_at c c)) (between x r) s i.1 in
    let o : Replaced z.matrix x s = replaced z.matrix x s z.kept (best-own (matrix_at n us) z.matrix z.best) l' i.0 in
    record { store = o.store; held = best-stores (matrix_at n us) z.matrix o.store z.best o.held; within = met-within x r s j.1; put = o.put; is = constant-is (value_at s x) c (met-within x (range_at c c) s j.0) }

equal-value : (s : List ℤ) (x t : ℕ) (c : ℤ) → difference s (2 * x) t ≤ℤ c → difference s t (2 * x) ≤ℤ neg_ℤ c → value_at s x ≡ term_value s t +ℤ c
equal-value s x t c h k = sym (plus-value s x) ∙ omega (arith, ints)

put-term : (n : ℕ) (us : List ℤ) (z : IsClosed n us) (x t : ℕ) (c : ℤ) (r : Range) (s : List ℤ) (b : Bool) → has_variable x t ≡ b → x < n → t < 2 * n
    → octagon_holds (best_of (if b then met_all (moved z.matrix x t c) (between x r) else met_all (dropped z.matrix x) (equal_to x t c ++ between x r))) s
    → Put n us x r s (λ u. term_value u t +ℤ c)
put-term n us z x t c r s true e l j h =
    let d : MatrixValue = moved z.matrix x t c in
    let b : IsBounded d = bounded-moved z.matrix x t c (bounded-kept z.matrix z.kept) in
    let l' : x < z.matrix.variables = rw (z.best.variables) l in
    let j' : t < 2 * z.matrix.variables = rw (z.best.variables) j in
    let i : Holds d s × AllMet (between x r) s = holds-all d (between x r) s b (between-meets z.matrix.variables x r l') (holds-best-of (met_all d (between x r)) s (bounded-all d (between x r) b) h) in
    let u : Unmoved s x t c = unmoved z.matrix.variables s x t c i.0.size l' e in
    let o : Holds z.matrix u.store = unmoved-holds z.matrix s x t c u z.kept l' j' (same-variable x t e) i.0 in
    record { store = u.store; held = best-stores (matrix_at n us) z.matrix u.store z.best o; within = met-within x r s i.1; put = sym u.back ∙ ap (λ v. slice_set u.store x v) u.term; is = sym u.term }
put-term n us z x t c r s false e l j h =
    let d : MatrixValue = dropped z.matrix x in
    let es : List Meet = equal_to x t c ++ between x r in
    let b : IsBounded d = bounded-dropped z.matrix x (bounded-kept z.matrix z.kept) in
    let l' : x < z.matrix.variables = rw (z.best.variables) l in
    let j' : t < 2 * z.matrix.variables = rw (z.best.variables) j in
    let i : Holds d s × AllMet es s = holds-all d es s b (equal-meets z.matrix.variables x t c r l' j' e) (holds-best-of (met_all d es) s (bounded-all d es b) h) in
    let o : Replaced z.matrix x s = replaced z.matrix x s z.kept (best-own (matrix_at n us) z.matrix z.best) l' i.0 in
    let f : term_value o.store t ≡ term_value s t = ap (λ u. term_value u t) o.is ∙ set-other z.matrix.variables s x t o.other i.0.size l' e in
    record {
      store = o.store;
      held = best-stores (matrix_at n us) z.matrix o.store z.best o.held;
      within = met-within x r s i.1.1.1;
      put = o.put;
      is = equal-value s x t c i.1.0 i.1.1.0 ∙ ap (λ v. v +ℤ c) (sym f);
    }

put-form : (n : ℕ) (us : List ℤ) (x : ℕ) (f : Form) (r : Range) (s : List ℤ) (value : List ℤ → ℤ) → ((u : List ℤ) → form_at f u ≡ value u) → Put n us x r s value → IsFormPut (at n (Some us)) x f r s
put-form n us x f r s value k o =
    let e : value_at s x ≡ form_at f o.store = o.is ∙ sym (k o.store) in
    record { store = o.store; held = o.held; within = subst (λ v. Within v r) e o.within; put = o.put ∙ ap (λ v. slice_set o.store x v) e }

unless-empty : (n : ℕ) (w : LeafValue) (s : List ℤ) (t : Bool) → octagon_holds (if t then nothing_of n else w) s → octagon_holds w s
unless-empty n w s true h = absurd h
unless-empty n w s false h = h

set-shape-exact : (n : ℕ) (us : List ℤ) (x : ℕ) (f : Form) (g : Shape) (r : Range) (s : List ℤ) → IsOctagon (at n (Some us)) → x < n → IsOneTerm g → ((u : List ℤ) → ShapeHolds n g u (form_at f u)) → octagon_holds (set_shape (at n (Some us)) x g r) s → IsFormPut (at n (Some us)) x f r s
set-shape-exact n us x f Other r s p l o k h = absurd o
set-shape-exact n us x f (Constant c) r s p l o k h =
    let z : IsClosed n us = closed n us p in put-form n us x f r s (λ u. c) k (put-constant n us z x c r s l (rw (z.is) at h))
set-shape-exact n us x f (Terms e) r s p l o k h =
    let z : IsClosed n us = closed n us p in
    put-form n us x f r s (λ u. term_value u e.first +ℤ e.constant) (λ u. (k u).term o)
    (put-term n us z x e.first e.constant r s (has_variable x e.first) refl l (k s).edge.first (rw (z.is, o) at h))

set-exact : (n : ℕ) (c : Option (List ℤ)) (x : ℕ) (f : Form) (r : Range) (s : List ℤ) → IsOctagon (at n c) → x < n → IsForm n f → has_one_unit f.terms ≡ true → octagon_holds (octagon_set_form (at n c) x f r) s → IsFormPut (at n c) x f r s
set-exact n None x f r s p l g u h = absurd h
set-exact n (Some us) x f r s p l g u h =
    set-shape-exact n us x f (shape_of f) r s p l (one-shape f.terms f.constant u) (λ t. shape-holds n f t g) (unless-empty n (set_shape (at n (Some us)) x (shape_of f) r) s (is_empty_range r) h)

put-holds : (a : LeafValue) (x : ℕ) (f : Form) (r : Range) (s : List ℤ) → IsOctagon a → x < a.variables → IsForm a.variables f → IsInInt r → IsFormPut a x f r s → octagon_holds (octagon_set_form a x f r) s
put-holds a x f r s p l g i k =
    let P : List ℤ → Type 0 = λ t. octagon_holds (octagon_set_form a x f r) t in subst P (sym k.put) (octagon_laws.set_form_holds a x f r k.store p l g i k.held k.within)

pub set-form-exact : SetFormIsExact
set-form-exact a x f r s p l g i u = (λ h. set-exact a.variables a.content x f r s p l g u h, λ k. put-holds a x f r s p l g i k)
