-- What the shape of a form says of its value.
use Rattle.std.proofs.Common.{◌≡◌, ◌≢◌, ◌⊎◌, inl, inr, ℕ, ◌+◌, ◌*◌, ◌<◌, ℤ, pos, negsuc, neg_ℤ, ◌+ℤ◌, ◌-ℤ◌, ◌*ℤ◌, ◌≤ℤ◌, Bool, true, false, ◌&&◌, List, [], ◌∷◌, ◌++◌, refl, sym, arith, if◌then◌else◌}
use Rattle.std.specs.Bool.{⊤}
use Rattle.std.specs.Ordering.{int_eq}
use Rattle.std.proofs.lemmas.Int.{ints}
use Rattle.leaf_domain.specs.declared.form.Form.{Form}
use Rattle.leaf_domain.specs.declared.range.Range.{Range}
use Rattle.leaf_domain.specs.declared.compare.Compare.{Compare}
use Rattle.leaf_domain.specs.declared.compare.Compare.TheVariants.{Lt, Le, Gt, Ge, Eq, Ne}
use Rattle.leaf_domain.specs.Compares.{holds_between}
use Rattle.leaf_domain.specs.Ranges.{Within}
use Rattle.leaf_domain.specs.Forms.{terms_at, form_at, IsFormNumber, AreTerms, IsForm}
use Rattle.octagon_matrix.specs.Terms.{opposite}
use Rattle.octagon_matrix.specs.Matrices.{MatrixValue, entry_of}
use Rattle.octagon_matrix.specs.Stores.{value_at, term_value, Holds}
use Rattle.octagon_matrix.proofs.Terms.{opposite-differs}
use Rattle.octagon_matrix.proofs.Stores.{term-opposite}
use Rattle.octagon_closure.proofs.HalfNumbers.{half-below, half-above}
use Rattle.octagon_leaf.specs.declared.shape.Edge.{Edge}
use Rattle.octagon_leaf.specs.declared.shape.Shape.{Shape}
use Rattle.octagon_leaf.specs.declared.shape.Shape.TheVariants.{Constant, Terms, Other}
use Rattle.octagon_leaf.specs.declared.meets.Meet.{Meet}
use Rattle.octagon_leaf.specs.Greatest.{difference}
use Rattle.octagon_leaf.specs.Shapes.{is_unit, term_of, shape_by, shape_of, scaled, halved, edge_range, at_most, at_least, one_if, compared}
use Rattle.octagon_leaf.specs.Meeting.{IsEdge, AreMeets}
use Rattle.octagon_leaf.specs.Laws.Meets.{AllMet}
use Rattle.octagon_leaf.specs.Laws.Terms.{plus-value, minus-value}

-- ---- units
unit-cases : (k : ℤ) → is_unit k ≡ true → (int_eq k (pos 1) ≡ true) × (k ≡ pos 1) ⊎ (int_eq k (pos 1) ≡ false) × (k ≡ negsuc 0)
unit-cases k e = grind (arith, ints)

-- the term of a variable and a unit has the value of their product
term-by : (s : List ℤ) (x : ℕ) (k : ℤ) → (int_eq k (pos 1) ≡ true) × (k ≡ pos 1) ⊎ (int_eq k (pos 1) ≡ false) × (k ≡ negsuc 0) → term_value s (term_of x k) ≡ k *ℤ value_at s x
term-by s x k (inl p) = rw (p.0, plus-value s x, p.1) (omega (arith, ints))
term-by s x k (inr p) = rw (p.0, minus-value s x, p.1) (omega (arith, ints))

unit-term : (s : List ℤ) (x : ℕ) (k : ℤ) → is_unit k ≡ true → term_value s (term_of x k) ≡ k *ℤ value_at s x
unit-term s x k e = term-by s x k (unit-cases k e)

below-by : (t : Bool) (n x : ℕ) → x < n → (if t then 2 * x else 2 * x + 1) < 2 * n
below-by true n x h = omega arith
below-by false n x h = omega arith

term-below : (n x : ℕ) (k : ℤ) → x < n → term_of x k < 2 * n
term-below n x k h = below-by (int_eq k (pos 1)) n x h

opposite-below : (n t : ℕ) → t < 2 * n → opposite t < 2 * n
unfolding opposite
opposite-below n t h = omega arith

-- terms of different variables
apart-by : (i j : Bool) (x y : ℕ) → x < y → (if i then 2 * x else 2 * x + 1) ≢ opposite (if j then 2 * y else 2 * y + 1)
unfolding opposite
apart-by true true x y h = omega arith
apart-by true false x y h = omega arith
apart-by false true x y h = omega arith
apart-by false false x y h = omega arith

-- ---- what a shape says of the value of a form
pub record EdgeHolds (n : ℕ) (e : Edge) (s : List ℤ) (v : ℤ) : Type 0 where
  pub edge : IsEdge n e
  pub value : scaled e.is_double v ≡ difference s e.first e.second +ℤ scaled e.is_double e.constant
  -- where one term is twice the form, it is that term and the constant
  pub term : e.is_double ≡ true → v ≡ term_value s e.first +ℤ e.constant

abbrev pub ShapeHolds : ℕ → Shape → List ℤ → ℤ → Type 0
ShapeHolds n (Constant c) s v = v ≡ c
ShapeHolds n (Terms e) s v = EdgeHolds n e s v
ShapeHolds n Other s v = ⊤

single-by : (n x : ℕ) (k c : ℤ) (s : List ℤ) (u : Bool) → is_unit k ≡ u → x < n → IsFormNumber c
    → ShapeHolds n (if u then Terms (record { first = term_of x k; second = opposite (term_of x k); is_double = true; constant = c }) else Other) s (((k *ℤ value_at s x) +ℤ pos 0) +ℤ c)
single-by n x k c s false e h i = tt
single-by n x k c s true e h i =
    let t : ℕ = term_of x k in
    let f : term_value s t ≡ k *ℤ value_at s x = unit-term s x k e in
    let d : t ≢ opposite t = λ g. opposite-differs t (sym g) in
    record {
      edge = record { first = term-below n x k h; second = opposite-below n t (term-below n x k h); apart = d; constant = i };
      value = omega (arith, ints, f, term-opposite s t);
      term = λ g. omega (arith, ints, f);
    }

double-by : (n x y : ℕ) (k l c : ℤ) (s : List ℤ) (u w : Bool) → is_unit k ≡ u → is_unit l ≡ w → x < y → y < n → IsFormNumber c
    → ShapeHolds n (if u && w then Terms (record { first = term_of x k; second = opposite (term_of y l); is_double = false; constant = c }) else Other) s
    (((k *ℤ value_at s x) +ℤ ((l *ℤ value_at s y) +ℤ pos 0)) +ℤ c)
double-by n x y k l c s false w e f h j i = tt
double-by n x y k l c s true false e f h j i = tt
double-by n x y k l c s true true e f h j i =
    let t : ℕ = term_of y l in
    let g : term_value s (term_of x k) ≡ k *ℤ value_at s x = unit-term s x k e in
    let q : term_value s t ≡ l *ℤ value_at s y = unit-term s y l f in
    record {
      edge = record { first = term-below n x k (omega arith); second = opposite-below n t (term-below n y l j); apart = apart-by (int_eq k (pos 1)) (int_eq l (pos 1)) x y h; constant = i };
      value = omega (arith, ints, g, q, term-opposite s t);
      term = λ z. cc;
    }

shape-by : (n : ℕ) (ts : List (ℕ × ℤ)) (c : ℤ) (s : List ℤ) → AreTerms 0 n ts → IsFormNumber c → ShapeHolds n (shape_by ts c) s (terms_at ts s +ℤ c)
shape-by n [] c s h i = omega (arith, ints)
shape-by n (t ∷ []) c s h i = single-by n t.0 t.1 c s (is_unit t.1) refl h.1 i
shape-by n (t ∷ u ∷ []) c s h i = double-by n t.0 u.0 t.1 u.1 c s (is_unit t.1) (is_unit u.1) refl refl (omega (arith, h.4.0)) h.4.1 i
shape-by n (t ∷ u ∷ v ∷ ts) c s h i = tt

pub shape-holds : (n : ℕ) (f : Form) (s : List ℤ) → IsForm n f → ShapeHolds n (shape_of f) s (form_at f s)
shape-holds n f s h = shape-by n f.terms f.constant s h.terms h.constant

-- ---- the range of a form, and what a comparison of it with 0 meets
range-by : (d : Bool) (v c p q w : ℤ) → scaled d v ≡ w +ℤ scaled d c → w ≤ℤ p → neg_ℤ w ≤ℤ q → ((c -ℤ halved d q) ≤ℤ v) × (v ≤ℤ (c +ℤ halved d p))
range-by true v c p q w e h k = (omega (arith, ints, half-below q, half-above q), omega (arith, ints, half-below p, half-above p))
range-by false v c p q w e h k = (omega (arith, ints), omega (arith, ints))

pub edge-within : (n : ℕ) (m : MatrixValue) (e : Edge) (s : List ℤ) (v : ℤ) → m.variables ≡ n → Holds m s → EdgeHolds n e s v → Within v (edge_range (entry_of m) e)
edge-within n m e s v g h k =
    let i : e.first < 2 * m.variables = rw g k.edge.first in
    let j : e.second < 2 * m.variables = rw g k.edge.second in
    let back : neg_ℤ (difference s e.first e.second) ≤ℤ entry_of m e.second e.first = omega (arith, ints, h.bounds e.second e.first j i) in
    let r = range-by e.is_double v e.constant (entry_of m e.first e.second) (entry_of m e.second e.first) (difference s e.first e.second) k.value (h.bounds e.first e.second i j) back in
    record { low = r.0; high = r.1 }

at_most-by : (d : Bool) (v c n w : ℤ) → scaled d v ≡ w +ℤ scaled d c → (v +ℤ n) ≤ℤ pos 0 → w ≤ℤ neg_ℤ (scaled d (c +ℤ n))
at_most-by true v c n w e h = omega (arith, ints)
at_most-by false v c n w e h = omega (arith, ints)

at_least-by : (d : Bool) (v c n w : ℤ) → scaled d v ≡ w +ℤ scaled d c → (n -ℤ v) ≤ℤ pos 0 → neg_ℤ w ≤ℤ neg_ℤ (scaled d (n -ℤ c))
at_least-by true v c n w e h = omega (arith, ints)
at_least-by false v c n w e h = omega (arith, ints)

at_most-met : (n : ℕ) (e : Edge) (s : List ℤ) (v k : ℤ) → EdgeHolds n e s v → (v +ℤ k) ≤ℤ pos 0 → AllMet (at_most e k ∷ []) s
at_most-met n e s v k h l = (at_most-by e.is_double v e.constant k (difference s e.first e.second) h.value l, tt)

at_least-met : (n : ℕ) (e : Edge) (s : List ℤ) (v k : ℤ) → EdgeHolds n e s v → (k -ℤ v) ≤ℤ pos 0 → AllMet (at_least e k ∷ []) s
at_least-met n e s v k h l =
    (omega (arith, ints, at_least-by e.is_double v e.constant k (difference s e.first e.second) h.value l), tt)

if-met : (t : Bool) (e : Meet) (s : List ℤ) → (t ≡ true → AllMet (e ∷ []) s) → AllMet (one_if t e) s
if-met true e s h = h refl
if-met false e s h = tt

both-met : (t u : Bool) (e f : Meet) (s : List ℤ) → AllMet (one_if t e) s → AllMet (one_if u f) s → AllMet (one_if t e ++ one_if u f) s
both-met true u e f s h k = (h.0, k)
both-met false u e f s h k = k

low-tells : (v l h : ℤ) → l ≤ℤ v → int_eq l (pos 0) ≡ true → (int_eq v (pos 0) ≡ false) → (pos 1 -ℤ v) ≤ℤ pos 0
low-tells v l h i e f = grind (arith, ints)

high-tells : (v h : ℤ) → v ≤ℤ h → int_eq h (pos 0) ≡ true → (int_eq v (pos 0) ≡ false) → (v +ℤ pos 1) ≤ℤ pos 0
high-tells v h i e f = grind (arith, ints)

lt-tells : (v : ℤ) → holds_between Lt v (pos 0) ≡ true → (v +ℤ pos 1) ≤ℤ pos 0
lt-tells v e = grind (arith, ints)

le-tells : (v : ℤ) → holds_between Le v (pos 0) ≡ true → (v +ℤ pos 0) ≤ℤ pos 0
le-tells v e = grind (arith, ints)

gt-tells : (v : ℤ) → holds_between Gt v (pos 0) ≡ true → (pos 1 -ℤ v) ≤ℤ pos 0
gt-tells v e = grind (arith, ints)

ge-tells : (v : ℤ) → holds_between Ge v (pos 0) ≡ true → (pos 0 -ℤ v) ≤ℤ pos 0
ge-tells v e = grind (arith, ints)

eq-tells : (v : ℤ) → holds_between Eq v (pos 0) ≡ true → v ≡ pos 0
eq-tells v e = grind (arith, ints)

ne-tells : (v : ℤ) → holds_between Ne v (pos 0) ≡ true → int_eq v (pos 0) ≡ false
ne-tells v e = grind (arith, ints)

-- a store at which the comparison holds meets what is met for it
pub compared-met : (n : ℕ) (e : Edge) (op : Compare) (r : Range) (s : List ℤ) (v : ℤ) → EdgeHolds n e s v → Within v r → holds_between op v (pos 0) ≡ true → AllMet (compared e op r) s
compared-met n e Lt r s v h w f = at_most-met n e s v (pos 1) h (lt-tells v f)
compared-met n e Le r s v h w f = at_most-met n e s v (pos 0) h (le-tells v f)
compared-met n e Gt r s v h w f = at_least-met n e s v (pos 1) h (gt-tells v f)
compared-met n e Ge r s v h w f = at_least-met n e s v (pos 0) h (ge-tells v f)
compared-met n e Eq r s v h w f =
    ((at_most-met n e s v (pos 0) h (omega (arith, ints, eq-tells v f))).0, at_least-met n e s v (pos 0) h (omega (arith, ints, eq-tells v f)))
compared-met n e Ne r s v h w f =
    both-met (int_eq r.low (pos 0)) (int_eq r.high (pos 0)) (at_least e (pos 1)) (at_most e (pos 1)) s
    (if-met (int_eq r.low (pos 0)) (at_least e (pos 1)) s (λ g. at_least-met n e s v (pos 1) h (low-tells v r.low r.high w.low g (ne-tells v f))))
    (if-met (int_eq r.high (pos 0)) (at_most e (pos 1)) s (λ g. at_most-met n e s v (pos 1) h (high-tells v r.high w.high g (ne-tells v f))))

both-meets : (n : ℕ) (t u : Bool) (e f : Meet) → AreMeets n (e ∷ f ∷ []) → AreMeets n (one_if t e ++ one_if u f)
both-meets n true true e f h = h
both-meets n true false e f h = (h.0, tt)
both-meets n false true e f h = h.1
both-meets n false false e f h = tt

pub compared-meets : (n : ℕ) (e : Edge) (op : Compare) (r : Range) → IsEdge n e → AreMeets n (compared e op r)
compared-meets n e op r h = by_op op
  where
    there : AreMeets n (at_most e (pos 0) ∷ [])
    there = (record { first = h.first; second = h.second; apart = h.apart }, tt)

    back : AreMeets n (at_least e (pos 0) ∷ [])
    back = (record { first = h.second; second = h.first; apart = λ g. h.apart (sym g) }, tt)

    more : AreMeets n (at_most e (pos 1) ∷ [])
    more = (record { first = h.first; second = h.second; apart = h.apart }, tt)

    less : AreMeets n (at_least e (pos 1) ∷ [])
    less = (record { first = h.second; second = h.first; apart = λ g. h.apart (sym g) }, tt)

    by_op : (q : Compare) → AreMeets n (compared e q r)
    by_op Lt = more
    by_op Le = there
    by_op Gt = less
    by_op Ge = back
    by_op Eq = (there.0, back)
    by_op Ne = both-meets n (int_eq r.low (pos 0)) (int_eq r.high (pos 0)) (at_least e (pos 1)) (at_most e (pos 1)) (less.0, more)
