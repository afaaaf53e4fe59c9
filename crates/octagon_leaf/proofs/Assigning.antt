-- A best matrix with one variable put as any number of a range is best by one sweep.
use Rattle.std.proofs.Common.{◌≡◌, ◌≢◌, ◌⊎◌, inl, inr, ℕ, ◌*◌, ◌/◌, ◌%◌, ◌<◌, ℤ, pos, neg_ℤ, ◌-ℤ◌, ◌*ℤ◌, ◌≤ℤ◌, Bool, true, false, ◌||◌, nat_eq, if◌then◌else◌, List, slice_set, length, refl, sym, ◌∙◌, ap, subst, arith}
use Rattle.std.proofs.lemmas.Int.{ints}
use Rattle.std.proofs.lemmas.Bool.Decides.{nat_tests, eqb_tells}
use Rattle.leaf_domain.specs.declared.range.Range.{Range}
use Rattle.leaf_domain.specs.Ranges.{Within, IsInInt, is_empty_range}
use Rattle.octagon_matrix.specs.Terms.{opposite}
use Rattle.octagon_matrix.specs.Matrices.{MatrixValue, entry_of, IsMatrix}
use Rattle.octagon_matrix.specs.Stores.{value_at, term_value, Holds}
use Rattle.octagon_matrix.proofs.Terms.{opposite-opposite, opposite-below, opposite-half, of_one}
use Rattle.octagon_matrix.proofs.Stores.{term-opposite}
use Rattle.octagon_closure.specs.Best.{Reaches, IsBest}
use Rattle.octagon_closure.specs.Sweeps.{half}
use Rattle.octagon_closure.proofs.HalfNumbers.{half-below, half-above}
use Rattle.octagon_leaf.specs.Greatest.{matrix_of, difference}
use Rattle.octagon_leaf.specs.Shapes.{between}
use Rattle.octagon_leaf.specs.Octagons.{met_all, dropped, has_variable}
use Rattle.octagon_leaf.specs.Filling.{greatest_set, set_entry}
use Rattle.octagon_leaf.specs.Laws.Best.{of-entry, IsBounded}
use Rattle.octagon_leaf.specs.Laws.Meets.{bounded-kept, bounded-all, variables-all, AllMet, all-holds, holds-all}
use Rattle.octagon_leaf.specs.Laws.Terms.{bounded-dropped, dropped-holds, holds-dropped, set-own, set-other}
use Rattle.octagon_leaf.specs.Laws.OctagonLaws.{between-meets, set-met, within-int, plus-difference, minus-difference}

abbrev pub SetMatrix : MatrixValue → ℕ → Range → MatrixValue
SetMatrix m x r = met_all (dropped m x) (between x r)

pub set-bounded : (m : MatrixValue) (x : ℕ) (r : Range) → IsMatrix m → IsBounded (SetMatrix m x r)
set-bounded m x r k = bounded-all (dropped m x) (between x r) (bounded-dropped m x (bounded-kept m k))

-- ---- the stores
half-low : (v l : ℤ) → (neg_ℤ v -ℤ neg_ℤ (neg_ℤ v)) ≤ℤ neg_ℤ (pos 2 *ℤ l) → l ≤ℤ v
half-low v l h = omega (arith, ints)

half-high : (v h : ℤ) → (v -ℤ neg_ℤ v) ≤ℤ (pos 2 *ℤ h) → v ≤ℤ h
half-high v h i = omega (arith, ints)

pub met-within : (x : ℕ) (r : Range) (s : List ℤ) → AllMet (between x r) s → Within (value_at s x) r
met-within x r s a = record {
  low = half-low (value_at s x) r.low (rw (minus-difference s x) at (a.1.0));
  high = half-high (value_at s x) r.high (rw (plus-difference s x) at (a.0));
}

holds-set : (m : MatrixValue) (x : ℕ) (r : Range) (s : List ℤ) → IsMatrix m → x < m.variables → Holds (SetMatrix m x r) s → Holds (dropped m x) s × AllMet (between x r) s
holds-set m x r s k l h = holds-all (dropped m x) (between x r) s (bounded-dropped m x (bounded-kept m k)) (between-meets m.variables x r l) h

set-holds : (m : MatrixValue) (x : ℕ) (r : Range) (s : List ℤ) (v : ℤ) → IsMatrix m → x < m.variables → IsInInt r → Within v r → Holds m s → Holds (SetMatrix m x r) (slice_set s x v)
set-holds m x r s v k l i w h =
    all-holds (dropped m x) (between x r) (slice_set s x v) (bounded-dropped m x (bounded-kept m k)) (between-meets m.variables x r l)
    (dropped-holds m s x v (bounded-kept m k) h l (within-int v r i w)) (set-met m.variables x r s v h.size l w)

-- ---- the greatest value of each term
same-variable : (x a : ℕ) → has_variable x a ≡ true → a / 2 ≡ x
same-variable x a e = grind (arith, nat_tests)

opposite-variable : (x a : ℕ) (t : Bool) → has_variable x a ≡ t → has_variable x (opposite a) ≡ t
opposite-variable x a t e = rw (opposite-half a) e

double-term : (s : List ℤ) (a : ℕ) (d : ℤ) → difference s a (opposite a) ≤ℤ d → term_value s a ≤ℤ half d
double-term s a d h = omega (arith, ints, term-opposite s a, half-above d)

term-within : (v l h : ℤ) (q : Bool) → l ≤ℤ v → v ≤ℤ h → (if q then v else neg_ℤ v) ≤ℤ (if q then h else neg_ℤ l)
term-within v l h true i j = j
term-within v l h false i j = omega (arith, ints)

greatest-by : (m : MatrixValue) (x : ℕ) (r : Range) (s : List ℤ) (a : ℕ) (t : Bool) → has_variable x a ≡ t → IsMatrix m → x < m.variables → a < 2 * m.variables → Holds (dropped m x) s → Within (value_at s x) r → term_value s a ≤ℤ greatest_set m x r a
greatest-by m x r s a true e k l j h w =
    let P : ℕ → Type 0 = λ y. (if nat_eq (a % 2) 0 then value_at s y else neg_ℤ (value_at s y)) ≤ℤ (if nat_eq (a % 2) 0 then r.high else neg_ℤ r.low) in
    rw (e) (subst P (sym (same-variable x a e)) (term-within (value_at s x) r.low r.high (nat_eq (a % 2) 0) w.low w.high))
greatest-by m x r s a false e k l j h w =
    rw (e) (double-term s a (entry_of m a (opposite a)) (holds-dropped m s x a (opposite a) h j (opposite-below m.variables a j) e (opposite-variable x a false e)))

greatest-most : (m : MatrixValue) (x : ℕ) (r : Range) (s : List ℤ) (a : ℕ) → IsMatrix m → x < m.variables → a < 2 * m.variables → Holds (dropped m x) s → Within (value_at s x) r → term_value s a ≤ℤ greatest_set m x r a
greatest-most m x r s a k l j h w = greatest-by m x r s a (has_variable x a) refl k l j h w

-- ---- no difference is greater
test-either : (p q : Bool) → ((p || q) ≡ true) ⊎ ((p ≡ false) × (q ≡ false))
test-either true q = inl refl
test-either false true = inl refl
test-either false false = inr (refl, refl)

most-by : (m : MatrixValue) (x : ℕ) (r : Range) (s : List ℤ) (a b : ℕ) → IsMatrix m → x < m.variables → a < 2 * m.variables → b < 2 * m.variables → Holds (dropped m x) s → Within (value_at s x) r
    → ((nat_eq a b ≡ true) × (a ≡ b)) ⊎ ((nat_eq a b ≡ false) × (a ≢ b)) → ((has_variable x a || has_variable x b) ≡ true) ⊎ ((has_variable x a ≡ false) × (has_variable x b ≡ false)) → difference s a b ≤ℤ set_entry m x r a b
most-by m x r s a b k l i j h w (inl e) t = rw (e.0) (let P : ℕ → Type 0 = λ d. difference s a d ≤ℤ pos 0 in subst P (e.1) (omega (arith, ints)))
most-by m x r s a b k l i j h w (inr e) (inl t) =
    rw (e.0, t)
    (omega (arith, ints, greatest-most m x r s a k l i h w, greatest-most m x r s (opposite b) k l (opposite-below m.variables b j) h w, term-opposite s b))
most-by m x r s a b k l i j h w (inr e) (inr t) = rw (e.0, t.0, t.1) (holds-dropped m s x a b h i j (t.0) (t.1))

-- ---- each is reached
-- the end of the range at which the term is greatest
abbrev extreme : Range → ℕ → ℤ
extreme r a = if nat_eq (a % 2) 0 then r.high else r.low

extreme-by : (r : Range) (q : Bool) → is_empty_range r ≡ false → Within (if q then r.high else r.low) r
extreme-by r true e = record { low = grind (arith, ints); high = omega (arith, ints) }
extreme-by r false e = record { low = omega (arith, ints); high = grind (arith, ints) }

signed-by : (h l : ℤ) (q : Bool) → (if q then (if q then h else l) else neg_ℤ (if q then h else l)) ≡ (if q then h else neg_ℤ l)
signed-by h l true = refl
signed-by h l false = refl

own-greatest : (m : MatrixValue) (x : ℕ) (r : Range) (s : List ℤ) (a : ℕ) → length s ≡ m.variables → x < m.variables → has_variable x a ≡ true → term_value (slice_set s x (extreme r a)) a ≡ greatest_set m x r a
own-greatest m x r s a e l f = set-own m.variables s x a (extreme r a) e l f ∙ (signed-by r.high r.low (nat_eq (a % 2) 0) ∙ rw (f) refl)

bound-exact : (v w d : ℤ) → w ≡ neg_ℤ v → v -ℤ w ≡ d → v ≡ half d
bound-exact v w d e f = omega (arith, ints, half-above d, half-below d)

-- a store at which a term of another variable is greatest
record Greatest (m : MatrixValue) (x : ℕ) (r : Range) (a : ℕ) : Type 0 where
  store : List ℤ
  holds : Holds m store
  reached : term_value store a ≡ greatest_set m x r a

other-greatest : (m : MatrixValue) (x : ℕ) (r : Range) (a : ℕ) → IsBest m m → a < 2 * m.variables → has_variable x a ≡ false → Greatest m x r a
other-greatest m x r a q j f =
    let t : Reaches m a (opposite a) (entry_of m a (opposite a)) = q.reached a (opposite a) j (opposite-below m.variables a j) in
    record { store = t.store; holds = t.holds; reached = bound-exact (term_value t.store a) (term_value t.store (opposite a)) (entry_of m a (opposite a)) (term-opposite t.store a) t.reached ∙ rw (f) refl }

-- a store at which two terms are greatest at once
reached-by : (m : MatrixValue) (x : ℕ) (r : Range) (a c : ℕ) (t u : Bool) → has_variable x a ≡ t → has_variable x c ≡ u → (t || u) ≡ true → (t ≡ true → u ≡ true → c ≡ a) → IsMatrix m → IsBest m m → x < m.variables → IsInInt r → is_empty_range r ≡ false → a < 2 * m.variables → c < 2 * m.variables
    → (s : List ℤ) × Holds (SetMatrix m x r) s × (term_value s a ≡ greatest_set m x r a) × (term_value s c ≡ greatest_set m x r c)
reached-by m x r a c true true e f o d k q l i z h j =
    let s : List ℤ = q.met.0 in
    let u : List ℤ = slice_set s x (extreme r a) in
    let g : term_value u a ≡ greatest_set m x r a = own-greatest m x r s a q.met.1.size l e in
    let P : ℕ → Type 0 = λ b. term_value u b ≡ greatest_set m x r b in
    (u, set-holds m x r s (extreme r a) k l i (extreme-by r (nat_eq (a % 2) 0) z) q.met.1, g, subst P (sym (d refl refl)) g)
reached-by m x r a c true false e f o d k q l i z h j =
    let w : Greatest m x r c = other-greatest m x r c q j f in
    let u : List ℤ = slice_set w.store x (extreme r a) in
    (u, set-holds m x r w.store (extreme r a) k l i (extreme-by r (nat_eq (a % 2) 0) z) w.holds, own-greatest m x r w.store a w.holds.size l e, set-other m.variables w.store x c (extreme r a) w.holds.size l f ∙ w.reached)
reached-by m x r a c false true e f o d k q l i z h j =
    let w : Greatest m x r a = other-greatest m x r a q h e in
    let u : List ℤ = slice_set w.store x (extreme r c) in
    (u, set-holds m x r w.store (extreme r c) k l i (extreme-by r (nat_eq (c % 2) 0) z) w.holds, set-other m.variables w.store x a (extreme r c) w.holds.size l e ∙ w.reached, own-greatest m x r w.store c w.holds.size l f)
reached-by m x r a c false false e f o d k q l i z h j = cc

-- two terms of the variable
same-own : (x a b : ℕ) → a ≢ b → has_variable x a ≡ true → has_variable x (opposite b) ≡ true → opposite b ≡ a
same-own x a b h e f =
    let g : b / 2 ≡ a / 2 = sym (opposite-half b) ∙ (same-variable x (opposite b) f ∙ sym (same-variable x a e)) in
    ap opposite (of_one a b h g) ∙ opposite-opposite a

entry-by : (m : MatrixValue) (x : ℕ) (r : Range) (a b : ℕ) → IsMatrix m → IsBest m m → x < m.variables → IsInInt r → is_empty_range r ≡ false → a < 2 * m.variables → b < 2 * m.variables
    → ((nat_eq a b ≡ true) × (a ≡ b)) ⊎ ((nat_eq a b ≡ false) × (a ≢ b)) → ((has_variable x a || has_variable x b) ≡ true) ⊎ ((has_variable x a ≡ false) × (has_variable x b ≡ false)) → Reaches (SetMatrix m x r) a b (set_entry m x r a b)
entry-by m x r a b k q l i z h j (inl e) t =
    let s : List ℤ = q.met.0 in
    let P : ℕ → Type 0 = λ d. difference (slice_set s x (extreme r a)) a d ≡ pos 0 in
    rw (e.0) (record { store = slice_set s x (extreme r a); holds = set-holds m x r s (extreme r a) k l i (extreme-by r (nat_eq (a % 2) 0) z) q.met.1; reached = subst P (e.1) (omega (arith, ints)) })
entry-by m x r a b k q l i z h j (inr e) (inl t) =
    let o : (has_variable x a || has_variable x (opposite b)) ≡ true = rw (opposite-half b) t in
    let (s, u, v, w) = reached-by m x r a (opposite b) (has_variable x a) (has_variable x (opposite b)) refl refl o (λ f g. same-own x a b (e.1) f g) k q l i z h (opposite-below m.variables b j) in
    rw (e.0, t) (record { store = s; holds = u; reached = omega (arith, ints, v, w, term-opposite s b) })
entry-by m x r a b k q l i z h j (inr e) (inr t) =
    let g : Reaches m a b (entry_of m a b) = q.reached a b h j in
    let v : ℤ = extreme r 0 in
    rw (e.0, t.0, t.1)
    (record {
      store = slice_set g.store x v;
      holds = set-holds m x r g.store v k l i (extreme-by r true z) g.holds;
      reached = rw (set-other m.variables g.store x a v g.holds.size l (t.0), set-other m.variables g.store x b v g.holds.size l (t.1)) g.reached;
    })

pub set-best : (m : MatrixValue) (x : ℕ) (r : Range) → IsMatrix m → IsBest m m → x < m.variables → IsInInt r → is_empty_range r ≡ false → IsBest (SetMatrix m x r) (matrix_of m.variables (set_entry m x r))
set-best m x r k q l i z =
    let n : ℕ = m.variables in
    let e : (SetMatrix m x r).variables ≡ n = variables-all (dropped m x) (between x r) in
    record {
      variables = sym e;
      most = λ s a b h c d.
          let u : Holds (dropped m x) s × AllMet (between x r) s = holds-set m x r s k l h in
          rw (of-entry n (set_entry m x r) a b c d) (most-by m x r s a b k l c d u.0 (met-within x r s u.1) (eqb_tells a b) (test-either (has_variable x a) (has_variable x b)));
      reached = λ a b c d. rw (of-entry n (set_entry m x r) a b c d) (entry-by m x r a b k q l i z c d (eqb_tells a b) (test-either (has_variable x a) (has_variable x b)));
      met = (slice_set q.met.0 x r.high, set-holds m x r q.met.0 r.high k l i (extreme-by r true z) q.met.1);
    }
