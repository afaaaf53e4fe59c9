-- Matrices that operations describe, and the stores that meet them.
use Rattle.std.proofs.Common.{◌≡◌, ◌⊎◌, inl, inr, ℕ, suc, ◌+◌, ◌*◌, ◌<◌, ◌≤◌, ℤ, pos, neg_ℤ, ◌-ℤ◌, ◌≤ℤ◌, int_le, Bool, true, false, nat_eq, ◌%◌, List, [], ◌∷◌, All, length, refl, sym, ◌∙◌, ap, arith, if◌then◌else◌}
use Rattle.std.specs.Int.{int_max}
use Rattle.std.proofs.lemmas.Int.{ints, clamps}
use Rattle.std.proofs.lemmas.Bool.Decides.{nat_tests}
use Rattle.c_tree.specs.Value.{IsInt}
use Rattle.leaf_domain.specs.declared.thresholds.Multiple.TheVariants.{One, Two, MinusTwo}
use Rattle.leaf_domain.specs.Thresholds.{nearest, is_step}
use Rattle.leaf_domain.proofs.ThresholdLemmas.{nearest_covers, nearest_below}
use Rattle.octagon_matrix.specs.Terms.{opposite, type_bound}
use Rattle.octagon_matrix.specs.Matrices.{MatrixValue, entry_of, IsMatrix}
use Rattle.octagon_matrix.specs.Stores.{value_at, IsStore, Holds}
use Rattle.octagon_matrix.proofs.Cells.{table-size}
use Rattle.octagon_matrix.proofs.Terms.{opposite-below, type_bound-twin}
use Rattle.octagon_closure.specs.Best.{Reaches, IsBest}
use Rattle.octagon_leaf.specs.Greatest.{matrix_of, difference}
use Rattle.octagon_leaf.specs.Octagons.{least_entry, greater, multiple_of, steps_of, widened, narrowed}
use Rattle.octagon_leaf.specs.Filling.{IsFull}
use Rattle.octagon_leaf.specs.Laws.Best.{of-entry, of-holds, of-bounds, IsBounded, store-below, best-kept, type_bound-same}
use Rattle.octagon_leaf.specs.Laws.Terms.{plus-value, minus-value}

-- ---- full entries make a matrix
pub full-kept : (n : ℕ) (f : ℕ → ℕ → ℤ) → n ≤ 48 → IsFull n f → ((a b : ℕ) → a < 2 * n → b < 2 * n → least_entry ≤ℤ f a b) → IsMatrix (matrix_of n f)
full-kept n f l u g = record {
  few = l;
  size = table-size (2 * n) f;
  zero_diagonal = λ a h. of-entry n f a a h h ∙ (u.diagonal a h ∙ type_bound-same a);
  coherent = λ a b h k. of-entry n f (opposite b) (opposite a) (opposite-below n b k) (opposite-below n a h) ∙ (u.coherent a b h k ∙ sym (of-entry n f a b h k));
  least = λ a b h k. rw (of-entry n f a b h k) (g a b h k);
  most = λ a b h k. rw (of-entry n f a b h k) (u.most a b h k);
}

pub kept-full : (n : ℕ) (f : ℕ → ℕ → ℤ) → IsMatrix (matrix_of n f) → IsFull n f
kept-full n f k = record {
  diagonal = λ a h. sym (of-entry n f a a h h) ∙ (k.zero_diagonal a h ∙ sym (type_bound-same a));
  coherent = λ a b h i. sym (of-entry n f (opposite b) (opposite a) (opposite-below n b i) (opposite-below n a h)) ∙ (k.coherent a b h i ∙ of-entry n f a b h i);
  most = λ a b h i. rw (of-entry n f a b h i) at (k.most a b h i);
}

pub bounded-by : (n : ℕ) (f : ℕ → ℕ → ℤ) → n ≤ 48 → ((a b : ℕ) → a < 2 * n → b < 2 * n → f a b ≤ℤ type_bound a b) → IsBounded (matrix_of n f)
bounded-by n f l h = record { few = l; most = λ a b i j. rw (of-entry n f a b i j) (h a b i j) }

-- ---- the differences at one store
same-list : (s t : List ℤ) → length t ≡ length s → ((x : ℕ) → x < length s → value_at t x ≡ value_at s x) → t ≡ s
same-list [] [] e h = refl
same-list [] (m ∷ t) e h = absurd (omega arith)
same-list (n ∷ s) [] e h = absurd (omega arith)
same-list (n ∷ s) (m ∷ t) e h =
    let f : m ≡ n = h 0 (omega arith) in ap (λ x. x ∷ t) f ∙ ap (λ x. n ∷ x) (same-list s t (omega arith) (λ x l. h (suc x) (omega arith)))

doubles-same : (p q : ℤ) → (p -ℤ neg_ℤ p) ≤ℤ (q -ℤ neg_ℤ q) → (neg_ℤ p -ℤ p) ≤ℤ (neg_ℤ q -ℤ q) → p ≡ q
doubles-same p q h k = omega (arith, ints)

pub start-alone : (s t : List ℤ) → Holds (matrix_of (length s) (difference s)) t → t ≡ s
start-alone s t h = same-list s t h.size (λ x l.
    let i : 2 * x < 2 * length s = omega arith in
    let j : 2 * x + 1 < 2 * length s = omega arith in
    let u : difference t (2 * x) (2 * x + 1) ≤ℤ difference s (2 * x) (2 * x + 1) = of-bounds (length s) (difference s) t (2 * x) (2 * x + 1) h i j in
    let v : difference t (2 * x + 1) (2 * x) ≤ℤ difference s (2 * x + 1) (2 * x) = of-bounds (length s) (difference s) t (2 * x + 1) (2 * x) h j i in
    doubles-same (value_at t x) (value_at s x) (rw (plus-value t x, minus-value t x, plus-value s x, minus-value s x) at u) (rw (plus-value t x, minus-value t x, plus-value s x, minus-value s x) at v))

pub start-itself : (s : List ℤ) → Holds (matrix_of (length s) (difference s)) s
start-itself s = of-holds (length s) (difference s) s refl (λ a b i j. omega (arith, ints))

pub int-store : (s : List ℤ) → All IsInt s → IsStore (length s) s
int-store s h = record { size = refl; least = λ x l. omega (arith, ints, (h x (pos 0) l).low); most = λ x l. omega (arith, ints, (h x (pos 0) l).high) }

pub start-bounded : (s : List ℤ) → length s ≤ 48 → All IsInt s → IsBounded (matrix_of (length s) (difference s))
start-bounded s l h = bounded-by (length s) (difference s) l (λ a b i j. store-below (length s) s a b (int-store s h) i j)

pub start-best : (s : List ℤ) → IsBest (matrix_of (length s) (difference s)) (matrix_of (length s) (difference s))
start-best s = record {
  variables = refl;
  most = λ t a b h i j. h.bounds a b i j;
  reached = λ a b i j. record { store = s; holds = start-itself s; reached = sym (of-entry (length s) (difference s) a b i j) };
  met = (s, start-itself s);
}

pub start-kept : (s : List ℤ) → length s ≤ 48 → All IsInt s → IsMatrix (matrix_of (length s) (difference s))
start-kept s l h = best-kept (matrix_of (length s) (difference s)) (matrix_of (length s) (difference s)) (start-bounded s l h) (start-best s) (table-size (2 * length s) (difference s))

-- ---- the greater of two best matrices' entries
pub greater-bounded : (x y : MatrixValue) → IsMatrix x → IsMatrix y → y.variables ≡ x.variables → IsBounded (matrix_of x.variables (greater x y))
greater-bounded x y p q e = bounded-by x.variables (greater x y) p.few (λ a b i j. omega (arith, ints, clamps, p.most a b i j, q.most a b (rw e i) (rw e j)))

pub greater-first : (x y : MatrixValue) (s : List ℤ) → Holds x s → Holds (matrix_of x.variables (greater x y)) s
greater-first x y s h = of-holds x.variables (greater x y) s h.size (λ a b i j. omega (arith, ints, clamps, h.bounds a b i j))

pub greater-second : (x y : MatrixValue) (s : List ℤ) → y.variables ≡ x.variables → Holds y s → Holds (matrix_of x.variables (greater x y)) s
greater-second x y s e h = of-holds x.variables (greater x y) s (h.size ∙ e) (λ a b i j. omega (arith, ints, clamps, h.bounds a b (rw e i) (rw e j)))

greater_is : (p q : ℤ) → (int_max p q ≡ p) ⊎ (int_max p q ≡ q)
greater_is p q = grind (arith, ints, clamps)

-- each is reached by a store of the one or the other, so they are best
pub greater-best : (x y : MatrixValue) → IsBest x x → IsBest y y → y.variables ≡ x.variables → IsBest (matrix_of x.variables (greater x y)) (matrix_of x.variables (greater x y))
greater-best x y p q e = record {
  variables = refl;
  most = λ t a b h i j. h.bounds a b i j;
  reached = λ a b i j.
      let f : entry_of (matrix_of x.variables (greater x y)) a b ≡ int_max (entry_of x a b) (entry_of y a b) = of-entry x.variables (greater x y) a b i j in
      elim (greater_is (entry_of x a b) (entry_of y a b)) [
        | inl g ↦
            let r : Reaches x a b (entry_of x a b) = p.reached a b i j in
            record { store = r.store; holds = greater-first x y r.store r.holds; reached = r.reached ∙ sym (f ∙ g) }
        | inr g ↦
            let r : Reaches y a b (entry_of y a b) = q.reached a b (rw e i) (rw e j) in
            record { store = r.store; holds = greater-second x y r.store e r.holds; reached = r.reached ∙ sym (f ∙ g) }
      ];
  met = (p.met.0, greater-first x y p.met.0 p.met.1);
}

-- ---- widening and narrowing
multiple_by : (d e i j : Bool) → d ≡ e → (e ≡ true → i ≡ j) → (if d then (if i then Two else MinusTwo) else One) ≡ (if e then (if j then Two else MinusTwo) else One)
multiple_by d true i j h k = rw (h, k refl) refl
multiple_by d false i j h k = rw h refl

twin_test : (a b : ℕ) → nat_eq (opposite a) (opposite (opposite b)) ≡ nat_eq b (opposite a)
unfolding opposite
twin_test a b = grind (arith, nat_tests)

twin_sign : (a b : ℕ) → nat_eq b (opposite a) ≡ true → nat_eq (opposite b % 2) 0 ≡ nat_eq (a % 2) 0
unfolding opposite
twin_sign a b e = grind (arith, nat_tests)

-- coherent entries bound the same
pub multiple-twin : (a b : ℕ) → multiple_of (opposite b) (opposite a) ≡ multiple_of a b
multiple-twin a b = multiple_by (nat_eq (opposite a) (opposite (opposite b))) (nat_eq b (opposite a)) (nat_eq (opposite b % 2) 0) (nat_eq (a % 2) 0) (twin_test a b) (twin_sign a b)

-- an entry that steps: at least both, and at most the type's bound
widened_by : (k o n t : ℤ) (b : Bool) → int_le k o ≡ b → k ≤ℤ n → n ≤ℤ t → o ≤ℤ t → (o ≤ℤ (if b then o else n)) × (k ≤ℤ (if b then o else n)) × ((if b then o else n) ≤ℤ t)
widened_by k o n t true e h i j = (omega (arith, ints), omega (arith, ints, e), j)
widened_by k o n t false e h i j = (omega (arith, ints, e, h), h, i)

pub widened-ends : (ts : List ℤ) (x g : MatrixValue) (a b : ℕ) → IsMatrix x → IsMatrix g → x.variables ≡ g.variables → a < 2 * x.variables → b < 2 * x.variables
    → (entry_of x a b ≤ℤ widened ts x g a b) × (entry_of g a b ≤ℤ widened ts x g a b) × (widened ts x g a b ≤ℤ type_bound a b)
widened-ends ts x g a b p q e h k =
    let m : entry_of g a b ≤ℤ type_bound a b = q.most a b (rw (← e) h) (rw (← e) k) in
    widened_by (entry_of g a b) (entry_of x a b) (nearest (type_bound a b) (steps_of ts a b) (entry_of g a b)) (type_bound a b) (int_le (entry_of g a b) (entry_of x a b)) refl
    (nearest_covers (type_bound a b) (steps_of ts a b) (entry_of g a b) m) (nearest_below (type_bound a b) (steps_of ts a b) (entry_of g a b)) (p.most a b h k)

same-choice : (k o n k' o' n' : ℤ) → k' ≡ k → o' ≡ o → n' ≡ n → (if int_le k' o' then o' else n') ≡ (if int_le k o then o else n)
same-choice k o n k' o' n' e f g = rw (e, f, g) refl

same-step : (ts : List ℤ) (a b : ℕ) (k k' : ℤ) → k' ≡ k → nearest (type_bound (opposite b) (opposite a)) (steps_of ts (opposite b) (opposite a)) k' ≡ nearest (type_bound a b) (steps_of ts a b) k
same-step ts a b k k' e = rw (type_bound-twin a b, multiple-twin a b, e) refl

choice-same : (k o n t : ℤ) → k ≡ t → o ≡ t → (if int_le k o then o else n) ≡ t
choice-same k o n t e f = grind (arith, ints)

pub widened-full : (ts : List ℤ) (x g : MatrixValue) → IsMatrix x → IsMatrix g → x.variables ≡ g.variables → IsFull x.variables (widened ts x g)
widened-full ts x g p q e = record {
  diagonal = λ a h. choice-same (entry_of g a a) (entry_of x a a) (nearest (type_bound a a) (steps_of ts a a) (entry_of g a a)) (type_bound a a) (q.zero_diagonal a (rw (← e) h) ∙ sym (type_bound-same a)) (p.zero_diagonal a h ∙ sym (type_bound-same a));
  coherent = λ a b h k.
      let c : entry_of g (opposite b) (opposite a) ≡ entry_of g a b = q.coherent a b (rw (← e) h) (rw (← e) k) in
      same-choice (entry_of g a b) (entry_of x a b) (nearest (type_bound a b) (steps_of ts a b) (entry_of g a b)) (entry_of g (opposite b) (opposite a)) (entry_of x (opposite b) (opposite a)) (nearest (type_bound (opposite b) (opposite a)) (steps_of ts (opposite b) (opposite a)) (entry_of g (opposite b) (opposite a)))
      c (p.coherent a b h k) (same-step ts a b (entry_of g a b) (entry_of g (opposite b) (opposite a)) c);
  most = λ a b h k. (widened-ends ts x g a b p q e h k).2;
}

pub widened-large : (ts : List ℤ) (x g : MatrixValue) (a b : ℕ) → IsMatrix x → IsMatrix g → x.variables ≡ g.variables → a < 2 * x.variables → b < 2 * x.variables → least_entry ≤ℤ widened ts x g a b
widened-large ts x g a b p q e h k = omega (arith, ints, p.least a b h k, (widened-ends ts x g a b p q e h k).0)

pub widened-kept : (ts : List ℤ) (x g : MatrixValue) → IsMatrix x → IsMatrix g → x.variables ≡ g.variables → IsMatrix (matrix_of x.variables (widened ts x g))
widened-kept ts x g p q e = full-kept x.variables (widened ts x g) p.few (widened-full ts x g p q e) (λ a b h k. widened-large ts x g a b p q e h k)

pub widened-first : (ts : List ℤ) (x g : MatrixValue) (s : List ℤ) → IsMatrix x → IsMatrix g → x.variables ≡ g.variables → Holds x s → Holds (matrix_of x.variables (widened ts x g)) s
widened-first ts x g s p q e o = of-holds x.variables (widened ts x g) s o.size (λ a b h k. omega (arith, ints, o.bounds a b h k, (widened-ends ts x g a b p q e h k).0))

pub widened-second : (ts : List ℤ) (x g : MatrixValue) (s : List ℤ) → IsMatrix x → IsMatrix g → x.variables ≡ g.variables → Holds g s → Holds (matrix_of x.variables (widened ts x g)) s
widened-second ts x g s p q e o =
    of-holds x.variables (widened ts x g) s (o.size ∙ sym e) (λ a b h k. omega (arith, ints, o.bounds a b (rw (← e) h) (rw (← e) k), (widened-ends ts x g a b p q e h k).1))

option_most : (k o t : ℤ) (b : Bool) → k ≤ℤ t → o ≤ℤ t → (if b then k else o) ≤ℤ t
option_most k o t true h i = h
option_most k o t false h i = i

option_least : (k o l : ℤ) (b : Bool) → l ≤ℤ k → l ≤ℤ o → l ≤ℤ (if b then k else o)
option_least k o l true h i = h
option_least k o l false h i = i

option_same : (k o t : ℤ) (b : Bool) → o ≡ t → k ≡ t → (if b then k else o) ≡ t
option_same k o t true e f = f
option_same k o t false e f = e

same-option : (k o k' o' : ℤ) (b b' : Bool) → k' ≡ k → o' ≡ o → b' ≡ b → (if b' then k' else o') ≡ (if b then k else o)
same-option k o k' o' b b' e f g = rw (e, f, g) refl

-- whether an entry may come of a step
abbrev stepped : List ℤ → MatrixValue → ℕ → ℕ → Bool
stepped ts x a b = is_step (type_bound a b) (steps_of ts a b) (entry_of x a b)

same-stepped : (ts : List ℤ) (x : MatrixValue) (a b : ℕ) → entry_of x (opposite b) (opposite a) ≡ entry_of x a b → stepped ts x (opposite b) (opposite a) ≡ stepped ts x a b
same-stepped ts x a b e = rw (type_bound-twin a b, multiple-twin a b, e) refl

pub narrowed-full : (ts : List ℤ) (x g : MatrixValue) → IsMatrix x → IsMatrix g → x.variables ≡ g.variables → IsFull x.variables (narrowed ts x g)
narrowed-full ts x g p q e = record {
  diagonal = λ a h. option_same (entry_of g a a) (entry_of x a a) (type_bound a a) (stepped ts x a a) (p.zero_diagonal a h ∙ sym (type_bound-same a)) (q.zero_diagonal a (rw (← e) h) ∙ sym (type_bound-same a));
  coherent = λ a b h k. same-option (entry_of g a b) (entry_of x a b) (entry_of g (opposite b) (opposite a)) (entry_of x (opposite b) (opposite a)) (stepped ts x a b) (stepped ts x (opposite b) (opposite a)) (q.coherent a b (rw (← e) h) (rw (← e) k)) (p.coherent a b h k) (same-stepped ts x a b (p.coherent a b h k));
  most = λ a b h k. option_most (entry_of g a b) (entry_of x a b) (type_bound a b) (stepped ts x a b) (q.most a b (rw (← e) h) (rw (← e) k)) (p.most a b h k);
}

pub narrowed-large : (ts : List ℤ) (x g : MatrixValue) (a b : ℕ) → IsMatrix x → IsMatrix g → x.variables ≡ g.variables → a < 2 * x.variables → b < 2 * x.variables → least_entry ≤ℤ narrowed ts x g a b
narrowed-large ts x g a b p q e h k = option_least (entry_of g a b) (entry_of x a b) least_entry (stepped ts x a b) (q.least a b (rw (← e) h) (rw (← e) k)) (p.least a b h k)

pub narrowed-kept : (ts : List ℤ) (x g : MatrixValue) → IsMatrix x → IsMatrix g → x.variables ≡ g.variables → IsMatrix (matrix_of x.variables (narrowed ts x g))
narrowed-kept ts x g p q e = full-kept x.variables (narrowed ts x g) p.few (narrowed-full ts x g p q e) (λ a b h k. narrowed-large ts x g a b p q e h k)

pub narrowed-holds : (ts : List ℤ) (x g : MatrixValue) (s : List ℤ) → x.variables ≡ g.variables → Holds x s → Holds g s → Holds (matrix_of x.variables (narrowed ts x g)) s
narrowed-holds ts x g s e o u =
    of-holds x.variables (narrowed ts x g) s o.size
    (λ a b h k. option_least (entry_of g a b) (entry_of x a b) (difference s a b) (stepped ts x a b) (u.bounds a b (rw (← e) h) (rw (← e) k)) (o.bounds a b h k))
