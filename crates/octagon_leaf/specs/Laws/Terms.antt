-- The values of terms, and stores with one variable replaced.
use Rattle.std.proofs.Common.{◌≡◌, ◌≢◌, ◌⊎◌, inl, inr, ℕ, ◌+◌, ◌-◌, ◌*◌, ◌/◌, ◌%◌, ◌^◌, ◌<◌, ℤ, pos, negsuc, neg_ℤ, ◌+ℤ◌, ◌-ℤ◌, ◌*ℤ◌, ◌≤ℤ◌, Bool, true, false, ◌||◌, nat_eq, List, length, slice_set, refl, sym, ◌∙◌, ap, subst, arith, if◌then◌else◌}
use Rattle.std.proofs.lemmas.Int.{ints, clamps}
use Rattle.std.proofs.lemmas.Bool.Decides.{eqb_tells}
use Rattle.std.proofs.lemmas.List.{get_or-set_same, get_or-set_other, length-set}
use Rattle.c_tree.specs.Value.{IsInt}
use Rattle.octagon_matrix.specs.Terms.{opposite, type_bound}
use Rattle.octagon_matrix.specs.Matrices.{MatrixValue, entry_of}
use Rattle.octagon_matrix.specs.Stores.{value_at, term_value, IsStore, Holds}
use Rattle.octagon_matrix.proofs.Terms.{type_bound-least}
use Rattle.octagon_matrix.proofs.Stores.{term-opposite}
use Rattle.octagon_leaf.specs.Greatest.{difference}
use Rattle.octagon_leaf.specs.Octagons.{has_variable, dropped_entry, dropped, sign_of, renamed, moved_entry, kept_entry, moved}
use Rattle.octagon_leaf.specs.Laws.Best.{of-entry, of-holds, IsBounded, bounded-store, store-below}

-- ---- the two terms of a variable
pub plus-value : (s : List ℤ) (x : ℕ) → term_value s (2 * x) ≡ value_at s x
plus-value s x = let e : 2 * x % 2 ≡ 0 = omega arith in let f : 2 * x / 2 ≡ x = omega arith in rw (e, f) refl

pub minus-value : (s : List ℤ) (x : ℕ) → term_value s (2 * x + 1) ≡ neg_ℤ (value_at s x)
minus-value s x = let e : (2 * x + 1) % 2 ≡ 1 = omega arith in let f : (2 * x + 1) / 2 ≡ x = omega arith in rw (e, f) refl

pub opposite-plus : (x : ℕ) → opposite (2 * x) ≡ 2 * x + 1
unfolding opposite
opposite-plus x = omega arith

pub opposite-minus : (x : ℕ) → opposite (2 * x + 1) ≡ 2 * x
unfolding opposite
opposite-minus x = omega arith

-- ---- a variable replaced
pub set-here : (n : ℕ) (s : List ℤ) (x : ℕ) (k : ℤ) → length s ≡ n → x < n → value_at (slice_set s x k) x ≡ k
set-here n s x k e h = get_or-set_same s x k (pos 0) (omega arith)

pub set-there : (s : List ℤ) (x y : ℕ) (k : ℤ) → y ≢ x → value_at (slice_set s x k) y ≡ value_at s y
set-there s x y k h = get_or-set_other s x y k (pos 0) h

pub set-length : (s : List ℤ) (x : ℕ) (k : ℤ) → length (slice_set s x k) ≡ length s
set-length s x k = length-set s x k

value-by : (n : ℕ) (s : List ℤ) (x y : ℕ) (k : ℤ) → length s ≡ n → x < n → ((nat_eq y x ≡ true) × (y ≡ x)) ⊎ ((nat_eq y x ≡ false) × (y ≢ x)) → value_at (slice_set s x k) y ≡ (if nat_eq y x then k else value_at s y)
value-by n s x y k e h (inl p) = rw (p.0) (let P : ℕ → Type 0 = λ z. value_at (slice_set s x k) z ≡ k in subst P (sym (p.1)) (set-here n s x k e h))
value-by n s x y k e h (inr p) = rw (p.0) (set-there s x y k (p.1))

pub set-value : (n : ℕ) (s : List ℤ) (x y : ℕ) (k : ℤ) → length s ≡ n → x < n → value_at (slice_set s x k) y ≡ (if nat_eq y x then k else value_at s y)
set-value n s x y k e h = value-by n s x y k e h (eqb_tells y x)

-- a term of another variable
pub set-other : (n : ℕ) (s : List ℤ) (x a : ℕ) (k : ℤ) → length s ≡ n → x < n → has_variable x a ≡ false → term_value (slice_set s x k) a ≡ term_value s a
set-other n s x a k e h f = let g : value_at (slice_set s x k) (a / 2) ≡ value_at s (a / 2) = set-value n s x (a / 2) k e h ∙ rw (f) refl in rw (g) refl

-- a term of the variable
pub set-own : (n : ℕ) (s : List ℤ) (x a : ℕ) (k : ℤ) → length s ≡ n → x < n → has_variable x a ≡ true → term_value (slice_set s x k) a ≡ (if nat_eq (a % 2) 0 then k else neg_ℤ k)
set-own n s x a k e h f = let g : value_at (slice_set s x k) (a / 2) ≡ k = set-value n s x (a / 2) k e h ∙ rw (f) refl in rw (g) refl

store-by : (t : Bool) (k v : ℤ) → IsInt k → neg_ℤ (pos (2 ^ 31)) ≤ℤ v → v ≤ℤ pos (2 ^ 31 - 1) → (neg_ℤ (pos (2 ^ 31)) ≤ℤ (if t then k else v)) × ((if t then k else v) ≤ℤ pos (2 ^ 31 - 1))
store-by true k v i g h = (omega (arith, ints, i.low), omega (arith, ints, i.high))
store-by false k v i g h = (g, h)

pub set-store : (n : ℕ) (s : List ℤ) (x : ℕ) (k : ℤ) → IsStore n s → x < n → IsInt k → IsStore n (slice_set s x k)
set-store n s x k o h i = record {
  size = set-length s x k ∙ o.size;
  least = λ y l. rw (set-value n s x y k o.size h) ((store-by (nat_eq y x) k (value_at s y) i (o.least y l) (o.most y l)).0);
  most = λ y l. rw (set-value n s x y k o.size h) ((store-by (nat_eq y x) k (value_at s y) i (o.least y l) (o.most y l)).1);
}

-- ---- entries without a variable
test-either : (p q : Bool) → ((p || q) ≡ true) ⊎ ((p ≡ false) × (q ≡ false))
test-either true q = inl refl
test-either false true = inl refl
test-either false false = inr (refl, refl)

dropped-by : (m : MatrixValue) (x a b : ℕ) → IsBounded m → a < 2 * m.variables → b < 2 * m.variables → ((has_variable x a || has_variable x b) ≡ true) ⊎ ((has_variable x a ≡ false) × (has_variable x b ≡ false)) → dropped_entry m x a b ≤ℤ type_bound a b
dropped-by m x a b p i j (inl e) = rw e (omega (arith, ints))
dropped-by m x a b p i j (inr e) = rw (e.0, e.1) (p.most a b i j)

pub bounded-dropped : (m : MatrixValue) (x : ℕ) → IsBounded m → IsBounded (dropped m x)
bounded-dropped m x p = record {
  few = p.few;
  most = λ a b i j. rw (of-entry m.variables (dropped_entry m x) a b i j) (dropped-by m x a b p i j (test-either (has_variable x a) (has_variable x b)));
}

dropped-set : (m : MatrixValue) (s : List ℤ) (x a b : ℕ) (k : ℤ) → Holds m s → IsStore m.variables (slice_set s x k) → x < m.variables → a < 2 * m.variables → b < 2 * m.variables
    → ((has_variable x a || has_variable x b) ≡ true) ⊎ ((has_variable x a ≡ false) × (has_variable x b ≡ false)) → difference (slice_set s x k) a b ≤ℤ dropped_entry m x a b
dropped-set m s x a b k h o l i j (inl e) = rw e (store-below m.variables (slice_set s x k) a b o i j)
dropped-set m s x a b k h o l i j (inr e) =
    rw (set-other m.variables s x a k h.size l (e.0), set-other m.variables s x b k h.size l (e.1), e.0, e.1) (h.bounds a b i j)

-- a store with the variable replaced meets the matrix without it
pub dropped-holds : (m : MatrixValue) (s : List ℤ) (x : ℕ) (k : ℤ) → IsBounded m → Holds m s → x < m.variables → IsInt k → Holds (dropped m x) (slice_set s x k)
dropped-holds m s x k p h l i =
    let o : IsStore m.variables (slice_set s x k) = set-store m.variables s x k (bounded-store m s p h) l i in
    of-holds m.variables (dropped_entry m x) (slice_set s x k) o.size (λ a b c d. dropped-set m s x a b k h o l c d (test-either (has_variable x a) (has_variable x b)))

-- and what meets the matrix without it meets each entry of other variables
pub holds-dropped : (m : MatrixValue) (s : List ℤ) (x a b : ℕ) → Holds (dropped m x) s → a < 2 * m.variables → b < 2 * m.variables → has_variable x a ≡ false → has_variable x b ≡ false → difference s a b ≤ℤ entry_of m a b
holds-dropped m s x a b h i j e f =
    let g : entry_of (dropped m x) a b ≡ entry_of m a b = of-entry m.variables (dropped_entry m x) a b i j ∙ rw (e, f) refl in rw (← g) (h.bounds a b i j)

-- ---- a variable moved
-- a term of the moved store is the renamed term of the old one, and the constant by its sign
term-by : (p q : Bool) (v c w t : ℤ) → v ≡ (if p then (if q then t +ℤ c else neg_ℤ (t +ℤ c)) else w) → v ≡ (if p then (if q then t else neg_ℤ t) else w) +ℤ (c *ℤ (if p then (if q then pos 1 else negsuc 0) else pos 0))
term-by true true v c w t e = rw e (omega (arith, ints))
term-by true false v c w t e = rw e (omega (arith, ints))
term-by false q v c w t e = rw e (omega (arith, ints))

renamed-by : (s : List ℤ) (x t a : ℕ) (p q : Bool) → has_variable x a ≡ p → nat_eq (a % 2) 0 ≡ q → term_value s (renamed x t a) ≡ (if p then (if q then term_value s t else neg_ℤ (term_value s t)) else term_value s a)
renamed-by s x t a true true e f = rw (e, f) refl
renamed-by s x t a true false e f = rw (e, f) (term-opposite s t)
renamed-by s x t a false q e f = rw (e) refl

set-by : (n : ℕ) (s : List ℤ) (x a : ℕ) (k : ℤ) (p q : Bool) → length s ≡ n → x < n → has_variable x a ≡ p → nat_eq (a % 2) 0 ≡ q → term_value (slice_set s x k) a ≡ (if p then (if q then k else neg_ℤ k) else term_value s a)
set-by n s x a k true q e h f g = set-own n s x a k e h f ∙ rw (g) refl
set-by n s x a k false q e h f g = set-other n s x a k e h f

pub moved-term : (n : ℕ) (s : List ℤ) (x t a : ℕ) (c : ℤ) → length s ≡ n → x < n → term_value (slice_set s x (term_value s t +ℤ c)) a ≡ term_value s (renamed x t a) +ℤ (c *ℤ sign_of x a)
moved-term n s x t a c e h =
    term-by (has_variable x a) (nat_eq (a % 2) 0) (term_value (slice_set s x (term_value s t +ℤ c)) a) c (term_value s a) (term_value s t)
    (set-by n s x a (term_value s t +ℤ c) (has_variable x a) (nat_eq (a % 2) 0) e h refl refl)
    ∙ ap (λ u. u +ℤ (c *ℤ sign_of x a)) (sym (renamed-by s x t a (has_variable x a) (nat_eq (a % 2) 0) refl refl))

abbrev sign_by : Bool → Bool → ℤ
sign_by i j = if i then (if j then pos 1 else negsuc 0) else pos 0

pub times_apart : (c : ℤ) (i j k l : Bool) → c *ℤ (sign_by i j -ℤ sign_by k l) ≡ (c *ℤ sign_by i j) -ℤ (c *ℤ sign_by k l)
times_apart c true true true true = omega (arith, ints)
times_apart c true true true false = omega (arith, ints)
times_apart c true true false l = omega (arith, ints)
times_apart c true false true true = omega (arith, ints)
times_apart c true false true false = omega (arith, ints)
times_apart c true false false l = omega (arith, ints)
times_apart c false j true true = omega (arith, ints)
times_apart c false j true false = omega (arith, ints)
times_apart c false j false l = omega (arith, ints)

difference-by : (u v w z c p q : ℤ) → c *ℤ (p -ℤ q) ≡ (c *ℤ p) -ℤ (c *ℤ q) → u ≡ w +ℤ (c *ℤ p) → v ≡ z +ℤ (c *ℤ q) → u -ℤ v ≡ (w -ℤ z) +ℤ (c *ℤ (p -ℤ q))
difference-by u v w z c p q d e f = omega (arith, ints)

pub moved-difference : (n : ℕ) (s : List ℤ) (x t a b : ℕ) (c : ℤ) → length s ≡ n → x < n
    → difference (slice_set s x (term_value s t +ℤ c)) a b ≡ difference s (renamed x t a) (renamed x t b) +ℤ (c *ℤ (sign_of x a -ℤ sign_of x b))
moved-difference n s x t a b c e h =
    difference-by (term_value (slice_set s x (term_value s t +ℤ c)) a) (term_value (slice_set s x (term_value s t +ℤ c)) b) (term_value s (renamed x t a)) (term_value s (renamed x t b)) c (sign_of x a) (sign_of x b)
    (times_apart c (has_variable x a) (nat_eq (a % 2) 0) (has_variable x b) (nat_eq (b % 2) 0)) (moved-term n s x t a c e h) (moved-term n s x t b c e h)

renamed-at : (n x t a : ℕ) (p q : Bool) → t < 2 * n → a < 2 * n → opposite t < 2 * n → (if p then (if q then t else opposite t) else a) < 2 * n
renamed-at n x t a true true h k l = h
renamed-at n x t a true false h k l = l
renamed-at n x t a false q h k l = k

opposite-less : (n t : ℕ) → t < 2 * n → opposite t < 2 * n
unfolding opposite
opposite-less n t h = omega arith

pub renamed-below : (n x t a : ℕ) → t < 2 * n → a < 2 * n → renamed x t a < 2 * n
renamed-below n x t a h k = renamed-at n x t a (has_variable x a) (nat_eq (a % 2) 0) h k (opposite-less n t h)

kept-most : (t n : ℤ) → neg_ℤ (pos (2 ^ 33)) ≤ℤ t → kept_entry t n ≤ℤ t
kept-most t n h = omega (arith, ints, clamps)

kept-above : (t n d : ℤ) → d ≤ℤ t → d ≤ℤ n → d ≤ℤ kept_entry t n
kept-above t n d h k = omega (arith, ints, clamps)

type_bound-low : (a b : ℕ) → pos 0 ≤ℤ type_bound a b → neg_ℤ (pos (2 ^ 33)) ≤ℤ type_bound a b
type_bound-low a b h = omega (arith, ints)

pub bounded-moved : (m : MatrixValue) (x t : ℕ) (c : ℤ) → IsBounded m → IsBounded (moved m x t c)
bounded-moved m x t c p = record {
  few = p.few;
  most = λ a b i j.
      rw (of-entry m.variables (λ d e. kept_entry (type_bound d e) (moved_entry m x t c d e)) a b i j)
      (kept-most (type_bound a b) (moved_entry m x t c a b) (type_bound-low a b (type_bound-least a b)));
}

-- a store with the variable put as its term and the constant meets the moved matrix
pub moved-holds : (m : MatrixValue) (s : List ℤ) (x t : ℕ) (c : ℤ) → IsBounded m → Holds m s → x < m.variables → t < 2 * m.variables → IsInt (term_value s t +ℤ c) → Holds (moved m x t c) (slice_set s x (term_value s t +ℤ c))
moved-holds m s x t c p h l k i =
    let u : List ℤ = slice_set s x (term_value s t +ℤ c) in
    let o : IsStore m.variables u = set-store m.variables s x (term_value s t +ℤ c) (bounded-store m s p h) l i in
    of-holds m.variables (λ a b. kept_entry (type_bound a b) (moved_entry m x t c a b)) u o.size
    (λ a b d e.
    kept-above (type_bound a b) (moved_entry m x t c a b) (difference u a b) (store-below m.variables u a b o d e)
    (omega (arith, ints, moved-difference m.variables s x t a b c h.size l, h.bounds (renamed x t a) (renamed x t b) (renamed-below m.variables x t a k d) (renamed-below m.variables x t b k e))))
