-- The walks through one entry that was lowered close a closed matrix again: Miné's incremental closure, in one sweep.
use Rattle.std.proofs.Common.{◌≡◌, ◌≢◌, ◌⊎◌, inl, inr, ℕ, ℤ, pos, ◌+ℤ◌, ◌≤ℤ◌, ◌*◌, ◌<◌, arith, ◌∙◌, ap, sym, subst, refl, Bool, true, false, if◌then◌else◌}
use Rattle.std.proofs.lemmas.Int.{ints, clamps}
use Rattle.std.specs.Int.{int_min}
use Rattle.octagon_matrix.specs.Terms.{opposite, is_pair}
use Rattle.octagon_matrix.specs.Matrices.{MatrixValue, entry_of, met_entry}
use Rattle.octagon_matrix.specs.Stores.{term_value}
use Rattle.octagon_matrix.proofs.Terms.{opposite-opposite, opposite-below, opposite-differs, opposite-same}
use Rattle.octagon_matrix.proofs.Places.{IsSame}
use Rattle.octagon_matrix.proofs.Cells.{pair_tells}
use Rattle.octagon_closure.specs.Sweeps.{row_from, sums, through}
use Rattle.octagon_closure.specs.Best.{Reaches, IsBest, CameByOne}
use Rattle.octagon_closure.proofs.Octagons.{IsCoherent, IsClosed, IsClosedBy, IsOdd, all}
use Rattle.octagon_closure.proofs.Passing.{near, Loops, triangle-of, kept-triangle}
use Rattle.octagon_closure.proofs.Stores.{terms-odd}
use Rattle.octagon_closure.proofs.Walks.{to_entry, to_twin, by_entry, by_twin, walks, walks-are}

-- ---- a matrix with best bounds is closed
best-triangle : (x m : MatrixValue) → IsBest x m → (a b c : ℕ) → a < 2 * x.variables → b < 2 * x.variables → c < 2 * x.variables → entry_of m a c ≤ℤ (entry_of m a b +ℤ entry_of m b c)
best-triangle x m q a b c h k l =
    let r : Reaches x a c (entry_of m a c) = q.reached a c h l in
    omega (arith, ints, r.reached, q.most r.store a b r.holds h k, q.most r.store b c r.holds k l)

pub best-zero : (x m : MatrixValue) → IsBest x m → (a : ℕ) → a < 2 * x.variables → entry_of m a a ≡ pos 0
best-zero x m q a h =
    let r : Reaches x a a (entry_of m a a) = q.reached a a h h in
    omega (arith, ints, r.reached)

twin-below : (x m : MatrixValue) → IsBest x m → (a b : ℕ) → a < 2 * x.variables → b < 2 * x.variables → entry_of m (opposite b) (opposite a) ≤ℤ entry_of m a b
twin-below x m q a b h k =
    let r : Reaches x (opposite b) (opposite a) (entry_of m (opposite b) (opposite a)) = q.reached (opposite b) (opposite a) (opposite-below x.variables b k) (opposite-below x.variables a h) in
    let o : IsOdd (term_value r.store) = terms-odd r.store in
    omega (arith, ints, r.reached, q.most r.store a b r.holds h k, o.odd a, o.odd b)

same-from_below : (x y : ℤ) → x ≤ℤ y → y ≤ℤ x → x ≡ y
same-from_below x y h k = omega (arith, ints)

pub best-coherent : (x m : MatrixValue) → IsBest x m → (a b : ℕ) → a < 2 * x.variables → b < 2 * x.variables → entry_of m (opposite b) (opposite a) ≡ entry_of m a b
best-coherent x m q a b h k =
    let e = twin-below x m q (opposite b) (opposite a) (opposite-below x.variables b k) (opposite-below x.variables a h) in
    same-from_below (entry_of m (opposite b) (opposite a)) (entry_of m a b) (twin-below x m q a b h k) (rw (opposite-opposite a, opposite-opposite b) at e)

best-closed : (x m : MatrixValue) → IsBest x m → IsClosed x.variables (entry_of m)
best-closed x m q = record { zero_diagonal = best-zero x m q; coherent = best-coherent x m q; triangle = best-triangle x m q }

-- ---- the matrix m' is m with the entry (a, b) and its twin lowered
record IsMet (n : ℕ) (m m' : ℕ → ℕ → ℤ) (a b : ℕ) : Type 0 where
  old : IsClosed n m
  first : a < 2 * n
  second : b < 2 * n
  -- the rows of b and of the opposite of a stay
  from_end : (x : ℕ) → x < 2 * n → m' b x ≡ m b x
  from_opposite : (x : ℕ) → x < 2 * n → m' (opposite a) x ≡ m (opposite a) x
  either : (i j : ℕ) → i < 2 * n → j < 2 * n → (m' i j ≡ m i j) ⊎ (IsSame a b i j × (m' i j ≡ m' a b) × (m' i j ≤ℤ m i j))

met_by : (q : Bool) (x v : ℤ) → (if q then int_min x v else x) ≤ℤ x
met_by true x v = omega (arith, ints, clamps)
met_by false x v = omega (arith, ints)

met-stays : (m : MatrixValue) (a b c d : ℕ) (v : ℤ) → (IsSame a b c d → ⊥) → ((is_pair a b c d ≡ true) × IsSame a b c d) ⊎ ((is_pair a b c d ≡ false) × (IsSame a b c d → ⊥)) → met_entry m a b v c d ≡ entry_of m c d
met-stays m a b c d v f (inl p) = absurd (f (p.1))
met-stays m a b c d v f (inr p) = rw (p.0) refl

met-stands : (m : MatrixValue) (a b c d : ℕ) (v : ℤ) → IsSame a b c d → ((is_pair a b c d ≡ true) × IsSame a b c d) ⊎ ((is_pair a b c d ≡ false) × (IsSame a b c d → ⊥)) → met_entry m a b v c d ≡ int_min (entry_of m c d) v
met-stands m a b c d v s (inl p) = rw (p.0) refl
met-stands m a b c d v s (inr p) = absurd (p.1 s)

not-from_end : (a b x : ℕ) → a ≢ b → IsSame a b b x → ⊥
not-from_end a b x h (inl s) = h (sym (s.0))
not-from_end a b x h (inr s) = opposite-differs b (sym (s.0))

not-from_opposite : (a b x : ℕ) → a ≢ b → IsSame a b (opposite a) x → ⊥
not-from_opposite a b x h (inl s) = opposite-differs a (s.0)
not-from_opposite a b x h (inr s) = h (opposite-same a b (s.0))

pair-same : (n : ℕ) (m : ℕ → ℕ → ℤ) (a b i j : ℕ) → IsClosed n m → a < 2 * n → b < 2 * n → IsSame a b i j → m i j ≡ m a b
pair-same n m a b i j c h k (inl s) = rw (s.0, s.1) refl
pair-same n m a b i j c h k (inr s) = rw (s.0, s.1) (c.coherent a b h k)

either_by : (n : ℕ) (o : MatrixValue) (a b i j : ℕ) (v x y : ℤ) → IsClosed n (entry_of o) → a < 2 * n → b < 2 * n → x ≡ met_entry o a b v i j → y ≡ met_entry o a b v a b
    → ((is_pair a b i j ≡ true) × IsSame a b i j) ⊎ ((is_pair a b i j ≡ false) × (IsSame a b i j → ⊥)) → (x ≡ entry_of o i j) ⊎ (IsSame a b i j × (x ≡ y) × (x ≤ℤ entry_of o i j))
either_by n o a b i j v x y c h k e f (inr p) = inl (e ∙ rw (p.0) refl)
either_by n o a b i j v x y c h k e f (inl p) =
    let g : x ≡ int_min (entry_of o i j) v = e ∙ rw (p.0) refl in
    let l : y ≡ int_min (entry_of o a b) v = f ∙ met-stands o a b a b v (inl (refl, refl)) (pair_tells a b a b) in
    inr (p.1, g ∙ (ap (λ z. int_min z v) (pair-same n (entry_of o) a b i j c h k (p.1)) ∙ sym l), rw (g) (met_by true (entry_of o i j) v))

came-met : (m : MatrixValue) (a b : ℕ) → a < 2 * m.variables → b < 2 * m.variables → (o : CameByOne m a b) → o.before.variables ≡ m.variables → IsClosed m.variables (entry_of o.before) → IsMet m.variables (entry_of o.before) (entry_of m) a b
came-met m a b h k o e c =
    let n : ℕ = m.variables in
    let E : (i j : ℕ) → i < 2 * n → j < 2 * n → entry_of m i j ≡ met_entry o.before a b o.bound i j = λ i j p q. o.entries.entries i j (rw (e) p) (rw (e) q) in
    record {
      old = c;
      first = h;
      second = k;
      from_end = λ x p. E b x k p ∙ met-stays o.before a b b x o.bound (not-from_end a b x o.apart) (pair_tells a b b x);
      from_opposite = λ x p. E (opposite a) x (opposite-below n a h) p ∙ met-stays o.before a b (opposite a) x o.bound (not-from_opposite a b x o.apart) (pair_tells a b (opposite a) x);
      either = λ i j p q. either_by n o.before a b i j o.bound (entry_of m i j) (entry_of m a b) c h k (E i j p q) (E a b h k) (pair_tells a b i j);
    }

-- ---- the sweep speaks of the old entries alone
-- each entry of the old matrix lowered to the walks through the new one
abbrev met_over : (ℕ → ℕ → ℤ) → ℕ → ℕ → ℤ → ℕ → ℕ → ℤ
met_over m a b d i j = int_min (m i j) (walks m a b d i j)

coherent-old : (n : ℕ) (m : ℕ → ℕ → ℤ) → IsClosed n m → IsCoherent n m
coherent-old n m c = record { zero_diagonal = c.zero_diagonal; coherent = c.coherent }

-- at the entry itself and at its twin there is a walk that is the new entry alone
first-walk : (d A B A' B' : ℤ) → A ≤ℤ pos 0 → B ≤ℤ d → int_min (A +ℤ B) (A' +ℤ B') ≤ℤ d
first-walk d A B A' B' h k = omega (arith, ints, clamps)

second-walk : (d A B A' B' : ℤ) → A' ≤ℤ pos 0 → B' ≤ℤ d → int_min (A +ℤ B) (A' +ℤ B') ≤ℤ d
second-walk d A B A' B' h k = omega (arith, ints, clamps)

near-zero : (t x y : ℤ) → x ≡ pos 0 → near x t y ≤ℤ pos 0
near-zero t x y e = omega (arith, ints, clamps)

near-step : (d t x y : ℤ) → x ≡ pos 0 → near (d +ℤ x) t y ≤ℤ d
near-step d t x y e = omega (arith, ints, clamps)

walk-at : (n : ℕ) (m : ℕ → ℕ → ℤ) (a b : ℕ) (d : ℤ) (i j : ℕ) → IsClosed n m → a < 2 * n → b < 2 * n → IsSame a b i j → walks m a b d i j ≤ℤ d
walk-at n m a b d i j c h k (inl s) =
    rw (s.0, s.1) (first-walk d (to_entry m a b d a) (by_entry m a b d b) (to_twin m a b d a) (by_twin m a b d b)
    (near-zero (d +ℤ m (opposite a) a) (m a a) (m a (opposite b)) (c.zero_diagonal a h))
    (near-step d (d +ℤ m b (opposite b)) (m b b) (d +ℤ m (opposite a) b) (c.zero_diagonal b k)))
walk-at n m a b d i j c h k (inr s) =
    let h' : opposite a < 2 * n = opposite-below n a h in
    let k' : opposite b < 2 * n = opposite-below n b k in
    rw (s.0, s.1) (second-walk d (to_entry m a b d (opposite b)) (by_entry m a b d (opposite a)) (to_twin m a b d (opposite b)) (by_twin m a b d (opposite a))
    (near-zero (d +ℤ m b (opposite b)) (m (opposite b) (opposite b)) (m (opposite b) a) (c.zero_diagonal (opposite b) k'))
    (near-step d (d +ℤ m (opposite a) a) (m (opposite a) (opposite a)) (d +ℤ m b (opposite a)) (c.zero_diagonal (opposite a) h')))

lowered-either : (x y d w : ℤ) → x ≡ d → x ≤ℤ y → w ≤ℤ d → int_min x w ≡ int_min y w
lowered-either x y d w e h k = omega (arith, ints, clamps)

old-by : (n : ℕ) (m : ℕ → ℕ → ℤ) (a b i j : ℕ) (x d : ℤ) → IsClosed n m → a < 2 * n → b < 2 * n → (x ≡ m i j) ⊎ (IsSame a b i j × (x ≡ d) × (x ≤ℤ m i j)) → int_min x (walks m a b d i j) ≡ met_over m a b d i j
old-by n m a b i j x d c h k (inl e) = rw (e) refl
old-by n m a b i j x d c h k (inr s) = lowered-either x (m i j) d (walks m a b d i j) (s.1) (s.2) (walk-at n m a b d i j c h k (s.0))

rows-old : (n : ℕ) (m m' : ℕ → ℕ → ℤ) (a b i j : ℕ) → IsMet n m m' a b → i < 2 * n → j < 2 * n
    → sums (row_from m' (opposite a) (pos 0) b (m' (opposite a) a +ℤ m' a b)) (row_from m' b (m' a b) (opposite a) ((m' b (opposite b) +ℤ m' a b) +ℤ m' a b)) i j
    ≡ sums (row_from m (opposite a) (pos 0) b (m (opposite a) a +ℤ m' a b)) (row_from m b (m' a b) (opposite a) ((m b (opposite b) +ℤ m' a b) +ℤ m' a b)) i j
rows-old n m m' a b i j q h k =
    rw (q.from_opposite (opposite i) (opposite-below n i h), q.from_end (opposite i) (opposite-below n i h), q.from_opposite j k, q.from_end j k, q.from_opposite a q.first, q.from_end (opposite b) (opposite-below n b q.second)) refl

through-old : (n : ℕ) (m m' : ℕ → ℕ → ℤ) (a b i j : ℕ) → IsMet n m m' a b → i < 2 * n → j < 2 * n → through m' a b i j ≡ met_over m a b (m' a b) i j
through-old n m m' a b i j q h k =
    ap (int_min (m' i j)) (rows-old n m m' a b i j q h k ∙ walks-are n m a b (m' a b) i j (coherent-old n m q.old) q.first q.second h)
    ∙ old-by n m a b i j (m' i j) (m' a b) q.old q.first q.second (q.either i j h k)

-- ---- where the diagonal stays, no round by the new entry is below 0
back-and : (d x y A' B' : ℤ) (s t ba bb' : ℤ) → x ≡ pos 0 → int_min x (int_min (near ba t bb' +ℤ near (d +ℤ x) s y) (A' +ℤ B')) ≡ pos 0 → (pos 0 ≤ℤ (d +ℤ ba)) × (pos 0 ≤ℤ (d +ℤ (t +ℤ bb')))
back-and d x y A' B' s t ba bb' e z = (omega (arith, ints, clamps), omega (arith, ints, clamps))

-- the triangle by way of k, where each side goes by the new entry or not
met-triangle : (n : ℕ) (m : ℕ → ℕ → ℤ) (a b : ℕ) (d : ℤ) → IsClosed n m → a < 2 * n → b < 2 * n → pos 0 ≤ℤ (d +ℤ m b a) → pos 0 ≤ℤ ((d +ℤ m b (opposite b)) +ℤ (d +ℤ m (opposite a) a))
    → (i k j : ℕ) → i < 2 * n → k < 2 * n → j < 2 * n → met_over m a b d i j ≤ℤ (met_over m a b d i k +ℤ met_over m a b d k j)
met-triangle n m a b d c p q u w i k j h l r =
    let p' : opposite a < 2 * n = opposite-below n a p in
    let q' : opposite b < 2 * n = opposite-below n b q in
    let s : ℤ = d +ℤ m b (opposite b) in
    let t : ℤ = d +ℤ m (opposite a) a in
    let o : Loops s t (d +ℤ m b k) (d +ℤ m (opposite a) k) (m k a) (m k (opposite b)) = record {
      apart = w;
      own = omega (arith, ints, c.triangle b k a q l p);
      own' = omega (arith, ints, c.triangle (opposite a) k (opposite b) p' l q', c.coherent b a q p);
      across = omega (arith, ints, c.triangle b k (opposite b) q l q');
      across' = omega (arith, ints, c.triangle (opposite a) k a p' l p);
    } in
    let y = triangle-of s t (m i j) (m i k) (m k j) (m i a) (m i (opposite b)) (d +ℤ m b j) (d +ℤ m (opposite a) j) (m k a) (m k (opposite b)) (d +ℤ m b k) (d +ℤ m (opposite a) k) o
    (c.triangle i k j h l r) (c.triangle i k a h l p) (c.triangle i k (opposite b) h l q') (omega (arith, ints, c.triangle b k j q l r)) (omega (arith, ints, c.triangle (opposite a) k j p' l r)) in
    kept-triangle s t (m i j) (m i k) (m k j) (to_entry m a b d i) (to_twin m a b d i) (by_entry m a b d j) (by_twin m a b d j) (to_entry m a b d k) (to_twin m a b d k) (by_entry m a b d k) (by_twin m a b d k) y

-- one sweep closes by way of all terms
met-closed : (n : ℕ) (m m' : ℕ → ℕ → ℤ) (a b : ℕ) → IsMet n m m' a b → through m' a b b b ≡ pos 0 → IsClosedBy n (through m' a b) all
met-closed n m m' a b q z =
    let d : ℤ = m' a b in
    let e : met_over m a b d b b ≡ pos 0 = sym (through-old n m m' a b b b q q.second q.second) ∙ z in
    let r = back-and d (m b b) (d +ℤ m (opposite a) b) (to_twin m a b d b) (by_twin m a b d b) (d +ℤ m b (opposite b)) (d +ℤ m (opposite a) a) (m b a) (m b (opposite b)) (q.old.zero_diagonal b q.second) e in
    record {
      by = λ i k j h l u p.
          rw (through-old n m m' a b i j q h p, through-old n m m' a b i k q h l, through-old n m m' a b k j q l p)
          (met-triangle n m a b d q.old q.first q.second (r.0) (omega (arith, ints, r.1)) i k j h l p);
    }

pub one-closed : (m : MatrixValue) (a b : ℕ) → a < 2 * m.variables → b < 2 * m.variables → CameByOne m a b → through (entry_of m) a b b b ≡ pos 0 → IsClosedBy m.variables (through (entry_of m) a b) all
one-closed m a b h k o z =
    let e : o.before.variables ≡ m.variables = sym o.entries.variables in
    let c : IsClosed o.origin.variables (entry_of o.before) = best-closed o.origin o.before o.best in
    let P : ℕ → Type 0 = λ i. IsClosed i (entry_of o.before) in
    let c' : IsClosed m.variables (entry_of o.before) = subst P (sym o.best.variables ∙ e) c in
    met-closed m.variables (entry_of o.before) (entry_of m) a b (came-met m a b h k o e c') z
