-- What `best_of` answers: best bounds by stores, and Nothing where no store meets the matrix.
use Rattle.std.proofs.Common.{◌≡◌, ◌⊎◌, inl, inr, ℕ, zero, suc, ◌*◌, ◌^◌, ◌<◌, ◌≤◌, ℤ, pos, neg_ℤ, ◌+ℤ◌, ◌≤ℤ◌, ◌<ℤ◌, int_le, Bool, true, false, nat_eq, List, [], ◌∷◌, ◌++◌, map, length, refl, sym, ◌∙◌, ap, subst, arith}
use Rattle.std.specs.Int.{int_max}
use Rattle.std.specs.List.{filter}
use Rattle.std.proofs.lemmas.Int.{ints, clamps}
use Rattle.std.proofs.lemmas.Bool.Decides.{nat_tests}
use Rattle.octagon_matrix.specs.Terms.{opposite, int_least, int_greatest, type_bound}
use Rattle.octagon_matrix.specs.Matrices.{MatrixValue, entry_of, IsMatrix}
use Rattle.octagon_matrix.specs.Stores.{IsStore, Holds}
use Rattle.octagon_matrix.proofs.Cells.{table-entry, table-size}
use Rattle.octagon_matrix.proofs.Terms.{opposite-below, type_bound-twin, type_bound-least, type_bound-most}
use Rattle.octagon_matrix.proofs.Stores.{holds-store, store-holds}
use Rattle.octagon_closure.specs.Best.{IsUnmet, Reaches, IsBest, IsClosure}
use Rattle.octagon_closure.specs.declared.Closed.TheVariants.{Closed as AllBest}
use Rattle.octagon_closure.proofs.OneMeet.{best-zero, best-coherent}
use Rattle.octagon_closure.proofs.Unique.{closure-same}
use Rattle.leaf_domain.specs.Leaves.{nothing_of}
use Rattle.octagon_leaf.specs.Pairs.{all_pairs}
use Rattle.octagon_leaf.specs.Greatest.{matrix_of, leaf_of, numbers_from, int_numbers, put_before, stores_of, difference, meets, met_stores, greatest_difference, best_of, standing}
use Rattle.octagon_leaf.specs.Laws.OverPairs.{both, pairs-tell, tell-pairs}

-- ---- the matrix of a function
pub of-entry : (n : ℕ) (f : ℕ → ℕ → ℤ) (a b : ℕ) → a < 2 * n → b < 2 * n → entry_of (matrix_of n f) a b ≡ f a b
unfolding entry_of
of-entry n f a b h k = table-entry (2 * n) f a b h k

pub of-holds : (n : ℕ) (f : ℕ → ℕ → ℤ) (s : List ℤ) → length s ≡ n → ((a b : ℕ) → a < 2 * n → b < 2 * n → difference s a b ≤ℤ f a b) → Holds (matrix_of n f) s
of-holds n f s e h = record { size = e; bounds = λ a b i j. rw (of-entry n f a b i j) (h a b i j) }

pub of-bounds : (n : ℕ) (f : ℕ → ℕ → ℤ) (s : List ℤ) (a b : ℕ) → Holds (matrix_of n f) s → a < 2 * n → b < 2 * n → difference s a b ≤ℤ f a b
of-bounds n f s a b h i j = rw (of-entry n f a b i j) at (h.bounds a b i j)

-- ---- stores within `int`
-- no entry is above the type's bound
pub record IsBounded (m : MatrixValue) : Type 0 where
  pub few : m.variables ≤ 48
  pub most : (a b : ℕ) → a < 2 * m.variables → b < 2 * m.variables → entry_of m a b ≤ℤ type_bound a b

pub type_bound-same : (a : ℕ) → type_bound a a ≡ pos 0
unfolding type_bound
type_bound-same a = let e : nat_eq a a ≡ true = grind (arith, nat_tests) in rw e refl

top-matrix : (n : ℕ) → n ≤ 48 → IsMatrix (matrix_of n type_bound)
top-matrix n l = record {
  few = l;
  size = table-size (2 * n) type_bound;
  zero_diagonal = λ a h. of-entry n type_bound a a h h ∙ type_bound-same a;
  coherent = λ a b h k. of-entry n type_bound (opposite b) (opposite a) (opposite-below n b k) (opposite-below n a h) ∙ (type_bound-twin a b ∙ sym (of-entry n type_bound a b h k));
  least = λ a b h k. rw (of-entry n type_bound a b h k) (omega (arith, ints, type_bound-least a b));
  most = λ a b h k. rw (of-entry n type_bound a b h k) (omega (arith, ints));
}

pub bounded-store : (m : MatrixValue) (s : List ℤ) → IsBounded m → Holds m s → IsStore m.variables s
bounded-store m s b h =
    let n : ℕ = m.variables in
    holds-store (matrix_of n type_bound) s (top-matrix n b.few) (of-holds n type_bound s h.size (λ c d i j. omega (arith, ints, h.bounds c d i j, b.most c d i j)))

pub store-below : (n : ℕ) (s : List ℤ) (a b : ℕ) → IsStore n s → a < 2 * n → b < 2 * n → difference s a b ≤ℤ type_bound a b
store-below n s a b o i j =
    of-bounds n type_bound s a b (store-holds n (matrix_of n type_bound) s (record { variables = refl; entries = λ c d h k. of-entry n type_bound c d h k }) o) i j

negated : (s : List ℤ) (a b : ℕ) → difference s b a ≡ neg_ℤ (difference s a b)
negated s a b = omega (arith, ints)

pub store-above : (n : ℕ) (s : List ℤ) (a b : ℕ) → IsStore n s → a < 2 * n → b < 2 * n → neg_ℤ (pos (2 ^ 33)) ≤ℤ difference s a b
store-above n s a b o i j = omega (arith, ints, store-below n s b a o j i, type_bound-most b a, negated s a b)

-- ---- the stores that meet a matrix are among those tried
le-tells : (x y : ℤ) → int_le x y ≡ true → x ≤ℤ y
le-tells x y e = grind (arith, ints)

tells-le : (x y : ℤ) → x ≤ℤ y → int_le x y ≡ true
tells-le x y e = grind (arith, ints)

pub holds-meets : (m : MatrixValue) (s : List ℤ) → Holds m s → meets m s ≡ true
unfolding meets
holds-meets m s h =
    let e : nat_eq (length s) m.variables ≡ true = grind (arith, nat_tests, h.size) in
    rw (e) (tell-pairs (2 * m.variables) (λ a b. int_le (difference s a b) (entry_of m a b)) (λ a b i j. tells-le (difference s a b) (entry_of m a b) (h.bounds a b i j)))

size-tells : (a b : ℕ) → nat_eq a b ≡ true → a ≡ b
size-tells a b e = grind (arith, nat_tests)

pub meets-holds : (m : MatrixValue) (s : List ℤ) → meets m s ≡ true → Holds m s
unfolding meets
meets-holds m s e =
    let (p, q) = both (nat_eq (length s) m.variables) (all_pairs (2 * m.variables) (λ a b. int_le (difference s a b) (entry_of m a b))) e in
    record {
      size = size-tells (length s) m.variables p;
      bounds = λ a b i j. le-tells (difference s a b) (entry_of m a b) (pairs-tell (2 * m.variables) (λ a b. int_le (difference s a b) (entry_of m a b)) q a b i j);
    }

-- an element of a list
abbrev In : {X : Type 0} → X → List X → Type 0
In x [] = ⊥
In x (y ∷ ys) = (y ≡ x) ⊎ In x ys

in-first : {X : Type 0} (x : X) (xs ys : List X) → In x xs → In x (xs ++ ys)
in-first x [] ys h = absurd h
in-first x (z ∷ xs) ys (inl e) = inl e
in-first x (z ∷ xs) ys (inr h) = inr (in-first x xs ys h)

in-second : {X : Type 0} (x : X) (xs ys : List X) → In x ys → In x (xs ++ ys)
in-second x [] ys h = h
in-second x (z ∷ xs) ys h = inr (in-second x xs ys h)

in-map : (v : ℤ) (s : List ℤ) (ss : List (List ℤ)) → In s ss → In (v ∷ s) (map (λ t. v ∷ t) ss)
in-map v s [] h = absurd h
in-map v s (t ∷ ss) (inl e) = inl (ap (λ u. v ∷ u) e)
in-map v s (t ∷ ss) (inr h) = inr (in-map v s ss h)

in-put : (v : ℤ) (s : List ℤ) (vs : List ℤ) (ss : List (List ℤ)) → In v vs → In s ss → In (v ∷ s) (put_before vs ss)
unfolding put_before
in-put v s [] ss h k = absurd h
in-put v s (w ∷ vs) ss (inl e) k =
    let P : ℤ → Type 0 = λ u. In (v ∷ s) (map (λ t. u ∷ t) ss) in in-first (v ∷ s) (map (λ t. w ∷ t) ss) (put_before vs ss) (subst P (sym e) (in-map v s ss k))
in-put v s (w ∷ vs) ss (inr h) k = in-second (v ∷ s) (map (λ t. w ∷ t) ss) (put_before vs ss) (in-put v s vs ss h k)

least_or_above : (l v : ℤ) → l ≤ℤ v → (l ≡ v) ⊎ ((l +ℤ pos 1) ≤ℤ v)
least_or_above l v h = grind (arith, ints)

in-numbers : (k : ℕ) (l v : ℤ) → l ≤ℤ v → v <ℤ (l +ℤ pos k) → In v (numbers_from k l)
unfolding numbers_from
in-numbers zero l v h i = absurd (omega (arith, ints))
in-numbers (suc k) l v h i =
    elim (least_or_above l v h) [ inl e ↦ inl e | inr j ↦ inr (in-numbers k (l +ℤ pos 1) v j (omega (arith, ints))) ]

in-int : (v : ℤ) → int_least ≤ℤ v → v ≤ℤ int_greatest → In v int_numbers
unfolding int_numbers
in-int v h k = in-numbers (2 ^ 32) int_least v h (omega (arith, ints))

pub in-stores : (n : ℕ) (s : List ℤ) → IsStore n s → In s (stores_of n)
unfolding stores_of
in-stores zero [] o = inl refl
in-stores zero (v ∷ s) o = absurd (omega (arith, o.size))
in-stores (suc n) [] o = absurd (omega (arith, o.size))
in-stores (suc n) (v ∷ s) o =
    in-put v s int_numbers (stores_of n) (in-int v (o.least 0 (omega arith)) (o.most 0 (omega arith)))
    (in-stores n s (record { size = omega (arith, o.size); least = λ x h. o.least (suc x) (omega arith); most = λ x h. o.most (suc x) (omega arith) }))

in-filter : (p : List ℤ → Bool) (s : List ℤ) (ss : List (List ℤ)) → In s ss → p s ≡ true → In s (filter p ss)
in-filter p s [] h e = absurd h
in-filter p s (t ∷ ss) (inl f) e = let g : p t ≡ true = ap p f ∙ e in rw g (inl f)
in-filter p s (t ∷ ss) (inr h) e = by_test (p t) refl (in-filter p s ss h e)
  where
    by_test : (r : Bool) → p t ≡ r → In s (filter p ss) → In s (filter p (t ∷ ss))
    by_test true g k = rw g (inr k)
    by_test false g k = rw g k

filter-in : (p : List ℤ → Bool) (s : List ℤ) (ss : List (List ℤ)) → In s (filter p ss) → p s ≡ true
filter-in p s [] h = absurd h
filter-in p s (t ∷ ss) h = by_test (p t) refl (filter-in p s ss)
  where
    by_test : (r : Bool) → p t ≡ r → (In s (filter p ss) → p s ≡ true) → p s ≡ true
    by_test true g k = elim (rw g at h) [ inl f ↦ sym (ap p f) ∙ g | inr i ↦ k i ]
    by_test false g k = k (rw g at h)

met-in : (m : MatrixValue) (s : List ℤ) → IsBounded m → Holds m s → In s (met_stores m)
unfolding met_stores
met-in m s b h = in-filter (meets m) s (stores_of m.variables) (in-stores m.variables s (bounded-store m s b h)) (holds-meets m s h)

in-met : (m : MatrixValue) (s : List ℤ) → In s (met_stores m) → Holds m s
unfolding met_stores
in-met m s h = meets-holds m s (filter-in (meets m) s (stores_of m.variables) h)

-- ---- greatest differences
greatest-most : (a b : ℕ) (s : List ℤ) (ss : List (List ℤ)) (t : List ℤ) → In t (s ∷ ss) → difference t a b ≤ℤ greatest_difference a b s ss
unfolding greatest_difference
greatest-most a b s [] t (inl e) = rw (ap (λ u. difference u a b) e) (omega (arith, ints))
greatest-most a b s [] t (inr h) = absurd h
greatest-most a b s (u ∷ ss) t (inl e) = let f : difference s a b ≡ difference t a b = ap (λ w. difference w a b) e in omega (arith, ints, clamps)
greatest-most a b s (u ∷ ss) t (inr h) = omega (arith, ints, clamps, greatest-most a b u ss t h)

greater_is : (x y : ℤ) → (int_max x y ≡ x) ⊎ (int_max x y ≡ y)
greater_is x y = grind (arith, ints, clamps)

greatest-reached : (a b : ℕ) (s : List ℤ) (ss : List (List ℤ)) → (t : List ℤ) × In t (s ∷ ss) × (difference t a b ≡ greatest_difference a b s ss)
unfolding greatest_difference
greatest-reached a b s [] = (s, inl refl, refl)
greatest-reached a b s (u ∷ ss) =
    elim (greater_is (difference s a b) (greatest_difference a b u ss)) [
      | inl e ↦ (s, inl refl, sym e)
      | inr e ↦ let (t, h, f) = greatest-reached a b u ss in (t, inr h, f ∙ sym e)
    ]

-- ---- best bounds are a matrix
reached-store : (m : MatrixValue) (a b : ℕ) (d : ℤ) → IsBounded m → Reaches m a b d → a < 2 * m.variables → b < 2 * m.variables → (neg_ℤ (pos (2 ^ 34)) ≤ℤ d) × (d ≤ℤ type_bound a b)
reached-store m a b d p r h k =
    let o : IsStore m.variables r.store = bounded-store m r.store p r.holds in
    (omega (arith, ints, r.reached, store-above m.variables r.store a b o h k), omega (arith, ints, r.reached, store-below m.variables r.store a b o h k))

pub best-kept : (m x : MatrixValue) → IsBounded m → IsBest m x → length x.entries ≡ (2 * x.variables) * (2 * x.variables) → IsMatrix x
best-kept m x p q l =
    let e : x.variables ≡ m.variables = q.variables in
    record {
      few = rw e p.few;
      size = l;
      zero_diagonal = λ a h. best-zero m x q a (rw e at h);
      coherent = λ a b h k. best-coherent m x q a b (rw e at h) (rw e at k);
      least = λ a b h k. let h' : a < 2 * m.variables = rw e at h in let k' : b < 2 * m.variables = rw e at k in (reached-store m a b (entry_of x a b) p (q.reached a b h' k') h' k').0;
      most = λ a b h k. let h' : a < 2 * m.variables = rw e at h in let k' : b < 2 * m.variables = rw e at k in (reached-store m a b (entry_of x a b) p (q.reached a b h' k') h' k').1;
    }

-- ---- what `best_of` and `standing` answer
-- no store meets the matrix, or the answer has the best bounds
pub data Answered (m : MatrixValue) : Type 0 where
  unmet : IsUnmet m → best_of m ≡ nothing_of m.variables → standing m ≡ nothing_of m.variables → Answered m
  held : (x : MatrixValue) → IsBest m x → IsMatrix x → best_of m ≡ leaf_of x → standing m ≡ leaf_of m → Answered m

greatest-best : (m : MatrixValue) (s : List ℤ) (ss : List (List ℤ)) → met_stores m ≡ s ∷ ss → IsBounded m → IsBest m (matrix_of m.variables (λ a b. greatest_difference a b s ss))
greatest-best m s ss e p =
    let P : List (List ℤ) → List ℤ → Type 0 = λ us t. In t us in
    record {
      variables = refl;
      most = λ t a b h i j. rw (of-entry m.variables (λ c d. greatest_difference c d s ss) a b i j) (greatest-most a b s ss t (rw e at (met-in m t p h)));
      reached = λ a b i j.
          let (t, h, f) = greatest-reached a b s ss in
          record { store = t; holds = in-met m t (rw e h); reached = f ∙ sym (of-entry m.variables (λ c d. greatest_difference c d s ss) a b i j) };
      met = (s, in-met m s (rw e (inl refl)));
    }

pub answered : (m : MatrixValue) → IsBounded m → Answered m
answered m p = by_stores (met_stores m) refl
  where
    by_stores : (ss : List (List ℤ)) → met_stores m ≡ ss → Answered m
    by_stores [] e = unmet (λ s h. absurd (rw e at (met-in m s p h))) (rw e refl) (rw e refl)
    by_stores (s ∷ ss) e =
        let q = greatest-best m s ss e p in
        held (matrix_of m.variables (λ a b. greatest_difference a b s ss)) q (best-kept m (matrix_of m.variables (λ a b. greatest_difference a b s ss)) p q (table-size (2 * m.variables) (λ a b. greatest_difference a b s ss))) (rw e refl) (rw e refl)

-- ---- best bounds, and the stores that meet them
pub best-entry : (m x : MatrixValue) (a b : ℕ) → IsBest m x → a < 2 * m.variables → b < 2 * m.variables → entry_of x a b ≤ℤ entry_of m a b
best-entry m x a b q h k = let r : Reaches m a b (entry_of x a b) = q.reached a b h k in omega (arith, ints, r.reached, r.holds.bounds a b h k)

pub best-stores : (m x : MatrixValue) (s : List ℤ) → IsBest m x → Holds x s → Holds m s
best-stores m x s q h = record {
  size = h.size ∙ q.variables;
  bounds = λ a b i j. omega (arith, ints, h.bounds a b (rw (q.variables) i) (rw (q.variables) j), best-entry m x a b q i j);
}

pub stores-best : (m x : MatrixValue) (s : List ℤ) → IsBest m x → Holds m s → Holds x s
stores-best m x s q h = record { size = h.size ∙ sym q.variables; bounds = λ a b i j. q.most s a b h (rw (q.variables) at i) (rw (q.variables) at j) }

-- best bounds are those of each matrix that the same stores meet
pub best-by : (m k x : MatrixValue) → k.variables ≡ m.variables → ((s : List ℤ) → Holds m s → Holds k s) → ((s : List ℤ) → Holds k s → Holds m s) → IsBest m x → IsBest k x
best-by m k x e f g q = record {
  variables = q.variables ∙ sym e;
  most = λ s a b h i j. q.most s a b (g s h) (rw e at i) (rw e at j);
  reached = λ a b i j.
      let r : Reaches m a b (entry_of x a b) = q.reached a b (rw e at i) (rw e at j) in
      record { store = r.store; holds = f r.store r.holds; reached = r.reached };
  met = (q.met.0, f q.met.0 q.met.1);
}

pub best-own : (m x : MatrixValue) → IsBest m x → IsBest x x
best-own m x q = best-by m x x q.variables (λ s h. stores-best m x s q h) (λ s h. best-stores m x s q h) q

is-closure : (m x : MatrixValue) → IsBest m x → IsMatrix x → IsClosure m AllBest x
is-closure m x q k = record { empty = (λ e s h. cc, λ u. absurd (u q.met.0 q.met.1)); best = λ e. q; kept = k }

pub best-alone : (m x y : MatrixValue) → IsBest m x → IsBest m y → IsMatrix x → IsMatrix y → x ≡ y
best-alone m x y p q k l = (closure-same m x y AllBest AllBest (is-closure m x p k) (is-closure m y q l)).1 refl

pub best-is : (m x : MatrixValue) → IsBounded m → IsBest m x → IsMatrix x → best_of m ≡ leaf_of x
best-is m x p q k = by_answer (answered m p)
  where
    by_answer : Answered m → best_of m ≡ leaf_of x
    by_answer (unmet u e f) = absurd (u q.met.0 q.met.1)
    by_answer (held y r l e f) = e ∙ ap leaf_of (best-alone m y x r q l k)

pub best-unmet : (m : MatrixValue) → IsBounded m → IsUnmet m → best_of m ≡ nothing_of m.variables
best-unmet m p u = by_answer (answered m p)
  where
    by_answer : Answered m → best_of m ≡ nothing_of m.variables
    by_answer (unmet v e f) = e
    by_answer (held y r l e f) = absurd (u r.met.0 r.met.1)

pub standing-is : (m : MatrixValue) (s : List ℤ) → IsBounded m → Holds m s → standing m ≡ leaf_of m
standing-is m s p h = by_answer (answered m p)
  where
    by_answer : Answered m → standing m ≡ leaf_of m
    by_answer (unmet v e f) = absurd (v s h)
    by_answer (held y r l e f) = f

pub standing-unmet : (m : MatrixValue) → IsBounded m → IsUnmet m → standing m ≡ nothing_of m.variables
standing-unmet m p u = by_answer (answered m p)
  where
    by_answer : Answered m → standing m ≡ nothing_of m.variables
    by_answer (unmet v e f) = f
    by_answer (held y r l e f) = absurd (u r.met.0 r.met.1)
