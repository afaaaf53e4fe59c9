-- Best bounds are unique, so whatever closes a matrix answers and leaves the same.
use Rattle.std.proofs.Common.{◌≡◌, ℕ, zero, suc, ℤ, pos, ◌+◌, ◌*◌, ◌/◌, ◌%◌, ◌<◌, arith, ◌∙◌, ap, sym, subst, refl, List, length, slice_index_or}
use Rattle.std.proofs.lemmas.Int.{ints}
use Rattle.std.proofs.lemmas.List.FromFn.{fill_by_all}
use Rattle.std.proofs.lemmas.Nat.{div-add-mod', div_below, mod_below}
use Rattle.octagon_matrix.specs.Matrices.{MatrixValue, entry_of, IsMatrix}
use Rattle.octagon_closure.specs.Best.{IsUnmet, Reaches, IsBest, IsClosure}
use Rattle.octagon_closure.specs.declared.Closed.{Closed}
use Rattle.octagon_closure.specs.declared.Closed.TheVariants.{Closed as AllBest, Empty}

-- best bounds are unique: so both closures leave the same
pub best-unique : (m x y : MatrixValue) → IsBest m x → IsBest m y → (a b : ℕ) → a < 2 * m.variables → b < 2 * m.variables → entry_of x a b ≡ entry_of y a b
best-unique m x y p q a b h k =
    let r : Reaches m a b (entry_of x a b) = p.reached a b h k in
    let s : Reaches m a b (entry_of y a b) = q.reached a b h k in
    omega (arith, ints, r.reached, s.reached, p.most s.store a b s.holds h k, q.most r.store a b r.holds h k)

-- ---- a closure is the only one
index-split : (n i : ℕ) → i < n * n → (i / n * n + i % n ≡ i) × (i / n < n) × (i % n < n)
index-split n i h =
    let z : 0 < n = positive n h in (div-add-mod' i n, div_below i n n z h, mod_below i n z)
  where
    positive : (n : ℕ) → i < n * n → 0 < n
    positive zero k = absurd (omega arith)
    positive (suc n) k = omega arith

pub same-entries : (n : ℕ) (x y : List ℤ) → length x ≡ n * n → length y ≡ n * n → ((a b : ℕ) → a < n → b < n → slice_index_or x (a * n + b) (pos 0) ≡ slice_index_or y (a * n + b) (pos 0)) → x ≡ y
same-entries n x y h k e =
    let f : ℕ → ℤ = λ i. slice_index_or y i (pos 0) in
    fill_by_all f x (n * n) (pos 0) h (λ i l. let s = index-split n i l in rw (← s.0) (e (i / n) (i % n) (s.1) (s.2)))
    ∙ sym (fill_by_all f y (n * n) (pos 0) k (λ i l. refl))

abbrev matrix_at : ℕ → List ℤ → MatrixValue
matrix_at n c = record { variables = n; entries = c }

best-same-at : (m : MatrixValue) (n k : ℕ) (x y : List ℤ) → n ≡ m.variables → k ≡ m.variables → IsMatrix (matrix_at n x) → IsMatrix (matrix_at k y) → IsBest m (matrix_at n x) → IsBest m (matrix_at k y) → matrix_at n x ≡ matrix_at k y
unfolding entry_of
best-same-at m n k x y e f p q r s =
    let g : n ≡ k = e ∙ sym f in
    let P : ℕ → Type 0 = λ i. (a b : ℕ) → a < 2 * i → b < 2 * i → slice_index_or x (a * (2 * n) + b) (pos 0) ≡ slice_index_or y (a * (2 * k) + b) (pos 0) in
    let u : P m.variables = λ a b h l. best-unique m (matrix_at n x) (matrix_at k y) r s a b h l in
    let v : P n = subst P (sym e) u in
    let w : x ≡ y = same-entries (2 * n) x y p.size (rw (g) q.size) (λ a b h l. v a b h l ∙ ap (λ i. slice_index_or y (a * (2 * i) + b) (pos 0)) (sym g)) in
    ap (λ i. matrix_at i x) g ∙ ap (λ c. matrix_at k c) w

pub closure-same : (m x y : MatrixValue) (r s : Closed) → IsClosure m r x → IsClosure m s y → (r ≡ s) × (s ≡ AllBest → x ≡ y)
closure-same m x y AllBest AllBest p q = (refl, λ e. best-same-at m x.variables y.variables x.entries y.entries (p.best refl).variables (q.best refl).variables p.kept q.kept (p.best refl) (q.best refl))
closure-same m x y AllBest Empty p q = absurd (q.empty.0 refl ((p.best refl).met.0) ((p.best refl).met.1))
closure-same m x y Empty AllBest p q = absurd (p.empty.0 refl ((q.best refl).met.0) ((q.best refl).met.1))
closure-same m x y Empty Empty p q = (refl, λ e. cc)

-- an answer that is best where it is Closed is Empty where no store meets the matrix
pub empty-where : (m next : MatrixValue) (r : Closed) → (r ≡ AllBest → IsBest m next) → IsUnmet m → r ≡ Empty
empty-where m next AllBest b u = absurd (u ((b refl).met.0) ((b refl).met.1))
empty-where m next Empty b u = refl
