-- Rows of bounds, as the code makes them.
use Rattle.std.proofs.Common.{◌≡◌, ◌≢◌, ◌⊎◌, inl, inr, ℕ, ℤ, pos, neg_ℤ, ◌+ℤ◌, ◌≤ℤ◌, ◌+◌, ◌*◌, ◌<◌, ◌^◌, arith, ◌∙◌, ap, sym, refl, List, length, slice_set}
use Rattle.std.proofs.lemmas.Int.{ints, clamps}
use Rattle.std.specs.Int.{int_min, int_div_euclid}
use Rattle.std.proofs.lemmas.List.{get_or-set_same, get_or-set_other}
use mir.Val.{to_z, of_z}
use mir.Syntax.{w64}
use Rattle.octagon_matrix.specs.Terms.{opposite}
use Rattle.octagon_matrix.specs.Matrices.{MatrixValue, entry_of, IsMatrix}
use Rattle.octagon_matrix.proofs.Terms.{opposite-opposite, opposite-below, type_bound-most}
use Rattle.octagon_closure.specs.Sweeps.{lowered, row_from, half, halves, bound_at, IsRow, IsSmall}
use Rattle.octagon_closure.proofs.HalfNumbers.{half-below, half-above}

row-by : (row : List ℤ) (f : ℕ → ℤ) (i : ℕ) (v : ℤ) (k : ℕ) → i < length row → v ≡ f i → ((k : ℕ) → k < i → bound_at row k ≡ f k) → (k < i) ⊎ (k ≡ i) → bound_at (slice_set row i v) k ≡ f k
unfolding bound_at
row-by row f i v k h e r (inl s) =
    let d : k ≢ i = omega arith in get_or-set_other row i k v (pos 0) d ∙ r k s
row-by row f i v k h e r (inr s) = rw (s) (get_or-set_same row i v (pos 0) h ∙ e)

below_or_last : (a k : ℕ) → a < k + 1 → (a < k) ⊎ (a ≡ k)
below_or_last a k h = grind arith

-- one bound more
pub row-more : (row : List ℤ) (f : ℕ → ℤ) (i : ℕ) (v : ℤ) → i < length row → v ≡ f i → ((k : ℕ) → k < i → bound_at row k ≡ f k) → (k : ℕ) → k < i + 1 → bound_at (slice_set row i v) k ≡ f k
row-more row f i v h e r k l = row-by row f i v k h e r (below_or_last k i l)

pub entry-least : (m : MatrixValue) (a b : ℕ) → IsMatrix m → a < 2 * m.variables → b < 2 * m.variables → neg_ℤ (pos (2 ^ 34)) ≤ℤ entry_of m a b
entry-least m a b k h l = k.least a b h l

pub entry-most : (m : MatrixValue) (a b : ℕ) → IsMatrix m → a < 2 * m.variables → b < 2 * m.variables → entry_of m a b ≤ℤ pos (2 ^ 32)
entry-most m a b k h l = omega (arith, ints, k.most a b h l, type_bound-most a b)

pub rows-small : (m : MatrixValue) (row : List ℤ) (p q : ℕ) (x y : ℤ) → IsMatrix m → p < 2 * m.variables → q < 2 * m.variables → IsSmall x → IsSmall y
    → ((c : ℕ) → c < 2 * m.variables → bound_at row c ≡ row_from (entry_of m) p x q y c) → IsRow m.variables row (row_from (entry_of m) p x q y)
rows-small m row p q x y k h i s t e = record {
  values = e;
  least = λ c j. omega (arith, ints, clamps, entry-least m p c k h j, entry-least m q c k i j, s.least, t.least);
  most = λ c j. omega (arith, ints, clamps, entry-most m p c k h j, s.most);
}

pub halves-at : (m : MatrixValue) (b : ℕ) → half (entry_of m (opposite b) b) ≡ halves (entry_of m) b
halves-at m b = ap (λ c. half (entry_of m (opposite b) c)) (sym (opposite-opposite b))

pub halves-small : (m : MatrixValue) (row : List ℤ) → IsMatrix m → ((b : ℕ) → b < 2 * m.variables → bound_at row b ≡ halves (entry_of m) b) → IsRow m.variables row (halves (entry_of m))
halves-small m row k e =
    let n : ℕ = m.variables in
    record {
      values = e;
      least = λ b i.
          omega (arith, ints, halves-at m b, entry-least m (opposite b) b k (opposite-below n b i) i, half-above (entry_of m (opposite b) b));
      most = λ b i.
          omega (arith, ints, halves-at m b, entry-most m (opposite b) b k (opposite-below n b i) i, half-below (entry_of m (opposite b) b));
    }

-- a row's bounds are its own
pub row-own : (n : ℕ) (row : List ℤ) (f : ℕ → ℤ) → IsRow n row f → IsRow n row (bound_at row)
row-own n row f r = record {
  values = λ b h. refl;
  least = λ b h. rw (r.values b h) (r.least b h);
  most = λ b h. rw (r.values b h) (r.most b h);
}

pub lowered-same : (n : ℕ) (m : ℕ → ℕ → ℤ) (x y : List ℤ) (f g : ℕ → ℤ) → IsRow n x f → IsRow n y g → (a b : ℕ) → a < 2 * n → b < 2 * n → lowered m (bound_at x) (bound_at y) a b ≡ lowered m f g a b
lowered-same n m x y f g p q a b h k =
    rw (p.values (opposite a) (opposite-below n a h), p.values b k, q.values b k, q.values (opposite a) (opposite-below n a h)) refl

half-bounds : (x : ℤ) → neg_ℤ (pos (2 ^ 34)) ≤ℤ x → x ≤ℤ pos (2 ^ 32) → to_z w64 (of_z w64 (half x)) ≡ half x
half-bounds x h k = omega (arith, ints, half-below x, half-above x)

-- what the code's half of an entry is
pub half-is : (x r : ℤ) → neg_ℤ (pos (2 ^ 34)) ≤ℤ x → x ≤ℤ pos (2 ^ 32) → r ≡ int_div_euclid (to_z w64 (of_z w64 x)) (pos 2) → to_z w64 (of_z w64 r) ≡ half x
unfolding half
half-is x r h k e =
    let f : to_z w64 (of_z w64 x) ≡ x = omega (arith, ints) in
    let g : r ≡ int_div_euclid x (pos 2) = e ∙ ap (λ y. int_div_euclid y (pos 2)) f in
    let i : to_z w64 (of_z w64 (int_div_euclid x (pos 2))) ≡ int_div_euclid x (pos 2) = half-bounds x h k in
    rw (g) i

-- what the code's lesser of two walks is
pub row-is : (x u y v r : ℤ) → IsSmall x → neg_ℤ (pos (2 ^ 34)) ≤ℤ u → u ≤ℤ pos (2 ^ 32) → IsSmall y → neg_ℤ (pos (2 ^ 34)) ≤ℤ v → v ≤ℤ pos (2 ^ 32)
    → r ≡ int_min (to_z w64 (of_z w64 (x +ℤ to_z w64 (of_z w64 u)))) (to_z w64 (of_z w64 (y +ℤ to_z w64 (of_z w64 v)))) → to_z w64 (of_z w64 r) ≡ int_min (x +ℤ u) (y +ℤ v)
row-is x u y v r s a b t c d g =
    let i : to_z w64 (of_z w64 u) ≡ u = omega (arith, ints) in
    let j : to_z w64 (of_z w64 v) ≡ v = omega (arith, ints) in
    let k : to_z w64 (of_z w64 (x +ℤ u)) ≡ x +ℤ u = omega (arith, ints, s.least, s.most) in
    let l : to_z w64 (of_z w64 (y +ℤ v)) ≡ y +ℤ v = omega (arith, ints, t.least, t.most) in
    let m : r ≡ int_min (x +ℤ u) (y +ℤ v) = rw (i, j, k, l) at g in
    omega (arith, ints, clamps, s.least, s.most, t.least, t.most)

-- what the code's small numbers and their sums are
pub small-is : (x : ℤ) → IsSmall x → to_z w64 (of_z w64 x) ≡ x
small-is x s = omega (arith, ints, s.least, s.most)

pub zero-small : IsSmall (pos 0)
zero-small = record { least = omega (arith, ints); most = omega (arith, ints) }

-- an entry, once and twice
pub record IsEntry (x : ℤ) : Type 0 where
  pub least : neg_ℤ (pos (2 ^ 34)) ≤ℤ x
  pub most : x ≤ℤ pos (2 ^ 32)

pub entry-is : (m : MatrixValue) (a b : ℕ) (x : ℤ) → IsMatrix m → a < 2 * m.variables → b < 2 * m.variables → x ≡ entry_of m a b → IsEntry x
entry-is m a b x k h l e = record {
  least = omega (arith, ints, e, entry-least m a b k h l);
  most = omega (arith, ints, e, entry-most m a b k h l);
}

pub plain-entry : (x : ℤ) → IsEntry x → to_z w64 (of_z w64 x) ≡ x
plain-entry x s = omega (arith, ints, s.least, s.most)

pub sum-is : (x d : ℤ) → IsEntry x → IsEntry d → to_z w64 (of_z w64 (to_z w64 (of_z w64 x) +ℤ to_z w64 (of_z w64 d))) ≡ x +ℤ d
sum-is x d s t =
    let e : to_z w64 (of_z w64 (x +ℤ d)) ≡ x +ℤ d = omega (arith, ints, s.least, s.most, t.least, t.most) in
    rw (plain-entry x s, plain-entry d t) e

pub sum_twice-is : (x d : ℤ) → IsEntry x → IsEntry d → to_z w64 (of_z w64 (to_z w64 (of_z w64 (to_z w64 (of_z w64 x) +ℤ to_z w64 (of_z w64 d))) +ℤ to_z w64 (of_z w64 d))) ≡ (x +ℤ d) +ℤ d
sum_twice-is x d s t =
    let e : to_z w64 (of_z w64 ((x +ℤ d) +ℤ d)) ≡ (x +ℤ d) +ℤ d = omega (arith, ints, s.least, s.most, t.least, t.most) in
    rw (sum-is x d s t, plain-entry d t) e

pub sum-small : (x d : ℤ) → IsEntry x → IsEntry d → IsSmall (x +ℤ d)
sum-small x d s t = record { least = omega (arith, ints, s.least, t.least); most = omega (arith, ints, s.most, t.most) }

pub sum_twice-small : (x d : ℤ) → IsEntry x → IsEntry d → IsSmall ((x +ℤ d) +ℤ d)
sum_twice-small x d s t = record { least = omega (arith, ints, s.least, t.least); most = omega (arith, ints, s.most, t.most) }

pub entry_alone-small : (x : ℤ) → IsEntry x → IsSmall x
entry_alone-small x s = record { least = omega (arith, ints, s.least); most = omega (arith, ints, s.most) }
