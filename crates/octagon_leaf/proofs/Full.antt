-- Matrices by their entries.
use Rattle.std.proofs.Common.{◌≡◌, ℕ, ◌*◌, ◌+◌, ◌<◌, ℤ, pos, ◌≤ℤ◌, List, length, slice_index_or, refl, sym, ◌∙◌, ap, subst, arith}
use Rattle.std.specs.Prelude.{IfOk}
use Rattle.std.proofs.Common.{Result, Ok, Err}
use Rattle.std.proofs.lemmas.Int.{ints, clamps}
use Rattle.octagon_matrix.specs.Matrices.{MatrixValue, entry_of, IsMatrix, HasEntries}
use Rattle.octagon_matrix.specs.View.{table}
use Rattle.octagon_matrix.proofs.Cells.{table-entry, table-size}
use Rattle.octagon_closure.specs.Best.{IsBest}
use Rattle.octagon_closure.proofs.Unique.{same-entries}
use Rattle.octagon_leaf.specs.Greatest.{matrix_of}
use Rattle.octagon_leaf.specs.Octagons.{matrix_at, greater, least_entry}
use Rattle.octagon_leaf.specs.Filling.{IsFull}
use Rattle.octagon_leaf.specs.Laws.Best.{of-entry, IsBounded, best-kept, type_bound-same}
use Rattle.octagon_leaf.specs.Laws.Matrices.{kept-full}

entries-at : (k n : ℕ) (es : List ℤ) (f : ℕ → ℕ → ℤ) → k ≡ n → length es ≡ (2 * k) * (2 * k) → ((a b : ℕ) → a < 2 * n → b < 2 * n → entry_of (matrix_at k es) a b ≡ f a b) → matrix_at k es ≡ matrix_of n f
unfolding entry_of
entries-at k n es f e l g =
    let Q : ℕ → Type 0 = λ i. (a b : ℕ) → a < 2 * n → b < 2 * n → slice_index_or es (a * (2 * i) + b) (pos 0) ≡ f a b in
    let R : ℕ → Type 0 = λ i. length es ≡ (2 * i) * (2 * i) in
    let h : Q n = subst Q e g in
    let w : es ≡ table (2 * n) f = same-entries (2 * n) es (table (2 * n) f) (subst R e l) (table-size (2 * n) f) (λ a b i j. h a b i j ∙ sym (table-entry (2 * n) f a b i j)) in
    ap (λ i. matrix_at i es) e ∙ ap (λ c. matrix_at n c) w

-- a matrix is the one of its entries
pub entries-are : (m : MatrixValue) (n : ℕ) (f : ℕ → ℕ → ℤ) → IsMatrix m → HasEntries m n f → m ≡ matrix_of n f
entries-are m n f k e = entries-at m.variables n m.entries f e.variables k.size e.entries

-- best bounds are full entries, and not too low
pub best-full : (d : MatrixValue) (n : ℕ) (f : ℕ → ℕ → ℤ) → IsBounded d → IsBest d (matrix_of n f) → IsFull n f
best-full d n f p q = kept-full n f (best-kept d (matrix_of n f) p q (table-size (2 * n) f))

pub best-large : (d : MatrixValue) (n : ℕ) (f : ℕ → ℕ → ℤ) (a b : ℕ) → IsBounded d → IsBest d (matrix_of n f) → a < 2 * n → b < 2 * n → least_entry ≤ℤ f a b
best-large d n f a b p q i j = rw (of-entry n f a b i j) at ((best-kept d (matrix_of n f) p q (table-size (2 * n) f)).least a b i j)

pub best-made : (d m : MatrixValue) (n : ℕ) (f : ℕ → ℕ → ℤ) → IsBest d (matrix_of n f) → IsMatrix m → HasEntries m n f → IsBest d m
best-made d m n f q k e = let P : MatrixValue → Type 0 = λ x. IsBest d x in subst P (sym (entries-are m n f k e)) q

pub greater-full : (x y : MatrixValue) → IsMatrix x → IsMatrix y → x.variables ≡ y.variables → IsFull x.variables (greater x y)
greater-full x y p q e = record {
  diagonal = λ a h. omega (arith, ints, clamps, p.zero_diagonal a h, q.zero_diagonal a (rw (← e) h), type_bound-same a);
  coherent = λ a b h k. rw (p.coherent a b h k, q.coherent a b (rw (← e) h) (rw (← e) k)) refl;
  most = λ a b h k. omega (arith, ints, clamps, p.most a b h k, q.most a b (rw (← e) h) (rw (← e) k));
}

-- where the code makes a matrix of the best entries, it is best
pub best-result : {E : Type 0} (o : Result MatrixValue E) (d : MatrixValue) (k n : ℕ) (f : ℕ → ℕ → ℤ) → k ≡ n → IsBest d (matrix_of n f) → IfOk o (λ m. HasEntries m k f) → IfOk o (λ m. IsMatrix m) → IfOk o (λ m. IsBest d m)
best-result (Ok m) d k n f e q h g = best-made d m n f q g (rw e at h)
best-result (Err x) d k n f e q h g = tt
