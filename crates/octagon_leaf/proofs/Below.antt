-- Whether each entry of a matrix is at most that of another, by one of each pair.
use Rattle.std.proofs.Common.{◌≡◌, ◌⊎◌, inl, inr, ℕ, ℤ, ◌≤ℤ◌, ◌<ℤ◌, int_le, ◌+◌, ◌*◌, ◌/◌, ◌<◌, arith, refl, Bool, true, false}
use Rattle.std.proofs.lemmas.Int.{ints}
use Rattle.octagon_matrix.specs.Terms.{opposite}
use Rattle.octagon_matrix.specs.Matrices.{MatrixValue, entry_of, IsMatrix}
use Rattle.octagon_matrix.proofs.Terms.{opposite-below}
use Rattle.octagon_leaf.specs.Octagons.{is_below}
use Rattle.octagon_leaf.specs.Laws.OverPairs.{pairs-tell, tell-pairs}
use Rattle.octagon_leaf.proofs.Filling.{kept_or_twin}

-- the kept entries before (i, j) are at most the others
pub record IsComparing (m k : MatrixValue) (i j : ℕ) : Type 0 where
  pub done : (a b : ℕ) → a < 2 * m.variables → b < 2 * m.variables → b < 2 * (a / 2) + 2 → (a < i) ⊎ ((a ≡ i) × (b < j)) → entry_of m a b ≤ℤ entry_of k a b

nothing-before : (a b : ℕ) → (a < 0) ⊎ ((a ≡ 0) × (b < 0)) → ⊥
nothing-before a b h = grind arith

row-before : (a b i : ℕ) → b < 2 * (a / 2) + 2 → (a < i + 1) ⊎ ((a ≡ i + 1) × (b < 0)) → (a < i) ⊎ ((a ≡ i) × (b < 2 * (i / 2) + 2))
row-before a b i h s = grind arith

before : (a b i j : ℕ) → (a < i) ⊎ ((a ≡ i) × (b < j + 1)) → ((a < i) ⊎ ((a ≡ i) × (b < j))) ⊎ ((a ≡ i) × (b ≡ j))
before a b i j h = grind arith

pub comparing-start : (m k : MatrixValue) → IsComparing m k 0 0
comparing-start m k = record { done = λ a b h i x s. absurd (nothing-before a b s) }

pub comparing-row : (m k : MatrixValue) (i : ℕ) → IsComparing m k i (2 * (i / 2) + 2) → IsComparing m k (i + 1) 0
comparing-row m k i l = record { done = λ a b h o x s. l.done a b h o x (row-before a b i x s) }

pub comparing-next : (m k : MatrixValue) (i j : ℕ) → entry_of m i j ≤ℤ entry_of k i j → IsComparing m k i j → IsComparing m k i (j + 1)
comparing-next m k i j e l = record { done = λ a b h o x s. by_place a b (λ t. l.done a b h o x t) (before a b i j s) }
  where
    by_place : (a b : ℕ) → ((a < i) ⊎ ((a ≡ i) × (b < j)) → entry_of m a b ≤ℤ entry_of k a b) → ((a < i) ⊎ ((a ≡ i) × (b < j))) ⊎ ((a ≡ i) × (b ≡ j)) → entry_of m a b ≤ℤ entry_of k a b
    by_place a b f (inl t) = f t
    by_place a b f (inr t) = rw (t.0, t.1) e

tells-le : (x y : ℤ) → x ≤ℤ y → int_le x y ≡ true
tells-le x y e = grind (arith, ints)

fails-le : (x y : ℤ) → y <ℤ x → int_le x y ≡ true → ⊥
fails-le x y e f = grind (arith, ints)

end-at : (m k : MatrixValue) → IsMatrix m → IsMatrix k → k.variables ≡ m.variables → IsComparing m k (2 * m.variables) 0 → (a b : ℕ) → a < 2 * m.variables → b < 2 * m.variables → (b < 2 * (a / 2) + 2) ⊎ (opposite a < 2 * (opposite b / 2) + 2) → entry_of m a b ≤ℤ entry_of k a b
end-at m k p q e l a b h o (inl x) = l.done a b h o x (inl h)
end-at m k p q e l a b h o (inr x) =
    let h' : opposite a < 2 * m.variables = opposite-below m.variables a h in
    let o' : opposite b < 2 * m.variables = opposite-below m.variables b o in
    omega (arith, ints, l.done (opposite b) (opposite a) o' h' x (inl o'), p.coherent a b h o, q.coherent a b (rw e h) (rw e o))

pub comparing-end : (m k : MatrixValue) → IsMatrix m → IsMatrix k → k.variables ≡ m.variables → IsComparing m k (2 * m.variables) 0 → is_below m k ≡ true
comparing-end m k p q e l =
    tell-pairs (2 * m.variables) (λ a b. int_le (entry_of m a b) (entry_of k a b)) (λ a b h o. tells-le (entry_of m a b) (entry_of k a b) (end-at m k p q e l a b h o (kept_or_twin a b)))

pub comparing-fails : (m k : MatrixValue) (a b : ℕ) → a < 2 * m.variables → b < 2 * m.variables → entry_of k a b <ℤ entry_of m a b → is_below m k ≡ false
comparing-fails m k a b h o e = by_test (is_below m k) refl
  where
    by_test : (t : Bool) → is_below m k ≡ t → is_below m k ≡ false
    by_test true f = absurd (fails-le (entry_of m a b) (entry_of k a b) e (pairs-tell (2 * m.variables) (λ c d. int_le (entry_of m c d) (entry_of k c d)) f a b h o))
    by_test false f = f
