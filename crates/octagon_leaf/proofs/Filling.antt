-- The sweep that lowers the type's bounds to given entries, step by step.
use Rattle.std.proofs.Common.{◌≡◌, ◌⊎◌, inl, inr, ℕ, ℤ, ◌≤ℤ◌, ◌+◌, ◌*◌, ◌/◌, ◌<◌, arith, ◌∙◌, sym, subst, true, false}
use Rattle.std.specs.Int.{int_min}
use Rattle.std.proofs.lemmas.Int.{ints, clamps}
use Rattle.octagon_matrix.specs.Terms.{opposite, is_pair, type_bound}
use Rattle.octagon_matrix.specs.Matrices.{MatrixValue, entry_of, IsMatrix, HasEntries, met_entry}
use Rattle.octagon_matrix.proofs.Terms.{opposite-below, opposite-half}
use Rattle.octagon_matrix.proofs.Places.{IsSame}
use Rattle.octagon_matrix.proofs.Cells.{pair_tells}
use Rattle.octagon_leaf.specs.Filling.{IsFull}
use Rattle.octagon_leaf.specs.Laws.Best.{type_bound-same}

-- the kept entries before (i, j) are the given ones, and each other is given or the type's
pub record IsFilling (n : ℕ) (f : ℕ → ℕ → ℤ) (now : MatrixValue) (i j : ℕ) : Type 0 where
  pub kept : IsMatrix now
  pub variables : now.variables ≡ n
  pub done : (a b : ℕ) → a < 2 * n → b < 2 * n → b < 2 * (a / 2) + 2 → (a < i) ⊎ ((a ≡ i) × (b < j)) → entry_of now a b ≡ f a b
  pub either : (a b : ℕ) → a < 2 * n → b < 2 * n → (entry_of now a b ≡ type_bound a b) ⊎ (entry_of now a b ≡ f a b)

lower-once : (x t v : ℤ) → v ≤ℤ t → (x ≡ t) ⊎ (x ≡ v) → int_min x v ≡ v
lower-once x t v h (inl e) = omega (arith, ints, clamps)
lower-once x t v h (inr e) = omega (arith, ints, clamps)

-- an entry of the pair that is met
pair-filled : (n : ℕ) (f : ℕ → ℕ → ℤ) (now : MatrixValue) (i j c d : ℕ) → IsFull n f → IsFilling n f now i j → i < 2 * n → j < 2 * n → IsSame i j c d → int_min (entry_of now c d) (f i j) ≡ f c d
pair-filled n f now i j c d q l h k (inl s) = rw (s.0, s.1) (lower-once (entry_of now i j) (type_bound i j) (f i j) (q.most i j h k) (l.either i j h k))
pair-filled n f now i j c d q l h k (inr s) =
    let e : entry_of now (opposite j) (opposite i) ≡ entry_of now i j = l.kept.coherent i j (rw (l.variables) h) (rw (l.variables) k) in
    rw (s.0, s.1, e, q.coherent i j h k) (lower-once (entry_of now i j) (type_bound i j) (f i j) (q.most i j h k) (l.either i j h k))

before : (a b i j : ℕ) → (a < i) ⊎ ((a ≡ i) × (b < j + 1)) → ((a < i) ⊎ ((a ≡ i) × (b < j))) ⊎ ((a ≡ i) × (b ≡ j))
before a b i j h = grind arith

Test : ℕ → ℕ → ℕ → ℕ → Type 0
Test i j a b = ((is_pair i j a b ≡ true) × IsSame i j a b) ⊎ ((is_pair i j a b ≡ false) × (IsSame i j a b → ⊥))

met-done : (n : ℕ) (f : ℕ → ℕ → ℤ) (now : MatrixValue) (i j a b : ℕ) → IsFull n f → IsFilling n f now i j → i < 2 * n → j < 2 * n → a < 2 * n → b < 2 * n
    → b < 2 * (a / 2) + 2 → ((a < i) ⊎ ((a ≡ i) × (b < j))) ⊎ ((a ≡ i) × (b ≡ j)) → Test i j a b → met_entry now i j (f i j) a b ≡ f a b
unfolding Test
met-done n f now i j a b q l h k r s u t (inl p) = rw (p.0) (pair-filled n f now i j a b q l h k (p.1))
met-done n f now i j a b q l h k r s u (inl t) (inr p) = rw (p.0) (l.done a b r s u t)
met-done n f now i j a b q l h k r s u (inr t) (inr p) = absurd (p.1 (inl t))

met-either : (n : ℕ) (f : ℕ → ℕ → ℤ) (now : MatrixValue) (i j a b : ℕ) → IsFull n f → IsFilling n f now i j → i < 2 * n → j < 2 * n → a < 2 * n → b < 2 * n
    → Test i j a b → (met_entry now i j (f i j) a b ≡ type_bound a b) ⊎ (met_entry now i j (f i j) a b ≡ f a b)
unfolding Test
met-either n f now i j a b q l h k r s (inl p) = inr (rw (p.0) (pair-filled n f now i j a b q l h k (p.1)))
met-either n f now i j a b q l h k r s (inr p) = rw (p.0) (l.either a b r s)

test : (i j a b : ℕ) → Test i j a b
unfolding Test
test i j a b = pair_tells i j a b

-- an entry off the diagonal is met
pub filling-met : (n : ℕ) (f : ℕ → ℕ → ℤ) (now next : MatrixValue) (i j : ℕ) → IsFull n f → IsFilling n f now i j → i < 2 * n → j < 2 * n
    → IsMatrix next → HasEntries next now.variables (met_entry now i j (f i j)) → IsFilling n f next i (j + 1)
filling-met n f now next i j q l h k z e = record {
  kept = z;
  variables = e.variables ∙ l.variables;
  done = λ a b r s u t. e.entries a b (rw (l.variables) r) (rw (l.variables) s) ∙ met-done n f now i j a b q l h k r s u (before a b i j t) (test i j a b);
  either = λ a b r s. rw (e.entries a b (rw (l.variables) r) (rw (l.variables) s)) (met-either n f now i j a b q l h k r s (test i j a b));
}

-- an entry on the diagonal stays
diagonal-done : (n : ℕ) (f : ℕ → ℕ → ℤ) (now : MatrixValue) (i j a b : ℕ) → IsFull n f → IsFilling n f now i j → i ≡ j → a < 2 * n → b < 2 * n
    → b < 2 * (a / 2) + 2 → ((a < i) ⊎ ((a ≡ i) × (b < j))) ⊎ ((a ≡ i) × (b ≡ j)) → entry_of now a b ≡ f a b
diagonal-done n f now i j a b q l e r s x (inl t) = l.done a b r s x t
diagonal-done n f now i j a b q l e r s x (inr t) =
    let P : ℕ → Type 0 = λ d. entry_of now a d ≡ f a d in
    subst P (t.0 ∙ (e ∙ sym (t.1))) (l.kept.zero_diagonal a (rw (l.variables) r) ∙ (sym (type_bound-same a) ∙ sym (q.diagonal a r)))

pub filling-skip : (n : ℕ) (f : ℕ → ℕ → ℤ) (now : MatrixValue) (i j : ℕ) → IsFull n f → IsFilling n f now i j → i ≡ j → IsFilling n f now i (j + 1)
filling-skip n f now i j q l e = record {
  kept = l.kept;
  variables = l.variables;
  done = λ a b r s x t. diagonal-done n f now i j a b q l e r s x (before a b i j t);
  either = l.either;
}

nothing-before : (a b : ℕ) → (a < 0) ⊎ ((a ≡ 0) × (b < 0)) → ⊥
nothing-before a b h = grind arith

row-before : (a b i : ℕ) → b < 2 * (a / 2) + 2 → (a < i + 1) ⊎ ((a ≡ i + 1) × (b < 0)) → (a < i) ⊎ ((a ≡ i) × (b < 2 * (i / 2) + 2))
row-before a b i h s = grind arith

pub filling-start : (n : ℕ) (f : ℕ → ℕ → ℤ) (now : MatrixValue) → IsMatrix now → HasEntries now n type_bound → IsFilling n f now 0 0
filling-start n f now k e = record {
  kept = k;
  variables = e.variables;
  done = λ a b h i x s. absurd (nothing-before a b s);
  either = λ a b h i. inl (e.entries a b h i);
}

pub filling-row : (n : ℕ) (f : ℕ → ℕ → ℤ) (now : MatrixValue) (i : ℕ) → IsFilling n f now i (2 * (i / 2) + 2) → IsFilling n f now (i + 1) 0
filling-row n f now i l = record {
  kept = l.kept;
  variables = l.variables;
  done = λ a b h k x s. l.done a b h k x (row-before a b i x s);
  either = l.either;
}

-- an entry or its twin is kept
pub kept_or_twin : (a b : ℕ) → (b < 2 * (a / 2) + 2) ⊎ (opposite a < 2 * (opposite b / 2) + 2)
kept_or_twin a b = rw (opposite-half b) (by_halves a b (opposite a) (opposite-half a))
  where
    by_halves : (a b c : ℕ) → c / 2 ≡ a / 2 → (b < 2 * (a / 2) + 2) ⊎ (c < 2 * (b / 2) + 2)
    by_halves a b c e = grind arith

end-at : (n : ℕ) (f : ℕ → ℕ → ℤ) (now : MatrixValue) → IsFull n f → IsFilling n f now (2 * n) 0 → (a b : ℕ) → a < 2 * n → b < 2 * n → (b < 2 * (a / 2) + 2) ⊎ (opposite a < 2 * (opposite b / 2) + 2) → entry_of now a b ≡ f a b
end-at n f now q l a b h k (inl x) = l.done a b h k x (inl h)
end-at n f now q l a b h k (inr x) =
    let h' : opposite a < 2 * n = opposite-below n a h in
    let k' : opposite b < 2 * n = opposite-below n b k in
    sym (l.kept.coherent a b (rw (l.variables) h) (rw (l.variables) k)) ∙ (l.done (opposite b) (opposite a) k' h' x (inl k') ∙ q.coherent a b h k)

pub filling-end : (n : ℕ) (f : ℕ → ℕ → ℤ) (now : MatrixValue) → IsFull n f → IsFilling n f now (2 * n) 0 → HasEntries now n f
filling-end n f now q l = record { variables = l.variables; entries = λ a b h k. end-at n f now q l a b h k (kept_or_twin a b) }
