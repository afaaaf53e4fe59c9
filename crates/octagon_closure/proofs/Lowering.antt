-- The sweep that lowers each kept entry, step by step.
use Rattle.std.proofs.Common.{◌≡◌, ◌⊎◌, inl, inr, ℕ, ℤ, pos, ◌+ℤ◌, ◌≤ℤ◌, ◌<ℤ◌, ◌+◌, ◌*◌, ◌/◌, ◌<◌, arith, ◌∙◌, sym, subst, refl, true, false}
use Rattle.std.proofs.lemmas.Int.{ints, clamps}
use Rattle.std.specs.Int.{int_min}
use Rattle.octagon_matrix.specs.Terms.{opposite, is_pair}
use Rattle.octagon_matrix.specs.Matrices.{MatrixValue, entry_of, IsMatrix, HasEntries, met_entry}
use Rattle.octagon_matrix.proofs.Terms.{opposite-below, opposite-half}
use Rattle.octagon_matrix.proofs.Places.{IsSame}
use Rattle.octagon_matrix.proofs.Cells.{pair_tells}
use Rattle.octagon_closure.specs.Sweeps.{lowered, sums, HasNegative}
use Rattle.octagon_closure.proofs.Octagons.{IsCoherent, IsLowering}
use Rattle.octagon_closure.proofs.Walks.{lowered-coherent}

lower-once : (x m s : ℤ) → (x ≡ m) ⊎ (x ≡ int_min m s) → int_min x s ≡ int_min m s
lower-once x m s (inl e) = rw e refl
lower-once x m s (inr e) = rw e (omega (arith, ints, clamps))

pub matrix-coherent : (m : MatrixValue) → IsMatrix m → IsCoherent m.variables (entry_of m)
matrix-coherent m k = record { zero_diagonal = k.zero_diagonal; coherent = k.coherent }

-- an entry of the pair that is met
pair-lowered : (n : ℕ) (m : ℕ → ℕ → ℤ) (f g : ℕ → ℤ) (now : MatrixValue) (i j c d : ℕ) → IsCoherent n m → IsLowering n m f g now i j → i < 2 * n → j < 2 * n → IsSame i j c d
    → int_min (entry_of now c d) (sums f g i j) ≡ lowered m f g c d
pair-lowered n m f g now i j c d q l h k (inl s) = rw (s.0, s.1) (lower-once (entry_of now i j) (m i j) (sums f g i j) (l.either i j h k))
pair-lowered n m f g now i j c d q l h k (inr s) =
    let e : entry_of now (opposite j) (opposite i) ≡ entry_of now i j = l.kept.coherent i j (rw (l.variables) h) (rw (l.variables) k) in
    rw (s.0, s.1, e, lowered-coherent n m f g i j q h k) (lower-once (entry_of now i j) (m i j) (sums f g i j) (l.either i j h k))

before : (a b i j : ℕ) → (a < i) ⊎ ((a ≡ i) × (b < j + 1)) → ((a < i) ⊎ ((a ≡ i) × (b < j))) ⊎ ((a ≡ i) × (b ≡ j))
before a b i j h = grind arith

Test : ℕ → ℕ → ℕ → ℕ → Type 0
Test i j a b = ((is_pair i j a b ≡ true) × IsSame i j a b) ⊎ ((is_pair i j a b ≡ false) × (IsSame i j a b → ⊥))

met-done : (n : ℕ) (m : ℕ → ℕ → ℤ) (f g : ℕ → ℤ) (now : MatrixValue) (i j a b : ℕ) → IsCoherent n m → IsLowering n m f g now i j → i < 2 * n → j < 2 * n → a < 2 * n → b < 2 * n
    → b < 2 * (a / 2) + 2 → ((a < i) ⊎ ((a ≡ i) × (b < j))) ⊎ ((a ≡ i) × (b ≡ j)) → Test i j a b → met_entry now i j (sums f g i j) a b ≡ lowered m f g a b
unfolding Test
met-done n m f g now i j a b q l h k r s u t (inl p) = rw (p.0) (pair-lowered n m f g now i j a b q l h k (p.1))
met-done n m f g now i j a b q l h k r s u (inl t) (inr p) = rw (p.0) (l.done a b r s u t)
met-done n m f g now i j a b q l h k r s u (inr t) (inr p) = absurd (p.1 (inl t))

met-either : (n : ℕ) (m : ℕ → ℕ → ℤ) (f g : ℕ → ℤ) (now : MatrixValue) (i j a b : ℕ) → IsCoherent n m → IsLowering n m f g now i j → i < 2 * n → j < 2 * n → a < 2 * n → b < 2 * n
    → Test i j a b → (met_entry now i j (sums f g i j) a b ≡ m a b) ⊎ (met_entry now i j (sums f g i j) a b ≡ lowered m f g a b)
unfolding Test
met-either n m f g now i j a b q l h k r s (inl p) = inr (rw (p.0) (pair-lowered n m f g now i j a b q l h k (p.1)))
met-either n m f g now i j a b q l h k r s (inr p) = rw (p.0) (l.either a b r s)

test : (i j a b : ℕ) → Test i j a b
unfolding Test
test i j a b = pair_tells i j a b

-- an entry off the diagonal is met
pub lowering-met : (n : ℕ) (m : ℕ → ℕ → ℤ) (f g : ℕ → ℤ) (now next : MatrixValue) (i j : ℕ) → IsCoherent n m → IsLowering n m f g now i j → i < 2 * n → j < 2 * n
    → IsMatrix next → HasEntries next now.variables (met_entry now i j (sums f g i j)) → IsLowering n m f g next i (j + 1)
lowering-met n m f g now next i j q l h k z e = record {
  kept = z;
  variables = e.variables ∙ l.variables;
  done = λ a b r s u t. e.entries a b (rw (l.variables) r) (rw (l.variables) s) ∙ met-done n m f g now i j a b q l h k r s u (before a b i j t) (test i j a b);
  either = λ a b r s. rw (e.entries a b (rw (l.variables) r) (rw (l.variables) s)) (met-either n m f g now i j a b q l h k r s (test i j a b));
}

-- an entry on the diagonal stays
diagonal-done : (n : ℕ) (m : ℕ → ℕ → ℤ) (f g : ℕ → ℤ) (now : MatrixValue) (i j a b : ℕ) → IsCoherent n m → IsLowering n m f g now i j → i ≡ j → pos 0 ≤ℤ sums f g i j → a < 2 * n → b < 2 * n
    → b < 2 * (a / 2) + 2 → ((a < i) ⊎ ((a ≡ i) × (b < j))) ⊎ ((a ≡ i) × (b ≡ j)) → entry_of now a b ≡ lowered m f g a b
diagonal-done n m f g now i j a b q l e p r s x (inl t) = l.done a b r s x t
diagonal-done n m f g now i j a b q l e p r s x (inr t) =
    let u : i ≡ a = sym (t.0) in
    let P : ℕ → Type 0 = λ d. entry_of now a d ≡ lowered m f g a d in
    let o : pos 0 ≤ℤ sums f g a a = let R : ℕ → ℕ → Type 0 = λ x y. pos 0 ≤ℤ sums f g x y in subst (R a) (sym e ∙ u) (let S : ℕ → Type 0 = λ x. R x j in subst S u p) in
    subst P (t.0 ∙ (e ∙ sym (t.1)))
    (omega (arith, ints, clamps, l.kept.zero_diagonal a (rw (l.variables) r), q.zero_diagonal a r))

pub lowering-skip : (n : ℕ) (m : ℕ → ℕ → ℤ) (f g : ℕ → ℤ) (now : MatrixValue) (i j : ℕ) → IsCoherent n m → IsLowering n m f g now i j → i ≡ j → pos 0 ≤ℤ sums f g i j → IsLowering n m f g now i (j + 1)
lowering-skip n m f g now i j q l e p = record {
  kept = l.kept;
  variables = l.variables;
  done = λ a b r s x t. diagonal-done n m f g now i j a b q l e p r s x (before a b i j t);
  either = l.either;
}

above-lowered : (x m s : ℤ) → (x ≡ m) ⊎ (x ≡ int_min m s) → int_min m s ≤ℤ x
above-lowered x m s (inl e) = omega (arith, ints, clamps)
above-lowered x m s (inr e) = omega (arith, ints)

-- a sum and the entry back that are together below 0
pub lowering-negative : (n : ℕ) (m : ℕ → ℕ → ℤ) (f g : ℕ → ℤ) (now : MatrixValue) (i j : ℕ) → IsLowering n m f g now i j → i < 2 * n → j < 2 * n → (sums f g i j +ℤ entry_of now j i) <ℤ pos 0 → HasNegative n (lowered m f g)
lowering-negative n m f g now i j l h k p = record {
  first = i;
  second = j;
  first_below = h;
  second_below = k;
  negative = omega (arith, ints, clamps, above-lowered (entry_of now j i) (m j i) (sums f g j i) (l.either j i k h));
}

nothing-before : (a b : ℕ) → (a < 0) ⊎ ((a ≡ 0) × (b < 0)) → ⊥
nothing-before a b h = grind arith

row-before : (a b i : ℕ) → b < 2 * (a / 2) + 2 → (a < i + 1) ⊎ ((a ≡ i + 1) × (b < 0)) → (a < i) ⊎ ((a ≡ i) × (b < 2 * (i / 2) + 2))
row-before a b i h s = grind arith

pub lowering-start : (m : MatrixValue) (f g : ℕ → ℤ) → IsMatrix m → IsLowering m.variables (entry_of m) f g m 0 0
lowering-start m f g k = record {
  kept = k;
  variables = refl;
  done = λ a b h i x s. absurd (nothing-before a b s);
  either = λ a b h i. inl refl;
}

pub lowering-row : (n : ℕ) (m : ℕ → ℕ → ℤ) (f g : ℕ → ℤ) (now : MatrixValue) (i : ℕ) → IsLowering n m f g now i (2 * (i / 2) + 2) → IsLowering n m f g now (i + 1) 0
lowering-row n m f g now i l = record {
  kept = l.kept;
  variables = l.variables;
  done = λ a b h k x s. l.done a b h k x (row-before a b i x s);
  either = l.either;
}

-- an entry or its twin is kept
kept_or_twin : (a b : ℕ) → (b < 2 * (a / 2) + 2) ⊎ (opposite a < 2 * (opposite b / 2) + 2)
kept_or_twin a b = rw (opposite-half b) (by_halves a b (opposite a) (opposite-half a))
  where
    by_halves : (a b c : ℕ) → c / 2 ≡ a / 2 → (b < 2 * (a / 2) + 2) ⊎ (c < 2 * (b / 2) + 2)
    by_halves a b c e = grind arith

end-at : (n : ℕ) (m : ℕ → ℕ → ℤ) (f g : ℕ → ℤ) (now : MatrixValue) → IsCoherent n m → IsLowering n m f g now (2 * n) 0 → (a b : ℕ) → a < 2 * n → b < 2 * n → (b < 2 * (a / 2) + 2) ⊎ (opposite a < 2 * (opposite b / 2) + 2) → entry_of now a b ≡ lowered m f g a b
end-at n m f g now q l a b h k (inl x) = l.done a b h k x (inl h)
end-at n m f g now q l a b h k (inr x) =
    let h' : opposite a < 2 * n = opposite-below n a h in
    let k' : opposite b < 2 * n = opposite-below n b k in
    sym (l.kept.coherent a b (rw (l.variables) h) (rw (l.variables) k)) ∙ (l.done (opposite b) (opposite a) k' h' x (inl k') ∙ lowered-coherent n m f g a b q h k)

pub lowering-end : (n : ℕ) (m : ℕ → ℕ → ℤ) (f g : ℕ → ℤ) (now : MatrixValue) → IsCoherent n m → IsLowering n m f g now (2 * n) 0 → HasEntries now n (lowered m f g)
lowering-end n m f g now q l = record { variables = l.variables; entries = λ a b h k. end-at n m f g now q l a b h k (kept_or_twin a b) }
