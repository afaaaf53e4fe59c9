-- After Bagnara, Hill and Zaffanella: one rounding and halving of a closed matrix keeps the triangle inequalities, so it is tight.
use Rattle.std.proofs.Common.{◌≡◌, ℕ, ℤ, pos, ◌+ℤ◌, ◌≤ℤ◌, ◌*◌, ◌<◌, arith, ◌∙◌, ap, sym}
use Rattle.std.proofs.lemmas.Int.{ints, clamps}
use Rattle.std.specs.Int.{int_min}
use Rattle.octagon_matrix.specs.Terms.{opposite}
use Rattle.octagon_closure.specs.Sweeps.{half, greatest_of}
use Rattle.octagon_closure.proofs.Octagons.{IsClosed, IsTight, tight_entry}
use Rattle.octagon_matrix.proofs.Terms.{opposite-opposite, opposite-below}
use Rattle.octagon_closure.proofs.HalfNumbers.{half-below, half-above}

-- half of (a, -a) is at most (a, b) plus half of (b, -b)
half-step : (aa ab bb : ℤ) → aa ≤ℤ (ab +ℤ ab +ℤ bb) → half aa ≤ℤ (ab +ℤ half bb)
half-step aa ab bb h = omega (arith, ints, half-below aa, half-above bb)

-- the two sides of a triangle, each halved or not
triangle-step : (ab bc ac a b b' c' : ℤ) → ac ≤ℤ (ab +ℤ bc) → a ≤ℤ (ab +ℤ b) → c' ≤ℤ (bc +ℤ b') → pos 0 ≤ℤ (b +ℤ b') → int_min ac (a +ℤ c') ≤ℤ (int_min ab (a +ℤ b') +ℤ int_min bc (b +ℤ c'))
triangle-step ab bc ac a b b' c' p q r s = omega (arith, ints, clamps)

-- the entries (a, -a) of two terms and the entry between them
pub greatest-step : (n : ℕ) (m : ℕ → ℕ → ℤ) → IsClosed n m → (a b : ℕ) → a < 2 * n → b < 2 * n → greatest_of m a ≤ℤ (m a b +ℤ greatest_of m b)
greatest-step n m c a b p q =
    let p' : opposite a < 2 * n = opposite-below n a p in
    let q' : opposite b < 2 * n = opposite-below n b q in
    half-step (m a (opposite a)) (m a b) (m b (opposite b))
    (omega (arith, ints, c.triangle a b (opposite a) p q p', c.triangle b (opposite b) (opposite a) q q' p', c.coherent a b p q))

-- what the three steps make of a closed matrix
pub tightened-own : (m : ℕ → ℕ → ℤ) (a : ℕ) → tight_entry m a (opposite a) ≡ greatest_of m a +ℤ greatest_of m a
tightened-own m a = rw opposite-opposite (omega (arith, ints, clamps, half-below (m a (opposite a))))

half-double : (x : ℤ) → half (x +ℤ x) ≡ x
half-double x = omega (arith, ints, half-below (x +ℤ x), half-above (x +ℤ x))

tightened-greatest : (m : ℕ → ℕ → ℤ) (a : ℕ) → greatest_of (tight_entry m) a ≡ greatest_of m a
tightened-greatest m a = ap half (tightened-own m a) ∙ half-double (greatest_of m a)

pub tightened-tight : (n : ℕ) (m : ℕ → ℕ → ℤ) → IsClosed n m → ((a : ℕ) → a < 2 * n → pos 0 ≤ℤ (greatest_of m a +ℤ greatest_of m (opposite a))) → IsTight n (tight_entry m)
tightened-tight n m c nonempty = record {
  closed = record {
    zero_diagonal = λ a p. omega (arith, ints, clamps, c.zero_diagonal a p, nonempty a p);
    coherent = λ a b p q. rw (opposite-opposite a) (omega (arith, ints, clamps, c.coherent a b p q));
    triangle = λ a b d p q r.
        let p' : opposite a < 2 * n = opposite-below n a p in
        let q' : opposite b < 2 * n = opposite-below n b q in
        let r' : opposite d < 2 * n = opposite-below n d r in
        triangle-step (m a b) (m b d) (m a d) (greatest_of m a) (greatest_of m b) (greatest_of m (opposite b)) (greatest_of m (opposite d))
        (c.triangle a b d p q r) (greatest-step n m c a b p q)
        (rw (← c.coherent b d q r) (greatest-step n m c (opposite d) (opposite b) r' q')) (nonempty b q);
  };
  even = λ a p. tightened-own m a ∙ sym (omega (arith, ints, tightened-greatest m a));
  strong = λ a b p q. omega (arith, ints, clamps, tightened-greatest m a, tightened-greatest m (opposite b), opposite-opposite b);
}
