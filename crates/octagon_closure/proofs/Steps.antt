-- The steps of the closure: what they keep, and what they reach.
use Rattle.std.proofs.Common.{◌≡◌, ℕ, ℤ, pos, ◌+ℤ◌, ◌-ℤ◌, ◌≤ℤ◌, ◌*◌, ◌<◌, arith, ◌∙◌, sym, refl, Bool, true}
use Rattle.octagon_closure.proofs.Extending.{with_pair, Place, own, turned, other, place, pair_away}
use Rattle.std.proofs.lemmas.Int.{ints, clamps}
use Rattle.octagon_matrix.specs.Terms.{opposite}
use Rattle.octagon_closure.specs.Sweeps.{greatest_of, halves, tightened}
use Rattle.octagon_closure.proofs.Octagons.{IsClosed, IsTight, tight_entry, IsCoherent, IsClosedBy, Meets, all}
use Rattle.octagon_matrix.proofs.Terms.{opposite-opposite, opposite-below}
use Rattle.octagon_closure.proofs.HalfNumbers.{half-above}
use Rattle.octagon_closure.proofs.Passing.{passed, kept-by, own-by, opposite-by}
use Rattle.octagon_closure.proofs.Walks.{lowered-meets}
use Rattle.octagon_closure.proofs.Tightening.{tightened-tight}

closed-at : (n : ℕ) (m : ℕ → ℕ → ℤ) (s : ℕ → Bool) (p : ℕ) → IsCoherent n m → p < 2 * n → IsClosedBy n m s → passed m p p p ≡ pos 0
    → (a b d : ℕ) → a < 2 * n → b < 2 * n → Place p b → with_pair p s b ≡ true → d < 2 * n → passed m p a d ≤ℤ (passed m p a b +ℤ passed m p b d)
closed-at n m s p c h q z a b d j l own t r = own-by n m c p h z a d j r
closed-at n m s p c h q z a b d j l turned t r = opposite-by n m c p h z a d j r
closed-at n m s p c h q z a b d j l (other e x y) t r = kept-by n m c s p q h z a e d j l (sym (pair_away p s e x y) ∙ t) r

-- a pass that keeps the diagonal closes by one variable more
pub passed-closed : (n : ℕ) (m : ℕ → ℕ → ℤ) (s : ℕ → Bool) (p : ℕ) → IsCoherent n m → p < 2 * n → IsClosedBy n m s → passed m p p p ≡ pos 0 → IsClosedBy n (passed m p) (with_pair p s)
passed-closed n m s p c h q z = record { by = λ a b d j l t r. closed-at n m s p c h q z a b d j l (place p b) t r }

-- the same by the terms of a smaller set
pub ClosedBy-less : (n : ℕ) (m : ℕ → ℕ → ℤ) (s t : ℕ → Bool) → ((b : ℕ) → b < 2 * n → t b ≡ true → s b ≡ true) → IsClosedBy n m s → IsClosedBy n m t
ClosedBy-less n m s t f q = record { by = λ a b c h j u k. q.by a b c h j (f b j u) k }

-- ---- what values keep
greatest-holds : (n : ℕ) (m : ℕ → ℕ → ℤ) (v : ℕ → ℤ) (a : ℕ) → Meets n m v → a < 2 * n → v a ≤ℤ greatest_of m a
greatest-holds n m v a w h = omega (arith, ints, w.meets a (opposite a) h (opposite-below n a h), w.odd.odd a, half-above (m a (opposite a)))

halves-hold : (n : ℕ) (m : ℕ → ℕ → ℤ) (v : ℕ → ℤ) → Meets n m v → (a b : ℕ) → a < 2 * n → b < 2 * n → (v a -ℤ v b) ≤ℤ (halves m (opposite a) +ℤ halves m b)
halves-hold n m v w a b h k = rw (opposite-opposite a) (omega (arith, ints, greatest-holds n m v a w h, greatest-holds n m v (opposite b) w (opposite-below n b k), w.odd.odd b))

pub halved-meets : (n : ℕ) (m : ℕ → ℕ → ℤ) (v : ℕ → ℤ) → Meets n m v → Meets n (tightened m) v
halved-meets n m v w = lowered-meets n m (halves m) (halves m) v w (halves-hold n m v w)

-- ---- what the last step reaches
halved-is : (m : ℕ → ℕ → ℤ) (a b : ℕ) → tightened m a b ≡ tight_entry m a b
halved-is m a b = rw (opposite-opposite a) (omega (arith, ints, clamps))

-- a fact of a matrix passes to one with equal entries
pub IsTight-same : (n : ℕ) (m d : ℕ → ℕ → ℤ) → ((a b : ℕ) → a < 2 * n → b < 2 * n → d a b ≡ m a b) → IsTight n m → IsTight n d
IsTight-same n m d e t = record {
  closed = record {
    zero_diagonal = λ a h. e a a h h ∙ t.closed.zero_diagonal a h;
    coherent = λ a b h k. e (opposite b) (opposite a) (opposite-below n b k) (opposite-below n a h) ∙ (t.closed.coherent a b h k ∙ sym (e a b h k));
    triangle = λ a b c h k l. rw (e a c h l, e a b h k, e b c k l) (t.closed.triangle a b c h k l);
  };
  even = λ a h. rw (e a (opposite a) h (opposite-below n a h)) (t.even a h);
  strong = λ a b h k. rw (e a b h k, e a (opposite a) h (opposite-below n a h), e (opposite b) (opposite (opposite b)) (opposite-below n b k) (opposite-below n (opposite b) (opposite-below n b k))) (t.strong a b h k);
}

pub closed-by-all : (n : ℕ) (m : ℕ → ℕ → ℤ) → IsCoherent n m → IsClosedBy n m all → IsClosed n m
closed-by-all n m c q = record { zero_diagonal = c.zero_diagonal; coherent = c.coherent; triangle = λ a b d h k l. q.by a b d h k refl l }

nonempty : (n : ℕ) (m : ℕ → ℕ → ℤ) → ((a : ℕ) → a < 2 * n → tightened m a a ≡ pos 0) → (a : ℕ) → a < 2 * n → pos 0 ≤ℤ (greatest_of m a +ℤ greatest_of m (opposite a))
nonempty n m z a h = omega (arith, ints, clamps, sym (halved-is m a a) ∙ z a h)

pub halved-tight : (n : ℕ) (m : ℕ → ℕ → ℤ) → IsClosed n m → ((a : ℕ) → a < 2 * n → tightened m a a ≡ pos 0) → IsTight n (tightened m)
halved-tight n m c z = IsTight-same n (tight_entry m) (tightened m) (λ a b h k. halved-is m a b) (tightened-tight n m c (nonempty n m z))
