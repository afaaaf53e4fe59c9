-- Shortest walks, after Miné: the ways by one variable's two terms close a coherent matrix by way of these, and keep what was closed.
use Rattle.std.proofs.Common.{◌≡◌, ℕ, ℤ, pos, ◌+ℤ◌, ◌≤ℤ◌, ◌*◌, ◌<◌, arith, ap, subst, Bool, true}
use Rattle.std.proofs.lemmas.Int.{ints, clamps}
use Rattle.std.specs.Int.{int_min}
use Rattle.octagon_matrix.specs.Terms.{opposite}
use Rattle.octagon_closure.proofs.Octagons.{IsCoherent, IsClosedBy}
use Rattle.octagon_matrix.proofs.Terms.{opposite-opposite, opposite-below}

-- a b: the entry. ap and ap': from a to p and its opposite. pb and p'b: from these to b. s and t: between them
abbrev pub near : ℤ → ℤ → ℤ → ℤ
near x t y = int_min x (t +ℤ y)

-- A: from a to p. A': from a to the opposite. B and B': from these to b
abbrev pub over : ℤ → ℤ → ℤ → ℤ → ℤ → ℤ
over ab A B A' B' = int_min ab (int_min (A +ℤ B) (A' +ℤ B'))

-- what the two ways from and to one term satisfy
pub record Ways (s t A A' : ℤ) : Type 0 where
  pub first : A ≤ℤ (t +ℤ A')
  pub second : A' ≤ℤ (s +ℤ A)

pub near-ways : (s t x y : ℤ) → pos 0 ≤ℤ (s +ℤ t) → Ways s t (near x t y) (near y s x)
near-ways s t x y h = record { first = omega (arith, ints, clamps); second = omega (arith, ints, clamps) }

-- a triangle by way of k, with each side by way of p or not
pub record Triangle (s t ac ak kc A A' B B' K K' L L' : ℤ) : Type 0 where
  pub old : ac ≤ℤ (ak +ℤ kc)
  pub left : A ≤ℤ (ak +ℤ K)
  pub left' : A' ≤ℤ (ak +ℤ K')
  pub right : B ≤ℤ (L +ℤ kc)
  pub right' : B' ≤ℤ (L' +ℤ kc)
  pub round : pos 0 ≤ℤ (L +ℤ K)
  pub round' : pos 0 ≤ℤ (L' +ℤ K')
  pub across : s ≤ℤ (L +ℤ K')
  pub across' : t ≤ℤ (L' +ℤ K)
  pub to_a : Ways s t A A'
  pub from_b : Ways t s B B'

pub kept-triangle : (s t ac ak kc A A' B B' K K' L L' : ℤ) → Triangle s t ac ak kc A A' B B' K K' L L' → over ac A B A' B' ≤ℤ (over ak A L A' L' +ℤ over kc K B K' B')
kept-triangle s t ac ak kc A A' B B' K K' L L' q = omega (arith, ints, clamps)

-- the third side by way of p itself, where p has no way to itself
near-own : (s t : ℤ) → pos 0 ≤ℤ (s +ℤ t) → near (pos 0) s t ≡ pos 0
near-own s t h = omega (arith, ints, clamps)

near-far : (t : ℤ) → near t t (pos 0) ≡ t
near-far t = omega (arith, ints, clamps)

-- A is all of the way from a to p
first-side : (s t x A A' : ℤ) → pos 0 ≤ℤ (s +ℤ t) → A ≤ℤ x → A ≤ℤ (t +ℤ A') → A ≤ℤ over x A (near (pos 0) s t) A' (near t t (pos 0))
first-side s t x A A' h i j = rw (near-own s t h, near-far t) (omega (arith, ints, clamps))

second-side : (s t x A A' : ℤ) → pos 0 ≤ℤ (s +ℤ t) → A' ≤ℤ x → A' ≤ℤ (s +ℤ A) → A' ≤ℤ over x A (near s s (pos 0)) A' (near (pos 0) t s)
second-side s t x A A' h i j = rw (near-own t s (omega (arith, ints)), near-far s) (omega (arith, ints, clamps))

first-side-from : (s t x B B' : ℤ) → pos 0 ≤ℤ (s +ℤ t) → B ≤ℤ x → B ≤ℤ (s +ℤ B') → B ≤ℤ over x (near (pos 0) t s) B (near s s (pos 0)) B'
first-side-from s t x B B' h i j = rw (near-own t s (omega (arith, ints)), near-far s) (omega (arith, ints, clamps))

second-side-from : (s t x B B' : ℤ) → pos 0 ≤ℤ (s +ℤ t) → B' ≤ℤ x → B' ≤ℤ (t +ℤ B) → B' ≤ℤ over x (near t t (pos 0)) B (near (pos 0) s t) B'
second-side-from s t x B B' h i j = rw (near-own s t h, near-far t) (omega (arith, ints, clamps))

pub near-less : (x t y : ℤ) → near x t y ≤ℤ x
near-less x t y = omega (arith, ints, clamps)

by-first : (ac A B A' B' p q : ℤ) → A ≤ℤ p → B ≤ℤ q → over ac A B A' B' ≤ℤ (p +ℤ q)
by-first ac A B A' B' p q h k = omega (arith, ints, clamps)

by-second : (ac A B A' B' p q : ℤ) → A' ≤ℤ p → B' ≤ℤ q → over ac A B A' B' ≤ℤ (p +ℤ q)
by-second ac A B A' B' p q h k = omega (arith, ints, clamps)

-- the ways from and to p and its opposite, by way of one another
abbrev pub to_p : (ℕ → ℕ → ℤ) → ℕ → ℕ → ℤ
to_p m p a = near (m a p) (m (opposite p) p) (m a (opposite p))

abbrev pub to_opposite : (ℕ → ℕ → ℤ) → ℕ → ℕ → ℤ
to_opposite m p a = near (m a (opposite p)) (m p (opposite p)) (m a p)

abbrev pub from_p : (ℕ → ℕ → ℤ) → ℕ → ℕ → ℤ
from_p m p b = near (m p b) (m p (opposite p)) (m (opposite p) b)

abbrev pub from_opposite : (ℕ → ℕ → ℤ) → ℕ → ℕ → ℤ
from_opposite m p b = near (m (opposite p) b) (m (opposite p) p) (m p b)

pub coherent-turned : (n : ℕ) (m : ℕ → ℕ → ℤ) → IsCoherent n m → (a p : ℕ) → a < 2 * n → p < 2 * n → m p (opposite a) ≡ m a (opposite p)
coherent-turned n m c a p h k =
    let P : ℕ → Type 0 = λ d. m d (opposite a) ≡ m a (opposite p) in
    subst P (opposite-opposite p) (c.coherent a (opposite p) h (opposite-below n p k))

-- each entry lowered to the ways by p, its opposite or both
abbrev pub passed : (ℕ → ℕ → ℤ) → ℕ → ℕ → ℕ → ℤ
passed m p a b = over (m a b) (to_p m p a) (from_p m p b) (to_opposite m p a) (from_opposite m p b)

-- what is known where the pass keeps the diagonal
apart : (n : ℕ) (m : ℕ → ℕ → ℤ) → IsCoherent n m → (p : ℕ) → p < 2 * n → passed m p p p ≡ pos 0 → pos 0 ≤ℤ (m p (opposite p) +ℤ m (opposite p) p)
apart n m c p h z = omega (arith, ints, clamps, z, c.zero_diagonal p h)

-- the ways from and to k, which is between closed terms
pub record Loops (s t pk p'k kp kp' : ℤ) : Type 0 where
  pub apart : pos 0 ≤ℤ (s +ℤ t)
  pub own : pos 0 ≤ℤ (pk +ℤ kp)
  pub own' : pos 0 ≤ℤ (p'k +ℤ kp')
  pub across : s ≤ℤ (pk +ℤ kp')
  pub across' : t ≤ℤ (p'k +ℤ kp)

pub triangle-of : (s t ac ak kc ap ap' pc p'c kp kp' pk p'k : ℤ) → Loops s t pk p'k kp kp' → ac ≤ℤ (ak +ℤ kc) → ap ≤ℤ (ak +ℤ kp) → ap' ≤ℤ (ak +ℤ kp') → pc ≤ℤ (pk +ℤ kc) → p'c ≤ℤ (p'k +ℤ kc)
    → Triangle s t ac ak kc (near ap t ap') (near ap' s ap) (near pc s p'c) (near p'c t pc) (near kp t kp') (near kp' s kp) (near pk s p'k) (near p'k t pk)
triangle-of s t ac ak kc ap ap' pc p'c kp kp' pk p'k q e f g h i = record {
  old = e;
  left = omega (arith, ints, clamps);
  left' = omega (arith, ints, clamps);
  right = omega (arith, ints, clamps);
  right' = omega (arith, ints, clamps);
  round = omega (arith, ints, clamps);
  round' = omega (arith, ints, clamps);
  across = omega (arith, ints, clamps);
  across' = omega (arith, ints, clamps);
  to_a = near-ways s t ap ap' q.apart;
  from_b = near-ways t s pc p'c (omega (arith, ints, q.apart));
}

pub kept-by : (n : ℕ) (m : ℕ → ℕ → ℤ) → IsCoherent n m → (x : ℕ → Bool) (p : ℕ) → IsClosedBy n m x → p < 2 * n → passed m p p p ≡ pos 0
    → (a k c : ℕ) → a < 2 * n → k < 2 * n → x k ≡ true → c < 2 * n → passed m p a c ≤ℤ (passed m p a k +ℤ passed m p k c)
kept-by n m c x p q h z a k d j l u r =
    let h' : opposite p < 2 * n = opposite-below n p h in
    let s : ℤ = m p (opposite p) in
    let t : ℤ = m (opposite p) p in
    let o : pos 0 ≤ℤ (s +ℤ t) = apart n m c p h z in
    let w : Loops s t (m p k) (m (opposite p) k) (m k p) (m k (opposite p)) = record {
      apart = o;
      own = omega (arith, ints, q.by p k p h l u h, c.zero_diagonal p h);
      own' = omega (arith, ints, q.by (opposite p) k (opposite p) h' l u h', c.zero_diagonal (opposite p) h');
      across = q.by p k (opposite p) h l u h';
      across' = q.by (opposite p) k p h' l u h;
    } in
    let y = triangle-of s t (m a d) (m a k) (m k d) (m a p) (m a (opposite p)) (m p d) (m (opposite p) d) (m k p) (m k (opposite p)) (m p k) (m (opposite p) k) w (q.by a k d j l u r) (q.by a k p j l u h) (q.by a k (opposite p) j l u h') (q.by p k d h l u r) (q.by (opposite p) k d h' l u r) in
    kept-triangle s t (m a d) (m a k) (m k d) (to_p m p a) (to_opposite m p a) (from_p m p d) (from_opposite m p d) (to_p m p k) (to_opposite m p k) (from_p m p k) (from_opposite m p k) y

-- the triangles by way of p and of its opposite
pub own-by : (n : ℕ) (m : ℕ → ℕ → ℤ) → IsCoherent n m → (p : ℕ) → p < 2 * n → passed m p p p ≡ pos 0
    → (a c : ℕ) → a < 2 * n → c < 2 * n → passed m p a c ≤ℤ (passed m p a p +ℤ passed m p p c)
own-by n m c p h z a d j r =
    let s : ℤ = m p (opposite p) in
    let t : ℤ = m (opposite p) p in
    let o : pos 0 ≤ℤ (s +ℤ t) = apart n m c p h z in
    let x : Ways s t (to_p m p a) (to_opposite m p a) = near-ways s t (m a p) (m a (opposite p)) o in
    let y : Ways t s (from_p m p d) (from_opposite m p d) = near-ways t s (m p d) (m (opposite p) d) (omega (arith, ints)) in
    rw (c.zero_diagonal p h)
    (by-first (m a d) (to_p m p a) (from_p m p d) (to_opposite m p a) (from_opposite m p d) _ _
    (first-side s t (m a p) (to_p m p a) (to_opposite m p a) o (near-less (m a p) t (m a (opposite p))) x.first)
    (first-side-from s t (m p d) (from_p m p d) (from_opposite m p d) o (near-less (m p d) s (m (opposite p) d)) y.first))

pub opposite-by : (n : ℕ) (m : ℕ → ℕ → ℤ) → IsCoherent n m → (p : ℕ) → p < 2 * n → passed m p p p ≡ pos 0
    → (a c : ℕ) → a < 2 * n → c < 2 * n → passed m p a c ≤ℤ (passed m p a (opposite p) +ℤ passed m p (opposite p) c)
opposite-by n m c p h z a d j r =
    let h' : opposite p < 2 * n = opposite-below n p h in
    let s : ℤ = m p (opposite p) in
    let t : ℤ = m (opposite p) p in
    let o : pos 0 ≤ℤ (s +ℤ t) = apart n m c p h z in
    let x : Ways s t (to_p m p a) (to_opposite m p a) = near-ways s t (m a p) (m a (opposite p)) o in
    let y : Ways t s (from_p m p d) (from_opposite m p d) = near-ways t s (m p d) (m (opposite p) d) (omega (arith, ints)) in
    rw (c.zero_diagonal (opposite p) h')
    (by-second (m a d) (to_p m p a) (from_p m p d) (to_opposite m p a) (from_opposite m p d) _ _
    (second-side s t (m a (opposite p)) (to_p m p a) (to_opposite m p a) o (near-less (m a (opposite p)) s (m a p)) x.second)
    (second-side-from s t (m (opposite p) d) (from_p m p d) (from_opposite m p d) o (near-less (m (opposite p) d) t (m p d)) y.second))
