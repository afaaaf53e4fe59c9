-- Values of some terms that meet a tight matrix extend to one term more: each lower bound is at most each upper bound.
use Rattle.std.proofs.Common.{◌≡◌, ◌≢◌, ◌⊎◌, inl, inr, ℕ, zero, suc, ℤ, pos, neg_ℤ, ◌+ℤ◌, ◌-ℤ◌, ◌≤ℤ◌, ◌*◌, ◌<◌, arith, ◌∙◌, ap, sym, subst, refl, Bool, true, false, cond, ◌||◌, nat_eq}
use Rattle.std.proofs.lemmas.Int.{ints, clamps}
use Rattle.std.specs.Int.{int_max}
use Rattle.octagon_matrix.specs.Terms.{opposite}
use Rattle.octagon_closure.specs.Sweeps.{greatest_of}
use Rattle.octagon_closure.proofs.Octagons.{IsClosed, IsTight, IsOdd, MeetsOn, IsPaired}
use Rattle.octagon_matrix.proofs.Terms.{opposite-opposite, opposite-below, opposite-differs}
use Rattle.octagon_closure.proofs.HalfNumbers.{half-below}
use Rattle.std.proofs.lemmas.Bool.Decides.{eqb_tells}
use Rattle.std.proofs.lemmas.Bool.{eq-eqb, ne_eqb}

-- ---- the greatest of a first number and of those at the places of a set below a bound
abbrev pub greatest : (ℕ → Bool) → (ℕ → ℤ) → ℤ → ℕ → ℤ
greatest s f l zero = l
greatest s f l (suc k) = cond (s k) (int_max (f k) (greatest s f l k)) (greatest s f l k)

taken : (b : Bool) (x y : ℤ) → y ≤ℤ cond b (int_max x y) y
taken true x y = omega (arith, ints, clamps)
taken false x y = omega (arith, ints)

taken-bound : (b : Bool) (x y u : ℤ) → (b ≡ true → x ≤ℤ u) → y ≤ℤ u → cond b (int_max x y) y ≤ℤ u
taken-bound true x y u h k = omega (arith, ints, clamps, h refl)
taken-bound false x y u h k = k

pub greatest-first : (s : ℕ → Bool) (f : ℕ → ℤ) (l : ℤ) (n : ℕ) → l ≤ℤ greatest s f l n
greatest-first s f l zero = omega (arith, ints)
greatest-first s f l (suc k) = omega (arith, ints, greatest-first s f l k, taken (s k) (f k) (greatest s f l k))

at_last : (b : Bool) (x y : ℤ) → b ≡ true → x ≤ℤ cond b (int_max x y) y
at_last true x y h = omega (arith, ints, clamps)
at_last false x y h = absurd (cc)

pub below_or_last : (a k : ℕ) → a < suc k → (a < k) ⊎ (a ≡ k)
below_or_last a k h = grind arith

pub greatest-above : (s : ℕ → Bool) (f : ℕ → ℤ) (l : ℤ) (n a : ℕ) → a < n → s a ≡ true → f a ≤ℤ greatest s f l n
greatest-above s f l zero a p q = absurd (omega arith)
greatest-above s f l (suc k) a p q =
    elim (below_or_last a k p) [
      | inl h ↦ omega (arith, ints, greatest-above s f l k a h q, taken (s k) (f k) (greatest s f l k))
      | inr e ↦ let P : ℕ → Type 0 = λ i. f i ≤ℤ cond (s k) (int_max (f k) (greatest s f l k)) (greatest s f l k) in
          subst P (sym e) (at_last (s k) (f k) (greatest s f l k) (ap s (sym e) ∙ q))
    ]

pub greatest-least : (s : ℕ → Bool) (f : ℕ → ℤ) (l u : ℤ) (n : ℕ) → l ≤ℤ u → ((a : ℕ) → a < n → s a ≡ true → f a ≤ℤ u) → greatest s f l n ≤ℤ u
greatest-least s f l u zero p h = p
greatest-least s f l u (suc k) p h =
    taken-bound (s k) (f k) (greatest s f l k) u (h k (omega arith)) (greatest-least s f l u k p (λ a q. h a (omega arith)))

-- ---- a value for one more term and its opposite
abbrev pub with_term : ℕ → ℤ → (ℕ → ℤ) → ℕ → ℤ
with_term p x v c = cond (nat_eq c p) x (cond (nat_eq c (opposite p)) (neg_ℤ x) (v c))

abbrev pub with_pair : ℕ → (ℕ → Bool) → ℕ → Bool
with_pair p s c = nat_eq c p || (nat_eq c (opposite p) || s c)

-- the terms of the larger set, each with its value
data Seen (p : ℕ) (x : ℤ) (s : ℕ → Bool) (v : ℕ → ℤ) : ℕ → ℤ → Type 0 where
  here : Seen p x s v p x
  there : Seen p x s v (opposite p) (neg_ℤ x)
  away : (c : ℕ) → s c ≡ true → Seen p x s v c (v c)

seen_by : (p : ℕ) (x : ℤ) (s : ℕ → Bool) (v : ℕ → ℤ) (c : ℕ) (i j : Bool) → (i ≡ true → c ≡ p) → (j ≡ true → c ≡ opposite p) → (i || (j || s c)) ≡ true → Seen p x s v c (cond i x (cond j (neg_ℤ x) (v c)))
seen_by p x s v c true j h k t = let P : ℕ → Type 0 = λ d. Seen p x s v d x in subst P (sym (h refl)) here
seen_by p x s v c false true h k t = let P : ℕ → Type 0 = λ d. Seen p x s v d (neg_ℤ x) in subst P (sym (k refl)) there
seen_by p x s v c false false h k t = away c t

same_from_test : (a b : ℕ) → nat_eq a b ≡ true → a ≡ b
same_from_test a b h = grind (arith, eqb_tells a b)

seen : (p : ℕ) (x : ℤ) (s : ℕ → Bool) (v : ℕ → ℤ) (c : ℕ) → with_pair p s c ≡ true → Seen p x s v c (with_term p x v c)
seen p x s v c t = seen_by p x s v c (nat_eq c p) (nat_eq c (opposite p)) (same_from_test c p) (same_from_test c (opposite p)) t

-- x meets the entries between p and the terms of the set
pub record Fits (n : ℕ) (m : ℕ → ℕ → ℤ) (s : ℕ → Bool) (v : ℕ → ℤ) (p : ℕ) (x : ℤ) : Type 0 where
  pub least : neg_ℤ (greatest_of m (opposite p)) ≤ℤ x
  pub most : x ≤ℤ greatest_of m p
  pub low : (a : ℕ) → a < 2 * n → s a ≡ true → (v a -ℤ m a p) ≤ℤ x
  pub high : (a : ℕ) → a < 2 * n → s a ≡ true → x ≤ℤ (v a +ℤ m p a)

double-below : (m : ℕ → ℕ → ℤ) (p : ℕ) → (greatest_of m p +ℤ greatest_of m p) ≤ℤ m p (opposite p)
double-below m p = half-below (m p (opposite p))

double-below-opposite : (m : ℕ → ℕ → ℤ) (p : ℕ) → (greatest_of m (opposite p) +ℤ greatest_of m (opposite p)) ≤ℤ m (opposite p) p
double-below-opposite m p =
    let P : ℕ → Type 0 = λ c. (greatest_of m (opposite p) +ℤ greatest_of m (opposite p)) ≤ℤ m (opposite p) c in
    subst P (opposite-opposite p) (half-below (m (opposite p) (opposite (opposite p))))

pub coherent-left : (n : ℕ) (m : ℕ → ℕ → ℤ) → IsClosed n m → (p b : ℕ) → p < 2 * n → b < 2 * n → m (opposite p) b ≡ m (opposite b) p
coherent-left n m c p b h k =
    let P : ℕ → Type 0 = λ d. m (opposite p) b ≡ m (opposite b) d in
    subst P (opposite-opposite p) (sym (c.coherent (opposite p) b (opposite-below n p h) k))

pub coherent-right : (n : ℕ) (m : ℕ → ℕ → ℤ) → IsClosed n m → (a p : ℕ) → a < 2 * n → p < 2 * n → m a (opposite p) ≡ m p (opposite a)
coherent-right n m c a p h k =
    let P : ℕ → Type 0 = λ d. m a (opposite p) ≡ m d (opposite a) in
    subst P (opposite-opposite p) (sym (c.coherent a (opposite p) h (opposite-below n p k)))

meets-seen : (n : ℕ) (m : ℕ → ℕ → ℤ) (s : ℕ → Bool) (v : ℕ → ℤ) (p : ℕ) (x : ℤ) → IsClosed n m → IsPaired s → MeetsOn n m s v → p < 2 * n → Fits n m s v p x
    → (a b : ℕ) (y z : ℤ) → Seen p x s v a y → Seen p x s v b z → a < 2 * n → b < 2 * n → (y -ℤ z) ≤ℤ m a b
meets-seen n m s v p x c q w h f a b y z here here k l = omega (arith, ints, c.zero_diagonal p h)
meets-seen n m s v p x c q w h f a b y z here there k l = omega (arith, ints, f.most, double-below m p)
meets-seen n m s v p x c q w h f a b y z here (away d t) k l = omega (arith, ints, f.high d l t)
meets-seen n m s v p x c q w h f a b y z there here k l = omega (arith, ints, f.least, double-below-opposite m p)
meets-seen n m s v p x c q w h f a b y z there there k l = omega (arith, ints, c.zero_diagonal (opposite p) k)
meets-seen n m s v p x c q w h f a b y z there (away d t) k l =
    omega (arith, ints, f.low (opposite d) (opposite-below n d l) (q.paired d ∙ t), w.odd.odd d, coherent-left n m c p d h l)
meets-seen n m s v p x c q w h f a b y z (away d t) here k l = omega (arith, ints, f.low d k t)
meets-seen n m s v p x c q w h f a b y z (away d t) there k l =
    omega (arith, ints, f.high (opposite d) (opposite-below n d k) (q.paired d ∙ t), w.odd.odd d, coherent-right n m c d p k h)
meets-seen n m s v p x c q w h f a b y z (away d t) (away e u) k l = w.meets d e k l t u

pub opposite-flips : (a b : ℕ) → opposite a ≡ b → a ≡ opposite b
opposite-flips a b e = sym (opposite-opposite a) ∙ ap opposite e

opposite-same : (a b : ℕ) → opposite a ≡ opposite b → a ≡ b
opposite-same a b e = opposite-flips a (opposite b) e ∙ opposite-opposite b

pub at_here : (p : ℕ) (x : ℤ) (v : ℕ → ℤ) → with_term p x v p ≡ x
at_here p x v = rw (eq-eqb p p refl) refl

pub at_there : (p : ℕ) (x : ℤ) (v : ℕ → ℤ) → with_term p x v (opposite p) ≡ neg_ℤ x
at_there p x v = rw (ne_eqb (opposite p) p (opposite-differs p), eq-eqb (opposite p) (opposite p) refl) refl

pub at_away : (p : ℕ) (x : ℤ) (v : ℕ → ℤ) (c : ℕ) → c ≢ p → c ≢ opposite p → with_term p x v c ≡ v c
at_away p x v c h k = rw (ne_eqb c p h, ne_eqb c (opposite p) k) refl

-- where a term stands to another
pub data Place (p : ℕ) : ℕ → Type 0 where
  own : Place p p
  turned : Place p (opposite p)
  other : (c : ℕ) → c ≢ p → c ≢ opposite p → Place p c

pub place_by : (p c : ℕ) → ((nat_eq c p ≡ true) × (c ≡ p)) ⊎ ((nat_eq c p ≡ false) × (c ≢ p)) → ((nat_eq c (opposite p) ≡ true) × (c ≡ opposite p)) ⊎ ((nat_eq c (opposite p) ≡ false) × (c ≢ opposite p)) → Place p c
place_by p c (inl h) k = subst (Place p) (sym h.1) own
place_by p c (inr h) (inl k) = subst (Place p) (sym k.1) turned
place_by p c (inr h) (inr k) = other c h.1 k.1

pub place : (p c : ℕ) → Place p c
place p c = place_by p c (eqb_tells c p) (eqb_tells c (opposite p))

with_term-odd-at : (p : ℕ) (x : ℤ) (v : ℕ → ℤ) → IsOdd v → (c : ℕ) → Place p c → with_term p x v (opposite c) ≡ neg_ℤ (with_term p x v c)
with_term-odd-at p x v o c own = at_there p x v ∙ sym (ap neg_ℤ (at_here p x v))
with_term-odd-at p x v o c turned =
    ap (with_term p x v) (opposite-opposite p) ∙ (at_here p x v ∙ (omega (arith, ints) ∙ sym (ap neg_ℤ (at_there p x v))))
with_term-odd-at p x v o c (other d h k) =
    at_away p x v (opposite d) (λ e. k (opposite-flips d p e)) (λ e. h (opposite-same d p e)) ∙ (o.odd d ∙ sym (ap neg_ℤ (at_away p x v d h k)))

with_term-odd : (p : ℕ) (x : ℤ) (v : ℕ → ℤ) → IsOdd v → IsOdd (with_term p x v)
with_term-odd p x v o = record { odd = λ c. with_term-odd-at p x v o c (place p c) }

-- ---- the sets
pub pair_here : (p : ℕ) (s : ℕ → Bool) → with_pair p s p ≡ true
pair_here p s = rw (eq-eqb p p refl) refl

pub pair_there : (p : ℕ) (s : ℕ → Bool) → with_pair p s (opposite p) ≡ true
pair_there p s = rw (ne_eqb (opposite p) p (opposite-differs p), eq-eqb (opposite p) (opposite p) refl) refl

pub pair_away : (p : ℕ) (s : ℕ → Bool) (c : ℕ) → c ≢ p → c ≢ opposite p → with_pair p s c ≡ s c
pair_away p s c h k = rw (ne_eqb c p h, ne_eqb c (opposite p) k) refl

with_pair-paired-at : (p : ℕ) (s : ℕ → Bool) → IsPaired s → (c : ℕ) → Place p c → with_pair p s (opposite c) ≡ with_pair p s c
with_pair-paired-at p s q c own = pair_there p s ∙ sym (pair_here p s)
with_pair-paired-at p s q c turned = ap (with_pair p s) (opposite-opposite p) ∙ (pair_here p s ∙ sym (pair_there p s))
with_pair-paired-at p s q c (other d h k) =
    pair_away p s (opposite d) (λ e. k (opposite-flips d p e)) (λ e. h (opposite-same d p e)) ∙ (q.paired d ∙ sym (pair_away p s d h k))

pub with_pair-paired : (p : ℕ) (s : ℕ → Bool) → IsPaired s → IsPaired (with_pair p s)
with_pair-paired p s q = record { paired = λ c. with_pair-paired-at p s q c (place p c) }

-- a fitting value extends the values to the pair
pub with_more : (n : ℕ) (m : ℕ → ℕ → ℤ) (s : ℕ → Bool) (v : ℕ → ℤ) (p : ℕ) (x : ℤ) → IsClosed n m → IsPaired s → MeetsOn n m s v → p < 2 * n → Fits n m s v p x → MeetsOn n m (with_pair p s) (with_term p x v)
with_more n m s v p x c q w h f = record {
  odd = with_term-odd p x v w.odd;
  meets = λ a b k l t u. meets-seen n m s v p x c q w h f a b (with_term p x v a) (with_term p x v b) (seen p x s v a t) (seen p x s v b u) k l;
}

-- ---- and there is one
abbrev pub chosen : ℕ → (ℕ → ℕ → ℤ) → (ℕ → Bool) → (ℕ → ℤ) → ℕ → ℤ
chosen n m s v p = greatest s (λ a. v a -ℤ m a p) (neg_ℤ (greatest_of m (opposite p))) (2 * n)

pub even-opposite : (n : ℕ) (m : ℕ → ℕ → ℤ) → IsTight n m → (p : ℕ) → p < 2 * n → m (opposite p) p ≡ greatest_of m (opposite p) +ℤ greatest_of m (opposite p)
even-opposite n m t p h =
    let P : ℕ → Type 0 = λ c. m (opposite p) c ≡ greatest_of m (opposite p) +ℤ greatest_of m (opposite p) in
    subst P (opposite-opposite p) (t.even (opposite p) (opposite-below n p h))

pub not_apart : (n : ℕ) (m : ℕ → ℕ → ℤ) → IsTight n m → (p : ℕ) → p < 2 * n → pos 0 ≤ℤ (greatest_of m p +ℤ greatest_of m (opposite p))
not_apart n m t p h =
    omega (arith, ints, t.even p h, even-opposite n m t p h, t.closed.triangle p (opposite p) p h (opposite-below n p h) h, t.closed.zero_diagonal p h)

own-most : (n : ℕ) (m : ℕ → ℕ → ℤ) (s : ℕ → Bool) (v : ℕ → ℤ) → IsPaired s → MeetsOn n m s v → (a : ℕ) → a < 2 * n → s a ≡ true → (v a +ℤ v a) ≤ℤ m a (opposite a)
own-most n m s v q w a h t = omega (arith, ints, w.meets a (opposite a) h (opposite-below n a h) t (q.paired a ∙ t), w.odd.odd a)

own-least : (n : ℕ) (m : ℕ → ℕ → ℤ) (s : ℕ → Bool) (v : ℕ → ℤ) → IsPaired s → MeetsOn n m s v → (a : ℕ) → a < 2 * n → s a ≡ true → (neg_ℤ (v a) -ℤ v a) ≤ℤ m (opposite a) a
own-least n m s v q w a h t = omega (arith, ints, w.meets (opposite a) a (opposite-below n a h) h (q.paired a ∙ t) t, w.odd.odd a)

pub chosen-fits : (n : ℕ) (m : ℕ → ℕ → ℤ) (s : ℕ → Bool) (v : ℕ → ℤ) (p : ℕ) → IsTight n m → IsPaired s → MeetsOn n m s v → p < 2 * n → Fits n m s v p (chosen n m s v p)
chosen-fits n m s v p t q w h =
    let f : ℕ → ℤ = λ a. v a -ℤ m a p in
    let l : ℤ = neg_ℤ (greatest_of m (opposite p)) in
    let h' : opposite p < 2 * n = opposite-below n p h in
    record {
      least = greatest-first s f l (2 * n);
      most = greatest-least s f l (greatest_of m p) (2 * n) (omega (arith, ints, not_apart n m t p h))
          (λ a k u. let k' : opposite a < 2 * n = opposite-below n a k in
          omega (arith, ints, own-most n m s v q w a k u, t.even p h, t.closed.triangle a p (opposite a) k h k', t.closed.triangle p (opposite p) (opposite a) h h' k', t.closed.coherent a p k h));
      low = λ a k u. greatest-above s f l (2 * n) a k u;
      high = λ b k u. let k' : opposite b < 2 * n = opposite-below n b k in
          greatest-least s f l (v b +ℤ m p b) (2 * n)
          (omega (arith, ints, own-least n m s v q w b k u, even-opposite n m t p h, t.closed.triangle (opposite b) (opposite p) b k' h' k, t.closed.triangle (opposite p) p b h' h k, t.closed.coherent p b h k))
          (λ a i y. omega (arith, ints, w.meets a b i k y u, t.closed.triangle a p b i h k));
    }
