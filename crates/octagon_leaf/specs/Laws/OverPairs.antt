-- Tests and sums over pairs of numbers.
use Rattle.std.proofs.Common.{◌≡◌, ◌⊎◌, inl, inr, ℕ, zero, suc, ◌+◌, ◌*◌, ◌<◌, ◌≤◌, Bool, true, false, ◌&&◌, refl, sym, ◌∙◌, ap, subst, arith}
use Rattle.octagon_leaf.specs.Pairs.{all_below, sum_below, all_pairs, sum_pairs}

pub both : (a b : Bool) → (a && b) ≡ true → (a ≡ true) × (b ≡ true)
both true b f = (refl, f)
both false b f = cc

below_last : (x k : ℕ) → x < suc k → (x < k) ⊎ (x ≡ k)
below_last x k h = grind arith

-- ---- a test of each number
pub all-tells : (n : ℕ) (p : ℕ → Bool) → all_below n p ≡ true → (x : ℕ) → x < n → p x ≡ true
unfolding all_below
all-tells zero p e x h = absurd (omega arith)
all-tells (suc k) p e x h =
    let (i, j) = both (all_below k p) (p k) e in
    elim (below_last x k h) [
      | inl l ↦ all-tells k p i x l
      | inr q ↦ let P : ℕ → Type 0 = λ y. p y ≡ true in subst P (sym q) j
    ]

pub tells-all : (n : ℕ) (p : ℕ → Bool) → ((x : ℕ) → x < n → p x ≡ true) → all_below n p ≡ true
unfolding all_below
tells-all zero p h = refl
tells-all (suc k) p h = let e : p k ≡ true = h k (omega arith) in rw (tells-all k p (λ x l. h x (omega arith))) e

pub all-fails : (n : ℕ) (p : ℕ → Bool) → all_below n p ≡ false → (x : ℕ) × (x < n) × (p x ≡ false)
unfolding all_below
all-fails zero p e = cc
all-fails (suc k) p e = by_test (all_below k p) refl (all-fails k p)
  where
    by_test : (t : Bool) → all_below k p ≡ t → (all_below k p ≡ false → (x : ℕ) × (x < k) × (p x ≡ false)) → (x : ℕ) × (x < suc k) × (p x ≡ false)
    by_test true f r = (k, omega arith, sym (ap (λ u. u && p k) f) ∙ e)
    by_test false f r = let (x, l, g) = r f in (x, omega arith, g)

-- ---- a test of each pair
pub pairs-tell : (n : ℕ) (p : ℕ → ℕ → Bool) → all_pairs n p ≡ true → (a b : ℕ) → a < n → b < n → p a b ≡ true
pairs-tell n p e a b h k = all-tells n (p a) (all-tells n (λ c. all_below n (λ d. p c d)) e a h) b k

pub tell-pairs : (n : ℕ) (p : ℕ → ℕ → Bool) → ((a b : ℕ) → a < n → b < n → p a b ≡ true) → all_pairs n p ≡ true
tell-pairs n p h = tells-all n (λ c. all_below n (λ d. p c d)) (λ a i. tells-all n (p a) (λ b j. h a b i j))

pub pairs-fail : (n : ℕ) (p : ℕ → ℕ → Bool) → all_pairs n p ≡ false → (a : ℕ) × (b : ℕ) × (a < n) × (b < n) × (p a b ≡ false)
pairs-fail n p e =
    let (a, h, f) = all-fails n (λ c. all_below n (λ d. p c d)) e in let (b, k, g) = all-fails n (p a) f in (a, b, h, k, g)

-- ---- sums
pub sum-rises : (n : ℕ) (f g : ℕ → ℕ) → ((x : ℕ) → x < n → f x ≤ g x) → sum_below n f ≤ sum_below n g
unfolding sum_below
sum-rises zero f g h = omega arith
sum-rises (suc k) f g h = omega (arith, sum-rises k f g (λ x l. h x (omega arith)), h k (omega arith))

pub sum-less : (n : ℕ) (f g : ℕ → ℕ) → ((x : ℕ) → x < n → f x ≤ g x) → (y : ℕ) → y < n → f y < g y → sum_below n f < sum_below n g
unfolding sum_below
sum-less zero f g h y l s = absurd (omega arith)
sum-less (suc k) f g h y l s =
    elim (below_last y k l) [
      | inl i ↦ omega (arith, sum-less k f g (λ x j. h x (omega arith)) y i s, h k (omega arith))
      | inr q ↦ let P : ℕ → Type 0 = λ z. f z < g z in omega (arith, sum-rises k f g (λ x j. h x (omega arith)), subst P q s)
    ]

pub sum-most : (n k : ℕ) (f : ℕ → ℕ) → ((x : ℕ) → x < n → f x ≤ k) → sum_below n f ≤ n * k
unfolding sum_below
sum-most zero k f h = omega arith
sum-most (suc n) k f h =
    let e : suc n * k ≡ n * k + k = grind arith in omega (arith, sum-most n k f (λ x l. h x (omega arith)), h n (omega arith))

-- ---- sums over pairs
-- with one less and none more, the sum is less
pub pairs-less : (n : ℕ) (f g : ℕ → ℕ → ℕ) → ((a b : ℕ) → a < n → b < n → f a b ≤ g a b) → (a b : ℕ) → a < n → b < n → f a b < g a b → sum_pairs n f < sum_pairs n g
pairs-less n f g r a b h k l =
    sum-less n (λ c. sum_below n (λ d. f c d)) (λ c. sum_below n (λ d. g c d))
    (λ c i. sum-rises n (λ d. f c d) (λ d. g c d) (λ d j. r c d i j))
    a h
    (sum-less n (λ d. f a d) (λ d. g a d) (λ d j. r a d h j) b k l)

pub pairs-most : (n k : ℕ) (f : ℕ → ℕ → ℕ) → ((a b : ℕ) → a < n → b < n → f a b ≤ k) → sum_pairs n f ≤ n * (n * k)
pairs-most n k f r = sum-most n (n * k) (λ c. sum_below n (λ d. f c d)) (λ c i. sum-most n k (λ d. f c d) (λ d j. r c d i j))
