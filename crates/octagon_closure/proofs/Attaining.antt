-- A tight matrix is exact: each entry is reached by values that meet the whole matrix.
use Rattle.std.proofs.Common.{◌≡◌, ◌≢◌, inl, inr, ℕ, zero, suc, ℤ, pos, neg_ℤ, ◌+ℤ◌, ◌-ℤ◌, ◌≤ℤ◌, ◌*◌, ◌<◌, ◌≤◌, arith, ◌∙◌, ap, sym, refl, Bool, true, false}
use Rattle.std.proofs.lemmas.Int.{ints, clamps}
use Rattle.std.specs.Int.{int_max}
use Rattle.std.proofs.lemmas.Bool.{false≢true}
use Rattle.octagon_matrix.specs.Terms.{opposite}
use Rattle.octagon_closure.specs.Sweeps.{half, greatest_of}
use Rattle.octagon_closure.proofs.Octagons.{IsClosed, IsTight, MeetsOn, Meets, IsPaired}
use Rattle.octagon_matrix.proofs.Terms.{opposite-below}
use Rattle.octagon_closure.proofs.HalfNumbers.{half-below, half-above}
use Rattle.octagon_closure.proofs.Extending.{with_term, with_pair, Fits, Place, own, turned, other, place, at_here, at_there, at_away, pair_here, pair_there, pair_away, with_pair-paired, with_more, chosen, chosen-fits, even-opposite, not_apart, below_or_last, coherent-left}

-- values of a larger set, with all terms below a bound
record Extended (n : ℕ) (m : ℕ → ℕ → ℤ) (s : ℕ → Bool) (v : ℕ → ℤ) (k : ℕ) : Type 0 where
  set : ℕ → Bool
  values : ℕ → ℤ
  paired : IsPaired set
  meets : MeetsOn n m set values
  full : (c : ℕ) → c < k → set c ≡ true
  keeps : (c : ℕ) → s c ≡ true → set c ≡ true
  same : (c : ℕ) → s c ≡ true → values c ≡ v c

pair_keeps : (p : ℕ) (s : ℕ → Bool) (c : ℕ) → Place p c → s c ≡ true → with_pair p s c ≡ true
pair_keeps p s c own t = pair_here p s
pair_keeps p s c turned t = pair_there p s
pair_keeps p s c (other d h k) t = pair_away p s d h k ∙ t

term_same : (p : ℕ) (x : ℤ) (s : ℕ → Bool) (v : ℕ → ℤ) (c : ℕ) → IsPaired s → s p ≡ false → Place p c → s c ≡ true → with_term p x v c ≡ v c
term_same p x s v c q f own t = absurd (false≢true (sym f ∙ t))
term_same p x s v c q f turned t = absurd (false≢true (sym f ∙ (sym (q.paired p) ∙ t)))
term_same p x s v c q f (other d h k) t = at_away p x v d h k

full_more : (k : ℕ) (s : ℕ → Bool) → ((c : ℕ) → c < k → s c ≡ true) → s k ≡ true → (c : ℕ) → c < suc k → s c ≡ true
full_more k s f t c h = elim (below_or_last c k h) [ inl i ↦ f c i | inr e ↦ ap s e ∙ t ]

extended-step : (n : ℕ) (m : ℕ → ℕ → ℤ) (s : ℕ → Bool) (v : ℕ → ℤ) (k : ℕ) → IsTight n m → k < 2 * n → (e : Extended n m s v k) → (b : Bool) → e.set k ≡ b → Extended n m s v (suc k)
extended-step n m s v k t h e true i = record {
  set = e.set;
  values = e.values;
  paired = e.paired;
  meets = e.meets;
  full = full_more k e.set e.full i;
  keeps = e.keeps;
  same = e.same;
}
extended-step n m s v k t h e false i =
    let x : ℤ = chosen n m e.set e.values k in
    record {
      set = with_pair k e.set;
      values = with_term k x e.values;
      paired = with_pair-paired k e.set e.paired;
      meets = with_more n m e.set e.values k x t.closed e.paired e.meets h (chosen-fits n m e.set e.values k t e.paired e.meets h);
      full = full_more k (with_pair k e.set) (λ c j. pair_keeps k e.set c (place k c) (e.full c j)) (pair_here k e.set);
      keeps = λ c u. pair_keeps k e.set c (place k c) (e.keeps c u);
      same = λ c u. term_same k x e.set e.values c e.paired i (place k c) (e.keeps c u) ∙ e.same c u;
    }

extended : (n : ℕ) (m : ℕ → ℕ → ℤ) (s : ℕ → Bool) (v : ℕ → ℤ) (k : ℕ) → IsTight n m → IsPaired s → MeetsOn n m s v → k ≤ 2 * n → Extended n m s v k
extended n m s v zero t q w h = record {
  set = s;
  values = v;
  paired = q;
  meets = w;
  full = λ c j. absurd (omega arith);
  keeps = λ c u. u;
  same = λ c u. refl;
}
extended n m s v (suc k) t q w h =
    let e : Extended n m s v k = extended n m s v k t q w (omega arith) in extended-step n m s v k t (omega arith) e (e.set k) refl

-- values that meet the matrix and have a given difference of two terms
pub record Attained (n : ℕ) (m : ℕ → ℕ → ℤ) (a b : ℕ) : Type 0 where
  pub values : ℕ → ℤ
  pub meets : Meets n m values
  pub reached : values a -ℤ values b ≡ m a b

finish : (n : ℕ) (m : ℕ → ℕ → ℤ) (s : ℕ → Bool) (v : ℕ → ℤ) (a b : ℕ) → IsTight n m → IsPaired s → MeetsOn n m s v → s a ≡ true → s b ≡ true → v a -ℤ v b ≡ m a b → Attained n m a b
finish n m s v a b t q w i j e =
    let x : Extended n m s v (2 * n) = extended n m s v (2 * n) t q w (omega arith) in
    record {
      values = x.values;
      meets = record {
        odd = x.meets.odd;
        meets = λ c d h k. x.meets.meets c d h k (x.full c h) (x.full d k);
      };
      reached = rw (x.same a i, x.same b j) e;
    }

-- ---- the first terms
abbrev none : ℕ → Bool
none c = false

abbrev zeros : ℕ → ℤ
zeros c = pos 0

none-meets : (n : ℕ) (m : ℕ → ℕ → ℤ) → MeetsOn n m none zeros
none-meets n m = record { odd = record { odd = λ a. refl }; meets = λ a b h k t u. absurd (false≢true t) }

none-paired : IsPaired none
none-paired = record { paired = λ a. refl }

-- one term with its greatest value
one-fits : (n : ℕ) (m : ℕ → ℕ → ℤ) (p : ℕ) (x : ℤ) → neg_ℤ (greatest_of m (opposite p)) ≤ℤ x → x ≤ℤ greatest_of m p → Fits n m none zeros p x
one-fits n m p x h k = record { least = h; most = k; low = λ a i t. absurd (false≢true t); high = λ a i t. absurd (false≢true t) }

one-meets : (n : ℕ) (m : ℕ → ℕ → ℤ) (p : ℕ) (x : ℤ) → IsTight n m → p < 2 * n → neg_ℤ (greatest_of m (opposite p)) ≤ℤ x → x ≤ℤ greatest_of m p → MeetsOn n m (with_pair p none) (with_term p x zeros)
one-meets n m p x t h i j = with_more n m none zeros p x t.closed none-paired (none-meets n m) h (one-fits n m p x i j)

attained-own : (n : ℕ) (m : ℕ → ℕ → ℤ) (a : ℕ) → IsTight n m → a < 2 * n → Attained n m a a
attained-own n m a t h =
    let x : ℤ = greatest_of m a in
    finish n m (with_pair a none) (with_term a x zeros) a a t (with_pair-paired a none none-paired)
    (one-meets n m a x t h (omega (arith, ints, not_apart n m t a h)) (omega (arith, ints)))
    (pair_here a none) (pair_here a none) (omega (arith, ints, t.closed.zero_diagonal a h))

attained-opposite : (n : ℕ) (m : ℕ → ℕ → ℤ) (a : ℕ) → IsTight n m → a < 2 * n → Attained n m a (opposite a)
attained-opposite n m a t h =
    let x : ℤ = greatest_of m a in
    finish n m (with_pair a none) (with_term a x zeros) a (opposite a) t (with_pair-paired a none none-paired)
    (one-meets n m a x t h (omega (arith, ints, not_apart n m t a h)) (omega (arith, ints)))
    (pair_here a none) (pair_there a none) (rw (at_here a x zeros, at_there a x zeros) (omega (arith, ints, t.even a h)))

-- a value of b that leaves one for a, at the distance ab
record Middle (ab ba ab' a'b ua ua' ub ub' z : ℤ) : Type 0 where
  least : neg_ℤ ub' ≤ℤ z
  most : z ≤ℤ ub
  far_least : neg_ℤ ua' ≤ℤ (z +ℤ ab)
  far_most : (z +ℤ ab) ≤ℤ ua
  sum_least : (neg_ℤ z -ℤ a'b) ≤ℤ (z +ℤ ab)
  sum_most : (z +ℤ ab) ≤ℤ (neg_ℤ z +ℤ ab')

abbrev middle_of : ℤ → ℤ → ℤ → ℤ → ℤ
middle_of ab a'b ua' ub' = int_max (neg_ℤ ub') (int_max (neg_ℤ (ua' +ℤ ab)) (neg_ℤ (half (a'b +ℤ ab))))

record IsSquare (ab ba ab' a'b ua ua' ub ub' : ℤ) : Type 0 where
  strong : ab ≤ℤ (ua +ℤ ub')
  strong_back : ba ≤ℤ (ub +ℤ ua')
  back : pos 0 ≤ℤ (ab +ℤ ba)
  apart_a : pos 0 ≤ℤ (ua +ℤ ua')
  apart_b : pos 0 ≤ℤ (ub +ℤ ub')
  round_a : pos 0 ≤ℤ (ab' +ℤ ab +ℤ ua' +ℤ ua')
  by_b : ab ≤ℤ (ab' +ℤ ub' +ℤ ub')
  by_a : ab ≤ℤ (ua +ℤ ua +ℤ a'b)
  round_b : pos 0 ≤ℤ (a'b +ℤ ub +ℤ ub +ℤ ab)
  own_a : (ua +ℤ ua) ≤ℤ (ab' +ℤ ab)
  turned_back : pos 0 ≤ℤ (ab' +ℤ a'b)

middle-lies : (ab ba ab' a'b ua ua' ub ub' : ℤ) → IsSquare ab ba ab' a'b ua ua' ub ub' → Middle ab ba ab' a'b ua ua' ub ub' (middle_of ab a'b ua' ub')
middle-lies ab ba ab' a'b ua ua' ub ub' q =
    let h : (half (a'b +ℤ ab) +ℤ half (a'b +ℤ ab)) ≤ℤ (a'b +ℤ ab) = half-below (a'b +ℤ ab) in
    let k : (a'b +ℤ ab) ≤ℤ (half (a'b +ℤ ab) +ℤ half (a'b +ℤ ab) +ℤ pos 1) = half-above (a'b +ℤ ab) in
    record {
      least = omega (arith, ints, clamps);
      most = omega (arith, ints, clamps);
      far_least = omega (arith, ints, clamps);
      far_most = omega (arith, ints, clamps);
      sum_least = omega (arith, ints, clamps);
      sum_most = omega (arith, ints, clamps);
    }

square : (n : ℕ) (m : ℕ → ℕ → ℤ) (a b : ℕ) → IsTight n m → a < 2 * n → b < 2 * n
    → IsSquare (m a b) (m b a) (m a (opposite b)) (m (opposite a) b) (greatest_of m a) (greatest_of m (opposite a)) (greatest_of m b) (greatest_of m (opposite b))
square n m a b t h k =
    let c : IsClosed n m = t.closed in
    let h' : opposite a < 2 * n = opposite-below n a h in
    let k' : opposite b < 2 * n = opposite-below n b k in
    record {
      strong = t.strong a b h k;
      strong_back = t.strong b a k h;
      back = omega (arith, ints, c.triangle a b a h k h, c.zero_diagonal a h);
      apart_a = not_apart n m t a h;
      apart_b = not_apart n m t b k;
      round_a = omega (arith, ints, c.triangle a (opposite b) (opposite a) h k' h', c.coherent a b h k, c.triangle a (opposite a) a h h' h, c.zero_diagonal a h, even-opposite n m t a h);
      by_b = omega (arith, ints, c.triangle a (opposite b) b h k' k, even-opposite n m t b k);
      by_a = omega (arith, ints, c.triangle a (opposite a) b h h' k, t.even a h);
      round_b = omega (arith, ints, c.triangle b (opposite b) (opposite a) k k' h', c.coherent a b h k, t.even b k, c.triangle (opposite a) b (opposite a) h' k h', c.zero_diagonal (opposite a) h');
      own_a = omega (arith, ints, c.triangle a (opposite b) (opposite a) h k' h', c.coherent a b h k, t.even a h);
      turned_back = omega (arith, ints, c.triangle a (opposite b) a h k' h, c.zero_diagonal a h, coherent-left n m c a b h k);
    }

second-low : (n : ℕ) (m : ℕ → ℕ → ℤ) (a b : ℕ) (y z : ℤ) → (z -ℤ m b a) ≤ℤ y → (neg_ℤ z -ℤ m (opposite b) a) ≤ℤ y
    → (c : ℕ) → Place b c → with_pair b none c ≡ true → (with_term b z zeros c -ℤ m c a) ≤ℤ y
second-low n m a b y z h k c own t = rw (at_here b z zeros) h
second-low n m a b y z h k c turned t = rw (at_there b z zeros) k
second-low n m a b y z h k c (other d i j) t = absurd (false≢true (sym (pair_away b none d i j) ∙ t))

second-high : (n : ℕ) (m : ℕ → ℕ → ℤ) (a b : ℕ) (y z : ℤ) → y ≤ℤ (z +ℤ m a b) → y ≤ℤ (neg_ℤ z +ℤ m a (opposite b))
    → (c : ℕ) → Place b c → with_pair b none c ≡ true → y ≤ℤ (with_term b z zeros c +ℤ m a c)
second-high n m a b y z h k c own t = rw (at_here b z zeros) h
second-high n m a b y z h k c turned t = rw (at_there b z zeros) k
second-high n m a b y z h k c (other d i j) t = absurd (false≢true (sym (pair_away b none d i j) ∙ t))

attained-other : (n : ℕ) (m : ℕ → ℕ → ℤ) (a b : ℕ) → IsTight n m → a < 2 * n → b < 2 * n → b ≢ a → b ≢ opposite a → Attained n m a b
attained-other n m a b t h k i j =
    let q = square n m a b t h k in
    let z : ℤ = middle_of (m a b) (m (opposite a) b) (greatest_of m (opposite a)) (greatest_of m (opposite b)) in
    let l : Middle (m a b) (m b a) (m a (opposite b)) (m (opposite a) b) (greatest_of m a) (greatest_of m (opposite a)) (greatest_of m b) (greatest_of m (opposite b)) z =
    middle-lies (m a b) (m b a) (m a (opposite b)) (m (opposite a) b) (greatest_of m a) (greatest_of m (opposite a)) (greatest_of m b) (greatest_of m (opposite b)) q in
    let y : ℤ = z +ℤ m a b in
    let s : ℕ → Bool = with_pair b none in
    let v : ℕ → ℤ = with_term b z zeros in
    let ps : IsPaired s = with_pair-paired b none none-paired in
    let ms : MeetsOn n m s v = one-meets n m b z t k l.least l.most in
    let e : m (opposite a) b ≡ m (opposite b) a = coherent-left n m t.closed a b h k in
    let f : Fits n m s v a y = record {
      least = l.far_least;
      most = l.far_most;
      low = λ c u w. second-low n m a b y z (omega (arith, ints, q.back)) (omega (arith, ints, l.sum_least, e)) c (place b c) w;
      high = λ c u w. second-high n m a b y z (omega (arith, ints)) l.sum_most c (place b c) w;
    } in
    finish n m (with_pair a s) (with_term a y v) a b t (with_pair-paired a s ps)
    (with_more n m s v a y t.closed ps ms h f)
    (pair_here a s) (pair_away a s b i j ∙ pair_here b none)
    (rw (at_here a y v, at_away a y v b i j, at_here b z zeros) (omega (arith, ints)))

attained-at : (n : ℕ) (m : ℕ → ℕ → ℤ) (a b : ℕ) → IsTight n m → a < 2 * n → b < 2 * n → Place a b → Attained n m a b
attained-at n m a b t h k own = attained-own n m a t h
attained-at n m a b t h k turned = attained-opposite n m a t h
attained-at n m a b t h k (other d i j) = attained-other n m a d t h k i j

-- each entry of a tight matrix is the difference of its terms at values that meet the matrix
pub attained : (n : ℕ) (m : ℕ → ℕ → ℤ) (a b : ℕ) → IsTight n m → a < 2 * n → b < 2 * n → Attained n m a b
attained n m a b t h k = attained-at n m a b t h k (place a b)

-- a tight matrix is met
pub met : (n : ℕ) (m : ℕ → ℕ → ℤ) → IsTight n m → (v : ℕ → ℤ) × Meets n m v
met n m t =
    let x : Extended n m none zeros (2 * n) = extended n m none zeros (2 * n) t none-paired (none-meets n m) (omega arith) in
    (x.values, record { odd = x.meets.odd; meets = λ c d h k. x.meets.meets c d h k (x.full c h) (x.full d k) })
