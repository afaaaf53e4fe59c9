-- The closure, step by step, over the values that contracts see.
use Rattle.std.proofs.Common.{◌≡◌, ℕ, ℤ, pos, ◌*◌, ◌<◌, arith, ◌∙◌, sym, subst, refl, List, Bool, true}
use Rattle.octagon_closure.proofs.Extending.{with_pair}
use Rattle.std.proofs.lemmas.Int.{ints}
use Rattle.octagon_matrix.specs.Matrices.{MatrixValue, entry_of, IsMatrix, HasEntries}
use Rattle.octagon_matrix.specs.Stores.{Holds, term_value}
use Rattle.octagon_closure.specs.Best.{IsUnmet, Reaches, IsBest, CameByOne}
use Rattle.octagon_closure.specs.Sweeps.{lowered, through, halves, tightened, bound_at, IsRow, HasNegative}
use Rattle.octagon_closure.proofs.Octagons.{IsCoherent, IsClosedBy, IsTight, Meets, IsPassed, all}
use Rattle.octagon_closure.proofs.Rows.{lowered-same}
use Rattle.octagon_closure.proofs.Steps.{ClosedBy-less, passed-closed, halved-meets, halved-tight, closed-by-all, IsTight-same}
use Rattle.octagon_closure.proofs.Walks.{lowered-back, through-meets, through-back, through-own}
use Rattle.octagon_closure.proofs.Passing.{passed}
use Rattle.octagon_closure.proofs.OneMeet.{one-closed}
use Rattle.octagon_closure.proofs.Attaining.{attained, met, Attained}
use Rattle.octagon_closure.proofs.Stores.{holds-meets, meets-holds, store_of, term-of}

Meets-same : (n : ℕ) (m d : ℕ → ℕ → ℤ) (v : ℕ → ℤ) → ((a b : ℕ) → a < 2 * n → b < 2 * n → d a b ≡ m a b) → Meets n m v → Meets n d v
Meets-same n m d v e w = record { odd = w.odd; meets = λ a b h k. rw (e a b h k) (w.meets a b h k) }

ClosedBy-same : (n : ℕ) (m d : ℕ → ℕ → ℤ) (s : ℕ → Bool) → ((a b : ℕ) → a < 2 * n → b < 2 * n → d a b ≡ m a b) → IsClosedBy n m s → IsClosedBy n d s
ClosedBy-same n m d s e q = record { by = λ a b c h j u k. rw (e a c h k, e a b h j, e b c j k) (q.by a b c h j u k) }

coherent-at : (n : ℕ) (m : MatrixValue) → m.variables ≡ n → IsMatrix m → IsCoherent n (entry_of m)
coherent-at n m e k = record {
  zero_diagonal = λ a h. k.zero_diagonal a (rw (e) h);
  coherent = λ a b h l. k.coherent a b (rw (e) h) (rw (e) l);
}

negative-at : (k n : ℕ) (d : ℕ → ℕ → ℤ) → k ≡ n → HasNegative k d → HasNegative n d
negative-at k n d e h = let P : ℕ → Type 0 = λ i. HasNegative i d in subst P e h

pub passed-start : (m : MatrixValue) (s : ℕ → Bool) → IsMatrix m → IsClosedBy m.variables (entry_of m) s → IsPassed m m s
passed-start m s k q = record {
  kept = k;
  variables = refl;
  closed = q;
  forth = λ v w. w;
  back = λ v w. w;
}

pub passed-less : (m now : MatrixValue) (s t : ℕ → Bool) → ((b : ℕ) → b < 2 * m.variables → t b ≡ true → s b ≡ true) → IsPassed m now s → IsPassed m now t
passed-less m now s t f q = record {
  kept = q.kept;
  variables = q.variables;
  closed = ClosedBy-less m.variables (entry_of now) s t f q.closed;
  forth = q.forth;
  back = q.back;
}

-- a sweep through an entry keeps the values that meet the matrix
through-kept : (m now next : MatrixValue) (s t : ℕ → Bool) (a b : ℕ) → IsPassed m now s → a < 2 * m.variables → b < 2 * m.variables → IsMatrix next → HasEntries next now.variables (through (entry_of now) a b) → IsClosedBy m.variables (entry_of next) t → IsPassed m next t
through-kept m now next s t a b q h k z e c =
    let n : ℕ = m.variables in
    let d = through (entry_of now) a b in
    let g : now.variables ≡ n = q.variables in
    let E : (i j : ℕ) → i < 2 * n → j < 2 * n → entry_of next i j ≡ d i j = λ i j x y. e.entries i j (rw (g) x) (rw (g) y) in
    record {
      kept = z;
      variables = e.variables ∙ g;
      closed = c;
      forth = λ v w. Meets-same n d (entry_of next) v E (through-meets n (entry_of now) v a b h k (q.forth v w));
      back = λ v w. q.back v (through-back n (entry_of now) v a b (Meets-same n (entry_of next) d v (λ i j x y. sym (E i j x y)) w));
    }

-- a sweep by way of one variable closes by it
pub passed-step : (m now next : MatrixValue) (s : ℕ → Bool) (p : ℕ) → IsPassed m now s → p < 2 * m.variables → IsMatrix next → HasEntries next now.variables (through (entry_of now) p p) → IsPassed m next (with_pair p s)
passed-step m now next s p q h z e =
    let n : ℕ = m.variables in
    let g : now.variables ≡ n = q.variables in
    let c : IsCoherent n (entry_of now) = coherent-at n now g q.kept in
    let E : (i j : ℕ) → i < 2 * n → j < 2 * n → entry_of next i j ≡ passed (entry_of now) p i j = λ i j x y. e.entries i j (rw (g) x) (rw (g) y) ∙ through-own n (entry_of now) p i j c h x in
    let o : passed (entry_of now) p p p ≡ pos 0 = sym (E p p h h) ∙ z.zero_diagonal p (rw (e.variables ∙ g) h) in
    through-kept m now next s (with_pair p s) p p q h h z e (ClosedBy-same n (passed (entry_of now) p) (entry_of next) (with_pair p s) E (passed-closed n (entry_of now) s p c h q.closed o))

-- a sweep through the one entry that was met closes by all
pub one-step : (m next : MatrixValue) (a b : ℕ) → CameByOne m a b → a < 2 * m.variables → b < 2 * m.variables → IsMatrix next → HasEntries next m.variables (through (entry_of m) a b) → IsPassed m next all
one-step m next a b o h i z e =
    let n : ℕ = m.variables in
    let d = through (entry_of m) a b in
    let y : d b b ≡ pos 0 = sym (e.entries b b i i) ∙ z.zero_diagonal b (rw (e.variables) i) in
    record {
      kept = z;
      variables = e.variables;
      closed = ClosedBy-same n d (entry_of next) all e.entries (one-closed m a b h i o y);
      forth = λ v w. Meets-same n d (entry_of next) v e.entries (through-meets n (entry_of m) v a b h i w);
      back = λ v w. through-back n (entry_of m) v a b (Meets-same n (entry_of next) d v (λ i j x y. sym (e.entries i j x y)) w);
    }

-- no values meet a matrix with two such entries
negative-empty : (n : ℕ) (d : ℕ → ℕ → ℤ) (v : ℕ → ℤ) → HasNegative n d → Meets n d v → ⊥
negative-empty n d v h w =
    absurd (omega (arith, ints, h.negative, w.meets h.first h.second h.first_below h.second_below, w.meets h.second h.first h.second_below h.first_below))

pub through-negative : (m now : MatrixValue) (s : ℕ → Bool) (a b : ℕ) → IsPassed m now s → a < 2 * m.variables → b < 2 * m.variables → HasNegative now.variables (through (entry_of now) a b) → IsUnmet m
through-negative m now s a b q h k g o u =
    negative-empty m.variables (through (entry_of now) a b) (term_value o) (negative-at now.variables m.variables (through (entry_of now) a b) q.variables g)
    (through-meets m.variables (entry_of now) (term_value o) a b h k (q.forth (term_value o) (holds-meets m o u)))

pub one-negative : (m : MatrixValue) (a b : ℕ) → a < 2 * m.variables → b < 2 * m.variables → HasNegative m.variables (through (entry_of m) a b) → IsUnmet m
one-negative m a b h k g o u =
    negative-empty m.variables (through (entry_of m) a b) (term_value o) g (through-meets m.variables (entry_of m) (term_value o) a b h k (holds-meets m o u))

-- ---- the last step
halved-holds : (m now : MatrixValue) (k : ℕ → Bool) (s : List ℤ) → IsPassed m now k → Holds m s → Meets m.variables (tightened (entry_of now)) (term_value s)
halved-holds m now k s q o = halved-meets m.variables (entry_of now) (term_value s) (q.forth (term_value s) (holds-meets m s o))

pub halved-negative : (m now : MatrixValue) (k : ℕ → Bool) → IsPassed m now k → HasNegative now.variables (tightened (entry_of now)) → IsUnmet m
halved-negative m now k q g s o = negative-empty m.variables (tightened (entry_of now)) (term_value s) (negative-at now.variables m.variables (tightened (entry_of now)) q.variables g) (halved-holds m now k s q o)

next-halved : (m now next : MatrixValue) (k : ℕ → Bool) → IsPassed m now k → HasEntries next now.variables (tightened (entry_of now)) → (a b : ℕ) → a < 2 * m.variables → b < 2 * m.variables → entry_of next a b ≡ tightened (entry_of now) a b
next-halved m now next k q e a b h l = e.entries a b (rw (q.variables) h) (rw (q.variables) l)

next-tight : (m now next : MatrixValue) → IsPassed m now all → IsMatrix next → HasEntries next now.variables (tightened (entry_of now)) → IsTight m.variables (entry_of next)
next-tight m now next q z e =
    let n : ℕ = m.variables in
    let c = coherent-at n now q.variables q.kept in
    let f : next.variables ≡ n = e.variables ∙ q.variables in
    let E = next-halved m now next all q e in
    IsTight-same n (tightened (entry_of now)) (entry_of next) E
    (halved-tight n (entry_of now) (closed-by-all n (entry_of now) c q.closed) (λ a h. sym (E a a h h) ∙ z.zero_diagonal a (rw (f) h)))

halved-back : (m now next : MatrixValue) (v : ℕ → ℤ) → IsPassed m now all → HasEntries next now.variables (tightened (entry_of now)) → Meets m.variables (entry_of next) v → Meets m.variables (entry_of m) v
halved-back m now next v q e w =
    q.back v (lowered-back m.variables (entry_of now) (halves (entry_of now)) (halves (entry_of now)) v
    (Meets-same m.variables (entry_of next) (tightened (entry_of now)) v (λ a b h l. sym (next-halved m now next all q e a b h l)) w))

reaches : (m : MatrixValue) (d : ℕ → ℕ → ℤ) (a b : ℕ) → a < 2 * m.variables → b < 2 * m.variables → ((v : ℕ → ℤ) → Meets m.variables d v → Meets m.variables (entry_of m) v) → Attained m.variables d a b → Reaches m a b (d a b)
reaches m d a b h k f t =
    let w : Meets m.variables (entry_of m) t.values = f t.values t.meets in
    record {
      store = store_of m.variables t.values;
      holds = meets-holds m t.values w;
      reached = rw (term-of m.variables t.values a w.odd h, term-of m.variables t.values b w.odd k) t.reached;
    }

pub closed-best : (m now next : MatrixValue) → IsPassed m now all → IsMatrix next → HasEntries next now.variables (tightened (entry_of now)) → IsBest m next
closed-best m now next q z e =
    let n : ℕ = m.variables in
    let t : IsTight n (entry_of next) = next-tight m now next q z e in
    let B : (v : ℕ → ℤ) → Meets n (entry_of next) v → Meets n (entry_of m) v = λ v w. halved-back m now next v q e w in
    let one = met n (entry_of next) t in
    record {
      variables = e.variables ∙ q.variables;
      most = λ s a b o h k. rw (next-halved m now next all q e a b h k) ((halved-holds m now all s q o).meets a b h k);
      reached = λ a b h k. reaches m (entry_of next) a b h k B (attained n (entry_of next) a b t h k);
      met = (store_of n (one.0), meets-holds m (one.0) (B (one.0) (one.1)));
    }

-- ---- the lowered entries, by the rows' values
pub entries-same : (m next : MatrixValue) (x y : List ℤ) (f g : ℕ → ℤ) → IsRow m.variables x f → IsRow m.variables y g → HasEntries next m.variables (lowered (entry_of m) (bound_at x) (bound_at y)) → HasEntries next m.variables (lowered (entry_of m) f g)
entries-same m next x y f g p q e = record {
  variables = e.variables;
  entries = λ a b h k. e.entries a b h k ∙ lowered-same m.variables (entry_of m) x y f g p q a b h k;
}

pub negative-same : (m : MatrixValue) (x y : List ℤ) (f g : ℕ → ℤ) → IsRow m.variables x f → IsRow m.variables y g → HasNegative m.variables (lowered (entry_of m) (bound_at x) (bound_at y)) → HasNegative m.variables (lowered (entry_of m) f g)
negative-same m x y f g p q h = record {
  first = h.first;
  second = h.second;
  first_below = h.first_below;
  second_below = h.second_below;
  negative = rw (← lowered-same m.variables (entry_of m) x y f g p q h.first h.second h.first_below h.second_below, ← lowered-same m.variables (entry_of m) x y f g p q h.second h.first h.second_below h.first_below) h.negative;
}
