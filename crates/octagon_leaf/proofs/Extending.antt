-- A best matrix is tight, so a store that meets its entries without one variable meets the whole with some value of that variable.
use Rattle.std.proofs.Common.{◌≡◌, ◌≢◌, ℕ, ◌*◌, ◌<◌, ℤ, neg_ℤ, ◌+ℤ◌, ◌-ℤ◌, ◌≤ℤ◌, Bool, true, false, not, List, length, slice_set, refl, sym, ◌∙◌, ap, arith}
use Rattle.std.proofs.lemmas.Int.{ints}
use Rattle.std.proofs.lemmas.Bool.Decides.{nat_tests}
use Rattle.octagon_matrix.specs.Terms.{opposite}
use Rattle.octagon_matrix.specs.Matrices.{MatrixValue, entry_of, IsMatrix}
use Rattle.octagon_matrix.specs.Stores.{term_value, Holds}
use Rattle.octagon_matrix.proofs.Terms.{opposite-below, opposite-half}
use Rattle.octagon_matrix.proofs.Stores.{term-opposite}
use Rattle.octagon_closure.specs.Best.{Reaches, IsBest}
use Rattle.octagon_closure.specs.Sweeps.{half, greatest_of}
use Rattle.octagon_closure.proofs.HalfNumbers.{half-below, half-above}
use Rattle.octagon_closure.proofs.Octagons.{IsTight, IsPaired, MeetsOn}
use Rattle.octagon_closure.proofs.Stores.{terms-odd}
use Rattle.octagon_closure.proofs.Extending.{with_term, with_pair, chosen, chosen-fits, with_more, Place, own, turned, other, place, at_here, at_there, at_away, pair_here, pair_there, pair_away}
use Rattle.octagon_leaf.specs.Greatest.{difference}
use Rattle.octagon_leaf.specs.Octagons.{has_variable, dropped}
use Rattle.octagon_leaf.specs.Laws.Terms.{plus-value, set-here, set-other, set-length, holds-dropped}

-- ---- a best matrix is tight
best-triangle : (m : MatrixValue) → IsBest m m → (a b c : ℕ) → a < 2 * m.variables → b < 2 * m.variables → c < 2 * m.variables → entry_of m a c ≤ℤ (entry_of m a b +ℤ entry_of m b c)
best-triangle m q a b c h k l =
    let r : Reaches m a c (entry_of m a c) = q.reached a c h l in
    omega (arith, ints, r.reached, q.most r.store a b r.holds h k, q.most r.store b c r.holds k l)

doubled : (v w d : ℤ) → w ≡ neg_ℤ v → v -ℤ w ≡ d → d ≡ half d +ℤ half d
doubled v w d e f = omega (arith, ints, half-below d, half-above d)

best-even : (m : MatrixValue) → IsBest m m → (a : ℕ) → a < 2 * m.variables → entry_of m a (opposite a) ≡ greatest_of (entry_of m) a +ℤ greatest_of (entry_of m) a
best-even m q a h =
    let r : Reaches m a (opposite a) (entry_of m a (opposite a)) = q.reached a (opposite a) h (opposite-below m.variables a h) in
    doubled (term_value r.store a) (term_value r.store (opposite a)) (entry_of m a (opposite a)) (term-opposite r.store a) r.reached

double-term : (s : List ℤ) (a : ℕ) (d : ℤ) → difference s a (opposite a) ≤ℤ d → term_value s a ≤ℤ half d
double-term s a d h = omega (arith, ints, term-opposite s a, half-above d)

term-most : (m : MatrixValue) (s : List ℤ) (a : ℕ) → Holds m s → a < 2 * m.variables → term_value s a ≤ℤ greatest_of (entry_of m) a
term-most m s a h i = double-term s a (entry_of m a (opposite a)) (h.bounds a (opposite a) i (opposite-below m.variables a i))

best-strong : (m : MatrixValue) → IsBest m m → (a b : ℕ) → a < 2 * m.variables → b < 2 * m.variables → entry_of m a b ≤ℤ (greatest_of (entry_of m) a +ℤ greatest_of (entry_of m) (opposite b))
best-strong m q a b h k =
    let r : Reaches m a b (entry_of m a b) = q.reached a b h k in
    omega (arith, ints, r.reached, term-opposite r.store b, term-most m r.store a r.holds h, term-most m r.store (opposite b) r.holds (opposite-below m.variables b k))

best-tight : (m : MatrixValue) → IsMatrix m → IsBest m m → IsTight m.variables (entry_of m)
best-tight m k q = record {
  closed = record { zero_diagonal = k.zero_diagonal; coherent = k.coherent; triangle = best-triangle m q };
  even = best-even m q;
  strong = best-strong m q;
}

-- ---- the terms of the other variables
abbrev others : ℕ → ℕ → Bool
others x a = not (has_variable x a)

others-paired : (x : ℕ) → IsPaired (others x)
others-paired x = record { paired = λ a. rw (opposite-half a) refl }

not_so : (b : Bool) → not b ≡ true → b ≡ false
not_so true e = cc
not_so false e = refl

others-meet : (m : MatrixValue) (x : ℕ) (s : List ℤ) → Holds (dropped m x) s → MeetsOn m.variables (entry_of m) (others x) (term_value s)
others-meet m x s d = record { odd = terms-odd s; meets = λ a b h k t u. holds-dropped m s x a b d h k (not_so (has_variable x a) t) (not_so (has_variable x b) u) }

of-other : (x c : ℕ) → c ≢ 2 * x → c ≢ opposite (2 * x) → has_variable x c ≡ false
unfolding opposite
of-other x c h k = grind (arith, nat_tests)

all-at : (x a : ℕ) → Place (2 * x) a → with_pair (2 * x) (others x) a ≡ true
all-at x a own = pair_here (2 * x) (others x)
all-at x a turned = pair_there (2 * x) (others x)
all-at x a (other c h k) = pair_away (2 * x) (others x) c h k ∙ ap not (of-other x c h k)

set-at : (n : ℕ) (s : List ℤ) (x a : ℕ) (v : ℤ) → length s ≡ n → x < n → Place (2 * x) a → term_value (slice_set s x v) a ≡ with_term (2 * x) v (term_value s) a
set-at n s x a v e l own = plus-value (slice_set s x v) x ∙ (set-here n s x v e l ∙ sym (at_here (2 * x) v (term_value s)))
set-at n s x a v e l turned =
    term-opposite (slice_set s x v) (2 * x) ∙ (ap neg_ℤ (plus-value (slice_set s x v) x ∙ set-here n s x v e l) ∙ sym (at_there (2 * x) v (term_value s)))
set-at n s x a v e l (other c h k) = set-other n s x c v e l (of-other x c h k) ∙ sym (at_away (2 * x) v (term_value s) c h k)

-- ---- a value of the variable
pub record Extends (m : MatrixValue) (x : ℕ) (s : List ℤ) : Type 0 where
  pub value : ℤ
  pub holds : Holds m (slice_set s x value)

pub extends : (m : MatrixValue) (x : ℕ) (s : List ℤ) → IsMatrix m → IsBest m m → x < m.variables → Holds (dropped m x) s → Extends m x s
extends m x s k q l d =
    let n : ℕ = m.variables in
    let t : IsTight n (entry_of m) = best-tight m k q in
    let h : 2 * x < 2 * n = omega arith in
    let w : MeetsOn n (entry_of m) (others x) (term_value s) = others-meet m x s d in
    let v : ℤ = chosen n (entry_of m) (others x) (term_value s) (2 * x) in
    let e : MeetsOn n (entry_of m) (with_pair (2 * x) (others x)) (with_term (2 * x) v (term_value s)) =
    with_more n (entry_of m) (others x) (term_value s) (2 * x) v t.closed (others-paired x) w h (chosen-fits n (entry_of m) (others x) (term_value s) (2 * x) t (others-paired x) w h) in
    record {
      value = v;
      holds = record {
        size = set-length s x v ∙ d.size;
        bounds = λ a b i j. rw (set-at n s x a v d.size l (place (2 * x) a), set-at n s x b v d.size l (place (2 * x) b)) (e.meets a b i j (all-at x a (place (2 * x) a)) (all-at x b (place (2 * x) b)));
      };
    }
