-- The first phase of a loop ends with a stable iterate.
use Rattle.std.proofs.Common.{◌≡◌, ℕ, zero, suc, ◌+◌, ◌*◌, ◌<◌, ◌≤◌, Bool, true, false, if◌then◌else◌, nat_lt, List, length, Option, Some, None, refl, ap, sym, ◌∙◌, subst, arith, ℤ, zero-add, add_assoc}
use Rattle.std.proofs.Math.Nat.{suc-add}
use Rattle.std.proofs.lemmas.Bool.{false≢true}
use Rattle.leaf_domain.specs.Leaves.{LeafValue, LeafMeaning, LeafLaws, Alike, IsLeafLike, is_nothing_of}
use Rattle.plain_analysis.specs.Loops.{round_of, rounds_of, round_count, widened_leaf}
use Rattle.plain_analysis.proofs.Rounds.{rounds_stay}

-- a leaf without bounds is below each
pub leq_content : (M : LeafMeaning) → LeafLaws M → (m : ℕ) (c : Option (List ℤ)) (a : LeafValue) → is_nothing_of (record { variables = m; content = c }) ≡ true → M.leq (record { variables = m; content = c }) a ≡ true
leq_content M laws m None a e = laws.nothing_leq m a
leq_content M laws m (Some ns) a e = cc

-- a function that keeps what a loop needs of the leaf at its head
pub record Turns (M : LeafMeaning) (n : ℕ) (G : LeafValue → LeafValue) : Type 0 where
  pub answers : (x : LeafValue) → M.valid x → x.variables ≡ n → IsLeafLike M x (G x)

module _ (M : LeafMeaning) (laws : LeafLaws M) (ts : List ℤ) (n : ℕ) (delay : ℕ) (G : LeafValue → LeafValue) (turns : Turns M n G) where
  -- an iterate: valid, with n variables
  record Iterate (x : LeafValue) : Type 0 where
    valid : M.valid x
    count : x.variables ≡ n
    some : is_nothing_of x ≡ false

  alike : (x : LeafValue) → Iterate x → Alike M x (G x)
  alike x h = let a = turns.answers x h.valid h.count in record { first = h.valid; second = a.valid; same = sym a.same }

  round_iterates : (k : ℕ) (x : LeafValue) → Iterate x → Iterate (round_of M ts delay G k x)
  round_iterates k x h = by_tests (M.leq (G x) x) (nat_lt k delay)
    where
      joined : Iterate (M.join x (G x))
      joined =
          let a = laws.join_answers x (G x) (alike x h) in
          record { valid = a.valid; count = a.same ∙ h.count; some = laws.join_some x (G x) (alike x h) h.some }

      widened : Iterate (M.widen ts x (G x))
      widened =
          let a = laws.widen_answers ts x (G x) (alike x h) in
          record { valid = a.valid; count = a.same ∙ h.count; some = laws.widen_some ts x (G x) (alike x h) h.some }

      by_tests : (t u : Bool) → Iterate (if t then x else (if u then M.join x (G x) else M.widen ts x (G x)))
      by_tests true u = h
      by_tests false true = joined
      by_tests false false = widened

  grows : (x : LeafValue) → Iterate x → M.leq (G x) x ≡ false → M.steps_left ts (M.widen ts x (G x)) < M.steps_left ts x
  grows x h e = by_test (is_nothing_of (G x)) refl
    where
      by_test : (t : Bool) → is_nothing_of (G x) ≡ t → M.steps_left ts (M.widen ts x (G x)) < M.steps_left ts x
      by_test true f = absurd (false≢true (sym e ∙ leq_content M laws _ _ x f))
      by_test false f = laws.widen_grows ts x (G x) (alike x h) h.some f e

  Settled : LeafValue → Type 0
  Settled x = M.leq (G x) x ≡ true

  settled_at : (m k : ℕ) (x : LeafValue) → M.leq (G x) x ≡ true → Settled (rounds_of M ts delay G m k x)
  unfolding Settled
  settled_at m k x e = rw (rounds_stay M ts delay G m k x e) e

  -- each unstable widening takes one bound away
  fewer_settle : (m k : ℕ) (x : LeafValue) → delay ≤ k → Iterate x → M.steps_left ts x < m → Settled (rounds_of M ts delay G m k x)
  fewer_settle zero k x d h l = absurd (omega arith)
  fewer_settle (suc m) k x d h l = by_test (M.leq (G x) x) refl (λ y i b. fewer_settle m (k + 1) y (omega arith) i b)
    where
      late : nat_lt k delay ≡ false
      late = grind arith

      by_test : (t : Bool) → M.leq (G x) x ≡ t → ((y : LeafValue) → Iterate y → M.steps_left ts y < m → Settled (rounds_of M ts delay G m (k + 1) y)) → Settled (rounds_of M ts delay G m (k + 1) (if t then x else (if nat_lt k delay then M.join x (G x) else M.widen ts x (G x))))
      by_test true e f = settled_at m (k + 1) x e
      by_test false e f = rw late (f (M.widen ts x (G x)) (widened_is (round_iterates k x h)) (omega (arith, grows x h e)))
        where
          widened_is : Iterate (round_of M ts delay G k x) → Iterate (M.widen ts x (G x))
          widened_is i = subst Iterate (ap (λ t. if t then x else (if nat_lt k delay then M.join x (G x) else M.widen ts x (G x))) e ∙ ap (λ t. if t then M.join x (G x) else M.widen ts x (G x)) late) i

  rounds_settle : (j m k : ℕ) (x : LeafValue) → k + j ≡ delay → Iterate x → ((y : LeafValue) → Iterate y → M.steps_left ts y < m) → Settled (rounds_of M ts delay G (j + m) k x)
  rounds_settle zero m k x e h b = rw zero-add (fewer_settle m k x (omega arith) h (b x h))
  rounds_settle (suc j) m k x e h b = rw suc-add (rounds_settle j m (k + 1) (round_of M ts delay G k x) (omega arith) (round_iterates k x h) b)

  pub first_phase_settles : (d : LeafValue) → M.valid d → d.variables ≡ n → (is_nothing_of d ≡ true → is_nothing_of (G d) ≡ true) → M.leq (G (widened_leaf M ts delay G d)) (widened_leaf M ts delay G d) ≡ true
  unfolding Settled
  first_phase_settles d h c strict = by_test (is_nothing_of d) refl
    where
      few : (y : LeafValue) → Iterate y → M.steps_left ts y < M.bound_count d.variables * (length ts + 1) + 1
      few y i = omega (arith, laws.steps_few ts y i.valid, ap (λ m. M.bound_count m * (length ts + 1)) (i.count ∙ sym c))

      by_test : (t : Bool) → is_nothing_of d ≡ t → M.leq (G (widened_leaf M ts delay G d)) (widened_leaf M ts delay G d) ≡ true
      by_test true e = settled_at (round_count M ts delay d.variables) 0 d (leq_content M laws _ _ d (strict e))
      by_test false e =
          rw (add_assoc delay (M.bound_count d.variables * (length ts + 1)) 1)
          (rounds_settle delay (M.bound_count d.variables * (length ts + 1) + 1) 0 d (zero-add delay) (record { valid = h; count = c; some = e }) few)
