-- Which of two configurations comes first.
use Rattle.std.proofs.Common.{◌≡◌, ℕ, ◌<◌, ℤ, ◌<ℤ◌, ◌⊎◌, inl, inr, List, [], ◌∷◌, Some, sym, subst, ◌∙◌, arith}
use Rattle.std.proofs.lemmas.Int.{ints}
use Rattle.atom_solver.specs.Solutions.{IsBefore}
use Rattle.configuration_advice.specs.declared.comparing.Advice.{Advice}
use Rattle.configuration_advice.specs.Nearest.{differing}
use Rattle.configuration_advice.specs.Searching.{ComesBefore, Precedes, IsBeaten}

less_trans : (a b c : ℤ) → a <ℤ b → b <ℤ c → a <ℤ c
less_trans a b c h k = omega (arith, ints)

before_trans : (us vs ws : List ℤ) → IsBefore us vs → IsBefore vs ws → IsBefore us ws
before_trans [] vs ws h k = absurd h
before_trans (u ∷ us) [] ws h k = absurd h
before_trans (u ∷ us) (v ∷ vs) [] h k = absurd k
before_trans (u ∷ us) (v ∷ vs) (w ∷ ws) (inl a) (inl b) = inl (less_trans u v w a b)
before_trans (u ∷ us) (v ∷ vs) (w ∷ ws) (inl a) (inr b) = inl (subst (λ x. u <ℤ x) b.0 a)
before_trans (u ∷ us) (v ∷ vs) (w ∷ ws) (inr a) (inl b) = inl (subst (λ x. x <ℤ w) (sym a.0) b)
before_trans (u ∷ us) (v ∷ vs) (w ∷ ws) (inr a) (inr b) = inr (a.0 ∙ b.0, before_trans us vs ws a.1 b.1)

number_trans : (a b c : ℕ) → a < b → b < c → a < c
number_trans a b c h k = omega arith

comes_trans : (n : ℕ) (vs : List ℤ) (a b : Advice) → ComesBefore n vs a → Precedes a b → ComesBefore n vs b
comes_trans n vs a b (inl h) (inl k) = inl (number_trans n a.changed b.changed h k)
comes_trans n vs a b (inl h) (inr k) = inl (subst (λ x. n < x) k.0 h)
comes_trans n vs a b (inr h) (inl k) = inl (subst (λ x. x < b.changed) (sym h.0) k)
comes_trans n vs a b (inr h) (inr k) = inr (h.0 ∙ k.0, before_trans vs a.config.values b.config.values h.1 k.1)

-- where the first is not nearer than the second, the second is as near, or nearer
abbrev pub IsNoFarther : Advice → Advice → Type 0
IsNoFarther second first = ((first.changed ≡ second.changed) × (second.config.values ≡ first.config.values)) ⊎ Precedes second first

-- what is not nearer than the nearer one is not nearer than the other
pub beaten_by_nearer : (best found : Advice) (given values : List ℤ) → Precedes found best → IsBeaten given values (Some best) → IsBeaten given values (Some found)
beaten_by_nearer best found given values h k n = k (comes_trans (differing given values) values found best n h)

same_place : (n : ℕ) (vs : List ℤ) (a b : Advice) → a.changed ≡ b.changed → b.config.values ≡ a.config.values → ComesBefore n vs b → ComesBefore n vs a
same_place n vs a b e f (inl h) = inl (subst (λ x. n < x) (sym e) h)
same_place n vs a b e f (inr h) = inr (h.0 ∙ sym e, subst (IsBefore vs) f h.1)

pub beaten_by_best : (best found : Advice) (given values : List ℤ) → IsNoFarther best found → IsBeaten given values (Some found) → IsBeaten given values (Some best)
beaten_by_best best found given values (inl h) k n = k (same_place (differing given values) values found best h.0 h.1 n)
beaten_by_best best found given values (inr h) k n = k (comes_trans (differing given values) values best found n h)
