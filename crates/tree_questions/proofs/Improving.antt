-- What was found is the least candidate, or is not after any.
use Rattle.std.proofs.Common.{◌≡◌, ◌⊎◌, inl, inr, ℤ, Bool, true, false, ◌&&◌, List, Option, Some, None, refl, sym, ap, subst, ◌∙◌}
use Rattle.std.proofs.lemmas.Bool.{false≢true}
use Rattle.linear_atoms.specs.declared.atoms.Config.{Config}
use Rattle.cpp_conditions.specs.declared.models.Model.{Model}
use Rattle.atom_solver.specs.Solutions.{IsBefore, IsFirst, Finds}
use Rattle.tree_questions.specs.Least.{IsCandidate, MayBeCandidate, IsBehind, Improves}

pub both_left : (a b : Bool) → (a && b) ≡ true → a ≡ true
both_left true b e = refl
both_left false b e = e

pub both_right : (a b : Bool) → (a && b) ≡ true → b ≡ true
both_right true b e = e
both_right false b e = absurd (false≢true e)

pub both_so : (a b : Bool) → a ≡ true → b ≡ true → (a && b) ≡ true
both_so a b e f = ap (λ x. x && b) e ∙ f

true_or_false : (b : Bool) → (b ≡ true → ⊥) → b ≡ false
true_or_false true h = absurd (h refl)
true_or_false false h = refl

module _ (model : Model) (holds : List ℤ → Bool) where
  -- the best one stays
  pub stays : (best : Option Config) → ((values : List ℤ) → IsCandidate model holds values → IsBehind values best) → Improves model holds best best
  stays best h = record { one = inl refl; kept = λ values k. k; least = h }

  -- there is no candidate
  pub no_candidate : (best : Option Config) → ((values : List ℤ) → IsCandidate model holds values → ⊥) → Improves model holds best best
  no_candidate best h = stays best (λ values c. absurd (h values c))

  -- the least candidate is before the best one
  pub taken : (best : Option Config) (config : Config) → IsFirst model holds config.values → ((values : List ℤ) → IsBehind values best → IsBefore values config.values → ⊥)
      → Improves model holds best (Some config)
  taken best config f ahead = record {
    one = inr (record { valid = f.valid; met = f.met });
    kept = ahead;
    least = λ values c. f.first values c.valid c.met;
  }

  -- from nothing the least candidate is found
  pub found_first : (found : Option Config) → Improves model holds None found → Finds model holds found
  found_first None h = λ values valid. true_or_false (holds values) (λ met. h.least values (record { valid = valid; met = met }))
  found_first (Some config) h = elim h.one [
    | inl e ↦ absurd (let k : (let o : Option Config = Some config in o) ≡ None = e in cc)
    | inr c ↦ record { valid = c.valid; met = c.met; first = λ others valid met. h.least others (record { valid = valid; met = met }) }
  ]

  -- what some formula says that each candidate meets: its first one is before no candidate
  module _ (wanted : List ℤ → Bool) (wants : (values : List ℤ) → holds values ≡ true → wanted values ≡ true) where
    pub none_wanted : (best : Option Config) → Finds model wanted None → Improves model holds best best
    none_wanted best h = no_candidate best (λ values c. false≢true (sym (h values c.valid) ∙ wants values c.met))

    pub none_earlier : (best : Option Config) (config : Config) → IsFirst model wanted config.values → ((values : List ℤ) → (IsBefore values config.values → ⊥) → IsBehind values best)
        → Improves model holds best best
    none_earlier best config f behind = stays best (λ values c. behind values (f.first values c.valid (wants values c.met)))

    pub wanted_first : (config : Config) → IsFirst model wanted config.values → holds config.values ≡ true → IsFirst model holds config.values
    wanted_first config f met = record { valid = f.valid; met = met; first = λ others valid k. f.first others valid (wants others k) }

-- two sides that have all candidates
module _ (model : Model) (holds near far : List ℤ → Bool) (near_holds : (values : List ℤ) → near values ≡ true → holds values ≡ true) (far_holds : (values : List ℤ) → far values ≡ true → holds values ≡ true)
    (split : (values : List ℤ) → holds values ≡ true → (near values ≡ true) ⊎ (far values ≡ true)) where
  candidate_by : (side : List ℤ → Bool) → ((values : List ℤ) → side values ≡ true → holds values ≡ true) → (found : Option Config) → MayBeCandidate model side found → MayBeCandidate model holds found
  candidate_by side so None h = tt
  candidate_by side so (Some config) h = record { valid = h.valid; met = so config.values h.met }

  one_of : (best between found : Option Config) → (between ≡ best) ⊎ MayBeCandidate model near between → (found ≡ between) ⊎ MayBeCandidate model far found → (found ≡ best) ⊎ MayBeCandidate model holds found
  one_of best between found h (inr c) = inr (candidate_by far far_holds found c)
  one_of best between found (inl e) (inl f) = inl (f ∙ e)
  one_of best between found (inr c) (inl f) = inr (subst (MayBeCandidate model holds) (sym f) (candidate_by near near_holds between c))

  pub by_sides : (best between found : Option Config) → Improves model near best between → Improves model far between found → Improves model holds best found
  by_sides best between found h k = record {
    one = one_of best between found h.one k.one;
    kept = λ values b. k.kept values (h.kept values b);
    least = λ values c. elim (split values c.met) [
      | inl m ↦ k.kept values (h.least values (record { valid = c.valid; met = m }))
      | inr m ↦ k.least values (record { valid = c.valid; met = m })
    ];
  }
