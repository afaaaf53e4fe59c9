-- The first candidate is what the solver finds.
use Rattle.std.proofs.Common.{◌≡◌, ℕ, suc, ℤ, Bool, true, ◌&&◌, List, [], ◌∷◌, length, Option, Some, None, sym, ap, refl, ◌∙◌}
use Rattle.std.proofs.lemmas.Bool.{false≢true}
use Rattle.linear_atoms.specs.declared.atoms.Config.{Config}
use Rattle.linear_atoms.specs.declared.atoms.Feature.{Feature}
use Rattle.linear_atoms.specs.Atoms.{IsWithin}
use Rattle.cpp_conditions.specs.Numbering.{vector_at}
use Rattle.cpp_conditions.specs.Propositions.{Proposition, true_on}
use Rattle.cpp_conditions.specs.Validity.{plain, IsValid}
use Rattle.cpp_conditions.specs.View.{formula}
use Rattle.cpp_conditions.proofs.Within.{valid_parts}
use Rattle.atom_solver.specs.Solutions.{Finds}
use Rattle.configuration_advice.specs.declared.choices.Choice.{Choice}
use Rattle.configuration_advice.specs.declared.question.Question.{Question}
use Rattle.configuration_advice.specs.Choices.{are_chosen_on}
use Rattle.configuration_advice.specs.Searching.{IsAsked, IsCandidate, FindsFirst}
use Rattle.configuration_advice.proofs.Formed.{both_left, both_right, both_so, chosen_from, chosen_to, all_rest}

pub within_length : (fs : List Feature) (vs : List ℤ) → IsWithin fs vs → length vs ≡ length fs
within_length [] [] h = refl
within_length [] (v ∷ vs) h = absurd h
within_length (f ∷ fs) [] h = absurd h
within_length (f ∷ fs) (v ∷ vs) h = ap suc (within_length fs vs h.2)

-- the formula stands for the choices and no alarms
abbrev pub Stands : Question → List Choice → Proposition ℕ → Type 0
Stands q choices wanted = (v : List Bool) → true_on v wanted ≡ (are_chosen_on v q.first choices && true_on v (formula q.quiet.now))

module _ (q : Question) (choices : List Choice) (wanted : Proposition ℕ) (asked : IsAsked q) (count : length choices ≡ length q.given.now.values) (stands : Stands q choices wanted) where
  candidate_of : (values : List ℤ) → IsValid (plain q.prepared.now) values → true_on (vector_at q.atoms.now values) wanted ≡ true → IsCandidate q choices values
  candidate_of values valid met =
      let v = vector_at q.atoms.now values in
      let both = sym (stands v) ∙ met in
      let long = within_length q.prepared.now.features values (valid_parts (plain q.prepared.now) values valid).0 ∙ sym asked.count in
      record {
        valid = valid;
        quiet = both_right (are_chosen_on v q.first choices) (true_on v (formula q.quiet.now)) both;
        chosen = chosen_from q.atoms.now values choices q.given.now.values values q.first 0 count long asked.paired (all_rest values) (both_left (are_chosen_on v q.first choices) (true_on v (formula q.quiet.now)) both);
      }

  met_by : (values : List ℤ) → IsCandidate q choices values → true_on (vector_at q.atoms.now values) wanted ≡ true
  met_by values c =
      let v = vector_at q.atoms.now values in
      stands v ∙ both_so (are_chosen_on v q.first choices) (true_on v (formula q.quiet.now)) (chosen_to q.atoms.now values choices q.given.now.values values q.first 0 asked.paired (all_rest values) c.chosen) c.quiet

  pub first_found : (found : Option Config) → Finds q.prepared.now (λ values. true_on (vector_at q.atoms.now values) wanted) found → FindsFirst q choices found
  first_found None h = λ values c. false≢true (sym (h values c.valid) ∙ met_by values c)
  first_found (Some config) h = record {
    candidate = candidate_of config.values h.valid h.met;
    first = λ others c b. h.first others c.valid (met_by others c) b;
  }
