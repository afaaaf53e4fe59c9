-- The two sides of a question at a test.
use Rattle.std.proofs.Common.{◌≡◌, ◌⊎◌, inl, inr, ℕ, ◌<◌, ℤ, Bool, true, false, not, ◌&&◌, List, Option, refl, sym, ap, ◌∙◌}
use Rattle.std.specs.Prelude.{slice_index_or}
use Rattle.std.proofs.lemmas.Bool.{false≢true}
use Rattle.linear_atoms.specs.declared.atoms.Atom.{Atom}
use Rattle.linear_atoms.specs.declared.atoms.Config.{Config}
use Rattle.cpp_conditions.specs.declared.models.Model.{Model}
use Rattle.cpp_conditions.specs.Numbering.{vector_at}
use Rattle.cpp_conditions.specs.Propositions.{Proposition, IsBelow, true_on}
use Rattle.decision_tree.specs.Plain.{Plain, leaf, leaf_of}
use Rattle.atom_solver.specs.Solutions.{IsFirst}
use Rattle.tree_questions.specs.Least.{is_met, literal, with_test, Improves}
use Rattle.tree_questions.proofs.Improving.{both_left, both_right, both_so, by_sides, no_candidate}

-- the trees lead alike where the test has this truth
abbrev pub LeadsAlike : ℕ → Bool → Plain Bool → Plain Bool → Type 0
LeadsAlike test truth side tree = (v : List Bool) → slice_index_or v test false ≡ truth → leaf_of side v ≡ leaf_of tree v

has_truth : (v : List Bool) (test : ℕ) (truth : Bool) → true_on v (literal test truth) ≡ true → slice_index_or v test false ≡ truth
has_truth v test true e = e
has_truth v test false e = is_false (slice_index_or v test false) e
  where
    is_false : (b : Bool) → not b ≡ true → b ≡ false
    is_false true k = absurd (false≢true k)
    is_false false k = refl

pub says_truth : (v : List Bool) (test : ℕ) (truth : Bool) → slice_index_or v test false ≡ truth → true_on v (literal test truth) ≡ true
says_truth v test true e = e
says_truth v test false e = ap not e

pub below_with : (count : ℕ) (wanted : Proposition ℕ) (test : ℕ) (truth : Bool) → test < count → IsBelow count wanted → IsBelow count (with_test wanted test truth)
below_with count wanted test true h k = (h, k)
below_with count wanted test false h k = (h, k)

-- the other truth
either_truth : (x truth : Bool) → (x ≡ truth) ⊎ (x ≡ not truth)
either_truth true true = inl refl
either_truth true false = inr refl
either_truth false true = inr refl
either_truth false false = inl refl

module _ (atoms : List Atom) (wanted : Proposition ℕ) (tree : Plain Bool) (test : ℕ) where
  abbrev pub side_met : Bool → Plain Bool → List ℤ → Bool
  side_met truth side values = is_met atoms (with_test wanted test truth) side values

  side_holds : (truth : Bool) (side : Plain Bool) → LeadsAlike test truth side tree → (values : List ℤ) → side_met truth side values ≡ true → is_met atoms wanted tree values ≡ true
  side_holds truth side alike values met =
      let v = vector_at atoms values in
      let said = true_on v (literal test truth) in
      let first = both_left (said && true_on v wanted) (not (leaf_of side v)) met in
      both_so (true_on v wanted) (not (leaf_of tree v)) (both_right said (true_on v wanted) first)
      (ap not (sym (alike v (has_truth v test truth (both_left said (true_on v wanted) first)))) ∙ both_right (said && true_on v wanted) (not (leaf_of side v)) met)

  holds_side : (truth : Bool) (side : Plain Bool) → LeadsAlike test truth side tree → (values : List ℤ) → slice_index_or (vector_at atoms values) test false ≡ truth → is_met atoms wanted tree values ≡ true
      → side_met truth side values ≡ true
  holds_side truth side alike values is met =
      let v = vector_at atoms values in
      let said = true_on v (literal test truth) in
      both_so (said && true_on v wanted) (not (leaf_of side v))
      (both_so said (true_on v wanted) (says_truth v test truth is) (both_left (true_on v wanted) (not (leaf_of tree v)) met))
      (ap not (alike v is) ∙ both_right (true_on v wanted) (not (leaf_of tree v)) met)

  pub sides_found : (model : Model) (truth : Bool) (near far : Plain Bool) → LeadsAlike test truth near tree → LeadsAlike test (not truth) far tree
      → (best between found : Option Config) → Improves model (side_met truth near) best between → Improves model (side_met (not truth) far) between found → Improves model (is_met atoms wanted tree) best found
  sides_found model truth near far a b best between found h k =
      by_sides model (is_met atoms wanted tree) (side_met truth near) (side_met (not truth) far) (side_holds truth near a) (side_holds (not truth) far b)
      (λ values met. elim (either_truth (slice_index_or (vector_at atoms values) test false) truth) [
        | inl e ↦ inl (holds_side truth near a values e met)
        | inr e ↦ inr (holds_side (not truth) far b values e met)
      ])
      best between found h k

  -- the least that meets what is wanted is the least that meets its own truth of the test too
  pub near_first : (model : Model) (truth : Bool) (values : List ℤ) → IsFirst model (λ vs. true_on (vector_at atoms vs) wanted) values → truth ≡ slice_index_or (vector_at atoms values) test false
      → IsFirst model (λ vs. true_on (vector_at atoms vs) (with_test wanted test truth)) values
  near_first model truth values f e = record {
    valid = f.valid;
    met = both_so (true_on (vector_at atoms values) (literal test truth)) (true_on (vector_at atoms values) wanted) (says_truth (vector_at atoms values) test truth (sym e)) f.met;
    first = λ others valid met. f.first others valid (both_right (true_on (vector_at atoms others) (literal test truth)) (true_on (vector_at atoms others) wanted) met);
  }

-- each candidate meets what is wanted
pub meets_wanted : (atoms : List Atom) (wanted : Proposition ℕ) (tree : Plain Bool) (values : List ℤ) → is_met atoms wanted tree values ≡ true → true_on (vector_at atoms values) wanted ≡ true
meets_wanted atoms wanted tree values met = both_left (true_on (vector_at atoms values) wanted) (not (leaf_of tree (vector_at atoms values))) met

-- no configuration leads the leaf true to false
pub true_stays : (model : Model) (atoms : List Atom) (wanted : Proposition ℕ) (tree : Plain Bool) (best : Option Config) → tree ≡ leaf true → Improves model (is_met atoms wanted tree) best best
true_stays model atoms wanted tree best e =
    no_candidate model (is_met atoms wanted tree) best
    (λ values c. false≢true (ap not (sym (ap (λ t. leaf_of t (vector_at atoms values)) e)) ∙ both_right (true_on (vector_at atoms values) wanted) (not (leaf_of tree (vector_at atoms values))) c.met))

-- where the least that meets what is wanted leads to false, it is the least candidate
pub met_by : (atoms : List Atom) (wanted : Proposition ℕ) (tree : Plain Bool) (values : List ℤ) (x : Bool) → true_on (vector_at atoms values) wanted ≡ true → x ≡ leaf_of tree (vector_at atoms values) → x ≡ false
    → is_met atoms wanted tree values ≡ true
met_by atoms wanted tree values x w e f = both_so (true_on (vector_at atoms values) wanted) (not (leaf_of tree (vector_at atoms values))) w (ap not (sym e ∙ f))
