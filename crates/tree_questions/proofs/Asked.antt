-- What the search has found, by its question.
use Rattle.std.proofs.Common.{◌≡◌, ℕ, ◌<◌, ℤ, Bool, not, ◌&&◌, List, Option, Some, None, length, sym, ap, subst, ◌∙◌}
use Rattle.std.specs.Prelude.{IfSome}
use Rattle.linear_atoms.specs.declared.atoms.Atom.{Atom}
use Rattle.linear_atoms.specs.declared.atoms.Config.{Config}
use Rattle.cpp_conditions.specs.declared.models.Model.{Model}
use Rattle.cpp_conditions.specs.Numbering.{vector_at}
use Rattle.cpp_conditions.specs.Propositions.{Proposition, And, IsBelow, true_on}
use Rattle.decision_tree.specs.Numbered.{Numbered, erase}
use Rattle.decision_tree.specs.Listed.{IsNumberedTree}
use Rattle.decision_tree.specs.Plain.{Plain, leaf_of, TestsBelow}
use Rattle.atom_solver.specs.Solutions.{IsFirst, Finds}
use Rattle.tree_questions.specs.declared.searching.Question.{Question}
use Rattle.tree_questions.specs.Asked.{HasCount, IsAsked}
use Rattle.tree_questions.specs.Least.{is_met, with_test}
use Rattle.tree_questions.proofs.Sides.{below_with}

pub count_of : (q : Question) (best : Option Config) (config : Config) → HasCount q best → length config.values ≡ length q.prepared.now.features → IfSome best (λ c. length c.values ≡ length config.values)
count_of q None config h e = tt
count_of q (Some c) config h e = h ∙ sym e

-- the first at which something holds, said in another way
pub first_as : (model : Model) (f g : List ℤ → Bool) (values : List ℤ) → ((k : List ℤ) → f k ≡ g k) → IsFirst model f values → IsFirst model g values
first_as model f g values same h = record {
  valid = h.valid;
  met = sym (same values) ∙ h.met;
  first = λ others valid met. h.first others valid (same others ∙ met);
}

pub finds_as : (model : Model) (f g : List ℤ → Bool) (found : Option Config) → ((k : List ℤ) → f k ≡ g k) → Finds model f found → Finds model g found
finds_as model f g None same h = λ values valid. sym (same values) ∙ h values valid
finds_as model f g (Some config) same h = first_as model f g config.values same h

-- what is asked by one formula
pub asked_as : (atoms : List Atom) (wanted copied untrue asked : Proposition ℕ) (tree : Plain Bool) → asked ≡ And copied untrue → copied ≡ wanted → ((v : List Bool) → true_on v untrue ≡ not (leaf_of tree v))
    → (values : List ℤ) → true_on (vector_at atoms values) asked ≡ is_met atoms wanted tree values
asked_as atoms wanted copied untrue asked tree e f is values =
    let v = vector_at atoms values in
    ap (true_on v) e ∙ ap (λ p. true_on v p && true_on v untrue) f ∙ ap (λ b. true_on v wanted && b) (is v)

pub asked_below : (count : ℕ) (wanted copied untrue asked : Proposition ℕ) → asked ≡ And copied untrue → copied ≡ wanted → IsBelow count wanted → IsBelow count untrue → IsBelow count asked
asked_below count wanted copied untrue asked e f h k = subst (IsBelow count) (sym e) (subst (IsBelow count) (sym f) h, k)

-- one side is asked about as the whole is
pub side_asked : (q : Question) (wanted side_wanted : Proposition ℕ) (tree side : Numbered Bool) (best found : Option Config) (test : ℕ) (truth : Bool) → IsAsked q wanted tree best → test < length q.atoms.now
    → side_wanted ≡ with_test wanted test truth → ((count : ℕ) → TestsBelow count (erase tree) → TestsBelow count (erase side)) → IsNumberedTree 0 320 side → HasCount q found → IsAsked q side_wanted side found
side_asked q wanted side_wanted tree side best found test truth a h e tests numbered count = record {
  atoms = a.atoms;
  wanted_below = subst (IsBelow (length q.atoms.now)) (sym e) (below_with (length q.atoms.now) wanted test truth h a.wanted_below);
  tests = tests (length q.atoms.now) a.tests;
  tree_numbered = numbered;
  count = count;
}
