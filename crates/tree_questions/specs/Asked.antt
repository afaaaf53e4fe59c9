-- What the search asks for.
use Rattle.std.specs.Prelude.{◌≡◌, ℕ, ℤ, Bool, List, length, Option, Some, None}
use Rattle.linear_atoms.specs.declared.atoms.Config.{Config}
use Rattle.linear_atoms.specs.Atoms.{AreAtoms}
use Rattle.cpp_conditions.specs.Propositions.{Proposition, IsBelow}
use Rattle.decision_tree.specs.Numbered.{Numbered, erase}
use Rattle.decision_tree.specs.Listed.{IsNumberedTree}
use Rattle.decision_tree.specs.Plain.{TestsBelow}
use Rattle.atom_solver.specs.Solutions.{IsBefore}
use Rattle.tree_questions.specs.declared.searching.Question.{Question}
use Rattle.tree_questions.specs.Least.{IsBehind}

-- it has one value per feature
abbrev pub HasCount : Question → Option Config → Type 0
HasCount q None = Unit {0}
HasCount q (Some config) = length config.values ≡ length q.prepared.now.features

-- a question is well formed
pub record IsAsked (q : Question) (wanted : Proposition ℕ) (tree : Numbered Bool) (best : Option Config) : Type 0 where
  pub atoms : AreAtoms (length q.prepared.now.features) q.atoms.now
  pub wanted_below : IsBelow (length q.atoms.now) wanted
  pub tests : TestsBelow (length q.atoms.now) (erase tree)
  pub tree_numbered : IsNumberedTree 0 320 tree
  pub count : HasCount q best

-- it is before the best one, if there is one
abbrev pub IsAhead : Option Config → Config → Type 0
IsAhead best config = (values : List ℤ) → IsBehind values best → IsBefore values config.values → ⊥
