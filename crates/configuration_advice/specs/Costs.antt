-- The cost of a configuration, told by a tree over tests.
use Rattle.std.specs.Prelude.{ℕ, ℤ, List, length}
use Rattle.linear_atoms.specs.Atoms.{AreAtoms}
use Rattle.cpp_conditions.specs.Numbering.{vector_at}
use Rattle.decision_tree.specs.Listed.{IsNumberedTree}
use Rattle.decision_tree.specs.Plain.{leaf_of, TestsBelow}
use Rattle.decision_tree.specs.View.{numbered, plain}
use Rattle.configuration_advice.specs.declared.cheapest.Priced.{Priced}

-- the number to which the tree leads at the configuration
abbrev pub cost_at : Priced → List ℤ → ℕ
cost_at p values = leaf_of (plain p.cost.now) (vector_at p.tests.now values)

-- the tree has numbers, and its tests are numbers of the atoms, which are well formed
pub record IsPriced (p : Priced) : Type 0 where
  pub atoms : AreAtoms (length p.prepared.now.features) p.tests.now
  pub tests : TestsBelow (length p.tests.now) (plain p.cost.now)
  pub tree : IsNumberedTree 0 320 (numbered p.cost.now)
