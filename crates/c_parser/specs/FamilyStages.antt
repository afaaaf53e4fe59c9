-- What is known of the items and the conditions of a family that was listed.
use Rattle.std.specs.Prelude.{ℕ, ◌≤◌, ◌<◌, ◌^◌, length}
use Rattle.std.specs.List.{All}
use Rattle.linear_atoms.specs.Atoms.{AreAtoms}
use Rattle.linear_atoms.specs.Rising.{AreRising}
use Rattle.cpp_conditions.specs.Propositions.{IsBelow}
use Rattle.cpp_conditions.specs.View.{formula}
use Rattle.c_grammar.specs.Facts as facts
use Rattle.c_parser.specs.declared.family_items.Conditions.{Conditions}
use Rattle.c_parser.specs.Items.{Listed}

-- conditions that a solver may be given
pub record AreFileConditions (features : ℕ) (known : Conditions) : Type 0 where
  pub few : length known.atoms ≤ 64
  pub atoms : AreAtoms features known.atoms
  pub rising : AreRising known.atoms
  pub below : All (λ f. IsBelow (length known.atoms) (formula f)) known.formulas
  pub count : length known.formulas < 2 ^ 31

-- such conditions, among them all those of the items
pub record AreProperConditions (features : ℕ) (l : Listed) (known : Conditions) : Type 0 where
  pub numbered : facts.AreConditionsOf (length known.formulas) l.items
  pub conditions : AreFileConditions features known
