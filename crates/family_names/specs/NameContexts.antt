-- Settings as plain data, and what is asked of them.
use Rattle.std.specs.Prelude.{length}
use Rattle.std.specs.List.{All}
use Rattle.linear_atoms.specs.Atoms.{AreAtoms}
use Rattle.cpp_conditions.specs.Propositions.{IsBelow}
use Rattle.cpp_conditions.specs.View.{formula}
use Rattle.family_names.specs.declared.name_context.NameContext as rust
use Rattle.family_names.specs.Names.{NameContext}

abbrev pub plain : rust.NameContext → NameContext
plain s = record { model = s.model.now; atoms = s.atoms.now; conditions = s.conditions.now; names = s.names.now; functions = s.functions.now }

-- atoms are well formed over the features, and conditions have numbers of the atoms
pub record IsFit (context : NameContext) : Type 0 where
  pub atoms : AreAtoms (length context.model.features) context.atoms
  pub conditions : All (λ f. IsBelow (length context.atoms) (formula f)) context.conditions
