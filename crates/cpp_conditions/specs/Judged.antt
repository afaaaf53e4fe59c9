-- What the functions that judge an expression answer.
use Rattle.std.specs.Prelude.{◌≡◌, Bool, true, false, List, Option, Some, None}
use Rattle.linear_atoms.specs.declared.atoms.Feature.{Feature}
use Rattle.cpp_conditions.specs.Expressions.{Expression}
use Rattle.cpp_conditions.specs.Meaning.{is_linear, names_feature}

-- whether the expression names a feature, where it is linear
abbrev pub Names : List Feature → Expression → Option Bool → Type 0
Names features e (Some named) = (is_linear features e ≡ true) × (named ≡ names_feature features e)
Names features e None = is_linear features e ≡ false
