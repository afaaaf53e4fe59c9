-- Conditions and formulas as plain propositions.
use Rattle.std.specs.Prelude.{ℕ}
use Rattle.linear_atoms.specs.declared.atoms.Atom.{Atom}
use Rattle.cpp_conditions.specs.declared.conditions.Condition.{Condition}
use Rattle.cpp_conditions.specs.declared.conditions.Condition.TheVariants as conditions
use Rattle.cpp_conditions.specs.declared.formulas.Formula.{Formula}
use Rattle.cpp_conditions.specs.declared.formulas.Formula.TheVariants as formulas
use Rattle.cpp_conditions.specs.Propositions.{Proposition, Const, Test, Not, And, Or}

abbrev pub proposition : Condition → Proposition Atom
proposition (conditions.Const b) = Const b
proposition (conditions.Test a) = Test a
proposition (conditions.Not' p c) = Not (proposition c)
proposition (conditions.And' p c q d) = And (proposition c) (proposition d)
proposition (conditions.Or' p c q d) = Or (proposition c) (proposition d)

abbrev pub formula : Formula → Proposition ℕ
formula (formulas.Const b) = Const b
formula (formulas.Test n) = Test n
formula (formulas.Not' p f) = Not (formula f)
formula (formulas.And' p f q g) = And (formula f) (formula g)
formula (formulas.Or' p f q g) = Or (formula f) (formula g)
