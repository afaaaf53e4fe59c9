-- What `read_condition` answers.
use Rattle.std.specs.Prelude.{◌≡◌, ⊤, ℕ, List, Result, Ok, Err}
use Rattle.fam_outer.specs.declared.faults.ConditionFault.{ConditionFault}
use Rattle.fam_outer.specs.declared.faults.ConditionFault.TheVariants as faults
use Rattle.cpp_conditions.specs.Macros.{Macros}
use Rattle.linear_atoms.specs.declared.atoms.Atom.{Atom}
use Rattle.linear_atoms.specs.declared.atoms.Feature.{Feature}
use Rattle.linear_atoms.specs.declared.linear_fault.LinearFault.{LinearFault}
use Rattle.linear_atoms.specs.declared.linear_fault.LinearFault.TheVariants as linear
use Rattle.cpp_conditions.specs.declared.conditions.Condition.{Condition}
use Rattle.cpp_conditions.specs.declared.reading.ConditionRefusal.{ConditionRefusal}
use Rattle.cpp_conditions.specs.declared.reading.ConditionRefusal.TheVariants as refusals
use Rattle.cpp_conditions.specs.declared.expression_refusal.ExpressionRefusal.{ExpressionRefusal}
use Rattle.cpp_conditions.specs.declared.expression_refusal.ExpressionRefusal.TheVariants as stops
use Rattle.cpp_conditions.specs.Grammar.{ReadsAs}
use Rattle.cpp_conditions.specs.Propositions.{Proposition}
use Rattle.cpp_conditions.specs.View.{proposition}

-- the answer is what the bytes are read as, unless memory runs out
abbrev pub IsConditionRead : Macros → List Feature → List ℕ → Result Condition ConditionRefusal → Type 0
IsConditionRead macros features bytes (Ok made) = ReadsAs macros features bytes (Ok (proposition made))
IsConditionRead macros features bytes (Err refusals.NoMemory) = ⊤
IsConditionRead macros features bytes (Err (refusals.Fault fault)) = ReadsAs macros features bytes (Err fault)

-- the answer is the expected one, unless memory runs out
abbrev pub Judges : Result Condition ConditionRefusal → Result (Proposition Atom) ConditionFault → Type 0
Judges (Ok made) expected = expected ≡ Ok (proposition made)
Judges (Err refusals.NoMemory) expected = ⊤
Judges (Err (refusals.Fault fault)) expected = expected ≡ Err fault

abbrev pub condition_refusal : ExpressionRefusal → ConditionRefusal
condition_refusal stops.NoMemory = refusals.NoMemory
condition_refusal stops.Wrong = refusals.Fault faults.Syntax

abbrev pub linear_refusal : LinearFault → ConditionRefusal
linear_refusal linear.NoMemory = refusals.NoMemory
linear_refusal linear.TooLarge = refusals.Fault faults.TooLarge
