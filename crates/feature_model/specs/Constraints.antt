-- Constraints read one after another.
use Rattle.std.specs.Prelude.{◌≡◌, ⊤, ℕ, ◌+◌, List, [], ◌∷◌, ◌++◌, map, Result, Ok, Err}
use Rattle.fam_outer.specs.declared.dialect.Unknown.{Unknown}
use Rattle.fam_outer.specs.declared.faults.ConditionFault.{ConditionFault}
use Rattle.linear_atoms.specs.declared.atoms.Atom.{Atom}
use Rattle.linear_atoms.specs.declared.atoms.Feature.{Feature}
use Rattle.cpp_conditions.specs.declared.conditions.Condition.{Condition}
use Rattle.cpp_conditions.specs.declared.reading.ConditionRefusal.{ConditionRefusal}
use Rattle.cpp_conditions.specs.declared.reading.ConditionRefusal.TheVariants as conditions
use Rattle.cpp_conditions.specs.Grammar.{ReadsAs}
use Rattle.cpp_conditions.specs.Macros.{no_macros}
use Rattle.cpp_conditions.specs.Propositions.{Proposition}
use Rattle.cpp_conditions.specs.View.{proposition}
use Rattle.feature_model.specs.declared.faults.ModelFault.{ModelFault}
use Rattle.feature_model.specs.declared.faults.ModelFault.TheVariants as faults
use Rattle.fam_outer.specs.declared.refusal.Refusal.{Refusal}
use Rattle.fam_outer.specs.declared.refusal.Refusal.TheVariants as refusals
use Rattle.feature_model.specs.Stages.{◌>>=◌}

-- the texts are read as these constraints, or the first that is refused has this fault and its number, counted from n
pub data AreRead (unknown : Unknown) (features : List Feature) : ℕ → List (List ℕ) → Result (List (Proposition Atom)) ModelFault → Type 0 where
  none : (n : ℕ) → AreRead unknown features n [] (Ok [])
  refused : (n : ℕ) (text : List ℕ) (texts : List (List ℕ)) (fault : ConditionFault) → ReadsAs (no_macros unknown) features text (Err fault) → AreRead unknown features n (text ∷ texts) (Err (faults.Constraint n fault))
  first : (n : ℕ) (text : List ℕ) (texts : List (List ℕ)) (p : Proposition Atom) (others : Result (List (Proposition Atom)) ModelFault) → ReadsAs (no_macros unknown) features text (Ok p) → AreRead unknown features (n + 1) texts others
      → AreRead unknown features n (text ∷ texts) (others >>= λ ps. Ok (p ∷ ps))

-- ---- what the code answers

-- the refusal of the constraint of number n
abbrev pub numbered : ℕ → ConditionRefusal → (Refusal ModelFault)
numbered n conditions.NoMemory = refusals.NoMemory
numbered n (conditions.Fault fault) = refusals.Fault (faults.Constraint n fault)

-- behind the old conditions stand those that the texts are read as; or their fault
abbrev pub Adds : Unknown → List Feature → ℕ → List (List ℕ) → List Condition → List Condition → Result ⊤ (Refusal ModelFault) → Type 0
Adds unknown features n texts old new (Ok _) = (more : List Condition) × (new ≡ old ++ more) × AreRead unknown features n texts (Ok (map proposition more))
Adds unknown features n texts old new (Err refusals.NoMemory) = ⊤
Adds unknown features n texts old new (Err (refusals.Fault fault)) = AreRead unknown features n texts (Err fault)
