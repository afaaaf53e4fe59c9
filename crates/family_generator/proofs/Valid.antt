-- The model has a valid configuration: the one of zeros.
use Rattle.std.proofs.Common.{◌≡◌, ℤ, List, [], ◌∷◌, pos, refl, map}
use Rattle.linear_atoms.specs.declared.atoms.Feature.{Feature}
use Rattle.cpp_conditions.specs.declared.conditions.Condition.{Condition}
use Rattle.cpp_conditions.specs.View.{proposition}
use Rattle.cpp_conditions.specs.Validity.{IsValid}
use Rattle.family_generator.specs.Features.{generated_features}

zeros : List ℤ
zeros = pos 0 ∷ pos 0 ∷ pos 0 ∷ pos 0 ∷ pos 0 ∷ pos 0 ∷ pos 0 ∷ pos 0 ∷ pos 0 ∷ []

pub zeros_are_valid : (features : List Feature) (constraints : List Condition) → features ≡ generated_features → constraints ≡ []
    → (values : List ℤ) × IsValid (record { features = features; constraints = map proposition constraints }) values
unfolding zeros
zeros_are_valid features constraints f c = (zeros, rw f (rw c refl))
