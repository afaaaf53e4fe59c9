-- What holds at every valid configuration, and the first thing that does not.
use Rattle.std.specs.Prelude.{◌≡◌, ℤ, Bool, true, not, List, ◌∷◌, ◌++◌}
use Rattle.std.specs.List.{All}
use Rattle.cpp_conditions.specs.declared.models.Model.{Model}
use Rattle.cpp_conditions.specs.Validity.{plain, IsValid}
use Rattle.atom_solver.specs.Solutions.{IsFirst}

-- it holds at every valid configuration
abbrev pub HoldsAlways : Model → (List ℤ → Bool) → Type 0
HoldsAlways model holds = (values : List ℤ) → IsValid (plain model) values → holds values ≡ true

abbrev pub AllHold : {X : Type 0} → Model → (X → List ℤ → Bool) → List X → Type 0
AllHold model holds xs = All (λ x. HoldsAlways model (holds x)) xs

-- x is the first of the list that does not hold at every valid configuration, and this is the least at which it does not
pub record IsFirstFailing {X : Type 0} (model : Model) (holds : X → List ℤ → Bool) (xs : List X) (x : X) (values : List ℤ) : Type 0 where
  pub before : List X
  pub after : List X
  pub there : xs ≡ before ++ x ∷ after
  pub earlier : AllHold model holds before
  pub least : IsFirst model (λ k. not (holds x k)) values
