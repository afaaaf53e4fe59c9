-- One literal of a list, dropped where the others imply it.
use Rattle.std.specs.Prelude.{◌≡◌, ℕ, Bool, if◌then◌else◌, List, slice_get, Some}
use Rattle.std.specs.List.{remove}
use Rattle.linear_atoms.specs.declared.atoms.Literal.{Literal}
use Rattle.cpp_conditions.specs.declared.models.Model.{Model}
use Rattle.atom_solver.specs.Solutions.{IsImplied}

-- the literal at the place is dropped where the others imply it, and else all stand as before
pub record IsDroppedAt (model : Model) (place : ℕ) (old new : List Literal) (dropped : Bool) : Type 0 where
  pub literal : Literal
  pub there : slice_get old place ≡ Some literal
  pub implied : IsImplied model (remove old place) literal dropped
  pub left : new ≡ (if dropped then remove old place else old)
