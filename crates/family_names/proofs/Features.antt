-- The features of names.
use Rattle.std.proofs.Common.{◌≡◌, ℕ, true, false, List, [], ◌∷◌, slice_get, Option, Some, None, refl, ap}
use Rattle.std.specs.Prelude.{◌||◌, if◌then◌else◌}
use Rattle.std.specs.List.{list_any}
use Rattle.std.specs.Str.{bytes_eq}
use Rattle.linear_atoms.specs.declared.atoms.Feature.{Feature}
use Rattle.cpp_conditions.specs.declared.models.Model.{Model}
use Rattle.family_names.specs.Names.{NameContext, is_feature_name, is_feature, feature_in, named_feature, is_integer, is_value}

none_in : (fs : List Feature) (name : List ℕ) → list_any (λ f. bytes_eq f.name name) fs ≡ false → feature_in fs name ≡ None
none_in [] name h = refl
none_in (f ∷ fs) name h = elim (bytes_eq f.name name) as (λ b. (b || list_any (λ g. bytes_eq g.name name) fs) ≡ false → (if b then Some f else feature_in fs name) ≡ None) [
  | true ↦ λ e. absurd cc
  | false ↦ λ e. none_in fs name e
] h

none_named : (model : Model) (name : Option (List ℕ)) → is_feature_name model name ≡ false → named_feature model name ≡ None
none_named model None h = refl
none_named model (Some name) h = none_in model.features name h

-- a name that is no feature's is no value's
pub no_value : (context : NameContext) (x : ℕ) → is_feature context x ≡ false → is_value context x ≡ false
no_value context x h = ap is_integer (none_named context.model (slice_get context.names x) h)
