-- What the valid configurations of a model make of each feature.
use Rattle.std.specs.Prelude.{◌≡◌, ℕ, ℤ, pos, ◌≤ℤ◌, true, false, List, length, slice_get, slice_index_or, Some}
use Rattle.linear_atoms.specs.declared.atoms.Feature.{Feature}
use Rattle.cpp_conditions.specs.declared.models.Model.{Model}
use Rattle.cpp_conditions.specs.Validity.{plain, IsValid}
use Rattle.configuration_advice.specs.declared.feature_uses.FeatureUse.{FeatureUse}
use Rattle.configuration_advice.specs.declared.feature_uses.FeatureUse.TheVariants.{Free, Dead, Always, Span}

-- the value of the feature with this number
abbrev pub value_of : ℕ → List ℤ → ℤ
value_of n values = slice_index_or values n (pos 0)

-- some valid configuration gives the feature this value
pub record Has (model : Model) (n : ℕ) (v : ℤ) : Type 0 where
  pub values : List ℤ
  pub valid : IsValid (plain model) values
  pub there : value_of n values ≡ v

-- each valid configuration gives it at least this value
abbrev pub AllFrom : Model → ℕ → ℤ → Type 0
AllFrom model n low = (values : List ℤ) → IsValid (plain model) values → low ≤ℤ value_of n values

-- each valid configuration gives it at most this value
abbrev pub AllTo : Model → ℕ → ℤ → Type 0
AllTo model n high = (values : List ℤ) → IsValid (plain model) values → value_of n values ≤ℤ high

-- some valid configuration gives it at least this value
pub record SomeFrom (model : Model) (n : ℕ) (low : ℤ) : Type 0 where
  pub value : ℤ
  pub has : Has model n value
  pub from : low ≤ℤ value

-- some valid configuration gives it at most this value
pub record SomeTo (model : Model) (n : ℕ) (high : ℤ) : Type 0 where
  pub value : ℤ
  pub has : Has model n value
  pub to : value ≤ℤ high

-- the least value that a valid configuration gives it
pub record IsLeast (model : Model) (n : ℕ) (low : ℤ) : Type 0 where
  pub has : Has model n low
  pub least : AllFrom model n low

-- the greatest value that a valid configuration gives it
pub record IsGreatest (model : Model) (n : ℕ) (high : ℤ) : Type 0 where
  pub has : Has model n high
  pub greatest : AllTo model n high

-- of a switch: on in some valid configurations and off in others, off in all, or on in all; of a number: its ends
abbrev pub IsUse : Model → ℕ → Feature → FeatureUse → Type 0
IsUse model n feature Free = (feature.boolean ≡ true) × SomeFrom model n (pos 1) × SomeTo model n (pos 0)
IsUse model n feature Dead = (feature.boolean ≡ true) × AllTo model n (pos 0)
IsUse model n feature Always = (feature.boolean ≡ true) × AllFrom model n (pos 1)
IsUse model n feature (Span low high) = (feature.boolean ≡ false) × IsLeast model n low × IsGreatest model n high

-- one answer per feature of the list, in its order
pub record AreUses (model : Model) (features : List Feature) (uses : List FeatureUse) : Type 0 where
  pub count : length uses ≡ length features
  pub each : (n : ℕ) (f : Feature) (u : FeatureUse) → slice_get features n ≡ Some f → slice_get uses n ≡ Some u → IsUse model n f u
