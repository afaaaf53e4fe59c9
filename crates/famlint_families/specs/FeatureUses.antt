-- What a model leaves open of each feature, as an answer.
use Rattle.std.specs.Prelude.{◌≡◌, List}
use Rattle.cpp_conditions.specs.declared.models.Model.{Model}
use Rattle.configuration_advice.specs.declared.feature_uses.FeatureUse.{FeatureUse}
use Rattle.configuration_advice.specs.Texts.{uses_text}
use Rattle.configuration_advice.specs.Uses.{AreUses}
use Rattle.famlint_loads.specs.declared.fault.Done.{Done}

-- a line for each feature, with what the valid configurations make of it, and status 0
pub record AreUsesDone (model : Model) (done : Done) : Type 0 where
  pub uses : List FeatureUse
  pub are : AreUses model model.features uses
  pub text : done.text ≡ uses_text model.features uses
  pub status : done.status ≡ 0
