use Rattle.reading_laws.proofs.Validities.{valid_or_void}
use Rattle.reading_laws.proofs.models.models_are_valid_or_void.Goals as goal

pub returns : goal.returns
returns c = valid_or_void
