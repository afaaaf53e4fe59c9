use Rattle.std.proofs.Common.{◌∙◌}
use Rattle.feature_tests.proofs.Tested.{spare}
use Rattle.feature_tests.proofs.void_questions.covers.Goals as goal

pub returns : goal.returns
returns c = spare _ (c.in_ok-terms.ensures ∙ c.in_ok-form.ensures)
