use Rattle.std.proofs.Common.{pos, ◌∙◌}
use Rattle.feature_tests.proofs.Tested.{gap, small_zero}
use Rattle.feature_tests.proofs.void_questions.reaches.Goals as goal

pub returns : goal.returns
returns c = gap 5 c.args.left c.args.right _ (pos 0) small_zero (c.in_ok-terms.ensures ∙ c.in_ok-form.ensures) c.requires.order c.requires.right
