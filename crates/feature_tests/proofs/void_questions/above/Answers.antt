use Rattle.std.proofs.Common.{pos, ◌∙◌}
use Rattle.feature_tests.proofs.Tested.{gap, small_one}
use Rattle.feature_tests.proofs.void_questions.above.Goals as goal

pub returns : goal.returns
returns c = gap 5 c.args.left c.args.right _ (pos 1) small_one (c.in_ok-terms.ensures ∙ c.in_ok-form.ensures) c.requires.order c.requires.right
