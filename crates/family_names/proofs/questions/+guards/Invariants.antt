use Rattle.std.proofs.Common.{length}
use Rattle.family_names.proofs.questions.+guards.Given as goal

abbrev pub decreases-guards : goal.decreases-guards
decreases-guards l = length l.groups.now
