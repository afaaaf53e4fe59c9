use Rattle.std.proofs.Common.{length}
use Rattle.configuration_advice.proofs.keeping.+all_kept.Given as goal

abbrev pub decreases-all_kept : goal.decreases-all_kept
decreases-all_kept l = length l.features.now
