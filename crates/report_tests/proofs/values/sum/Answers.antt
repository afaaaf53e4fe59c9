use Rattle.std.proofs.Common.{w64}
use Rattle.std.proofs.lemmas.Int.{to_z-of_z}
use Rattle.report_tests.proofs.FourFeatures.{double}
use Rattle.report_tests.proofs.values.sum.Goals as goal

pub atom-requires : goal.atom-requires
atom-requires c = double c.args.bound _ (to_z-of_z w64 c.args.bound c.ranges.bound) c.requires
