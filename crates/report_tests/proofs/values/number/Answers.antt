use Rattle.std.proofs.Common.{arith, w64}
use Rattle.std.proofs.lemmas.Int.{to_z-of_z}
use Rattle.report_tests.proofs.FourFeatures.{single}
use Rattle.report_tests.proofs.values.number.Goals as goal

pub atom-requires : goal.atom-requires
atom-requires c = single 2 c.args.bound _ (omega arith) (to_z-of_z w64 c.args.bound c.ranges.bound) c.requires
