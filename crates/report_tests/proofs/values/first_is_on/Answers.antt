use Rattle.std.proofs.Common.{pos, refl, arith}
use Rattle.report_tests.proofs.FourFeatures.{single}
use Rattle.report_tests.proofs.values.first_is_on.Goals as goal

pub atom-requires : goal.atom-requires
atom-requires c = single 0 (pos 1) (pos 1) (omega arith) refl (omega arith)
