use Rattle.std.proofs.Common.{arith}
use Rattle.report_tests.proofs.Literals.{single}
use Rattle.report_tests.proofs.reports.invariants_have_texts.Goals as goal

pub literal-requires : goal.literal-requires
literal-requires g c = single 0 1 (omega arith) (omega arith)
