use Rattle.std.proofs.Common.{arith}
use Rattle.report_tests.proofs.Literals.{single, difference}
use Rattle.report_tests.proofs.reports.alarms_have_texts.Goals as goal

pub literal-requires : goal.literal-requires
literal-requires g c = single 0 1 (omega arith) (omega arith)

pub literal-requires-2 : goal.literal-requires-2
literal-requires-2 g c = single 1 3 (omega arith) (omega arith)

pub literal-requires-3 : goal.literal-requires-3
literal-requires-3 g c = difference
