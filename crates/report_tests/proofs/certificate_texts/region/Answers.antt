use Rattle.report_tests.proofs.OneFeature.{single}
use Rattle.report_tests.proofs.certificate_texts.region.Goals as goal

pub literal-requires : goal.literal-requires
literal-requires c = single
