use Rattle.std.proofs.Common.{sym}
use Rattle.leaf_domain.proofs.ThresholdLemmas.{behind_int, fewer_behind}
use Rattle.leaf_domain.proofs.thresholds.+is_step.Goals as goal

pub is_step-requires : goal.is_step-requires
is_step-requires t c = (fewer_behind _ _ _ t (sym c.decreases) c.in-Some.ensures, behind_int _ _ _ c.in-Some.ensures c.requires)
