use Rattle.std.proofs.Common.{sym}
use Rattle.leaf_domain.proofs.ThresholdLemmas.{behind_int, fewer_behind}
use Rattle.leaf_domain.proofs.thresholds.+nearest.Goals as goal

pub nearest-other-requires : goal.nearest-other-requires
nearest-other-requires t c = (fewer_behind _ _ _ t (sym c.decreases) c.in-Some.ensures, behind_int _ _ _ c.in-Some.ensures c.requires)
