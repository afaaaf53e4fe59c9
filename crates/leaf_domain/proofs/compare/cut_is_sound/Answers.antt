use Rattle.leaf_domain.proofs.CutLemmas.{cut_holds}
use Rattle.leaf_domain.proofs.compare.cut_is_sound.Goals as goal

pub returns : goal.returns
returns c = cut_holds
