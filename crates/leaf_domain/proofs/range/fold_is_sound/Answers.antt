use Rattle.leaf_domain.proofs.FoldLemmas.{fold_is}
use Rattle.leaf_domain.proofs.range.fold_is_sound.Goals as goal

pub returns : goal.returns
returns c = fold_is
