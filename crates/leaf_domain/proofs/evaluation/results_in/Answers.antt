use Rattle.leaf_domain.proofs.FoldLemmas.{fold_in_int}
use Rattle.leaf_domain.proofs.evaluation.results_in.Goals as goal

pub returns-in-Wrap-clause-int : goal.returns-in-Wrap-clause-int
returns-in-Wrap-clause-int c = rw c.fold.ensures (fold_in_int c.args.a)
