use Rattle.std.proofs.Common.{negsuc}
use Rattle.leaf_domain.proofs.FormLemmas.{multiple_is_form}
use Rattle.leaf_domain.proofs.linear.difference.Goals as goal

pub sum-requires-clause-g : goal.sum-requires-clause-g
sum-requires-clause-g c = rw c.in_ok-negated.ensures (multiple_is_form 48 (negsuc 0) c.args.g.now c.requires.g)
