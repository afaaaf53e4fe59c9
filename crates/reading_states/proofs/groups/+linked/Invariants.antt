use Rattle.std.proofs.Common.{vec_len}
use Rattle.reading_states.proofs.groups.+linked.Given as goal

abbrev pub decreases-linked : goal.decreases-linked
decreases-linked l = vec_len l.links
