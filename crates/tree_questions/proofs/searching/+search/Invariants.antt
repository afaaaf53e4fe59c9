use Rattle.std.proofs.Common.{◌+◌, ◌*◌}
use Rattle.tree_questions.proofs.searching.+search.Given as goal

abbrev pub decreases-search : goal.decreases-search
decreases-search l = 2 * l.left + 1

abbrev pub decreases-improve : goal.decreases-improve
decreases-improve l = 2 * l.left
