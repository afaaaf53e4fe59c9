use Rattle.std.proofs.Common.{◌+◌, ◌*◌, length}
use Rattle.configuration_advice.proofs.Searched.{IsBranching}
use Rattle.configuration_advice.proofs.searching.+search.Given as goal

abbrev pub decreases-search : goal.decreases-search
decreases-search l = 2 * l.left

abbrev pub decreases-branches : goal.decreases-branches
decreases-branches l = 2 * l.left + 1

abbrev pub invariant-branches-choices : goal.invariant-branches-choices
invariant-branches-choices l = IsBranching l.question l.fn.choices l.fn.blamed (l.changed + 1 + l.left) l.front.items l.rest l.others l.best

abbrev pub decreases-branches-choices : goal.decreases-branches-choices
decreases-branches-choices l = length l.rest
