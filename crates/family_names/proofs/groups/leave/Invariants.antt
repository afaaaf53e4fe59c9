use Rattle.std.proofs.Common.{◌≡◌, reverse, length}
use Rattle.family_names.specs.Groups.{left}
use Rattle.family_names.proofs.groups.leave.Given as goal

abbrev pub invariant-loop-group : goal.invariant-loop-group
invariant-loop-group l = left (reverse l.list.items) ≡ left (reverse l.initial.list.items)

abbrev pub decreases-loop-group : goal.decreases-loop-group
decreases-loop-group l = length l.list.items
