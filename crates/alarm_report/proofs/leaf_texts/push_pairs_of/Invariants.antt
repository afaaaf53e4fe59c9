use Rattle.std.proofs.Common.{◌≡◌, ◌≤◌, ◌<◌, ◌+◌, ◌++◌, length}
use Rattle.alarm_report.specs.LeafTexts.{items_with}
use Rattle.alarm_report.proofs.leaf_texts.push_pairs_of.Given as goal

-- what stands, and what is left, are all
abbrev pub invariant-pairs : goal.invariant-pairs
invariant-pairs g l =
    let v = g.L.Leaf.value l.leaf in
    let items_from = items_with g.L.Leaf.meaning v l.x l.first in
    (l.items.items ++ items_from l.y l.rest ≡ l.fn.items.items ++ items_from (l.x + 1) l.fn.names) × (l.x < l.y) × (l.y + length l.rest ≤ v.variables)

abbrev pub decreases-pairs : goal.decreases-pairs
decreases-pairs g l = length l.rest
