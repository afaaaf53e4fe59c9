use Rattle.std.proofs.Common.{◌≡◌, ◌≤◌, ◌+◌, ◌++◌, length}
use Rattle.alarm_report.specs.LeafTexts.{all_pairs}
use Rattle.alarm_report.proofs.leaf_texts.push_pairs.Given as goal

-- what stands, and what is left, are all
abbrev pub invariant-variables : goal.invariant-variables
invariant-variables g l =
    let v = g.L.Leaf.value l.leaf in
    let items_from = all_pairs g.L.Leaf.meaning v in
    (l.items.items ++ items_from l.x l.rest ≡ l.fn.items.items ++ items_from 0 l.fn.names) × (l.x + length l.rest ≤ v.variables)

abbrev pub decreases-variables : goal.decreases-variables
decreases-variables g l = length l.rest
