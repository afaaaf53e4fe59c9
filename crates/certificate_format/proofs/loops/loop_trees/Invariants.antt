use Rattle.std.proofs.Common.{◌≡◌, ◌++◌, ℕ, drop, map}
use Rattle.std.specs.List.{All}
use Rattle.decision_tree.specs.Plain.{TestsBelow}
use Rattle.decision_tree.specs.View.{plain}
use Rattle.alarm_report.specs.Invariants.{leaf_tree}
use Rattle.certificate_format.specs.Loops.{trees_at}
use Rattle.certificate_format.proofs.loops.loop_trees.Given as goal

-- what stands, and what is left, are all; and where all trees test little, so do those that stand
abbrev pub invariant-places : goal.invariant-places
invariant-places g l =
    let seen = map (leaf_tree g.L.Leaf.value) in
    (seen l.made.items ++ trees_at l.left (seen (drop l.tree-index l.places)) ≡ trees_at l.loops (seen l.places)) × ((count : ℕ) → All (λ p. TestsBelow count (plain p.tree)) l.places → All (λ p. TestsBelow count (plain p.tree)) l.made.items)
