-- When two keys are the same.
use Rattle.std.specs.Prelude.{Bool, false, ◌==◌, ◌&&◌}
use Rattle.decision_tree.specs.declared.forest.Key.{Key}
use Rattle.decision_tree.specs.declared.forest.Key.TheVariants as key

abbrev pub same_key : {L : Type 0} → (L → L → Bool) → Key L → Key L → Bool
same_key eq (key.Leaf a) (key.Leaf b) = eq a.value.value b.value.value
same_key eq (key.Node k a b) (key.Node l c d) = k == l && (a == c && b == d)
same_key eq (key.Leaf a) (key.Node l c d) = false
same_key eq (key.Node k a b) (key.Leaf c) = false
