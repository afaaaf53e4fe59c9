-- What a clause sees of paths: their turns, and the values of their leaves.
use Rattle.std.specs.Prelude.{ℕ, Bool, List, map}
use Rattle.decision_tree.specs.declared.paths.Path.{Path}

-- the turns and the leaf's value
abbrev pub shown : {L : Type 0} → List (Path L) → List (List (ℕ × Bool) × L)
shown = map (λ p. (p.turns, p.leaf.value.value))
