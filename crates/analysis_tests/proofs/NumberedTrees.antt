-- Trees of a forest have numbers, whatever their first test.
use Rattle.std.proofs.Common.{ℕ, ◌≤◌, ◌+◌, Bool, List, arith}
use Rattle.decision_tree.specs.Listed.{IsNumberedTree, IsTreeIn}
use Rattle.decision_tree.specs.Numbered.{Numbered, erase}
use Rattle.decision_tree.specs.Plain.{Plain, leaf, node, IsReducedFrom}
use Rattle.decision_tree.proofs.Numbers.{numbered_tree}

from_zero : (m : ℕ) (t : Plain Bool) → IsReducedFrom m t → IsReducedFrom 0 t
from_zero m (leaf x) h = tt
from_zero m (node test low high) h = (omega arith, h.1, h.2, h.3)

pub numbered_from : (m : ℕ) (forest : List (Plain Bool)) (t : Numbered Bool) → IsTreeIn m 320 forest t → IsNumberedTree 0 320 t
numbered_from m forest t h =
    let n = numbered_tree m 320 forest t h in
    record { reduced = from_zero m (erase t) n.reduced; small = n.small; numbered = n.numbered }
