-- What contracts see of a loop, and of the leaves of what was passed.
use Rattle.std.specs.Prelude.{◌≡◌, ℕ}
use Rattle.c_tree.specs.View.{term, code}
use Rattle.leaf_domain.specs.Leaves.{LeafValue}
use Rattle.plain_analysis.specs.declared.loops.Parts.{Parts}
use Rattle.plain_analysis.specs.declared.loops.Parts.TheVariants as parts
use Rattle.plain_analysis.specs.declared.ways.Ways as rust
use Rattle.plain_analysis.specs.Statements.{LoopParts, TestFirst, TestLast}
use Rattle.plain_analysis.specs.Ways.{Ways}

-- the parts of a loop, as plain data
abbrev pub parts_of : Parts → LoopParts
parts_of (parts.TestFirst test step body) = TestFirst (term test.now) (code step.now) (code body.now)
parts_of (parts.TestLast body at test) = TestLast (code body.now) at (term test.now)

-- the leaf behind and those that left, as plain data
abbrev pub ways_of : {L : Type 0} → (L → LeafValue) → rust.Ways L → Ways
ways_of value w = record { behind = value w.behind; broke = value w.broke; continued = value w.continued; returned = value w.returned }

-- leaves over so many variables
pub record AreOver {L : Type 0} (value : L → LeafValue) (n : ℕ) (w : rust.Ways L) : Type 0 where
  pub behind : (value w.behind).variables ≡ n
  pub broke : (value w.broke).variables ≡ n
  pub continued : (value w.continued).variables ≡ n
  pub returned : (value w.returned).variables ≡ n
