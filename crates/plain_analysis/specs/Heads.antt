-- The head of a loop in the analysis.
use Rattle.std.specs.Prelude.{◌≡◌, ℕ}
use Rattle.leaf_domain.specs.Leaves.{LeafValue, LeafMeaning}
use Rattle.plain_analysis.specs.declared.after.Head.{Head}
use Rattle.plain_analysis.specs.declared.loops.Loop.{Loop}
use Rattle.plain_analysis.specs.declared.options.Options.{Options}
use Rattle.plain_analysis.specs.Loops.{final_leaf}
use Rattle.plain_analysis.specs.Statements.{lap_of, loop_turn}
use Rattle.plain_analysis.specs.View.{parts_of}

-- what comes in at the head of a loop that is entered with d, by the leaf that the head has
abbrev pub turns_of : LeafMeaning → Options → Loop → LeafValue → LeafValue → LeafValue
turns_of M o l d = loop_turn M o (parts_of l.parts) d

-- the final leaf of a loop that is entered with d
abbrev pub final_of : LeafMeaning → Options → Loop → LeafValue → LeafValue
final_of M o l d = final_leaf M o (lap_of M o (parts_of l.parts)) d

-- a leaf over so many variables, and what comes in with it
pub record IsHead {L : Type 0} (value : L → LeafValue) (G : LeafValue → LeafValue) (n : ℕ) (head : Head L) : Type 0 where
  pub next : value head.next ≡ G (value head.at)
  pub at_count : (value head.at).variables ≡ n
  pub next_count : (value head.next).variables ≡ n
