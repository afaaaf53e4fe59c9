-- What an analysis remembers of the loops of a program.
use Rattle.std.specs.Prelude.{◌≡◌, Bool, ◌==◌, ◌&&◌}
use Rattle.std.specs.List.{AllByRecursion}
use Rattle.c_tree.specs.View.{whole}
use Rattle.leaf_domain.specs.Leaves.{LeafValue, LeafMeaning}
use Rattle.plain_analysis.specs.declared.finals.Entered.{Entered}
use Rattle.plain_analysis.specs.declared.finals.Finals.{Finals}
use Rattle.plain_analysis.specs.declared.task.Task.{Task}
use Rattle.plain_analysis.specs.Loops.{final_leaf}
use Rattle.plain_analysis.specs.Stated.{IsLoopAt}
use Rattle.plain_analysis.specs.Statements.{LoopParts, lap_of}

-- the same place, and the same leaf
abbrev pub same_entered : {L : Type 0} → (L → L → Bool) → Entered L → Entered L → Bool
same_entered eq a b = (a.place.line == b.place.line && a.place.column == b.place.column) && eq a.leaf b.leaf

-- the final leaf of the program's loop at the place, where it is entered with the leaf
pub record IsFinal {L : Type 0} (value : L → LeafValue) (M : LeafMeaning) (t : Task) (k : Entered L) (last : L) : Type 0 where
  pub same : (value last).variables ≡ (value k.leaf).variables
  pub final : (l : LoopParts) → IsLoopAt (whole t.program.now) k.place l
      → value last ≡ final_leaf M t.options.now (lap_of M t.options.now l) (value k.leaf)

-- all that is remembered is so
pub record Remembers {L : Type 0} (value : L → LeafValue) (M : LeafMeaning) (t : Task) (f : Finals L) : Type 0 where
  pub each : AllByRecursion (λ (e : Entered L × L). IsFinal value M t e.0 e.1) f.entries.entries
