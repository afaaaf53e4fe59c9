-- The trees of loops.
use Rattle.std.specs.Prelude.{List, [], ◌∷◌, if◌then◌else◌}
use Rattle.fam_outer.specs.declared.faults.Place.{Place}
use Rattle.plain_analysis.specs.Places.{is_same_place}
use Rattle.alarm_report.specs.Invariants.{LeafTree}

-- the trees at these places, where places and trees stand in the order of the text
abbrev pub trees_at : List Place → List LeafTree → List LeafTree
trees_at [] ts = []
trees_at (q ∷ qs) [] = []
trees_at (q ∷ qs) (t ∷ ts) = if is_same_place t.place q then t ∷ trees_at qs ts else trees_at (q ∷ qs) ts
