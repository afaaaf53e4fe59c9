-- The lines of the loops of a family by their places.
use Rattle.std.specs.Prelude.{◌≡◌, ℕ, ◌+◌, if◌then◌else◌, List, [], ◌∷◌}
use Rattle.std.specs.Global.{Vec}
use Rattle.std.specs.Map.{lookup}
use Rattle.std.specs.Option.{option_map_or}
use Rattle.fam_outer.specs.declared.faults.Place.{Place}
use Rattle.lifted_analysis.specs.declared.line_index.LineIndex.{LineIndex}
use Rattle.lifted_analysis.specs.declared.lines.LoopLine.{LoopLine}
use Rattle.plain_analysis.specs.Places.{is_same_place}

-- the positions of the lines at a place, in order, where the first line has the position k
abbrev pub positions_from : ℕ → List LoopLine → Place → List ℕ
positions_from k [] q = []
positions_from k (l ∷ ls) q = if is_same_place l.place q then k ∷ positions_from (k + 1) ls q else positions_from (k + 1) ls q

-- the positions that a table has for a place
abbrev pub positions_in : List (Place × Vec ℕ) → Place → List ℕ
positions_in entries q = option_map_or (λ (ks : Vec ℕ). ks.items) (lookup (is_same_place q) entries) []

-- for each place the index has the positions of the lines there, in order, and no others
abbrev pub IsIndexOf : List LoopLine → LineIndex → Type 0
IsIndexOf lines index = (q : Place) → positions_in index.by_place.entries q ≡ positions_from 0 lines q
