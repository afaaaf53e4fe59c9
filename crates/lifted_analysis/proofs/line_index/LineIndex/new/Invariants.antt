use Rattle.std.proofs.Common.{◌≡◌, take}
use Rattle.fam_outer.specs.declared.faults.Place.{Place}
use Rattle.lifted_analysis.specs.LineIndex.{positions_from, positions_in}
use Rattle.lifted_analysis.proofs.line_index.LineIndex.new.Given as goal

-- the positions of the lines so far
abbrev pub invariant-loop-k : goal.invariant-loop-k
invariant-loop-k l = (q : Place) → positions_in l.by_place.entries q ≡ positions_from 0 (take l.k l.lines) q
