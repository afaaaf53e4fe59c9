use Rattle.std.proofs.Common.{◌≡◌, ◌++◌, map, length}
use Rattle.linear_atoms.specs.Atoms.{AreLiterals}
use Rattle.alarm_report.specs.Pieces.{folded, piece_text}
use Rattle.alarm_report.proofs.pieces.folded_texts.Given as goal

-- what stands, and what is left, are all
abbrev pub invariant-pieces : goal.invariant-pieces
invariant-pieces l =
    (l.texts.items ++ map (piece_text l.features) (folded l.features l.rest) ≡ map (piece_text l.features) (folded l.features l.fn.literals))
    × AreLiterals (length l.features) l.rest

abbrev pub decreases-pieces : goal.decreases-pieces
decreases-pieces l = length l.rest
