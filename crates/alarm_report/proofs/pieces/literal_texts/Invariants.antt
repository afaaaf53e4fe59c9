use Rattle.std.proofs.Common.{◌≡◌, ◌++◌, map, length}
use Rattle.linear_atoms.specs.Atoms.{AreLiterals}
use Rattle.linear_atoms.specs.Texts.{literal_text}
use Rattle.alarm_report.proofs.pieces.literal_texts.Given as goal

-- what stands, and what is left, are all
abbrev pub invariant-literals : goal.invariant-literals
invariant-literals l =
    (l.texts.items ++ map (literal_text l.features) l.rest ≡ map (literal_text l.features) l.fn.literals) × AreLiterals (length l.features) l.rest

abbrev pub decreases-literals : goal.decreases-literals
decreases-literals l = length l.rest
