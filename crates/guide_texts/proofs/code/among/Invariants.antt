use Rattle.std.proofs.Common.{◌≡◌, drop}
use Rattle.guide_texts.specs.Codes.{first_of, told}
use Rattle.guide_texts.proofs.code.among.Given as goal

abbrev pub invariant-loop-row : goal.invariant-loop-row
invariant-loop-row l = first_of (told (drop l.row-index l.rows)) l.name ≡ first_of (told l.rows) l.name
