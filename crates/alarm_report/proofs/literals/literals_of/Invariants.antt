use Rattle.std.proofs.Common.{◌≡◌, take}
use Rattle.alarm_report.specs.Regions.{literals_of}
use Rattle.alarm_report.proofs.literals.literals_of.Given as goal

abbrev pub invariant-loop-turn : goal.invariant-loop-turn
invariant-loop-turn l = l.literals.items ≡ literals_of l.atoms (take l.turn-index l.turns)
