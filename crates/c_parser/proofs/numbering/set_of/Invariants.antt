use Rattle.std.proofs.Common.{◌≡◌, take, drop}
use Rattle.c_parser.specs.Items.{AreNewBehind}
use Rattle.c_parser.proofs.numbering.set_of.Given as goal

abbrev pub invariant-loop-name : goal.invariant-loop-name
invariant-loop-name l = record { keys : l.names.keys ≡ take l.name-index l.given; new : AreNewBehind l.names.keys (drop l.name-index l.given) }
