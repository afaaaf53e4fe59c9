use Rattle.std.proofs.Common.{◌≡◌, drop}
use Rattle.family_names.specs.Names.{is_among}
use Rattle.family_names.proofs.seen.contains.Given as goal

abbrev pub invariant-loop-other : goal.invariant-loop-other
invariant-loop-other l = is_among l.number l.numbers ≡ is_among l.number (drop l.other-index l.numbers)
