use Rattle.std.proofs.Common.{◌≡◌, drop}
use Rattle.std.specs.List.{list_any}
use Rattle.certificate_format.specs.Regions.{is_same}
use Rattle.certificate_format.proofs.regions.is_among.Given as goal

abbrev pub invariant-loop-other : goal.invariant-loop-other
invariant-loop-other l = list_any (is_same l.literal) l.found ≡ list_any (is_same l.literal) (drop l.other-index l.found)
