use Rattle.std.proofs.Common.{◌≡◌, take, map}
use Rattle.std.specs.Prelude.{flat_map}
use Rattle.alarm_report.specs.Invariants.{invariant}
use Rattle.alarm_report.specs.LeafTexts.{invariant_line}
use Rattle.alarm_report.proofs.leaf_texts.invariant_text.Given as goal

abbrev pub invariant-invariants : goal.invariant-invariants
invariant-invariants g l = l.text.items ≡ flat_map (invariant_line l.regions g.L.Leaf.meaning l.features l.names) (map (invariant g.L.Leaf.value) (take l.one-index l.invariants))
