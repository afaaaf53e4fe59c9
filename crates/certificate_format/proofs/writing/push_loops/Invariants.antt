use Rattle.std.proofs.Common.{◌≡◌, ◌++◌, take, map}
use Rattle.std.specs.Prelude.{flat_map}
use Rattle.alarm_report.specs.Invariants.{invariant}
use Rattle.certificate_format.specs.Texts.{loop_line}
use Rattle.certificate_format.proofs.writing.push_loops.Given as goal

abbrev pub invariant-loops : goal.invariant-loops
invariant-loops g l = l.text.items ≡ l.initial.text.items ++ flat_map (loop_line l.regions g.L.Leaf.meaning l.features l.names) (map (invariant g.L.Leaf.value) (take l.one-index l.loops))
