use Rattle.std.proofs.Common.{◌≡◌, ◌++◌, take}
use Rattle.std.specs.Prelude.{flat_map}
use Rattle.alarm_report.proofs.joining.joined.Given as goal

abbrev pub invariant-loop-text : goal.invariant-loop-text
invariant-loop-text l = l.whole.items ≡ l.initial.whole.items ++ flat_map (λ u. l.between ++ u) (take l.text-index l.behind)
