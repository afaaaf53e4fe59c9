use Rattle.std.proofs.Common.{take}
use Rattle.decision_tree.specs.Listed.{IsTreeIn, Keeps}
use Rattle.decision_tree.specs.View.{numbered, plain}
use Rattle.merged_findings.specs.Pairs.{ArePairs, IsMergedPlace}
use Rattle.merged_findings.proofs.findings.merged_places.Given as goal

-- the trees so far, and that the care stays a tree of its forest
abbrev pub invariant-loop-place : goal.invariant-loop-place
invariant-loop-place g l = record {
  merged : ArePairs (IsMergedPlace (plain l.care)) (take l.place-index l.places) l.made.items;
  care : IsTreeIn 0 320 l.tables.cares (numbered l.care);
  keeps : Keeps l.initial.tables.cares l.tables.cares;
}
