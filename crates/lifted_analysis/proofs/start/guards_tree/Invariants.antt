use Rattle.std.proofs.Common.{◌≡◌, take}
use Rattle.c_tree.specs.Project.{guards_hold}
use Rattle.lifted_analysis.specs.Start.{IsTreeAt}
use Rattle.lifted_analysis.specs.States.{truths_in}
use Rattle.lifted_analysis.proofs.start.guards_tree.Given as goal

abbrev pub invariant-loop-guard : goal.invariant-loop-guard
invariant-loop-guard g l =
    record {
      made : IsTreeAt l.family (λ v. guards_hold (truths_in l.family.choices.now v) (take l.guard-index l.guards)) l.made;
      same : l.tables.leaves ≡ l.fn.tables.leaves;
    }
