use Rattle.std.proofs.Common.{◌*◌}
use Rattle.std.specs.List.{All}
use Rattle.c_tree.specs.Project.{IsGuarded}
use Rattle.c_tree.specs.Whole.{IsDeclaredOf}
use Rattle.analysis_tests.proofs.start_chains.chains.Given as goal

abbrev pub invariant-loop-number : goal.invariant-loop-number
invariant-loop-number l =
    record {
      declared : All (IsDeclaredOf l.count) l.list.items;
      guarded : All (IsGuarded (3 * l.count)) l.list.items;
    }
