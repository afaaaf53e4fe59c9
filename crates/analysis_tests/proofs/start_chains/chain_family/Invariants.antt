use Rattle.std.proofs.Common.{◌≡◌, length}
use Rattle.std.specs.List.{All}
use Rattle.c_tree.specs.Value.{IsInt}
use Rattle.analysis_tests.proofs.start_chains.chain_family.Given as goal

abbrev pub invariant-loop-x : goal.invariant-loop-x
invariant-loop-x l =
    record {
      names : length l.names.items ≡ l.x;
      starts : length l.start.items ≡ l.x;
      ints : All IsInt l.start.items;
    }
