use Rattle.std.proofs.Common.{◌≡◌, ◌-◌}
use Rattle.c_tree.specs.View.{whole}
use Rattle.c_tree.specs.Run.{steps_of, run_of, IsFit}
use Rattle.run_meaning.specs.View.{standing}
use Rattle.run_meaning.proofs.machine.run.Given as goal

abbrev pub invariant-loop-i : goal.invariant-loop-i
invariant-loop-i l = record {
  fit : IsFit (standing l.state);
  same : steps_of l.mode l.inputs (l.n - l._i) (standing l.state) ≡ run_of (whole l.fn.program) l.inputs l.n l.mode;
}
