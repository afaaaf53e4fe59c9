use Rattle.std.proofs.Common.{◌≡◌, vec_len}
use Rattle.c_tree.specs.Run.{settled}
use Rattle.run_meaning.specs.View.{standing}
use Rattle.run_meaning.proofs.levels.settle.Given as goal

abbrev pub invariant-over : goal.invariant-over
invariant-over l = settled (standing l.state) ≡ settled (standing l.fn.state)

abbrev pub decreases-over : goal.decreases-over
decreases-over l = vec_len l.state.levels
