use Rattle.std.proofs.Common.{length}
use Rattle.atom_solver.proofs.deciding.+is_ruled_out_by.Given as goal

abbrev pub decreases-is_ruled_out_by : goal.decreases-is_ruled_out_by
decreases-is_ruled_out_by l = length l.places.now
