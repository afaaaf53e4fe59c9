use Rattle.std.proofs.Common.{vec_len}
use Rattle.reading_states.proofs.frames.+settle.Given as goal

abbrev pub decreases-settle : goal.decreases-settle
decreases-settle l = vec_len l.frames
