use Rattle.strides.proofs.StridedLaws.{joined_own}
use Rattle.strides.proofs.strided.Strided.widened.Goals as goal

pub joined-requires : goal.joined-requires
joined-requires c = (joined_own c.args.self c.args.other c.requires.first c.requires.second).modulus
