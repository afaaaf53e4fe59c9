use Rattle.std.proofs.Common.{length}
use Rattle.cpp_conditions.proofs.Compared.{atom_of_normal}
use Rattle.cpp_conditions.proofs.comparing.at_least_zero.Goals as goal

pub kept-requires : goal.kept-requires
kept-requires c = atom_of_normal c.args.names.now c.in_ok-truth.field-0 c.in-Literal.literal (c.in_ok-truth.ensures.atom (length c.args.names.now) c.requires.below) c.in-Literal.is
