use Rattle.c_parser.proofs.FamilyAnswers.{in_blocks}
use Rattle.c_parser.proofs.Projecting.{few}
use Rattle.c_parser.proofs.variants.family_names_are_few.Goals as goal

pub returns : goal.returns
returns c = few (in_blocks c.names_stay.ensures.names c.family_names_occur.ensures)
