use Rattle.certificate_laws.proofs.Programs.{family_told}
use Rattle.certificate_laws.proofs.laws.families_are_of_files.Goals as goal

pub returns : goal.returns
returns c = family_told
