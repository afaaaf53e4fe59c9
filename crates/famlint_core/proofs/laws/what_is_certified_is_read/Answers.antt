use Rattle.famlint_core.proofs.Certified.{certified_read}
use Rattle.famlint_core.proofs.laws.what_is_certified_is_read.Goals as goal

pub returns : goal.returns
returns c = certified_read c.families_are_of_files.ensures c.written_analyses_are_spelled.ensures
