use Rattle.reading_laws.proofs.Collecting.{atoms_of, few_or_more}
use Rattle.reading_laws.proofs.models.conditions_have_lists_of_atoms.Goals as goal

pub returns-clause-list : goal.returns-clause-list
returns-clause-list c = atoms_of

pub returns-clause-count : goal.returns-clause-count
returns-clause-count c = few_or_more
