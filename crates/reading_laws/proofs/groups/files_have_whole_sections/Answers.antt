use Rattle.reading_laws.proofs.Items.{items_are_sectioned}
use Rattle.reading_laws.proofs.Walking.{lines_are_sectioned}
use Rattle.reading_laws.proofs.groups.files_have_whole_sections.Goals as goal

pub returns-clause-lines : goal.returns-clause-lines
returns-clause-lines c = lines_are_sectioned

pub returns-clause-items : goal.returns-clause-items
returns-clause-items c = items_are_sectioned
