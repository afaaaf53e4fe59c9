use Rattle.reading_laws.proofs.Kept.{groups_stay, kept_items_stay, kept_lines_stay}
use Rattle.reading_laws.proofs.groups.groups_are_kept_in_order.Goals as goal

pub returns-clause-some : goal.returns-clause-some
returns-clause-some c = groups_stay

pub returns-clause-items : goal.returns-clause-items
returns-clause-items c = kept_items_stay

pub returns-clause-lines : goal.returns-clause-lines
returns-clause-lines c = kept_lines_stay
