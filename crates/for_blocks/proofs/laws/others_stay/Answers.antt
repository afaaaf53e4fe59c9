use Rattle.for_blocks.proofs.Others.{others_stay_law, groups_stay_law, conditions_stay_law}
use Rattle.for_blocks.proofs.laws.others_stay.Goals as goal

pub returns-clause-items : goal.returns-clause-items
returns-clause-items c = others_stay_law

pub returns-clause-groups : goal.returns-clause-groups
returns-clause-groups c = groups_stay_law

pub returns-clause-conditions : goal.returns-clause-conditions
returns-clause-conditions c = conditions_stay_law
