use Rattle.std.proofs.Common.{rules}
use Rattle.feature_model.proofs.Setting.{set_counts, set_small}
use Rattle.feature_model.proofs.slots.set.Goals as goal

pub returns-clause-count : goal.returns-clause-count
returns-clause-count c = set_counts c.in-Some.feature.now c.args.slots.now c.in-Some.place c.args.value (search rules) (search rules) (search rules)

pub returns-clause-small : goal.returns-clause-small
returns-clause-small c h = set_small c.in-Some.feature.now c.args.slots.now c.in-Some.place c.args.value (search rules) (search rules) h
