use Rattle.leaf_domain.proofs.FormLemmas.{answered_difference}
use Rattle.leaf_domain.proofs.differences.difference_where.Goals as goal

pub returns-then-counts-clause-form : goal.returns-then-counts-clause-form
returns-then-counts-clause-form c = λ count h k. answered_difference count c.difference.result c.args.f.now c.args.g.now c.difference.ensures h k
