use Rattle.std.proofs.Common.{pos}
use Rattle.leaf_domain.proofs.FormLemmas.{answered_difference, constant_is_form}
use Rattle.leaf_domain.proofs.differences.less_zero_where.Goals as goal

pub returns-then-counts-clause-form : goal.returns-then-counts-clause-form
returns-then-counts-clause-form c =
    λ count h. answered_difference count c.difference.result c.args.f.now c.constant.result c.difference.ensures h (rw c.constant.ensures (constant_is_form count (pos 0)))
