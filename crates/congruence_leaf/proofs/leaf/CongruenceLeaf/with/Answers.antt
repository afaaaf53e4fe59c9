use Rattle.std.proofs.Common.{◌<◌, ap, sym, subst, ◌∙◌}
use Rattle.leaf_domain.specs.Leaves.{LeafValue}
use Rattle.product_leaf.specs.StrideLeaves.{stride_with}
use Rattle.product_leaf.proofs.PartLemmas.{part_own, part_best}
use Rattle.congruence_leaf.proofs.leaf.CongruenceLeaf.with.Goals as goal

pub with-requires-clause-x : goal.with-requires-clause-x
with-requires-clause-x c =
    let P : LeafValue → Type 0 = λ v. c.args.x < v.variables in
    subst P (sym c.strides.ensures) c.requires.x

pub with-requires-clause-own : goal.with-requires-clause-own
with-requires-clause-own c = part_own c.args.part c.best_part.result c.best_part.ensures c.requires.part

pub with-requires-clause-best : goal.with-requires-clause-best
with-requires-clause-best c = part_best c.args.part c.best_part.result c.best_part.ensures

pub returns : goal.returns
returns c = c.of.ensures ∙ c.in_ok-strides.ensures c.args.part c.best_part.ensures ∙ ap (λ v. stride_with v c.args.x c.args.part) c.strides.ensures
