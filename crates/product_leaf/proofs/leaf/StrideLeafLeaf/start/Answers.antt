use Rattle.std.proofs.Common.{◌≡◌, List, map, subst, sym}
use Rattle.strides.specs.declared.strided.Strided.{Strided}
use Rattle.strides.specs.Strided.{reduced}
use Rattle.product_leaf.specs.StrideLeaves.{stride_parts, AllOwn}
use Rattle.nonrelational_leaf.proofs.PartLists.{own_points}
use Rattle.product_leaf.specs.Laws.StrideLaws.{stride_part_laws}
use Rattle.product_leaf.proofs.PartLemmas.{points_twice}
use Rattle.product_leaf.proofs.leaf.StrideLeafLeaf.start.Goals as goal

pub of_best-requires-clause-own : goal.of_best-requires-clause-own
of_best-requires-clause-own c = subst AllOwn (sym c.in_ok-points.ensures) (own_points stride_parts stride_part_laws c.args.values.now c.requires.int)

pub of_best-requires-clause-best : goal.of_best-requires-clause-best
of_best-requires-clause-best c =
    let P = λ (xs : List Strided). xs ≡ map reduced xs in
    subst P (sym c.in_ok-points.ensures) (sym (points_twice c.args.values.now))
