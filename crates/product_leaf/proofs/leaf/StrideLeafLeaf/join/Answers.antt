use Rattle.std.proofs.Common.{◌∙◌, sym, subst}
use Rattle.strides.specs.Strided.{joined}
use Rattle.product_leaf.specs.StrideLeaves.{stride_parts, AllOwn}
use Rattle.nonrelational_leaf.proofs.PartLists.{joined_own}
use Rattle.product_leaf.specs.Laws.StrideLaws.{stride_part_laws}
use Rattle.product_leaf.proofs.PartLemmas.{joined_again}
use Rattle.product_leaf.proofs.Meanings.{best_count, best_all_own, few_zipped, join_is}
use Rattle.product_leaf.proofs.leaf.StrideLeafLeaf.join.Goals as goal

pub joined-requires-clause-same : goal.joined-requires-clause-same
joined-requires-clause-same c = best_count _ _ c.in-Some.ensures.best ∙ c.requires ∙ sym (best_count _ _ c.in-Some-best_parts.ensures.best)

pub joined-requires-clause-first : goal.joined-requires-clause-first
joined-requires-clause-first c = best_all_own _ _ c.in-Some.ensures.best

pub joined-requires-clause-second : goal.joined-requires-clause-second
joined-requires-clause-second c = best_all_own _ _ c.in-Some-best_parts.ensures.best

pub of_best-requires-clause-few : goal.of_best-requires-clause-few
of_best-requires-clause-few c =
    few_zipped joined c.in-Some.parts.now c.in-Some-best_parts.others.now _ c.args.self.now.variables
    (best_count _ _ c.in-Some.ensures.best) (best_count _ _ c.in-Some-best_parts.ensures.best ∙ sym c.requires)
    c.in-Some.ensures.few c.in_ok-joined-in-Some-best_parts.ensures

pub of_best-requires-clause-own : goal.of_best-requires-clause-own
of_best-requires-clause-own c =
    subst AllOwn (sym c.in_ok-joined-in-Some-best_parts.ensures)
    (joined_own stride_parts stride_part_laws _ _ (best_all_own _ _ c.in-Some.ensures.best) (best_all_own _ _ c.in-Some-best_parts.ensures.best))

pub of_best-requires-clause-best : goal.of_best-requires-clause-best
of_best-requires-clause-best c =
    let h = c.in-Some.ensures.best in
    let k = c.in-Some-best_parts.ensures.best in
    joined_again h.parts k.parts c.in-Some.parts.now c.in-Some-best_parts.others.now _ h.best k.best c.in_ok-joined-in-Some-best_parts.ensures h.own k.own

pub returns-in_ok-joined-in-Some-best_parts : goal.returns-in_ok-joined-in-Some-best_parts
returns-in_ok-joined-in-Some-best_parts c =
    c.of_best.ensures
    ∙ join_is c.args.self.now c.args.other.now _ _ _ c.in-Some.ensures.best c.in-Some-best_parts.ensures.best c.in_ok-joined-in-Some-best_parts.ensures
