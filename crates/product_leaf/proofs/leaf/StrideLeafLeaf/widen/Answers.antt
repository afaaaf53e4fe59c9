use Rattle.std.proofs.Common.{◌≡◌, ◌∙◌, sym, subst, IfOk}
use Rattle.leaf_domain.specs.Leaves.{LeafValue}
use Rattle.strides.specs.Strided.{widened}
use Rattle.product_leaf.specs.StrideLeaves.{stride_parts, AllOwn}
use Rattle.nonrelational_leaf.proofs.PartLists.{widened_own}
use Rattle.product_leaf.specs.Laws.StrideLaws.{stride_part_laws}
use Rattle.product_leaf.proofs.Meanings.{own_count, best_count, best_all_own, few_zipped, widen_is}
use Rattle.product_leaf.proofs.leaf.StrideLeafLeaf.widen.Goals as goal

pub widened-requires-clause-same : goal.widened-requires-clause-same
widened-requires-clause-same c = own_count _ _ c.in-Some.ensures.standing ∙ c.requires ∙ sym (best_count _ _ c.in-Some-best_parts.ensures.best)

pub widened-requires-clause-first : goal.widened-requires-clause-first
widened-requires-clause-first c = c.in-Some.ensures.standing.own

pub widened-requires-clause-second : goal.widened-requires-clause-second
widened-requires-clause-second c = best_all_own _ _ c.in-Some-best_parts.ensures.best

pub standing_as-requires-clause-few : goal.standing_as-requires-clause-few
standing_as-requires-clause-few c =
    few_zipped (widened c.args.thresholds.now) c.in-Some.parts.now c.in-Some-best_parts.others.now _ c.args.self.now.variables
    (own_count _ _ c.in-Some.ensures.standing) (best_count _ _ c.in-Some-best_parts.ensures.best ∙ sym c.requires)
    c.in-Some.ensures.few c.in_ok-widened-in-Some-best_parts.ensures

pub standing_as-requires-clause-own : goal.standing_as-requires-clause-own
standing_as-requires-clause-own c =
    subst AllOwn (sym c.in_ok-widened-in-Some-best_parts.ensures)
    (widened_own stride_parts stride_part_laws _ _ _ c.in-Some.ensures.standing.own (best_all_own _ _ c.in-Some-best_parts.ensures.best))

pub returns-in_ok-widened-in-Some-best_parts : goal.returns-in_ok-widened-in-Some-best_parts
returns-in_ok-widened-in-Some-best_parts c =
    let P : LeafValue → Type 0 = λ u. IfOk c.standing_as.result (λ leaf. leaf ≡ u) in
    subst P
    (widen_is c.args.thresholds.now c.args.self.now c.args.other.now _ _ _ c.in-Some.ensures.standing c.in-Some-best_parts.ensures.best c.in_ok-widened-in-Some-best_parts.ensures)
    c.standing_as.ensures
