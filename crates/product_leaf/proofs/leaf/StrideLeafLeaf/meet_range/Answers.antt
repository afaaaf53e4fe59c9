use Rattle.std.proofs.Common.{◌≡◌, ◌<◌, ◌∙◌, length, ap, subst, IfOk, arith}
use Rattle.leaf_domain.specs.Leaves.{LeafValue}
use Rattle.strides.specs.Strided.{best_part}
use Rattle.product_leaf.specs.StrideLeaves.{part_at, met_part}
use Rattle.product_leaf.specs.Laws.Parts.{read_own}
use Rattle.product_leaf.specs.Laws.StrideLaws.{meet_limited}
use Rattle.product_leaf.proofs.PartLemmas.{part_own, part_best}
use Rattle.product_leaf.proofs.Meanings.{own_count, met_is}
use Rattle.product_leaf.proofs.leaf.StrideLeafLeaf.meet_range.Goals as goal

pub with-requires-clause-own : goal.with-requires-clause-own
with-requires-clause-own c =
    let l : c.args.x < length c.in-Some.parts.now = omega (arith, c.requires.x, own_count _ _ c.in-Some.ensures.standing) in
    part_own (met_part (part_at c.in-Some.parts.now c.args.x) c.args.r) c.best_part.result (c.best_part.ensures ∙ ap best_part c.met_part.ensures)
    (meet_limited (part_at c.in-Some.parts.now c.args.x) c.args.r (read_own c.in-Some.parts.now c.args.x l c.in-Some.ensures.standing.own) c.requires.r)

pub with-requires-clause-best : goal.with-requires-clause-best
with-requires-clause-best c = part_best c.met_part.result c.best_part.result c.best_part.ensures

pub returns-in-Some : goal.returns-in-Some
returns-in-Some c =
    let l : c.args.x < length c.in-Some.parts.now = omega (arith, c.requires.x, own_count _ _ c.in-Some.ensures.standing) in
    let P : LeafValue → Type 0 = λ u. IfOk c.with.result (λ leaf. leaf ≡ u) in
    subst P (met_is c.args.self.now c.in-Some.parts.now c.args.x c.args.r c.in-Some.ensures.standing l)
    (c.with.ensures (met_part (part_at c.in-Some.parts.now c.args.x) c.args.r) (c.best_part.ensures ∙ ap best_part c.met_part.ensures))
