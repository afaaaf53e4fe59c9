use Rattle.std.proofs.Common.{◌∙◌, sym, subst, List}
use Rattle.octagon_matrix.specs.Matrices.{MatrixValue}
use Rattle.octagon_leaf.specs.declared.meets.Meet.{Meet}
use Rattle.octagon_leaf.specs.Octagons.{met_all}
use Rattle.octagon_leaf.specs.Shapes.{between}
use Rattle.octagon_leaf.specs.Meeting.{IsSettled}
use Rattle.octagon_leaf.specs.Laws.Meets.{bounded-kept, bounded-all, variables-all}
use Rattle.octagon_leaf.proofs.Closed.{settled-best, settled-is}
use Rattle.octagon_leaf.proofs.Meanings.{meet-range-is}
use Rattle.octagon_leaf.proofs.leaf.OctagonLeafLeaf.meet_range.Goals as goal

pub from_best-requires-clause-best : goal.from_best-requires-clause-best
from_best-requires-clause-best c =
    let m = c.in-Some.matrix.now in
    let es : List Meet = between c.args.x c.args.r in
    let P : MatrixValue → Type 0 = λ k. IsSettled (met_all k c.between.result) c.met-kept.result in
    let Q : List Meet → Type 0 = λ fs. IsSettled (met_all m fs) c.met-kept.result in
    settled-best c.count-2.result (met_all m es) c.met-kept.result (variables-all m es ∙ (c.in-Some.ensures.best.variables ∙ sym c.count-2.ensures.value)) (subst Q c.between.ensures (subst P c.in_ok-copy.ensures c.met-kept.ensures))

pub returns : goal.returns
returns c =
    let m = c.in-Some.matrix.now in
    let es : List Meet = between c.args.x c.args.r in
    let P : MatrixValue → Type 0 = λ k. IsSettled (met_all k c.between.result) c.met-kept.result in
    let Q : List Meet → Type 0 = λ fs. IsSettled (met_all m fs) c.met-kept.result in
    c.from_best.ensures
    ∙ (settled-is c.count-2.result (met_all m es) c.met-kept.result (bounded-all m es (bounded-kept m c.in-Some.ensures.best.kept)) (variables-all m es ∙ (c.in-Some.ensures.best.variables ∙ sym c.count-2.ensures.value)) (subst Q c.between.ensures (subst P c.in_ok-copy.ensures c.met-kept.ensures))
    ∙ sym (meet-range-is c.args.self.now m c.args.x c.args.r c.in-Some.ensures.best (sym c.is_empty.ensures ∙ c.if-is_empty.false)))
