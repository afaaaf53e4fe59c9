use Rattle.std.proofs.Common.{◌≡◌, ◌∙◌, sym, Some}
use Rattle.octagon_leaf.specs.Laws.Meets.{variables-all}
use Rattle.octagon_leaf.specs.Octagons.{dropped}
use Rattle.octagon_leaf.specs.Shapes.{between}
use Rattle.octagon_leaf.proofs.Closed.{settled-best, settled-is}
use Rattle.octagon_leaf.proofs.Meanings.{set-range-is}
use Rattle.octagon_leaf.proofs.Assigning.{SetMatrix, set-bounded}
use Rattle.octagon_leaf.proofs.leaf.OctagonLeaf.with.Goals as goal

pub from_best-requires-clause-best : goal.from_best-requires-clause-best
from_best-requires-clause-best c =
    let m = c.in-Some.matrix.now in
    let x = c.args.x in
    let r = c.args.r in
    let e : (SetMatrix m x r).variables ≡ c.count-2.result = variables-all (dropped m x) (between x r) ∙ (c.in-Some.ensures.best.variables ∙ sym c.count-2.ensures.value) in
    settled-best c.count-2.result (SetMatrix m x r) (Some c.in_ok-set.set) e (c.in_ok-set.ensures.best, c.in_ok-set.ensures.kept)

pub returns : goal.returns
returns c =
    let m = c.in-Some.matrix.now in
    let x = c.args.x in
    let r = c.args.r in
    let e : (SetMatrix m x r).variables ≡ c.count-2.result = variables-all (dropped m x) (between x r) ∙ (c.in-Some.ensures.best.variables ∙ sym c.count-2.ensures.value) in
    c.from_best.ensures
    ∙ (settled-is c.count-2.result (SetMatrix m x r) (Some c.in_ok-set.set) (set-bounded m x r c.in-Some.ensures.best.kept) e (c.in_ok-set.ensures.best, c.in_ok-set.ensures.kept)
    ∙ sym (set-range-is c.args.self.now m x r c.in-Some.ensures.best (sym c.is_empty.ensures ∙ c.if-is_empty.false)))
