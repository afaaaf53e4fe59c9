use Rattle.std.proofs.Common.{◌≡◌, ◌∙◌, sym, Some}
use Rattle.octagon_matrix.specs.Matrices.{MatrixValue}
use Rattle.octagon_closure.specs.Best.{IsBest}
use Rattle.octagon_leaf.specs.Greatest.{matrix_of}
use Rattle.octagon_leaf.specs.Octagons.{greater}
use Rattle.octagon_leaf.specs.Laws.Matrices.{greater-best, greater-bounded}
use Rattle.octagon_leaf.proofs.Full.{best-made}
use Rattle.octagon_leaf.proofs.Closed.{settled-best, settled-is}
use Rattle.octagon_leaf.proofs.Meanings.{join-is}
use Rattle.octagon_leaf.proofs.leaf.OctagonLeafLeaf.join.Goals as goal

pub from_best-requires-clause-best : goal.from_best-requires-clause-best
from_best-requires-clause-best c =
    let m = c.in-Some.first.now in
    let k = c.in-Some-best_matrix.second.now in
    let p = c.in-Some.ensures.best in
    let q = c.in-Some-best_matrix.ensures.best in
    let g = c.in_ok-matrix-in-Some-best_matrix in
    let D : MatrixValue = matrix_of m.variables (greater m k) in
    let e : k.variables ≡ m.variables = q.variables ∙ (sym c.requires ∙ sym p.variables) in
    let b : IsBest D g.matrix = best-made D g.matrix m.variables (greater m k) (greater-best m k p.best q.best e) g.ensures.kept g.ensures.entries in
    settled-best c.count.result D (Some g.matrix) (p.variables ∙ sym c.count.ensures.value) (b, g.ensures.kept)

pub returns-in_ok-matrix-in-Some-best_matrix : goal.returns-in_ok-matrix-in-Some-best_matrix
returns-in_ok-matrix-in-Some-best_matrix c =
    let m = c.in-Some.first.now in
    let k = c.in-Some-best_matrix.second.now in
    let p = c.in-Some.ensures.best in
    let q = c.in-Some-best_matrix.ensures.best in
    let g = c.in_ok-matrix-in-Some-best_matrix in
    let D : MatrixValue = matrix_of m.variables (greater m k) in
    let e : k.variables ≡ m.variables = q.variables ∙ (sym c.requires ∙ sym p.variables) in
    let b : IsBest D g.matrix = best-made D g.matrix m.variables (greater m k) (greater-best m k p.best q.best e) g.ensures.kept g.ensures.entries in
    c.from_best.ensures
    ∙ (settled-is c.count.result D (Some g.matrix) (greater-bounded m k p.kept q.kept e) (p.variables ∙ sym c.count.ensures.value) (b, g.ensures.kept) ∙ sym (join-is c.args.self.now c.args.other.now m k p q))
