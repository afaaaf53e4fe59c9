use Rattle.std.proofs.Common.{◌≡◌, ◌∙◌, ℤ, List, ap, sym, subst, IfOk}
use Rattle.leaf_domain.specs.Leaves.{LeafValue}
use Rattle.octagon_matrix.specs.Matrices.{MatrixValue}
use Rattle.octagon_leaf.specs.Greatest.{matrix_of, standing}
use Rattle.octagon_leaf.specs.Octagons.{widened}
use Rattle.octagon_leaf.specs.Laws.Best.{standing-is}
use Rattle.octagon_leaf.specs.Laws.Meets.{bounded-kept}
use Rattle.octagon_leaf.specs.Laws.Matrices.{widened-kept, widened-first}
use Rattle.octagon_leaf.proofs.Full.{entries-are}
use Rattle.octagon_leaf.proofs.Meanings.{widen-is}
use Rattle.octagon_leaf.proofs.leaf.OctagonLeafLeaf.widen.Goals as goal

pub returns-in_ok-widened-in-Some-best_matrix : goal.returns-in_ok-widened-in-Some-best_matrix
returns-in_ok-widened-in-Some-best_matrix c =
    let m = c.in-Some.own.now in
    let k = c.in-Some-best_matrix.best.now in
    let p = c.in-Some.ensures.standing in
    let q = c.in-Some-best_matrix.ensures.best in
    let g = c.in_ok-widened-in-Some-best_matrix in
    let e : m.variables ≡ k.variables = sym (ap (λ (v : LeafValue). v.variables) p.is) ∙ (c.requires ∙ sym q.variables) in
    let ts : List ℤ = c.args.thresholds.now in
    let M : MatrixValue = matrix_of m.variables (widened ts m k) in
    let P : LeafValue → Type 0 = λ u. IfOk c.standing_as.result (λ leaf. leaf ≡ u) in
    subst P
    (ap standing (entries-are g.field-0 m.variables (widened ts m k) g.ensures.kept g.ensures.entries)
    ∙ (standing-is M p.met.0 (bounded-kept M (widened-kept ts m k p.kept q.kept e)) (widened-first ts m k p.met.0 p.kept q.kept e p.met.1) ∙ sym (widen-is ts c.args.self.now c.args.other.now m k p q)))
    c.standing_as.ensures
