use Rattle.std.proofs.Common.{◌∙◌, ℕ, sym, subst, List}
use Rattle.leaf_domain.specs.declared.range.Range.{Range}
use Rattle.octagon_matrix.specs.Matrices.{MatrixValue, entry_of}
use Rattle.octagon_leaf.specs.declared.meets.Meet.{Meet}
use Rattle.octagon_leaf.specs.Octagons.{met_all}
use Rattle.octagon_leaf.specs.Shapes.{compared, edge_range}
use Rattle.octagon_leaf.specs.Meeting.{IsSettled, IsEdge}
use Rattle.octagon_leaf.specs.Laws.Meets.{bounded-kept, bounded-all, variables-all}
use Rattle.octagon_leaf.proofs.Closed.{settled-best, settled-is}
use Rattle.octagon_leaf.proofs.Meanings.{shape-edge, meet-form-is}
use Rattle.octagon_leaf.proofs.leaf.OctagonLeafLeaf.meet_form.Goals as goal

pub edge_range-range-requires : goal.edge_range-range-requires
edge_range-range-requires c =
    let P : ℕ → Type 0 = λ n. IsEdge n c.in-Terms.e in
    record { edge = subst P (sym c.in-Some.ensures.best.variables) (shape-edge c.args.self.now.variables c.args.f.now c.in-Terms.e c.requires (sym c.shape_of.ensures ∙ c.in-Terms.is)) }

pub compared-kept-requires-clause-edge : goal.compared-kept-requires-clause-edge
compared-kept-requires-clause-edge c =
    let P : ℕ → Type 0 = λ n. IsEdge n c.in-Terms.e in
    rw (c.in_ok-copy-in-Terms.ensures) (subst P (sym c.in-Some.ensures.best.variables) (shape-edge c.args.self.now.variables c.args.f.now c.in-Terms.e c.requires (sym c.shape_of.ensures ∙ c.in-Terms.is)))

pub from_best-requires-clause-best : goal.from_best-requires-clause-best
from_best-requires-clause-best c =
    let m = c.in-Some.matrix.now in
    let e = c.in-Terms.e in
    let op = c.args.op in
    let es : List Meet = compared e op (edge_range (entry_of m) e) in
    let P : MatrixValue → Type 0 = λ k. IsSettled (met_all k (compared e op c.edge_range-range.result)) c.compared-kept.result in
    let Q : Range → Type 0 = λ r. IsSettled (met_all m (compared e op r)) c.compared-kept.result in
    let h : IsSettled (met_all m es) c.compared-kept.result = subst Q c.edge_range-range.ensures.value (subst P c.in_ok-copy-in-Terms.ensures c.compared-kept.ensures) in
    let f = variables-all m es ∙ (c.in-Some.ensures.best.variables ∙ sym c.count-in-Terms.ensures.value) in
    settled-best c.count-in-Terms.result (met_all m es) c.compared-kept.result f h

pub returns-in_ok-copy-in-Terms : goal.returns-in_ok-copy-in-Terms
returns-in_ok-copy-in-Terms c =
    let m = c.in-Some.matrix.now in
    let e = c.in-Terms.e in
    let op = c.args.op in
    let es : List Meet = compared e op (edge_range (entry_of m) e) in
    let P : MatrixValue → Type 0 = λ k. IsSettled (met_all k (compared e op c.edge_range-range.result)) c.compared-kept.result in
    let Q : Range → Type 0 = λ r. IsSettled (met_all m (compared e op r)) c.compared-kept.result in
    let h : IsSettled (met_all m es) c.compared-kept.result = subst Q c.edge_range-range.ensures.value (subst P c.in_ok-copy-in-Terms.ensures c.compared-kept.ensures) in
    let f = variables-all m es ∙ (c.in-Some.ensures.best.variables ∙ sym c.count-in-Terms.ensures.value) in
    c.from_best.ensures
    ∙ (settled-is c.count-in-Terms.result (met_all m es) c.compared-kept.result (bounded-all m es (bounded-kept m c.in-Some.ensures.best.kept)) f h
    ∙ sym (meet-form-is c.args.self.now m c.args.f.now e op c.in-Some.ensures.best (sym c.shape_of.ensures ∙ c.in-Terms.is)))
