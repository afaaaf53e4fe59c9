use Rattle.std.proofs.Common.{◌∙◌, ap, sym, subst, ℕ, Some}
use Rattle.octagon_leaf.specs.Meeting.{IsEdge}
use Rattle.octagon_leaf.proofs.Meanings.{shape-edge, edge-range-is}
use Rattle.octagon_leaf.proofs.leaf.OctagonLeafLeaf.form_range.Goals as goal

pub edge_range-requires : goal.edge_range-requires
edge_range-requires c =
    let P : ℕ → Type 0 = λ n. IsEdge n c.in-Terms.e in
    record { edge = subst P (sym c.in-Some-matrix.ensures.best.variables) (shape-edge c.args.self.now.variables c.args.f.now c.in-Terms.e c.requires (sym c.shape_of.ensures ∙ c.in-Terms.is)) }

pub returns-in-Some-matrix : goal.returns-in-Some-matrix
returns-in-Some-matrix c =
    ap Some c.edge_range.ensures.value ∙ sym (edge-range-is c.args.self.now c.in-Some-matrix.best.now c.args.f.now c.in-Terms.e c.in-Some-matrix.ensures.best (sym c.shape_of.ensures ∙ c.in-Terms.is))
