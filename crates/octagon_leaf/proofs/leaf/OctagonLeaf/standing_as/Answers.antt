use Rattle.std.proofs.Common.{◌∙◌, ap, sym, subst, refl, Some, Option, ℕ, ℤ, List}
use Rattle.octagon_matrix.specs.Matrices.{MatrixValue}
use Rattle.octagon_closure.specs.Best.{IsUnmet, IsBest}
use Rattle.leaf_domain.specs.Leaves.{LeafValue, nothing_of}
use Rattle.octagon_leaf.specs.Laws.Best.{standing-is, standing-unmet}
use Rattle.octagon_leaf.specs.Laws.Meets.{bounded-kept}
use Rattle.octagon_leaf.proofs.leaf.OctagonLeaf.standing_as.Goals as goal

pub returns-in-Empty : goal.returns-in-Empty
returns-in-Empty c =
    let w = c.args.widened in
    let u : IsUnmet w = subst IsUnmet c.in_ok-closed.ensures (c.in-Empty.ensures.empty.0 refl) in
    c.none.ensures ∙ (ap nothing_of c.variables-variables.ensures.value ∙ sym (standing-unmet w (bounded-kept w c.variables-variables.ensures.kept) u))

abbrev leaf_at : ℕ → Option (List ℤ) → LeafValue
leaf_at n c = record { variables = n; content = c }

pub returns-in-Closed : goal.returns-in-Closed
returns-in-Closed c =
    let w = c.args.widened in
    let P : MatrixValue → Type 0 = λ m. IsBest m c.close.new.matrix in
    let b : IsBest w c.close.new.matrix = subst P c.in_ok-closed.ensures (c.in-Closed.ensures.best refl) in
    ap (λ i. leaf_at i (Some w.entries)) c.variables-variables.ensures.value ∙ sym (standing-is w b.met.0 (bounded-kept w c.variables-variables.ensures.kept) b.met.1)
