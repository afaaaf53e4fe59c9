use Rattle.std.proofs.Common.{ℕ}
use Rattle.octagon_matrix.specs.Matrices.{MatrixValue}
use Rattle.octagon_matrix.proofs.Stores.{holds-store, store-holds}
use Rattle.octagon_matrix.proofs.Inside.{filled-half, filled-value, value-matrix, value_of}
use Rattle.octagon_matrix.proofs.Matrix.top.Goals as goal

pub invariant_of-result : goal.invariant_of-result
invariant_of-result c = filled-half c.args.variables c.in_ok-cells.cells.items c.requires c.in_ok-cells.ensures

pub returns-clause-entries : goal.returns-clause-entries
returns-clause-entries c = filled-value c.args.variables c.in_ok-cells.cells.items c.in_ok-cells.ensures

pub returns-clause-kept : goal.returns-clause-kept
returns-clause-kept c = value-matrix c.args.variables c.in_ok-cells.cells.items (filled-half c.args.variables c.in_ok-cells.cells.items c.requires c.in_ok-cells.ensures)

pub returns-clause-stores : goal.returns-clause-stores
returns-clause-stores c = λ s.
    let n : ℕ = c.args.variables in
    let m : MatrixValue = value_of n c.in_ok-cells.cells.items in
    (holds-store m s (value-matrix n c.in_ok-cells.cells.items (filled-half n c.in_ok-cells.cells.items c.requires c.in_ok-cells.ensures)), store-holds n m s (filled-value n c.in_ok-cells.cells.items c.in_ok-cells.ensures))
