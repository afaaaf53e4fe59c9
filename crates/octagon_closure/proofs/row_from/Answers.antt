use Rattle.std.proofs.Common.{arith, ◌≡◌, ◌<◌, ◌*◌, ℕ, length, ◌∙◌, to_z, of_z, w64}
use Rattle.std.proofs.lemmas.Int.{ints}
use Rattle.std.proofs.Math.ListN.{length-set}
use Rattle.octagon_matrix.specs.Matrices.{entry_of}
use Rattle.octagon_closure.specs.Sweeps.{row_from}
use Rattle.octagon_closure.proofs.Rows.{row-more, entry-least, entry-most, rows-small, row-is, small-is}
use Rattle.octagon_closure.proofs.row_from.Goals as goal

pub overflow_add-near : goal.overflow_add-near
overflow_add-near c =
    let m = c.args.matrix.now in
    let k : c.loop-c.c < 2 * m.variables = omega arith in
    let z = c.variables-c-end.ensures.kept in
    omega (arith, ints, c.entry.ensures, c.requires.near.least, c.requires.near.most, entry-least m c.args.p c.loop-c.c z c.requires.first k, entry-most m c.args.p c.loop-c.c z c.requires.first k)

pub overflow_add-far : goal.overflow_add-far
overflow_add-far c =
    let m = c.args.matrix.now in
    let k : c.loop-c.c < 2 * m.variables = omega arith in
    let z = c.variables-c-end.ensures.kept in
    omega (arith, ints, c.entry-in-loop-c.ensures, c.requires.far.least, c.requires.far.most, entry-least m c.args.q c.loop-c.c z c.requires.second k, entry-most m c.args.q c.loop-c.c z c.requires.second k)

pub loop-c-preserved : goal.loop-c-preserved
loop-c-preserved c =
    let m = c.args.matrix.now in
    let p : ℕ = c.args.p in
    let q : ℕ = c.args.q in
    let k : ℕ = c.loop-c.c in
    let h : k < 2 * m.variables = omega arith in
    let z = c.variables-c-end.ensures.kept in
    let u : to_z w64 (of_z w64 c.args.near) ≡ c.args.near = small-is c.args.near c.requires.near in
    let v : to_z w64 (of_z w64 c.args.far) ≡ c.args.far = small-is c.args.far c.requires.far in
    let o = rw (u, v) at c.loop-c.invariant.1 in
    let g = rw (u, v, c.entry.ensures, c.entry-in-loop-c.ensures) at c.lesser.ensures in
    let w : to_z w64 (of_z w64 c.lesser.result) ≡ row_from (entry_of m) p c.args.near q c.args.far k =
    row-is c.args.near (entry_of m p k) c.args.far (entry_of m q k) c.lesser.result
    c.requires.near (entry-least m p k z c.requires.first h) (entry-most m p k z c.requires.first h) c.requires.far (entry-least m q k z c.requires.second h) (entry-most m q k z c.requires.second h) g in
    let d : length c.loop-c.row ≡ 96 = c.loop-c.invariant.0 in
    rw (u, v)
    (length-set _ _ _ ∙ d, row-more c.loop-c.row (row_from (entry_of m) p c.args.near q c.args.far) k (to_z w64 (of_z w64 c.lesser.result)) (omega (arith, d)) w o)

pub returns : goal.returns
returns c =
    let u : to_z w64 (of_z w64 c.args.near) ≡ c.args.near = small-is c.args.near c.requires.near in
    let v : to_z w64 (of_z w64 c.args.far) ≡ c.args.far = small-is c.args.far c.requires.far in
    let o = rw (u, v) at c.loop-c.invariant.1 in
    rows-small c.args.matrix.now c.loop-c.row c.args.p c.args.q c.args.near c.args.far c.variables-c-end.ensures.kept c.requires.first c.requires.second c.requires.near c.requires.far (λ k h. o k (omega arith))
