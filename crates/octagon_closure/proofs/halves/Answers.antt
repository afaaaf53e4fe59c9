use Rattle.std.proofs.Common.{arith, ◌≡◌, ◌<◌, ◌*◌, ℕ, length, ◌∙◌, ap, to_z, of_z, w64}
use Rattle.std.proofs.Math.ListN.{length-set}
use Rattle.octagon_matrix.specs.Terms.{opposite}
use Rattle.octagon_matrix.specs.Matrices.{entry_of}
use Rattle.octagon_matrix.proofs.Terms.{opposite-below}
use Rattle.octagon_closure.specs.Sweeps.{half, halves}
use Rattle.octagon_closure.proofs.Rows.{row-more, entry-least, entry-most, halves-small, halves-at, half-is}
use Rattle.octagon_closure.proofs.halves.Goals as goal

pub entry-requires-clause-first : goal.entry-requires-clause-first
entry-requires-clause-first c = omega (arith, opposite-below c.args.matrix.now.variables c.loop-c.c (omega arith))

pub loop-c-preserved : goal.loop-c-preserved
loop-c-preserved c =
    let m = c.args.matrix.now in
    let b : ℕ = c.loop-c.c in
    let h : b < 2 * m.variables = omega arith in
    let k : opposite b < 2 * m.variables = opposite-below m.variables b h in
    let e : c.entry.result ≡ entry_of m (opposite b) b = c.entry.ensures ∙ ap (λ i. entry_of m i b) c.opposite.ensures in
    let f : to_z w64 (of_z w64 c.div_euclid.result) ≡ half c.entry.result =
    half-is c.entry.result c.div_euclid.result (rw (e) (entry-least m (opposite b) b c.variables-c-end.ensures.kept k h)) (rw (e) (entry-most m (opposite b) b c.variables-c-end.ensures.kept k h)) c.div_euclid.ensures in
    let d : length c.loop-c.row ≡ 96 = c.loop-c.invariant.0 in
    (length-set _ _ _ ∙ d, row-more c.loop-c.row (halves (entry_of m)) b (to_z w64 (of_z w64 c.div_euclid.result)) (omega (arith, d)) (f ∙ (ap half e ∙ halves-at m b)) c.loop-c.invariant.1)

pub returns : goal.returns
returns c = halves-small c.args.matrix.now c.loop-c.row c.variables-c-end.ensures.kept (λ b h. c.loop-c.invariant.1 b (omega arith))
