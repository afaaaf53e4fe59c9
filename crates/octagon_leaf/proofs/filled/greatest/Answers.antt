use Rattle.std.proofs.Common.{◌≡◌, ◌<◌, ◌*◌, ◌∙◌, ap, true, to_z, of_z, w64, arith}
use Rattle.std.proofs.lemmas.Int.{ints}
use Rattle.octagon_matrix.specs.Matrices.{entry_of}
use Rattle.octagon_matrix.proofs.Terms.{opposite-below}
use Rattle.octagon_closure.specs.Sweeps.{half}
use Rattle.octagon_leaf.specs.Shapes.{halved}
use Rattle.octagon_leaf.specs.Meeting.{IsSmall}
use Rattle.octagon_leaf.proofs.Numbers.{entry-small, halved-small}
use Rattle.octagon_leaf.proofs.filled.greatest.Goals as goal

pub entry-requires-clause-second : goal.entry-requires-clause-second
entry-requires-clause-second c = rw (c.opposite.ensures) (opposite-below c.args.matrix.now.variables c.args.a c.requires.term)

pub returns-then-a-x-clause-small : goal.returns-then-a-x-clause-small
returns-then-a-x-clause-small c =
    let m = c.args.matrix.now in
    let b = c.opposite.result in
    let j : b < 2 * m.variables = rw (c.opposite.ensures) (opposite-below m.variables c.args.a c.requires.term) in
    let g : to_z w64 (of_z w64 c.entry.result) ≡ c.entry.result = omega (arith, ints, c.entry.type_inv) in
    let e : c.half.result ≡ half (entry_of m c.args.a b) = c.half.ensures ∙ ap half (g ∙ c.entry.ensures) in
    let k : IsSmall (halved true (entry_of m c.args.a b)) = halved-small true (entry_of m c.args.a b) (entry-small m c.args.a b c.variables-variables.ensures.kept c.requires.term j) in
    record { low = omega (arith, ints, k.low, k.high, e); high = omega (arith, ints, k.low, k.high, e) }
