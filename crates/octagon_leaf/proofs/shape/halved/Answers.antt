use Rattle.std.proofs.Common.{◌≡◌, ap, ◌∙◌, true, to_z, of_z, w64, arith}
use Rattle.std.proofs.lemmas.Int.{ints}
use Rattle.octagon_closure.specs.Sweeps.{half}
use Rattle.octagon_leaf.specs.Meeting.{IsSmall}
use Rattle.octagon_leaf.specs.Shapes.{halved}
use Rattle.octagon_leaf.proofs.Numbers.{halved-small}
use Rattle.octagon_leaf.proofs.shape.halved.Goals as goal

pub returns-then-is_double-clause-small : goal.returns-then-is_double-clause-small
returns-then-is_double-clause-small c =
    let k : IsSmall (halved true c.args.n) = halved-small true c.args.n c.requires in
    let g : to_z w64 (of_z w64 c.args.n) ≡ c.args.n = omega (arith, ints, c.requires.low, c.requires.high) in
    let h : c.half.result ≡ half c.args.n = c.half.ensures ∙ ap half g in
    record { low = omega (arith, ints, k.low, k.high, h); high = omega (arith, ints, k.low, k.high, h) }
