use Rattle.std.proofs.Common.{◌≡◌, ◌-ℤ◌, ap, ◌∙◌, to_z, of_z, w64, arith}
use Rattle.std.proofs.lemmas.Int.{ints}
use Rattle.octagon_leaf.specs.Shapes.{meet_at, scaled}
use Rattle.octagon_leaf.proofs.shape.at_least.Goals as goal

pub returns : goal.returns
returns c =
    let k = c.requires.constant in
    let l = c.requires.small in
    let g : to_z w64 (of_z w64 (to_z w64 (of_z w64 c.args.n) -ℤ to_z w64 (of_z w64 c.args.e.constant))) ≡ c.args.n -ℤ c.args.e.constant = omega (arith, ints, k.low, k.high, l.low, l.high) in
    let h : c.scaled.result ≡ scaled c.args.e.is_double (c.args.n -ℤ c.args.e.constant) = c.scaled.ensures.value ∙ ap (scaled c.args.e.is_double) g in
    ap (λ v. meet_at c.args.e.second c.args.e.first v) (omega (arith, ints, h, c.scaled.ensures.low, c.scaled.ensures.high))
