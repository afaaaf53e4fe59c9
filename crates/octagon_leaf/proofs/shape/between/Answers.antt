use Rattle.std.proofs.Common.{◌≡◌, pos, neg_ℤ, ◌*ℤ◌, ◌-ℤ◌, to_z, of_z, w64, refl, arith}
use Rattle.std.proofs.lemmas.Int.{ints}
use Rattle.octagon_leaf.proofs.shape.between.Goals as goal

pub returns : goal.returns
returns c =
    let low = c.requires.small.low in
    let high = c.requires.small.high in
    let p : to_z w64 (of_z w64 (pos 2 *ℤ to_z w64 (of_z w64 c.args.r.high))) ≡ pos 2 *ℤ c.args.r.high = omega (arith, ints, high.low, high.high) in
    let q : to_z w64 (of_z w64 (pos 0 -ℤ to_z w64 (of_z w64 (pos 2 *ℤ to_z w64 (of_z w64 c.args.r.low))))) ≡ neg_ℤ (pos 2 *ℤ c.args.r.low) = omega (arith, ints, low.low, low.high) in
    rw (p, q) refl
