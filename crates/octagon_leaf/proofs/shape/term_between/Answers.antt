use Rattle.std.proofs.Common.{◌≡◌, pos, neg_ℤ, ◌*ℤ◌, ◌-ℤ◌, to_z, of_z, w64, refl, arith}
use Rattle.std.proofs.lemmas.Int.{ints}
use Rattle.octagon_leaf.proofs.shape.term_between.Goals as goal

pub returns : goal.returns
returns c =
    let p : to_z w64 (of_z w64 (pos 2 *ℤ to_z w64 (of_z w64 c.args.high))) ≡ pos 2 *ℤ c.args.high = omega (arith, ints, c.requires.high.low, c.requires.high.high) in
    let q : to_z w64 (of_z w64 (pos 0 -ℤ to_z w64 (of_z w64 (pos 2 *ℤ to_z w64 (of_z w64 c.args.low))))) ≡ neg_ℤ (pos 2 *ℤ c.args.low) = omega (arith, ints, c.requires.low.low, c.requires.low.high) in
    rw (p, q, c.opposite-minus.ensures) refl
