use Rattle.std.proofs.Common.{◌≡◌, ◌≤ℤ◌, ◌-ℤ◌, ℤ, pos, neg_ℤ, ◌^◌, unsigned_abs, to_z, of_z, w64, ap, ◌∙◌, arith}
use Rattle.std.specs.Int.{w128}
use Rattle.std.proofs.lemmas.Int.{ints}
use Rattle.congruence_leaf.proofs.Solving.{divides_some}
use Rattle.congruence_leaf.proofs.two_strides.is_of.Goals as goal

pub returns : goal.returns
returns c =
    let p : neg_ℤ (pos (2 ^ 80)) ≤ℤ c.args.n = c.requires.low in
    let q : c.args.n ≤ℤ pos (2 ^ 80) = c.requires.high in
    let x : ℤ = to_z w128 (of_z w128 (to_z w128 (of_z w128 c.args.n) -ℤ to_z w128 (of_z w128 (to_z w64 (of_z w64 c.args.s.residue))))) in
    let e : x ≡ c.args.n -ℤ c.args.s.residue = omega (arith, ints) in
    divides_some c.args.s.modulus _ _ c.requires.some (c.unsigned_abs-distance.ensures.value ∙ ap unsigned_abs e)
