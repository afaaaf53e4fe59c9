use Rattle.std.proofs.Common.{◌≡◌, ℤ, ◌-ℤ◌, to_z, of_z, w64, ◌∙◌, refl, arith}
use Rattle.std.specs.Int.{w128}
use Rattle.std.proofs.lemmas.Int.{ints}
use Rattle.congruence_leaf.proofs.Narrow.{less_narrow}
use Rattle.congruence_leaf.proofs.remainders.stride_less.Goals as goal

pub narrow-requires-clause-modulus : goal.narrow-requires-clause-modulus
narrow-requires-clause-modulus c =
    let x : ℤ = to_z w128 (of_z w128 (to_z w128 (of_z w128 (to_z w64 (of_z w64 c.args.stride.residue))) -ℤ to_z w128 (of_z w128 (to_z w64 (of_z w64 c.args.k))))) in
    let e : x ≡ c.args.stride.residue -ℤ c.args.k = omega (arith, ints) in
    (less_narrow c.args.stride c.args.k x c.of.result.residue c.of.result.modulus c.args.stride.modulus (record { modulus = c.requires.modulus; residue = c.requires.residue }) c.requires.k refl e c.of.ensures).1

pub narrow-requires-clause-low : goal.narrow-requires-clause-low
narrow-requires-clause-low c =
    let x : ℤ = to_z w128 (of_z w128 (to_z w128 (of_z w128 (to_z w64 (of_z w64 c.args.stride.residue))) -ℤ to_z w128 (of_z w128 (to_z w64 (of_z w64 c.args.k))))) in
    let e : x ≡ c.args.stride.residue -ℤ c.args.k = omega (arith, ints) in
    (less_narrow c.args.stride c.args.k x c.of.result.residue c.of.result.modulus c.args.stride.modulus (record { modulus = c.requires.modulus; residue = c.requires.residue }) c.requires.k refl e c.of.ensures).2

pub narrow-requires-clause-high : goal.narrow-requires-clause-high
narrow-requires-clause-high c =
    let x : ℤ = to_z w128 (of_z w128 (to_z w128 (of_z w128 (to_z w64 (of_z w64 c.args.stride.residue))) -ℤ to_z w128 (of_z w128 (to_z w64 (of_z w64 c.args.k))))) in
    let e : x ≡ c.args.stride.residue -ℤ c.args.k = omega (arith, ints) in
    (less_narrow c.args.stride c.args.k x c.of.result.residue c.of.result.modulus c.args.stride.modulus (record { modulus = c.requires.modulus; residue = c.requires.residue }) c.requires.k refl e c.of.ensures).3

pub returns : goal.returns
returns c =
    let x : ℤ = to_z w128 (of_z w128 (to_z w128 (of_z w128 (to_z w64 (of_z w64 c.args.stride.residue))) -ℤ to_z w128 (of_z w128 (to_z w64 (of_z w64 c.args.k))))) in
    let e : x ≡ c.args.stride.residue -ℤ c.args.k = omega (arith, ints) in
    c.narrow.ensures ∙ (less_narrow c.args.stride c.args.k x c.of.result.residue c.of.result.modulus c.args.stride.modulus (record { modulus = c.requires.modulus; residue = c.requires.residue }) c.requires.k refl e c.of.ensures).0
