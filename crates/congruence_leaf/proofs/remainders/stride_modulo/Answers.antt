use Rattle.std.proofs.Common.{◌≡◌, ◌≤◌, ℤ, to_z, of_z, w64, unsigned_abs, subst, sym, ◌∙◌, arith}
use Rattle.std.specs.Int.{w128}
use Rattle.std.proofs.lemmas.Int.{ints}
use Rattle.strides.specs.declared.stride.Stride.{Stride}
use Rattle.congruence_leaf.specs.Remainders.{stride_modulo}
use Rattle.congruence_leaf.proofs.Narrow.{IsNarrow, modulo_narrow, modulo_small}
use Rattle.congruence_leaf.proofs.remainders.stride_modulo.Goals as goal

pub of-requires : goal.of-requires
of-requires c =
    let e : c.unsigned_abs.result ≡ unsigned_abs c.args.m = omega (arith, ints) in
    let k : c.greatest_common_divisor-modulus.result ≤ 4294967295 = modulo_small c.args.stride c.args.m c.unsigned_abs.result c.greatest_common_divisor-modulus.result c.requires.int c.requires.some e c.greatest_common_divisor-modulus.ensures in
    omega arith

pub narrow-requires-clause-modulus : goal.narrow-requires-clause-modulus
narrow-requires-clause-modulus c =
    let e : c.unsigned_abs.result ≡ unsigned_abs c.args.m = omega (arith, ints) in
    let y : ℤ = to_z w128 (of_z w128 (to_z w64 (of_z w64 c.args.stride.residue))) in
    let f : y ≡ c.args.stride.residue = omega (arith, ints) in
    let i : IsNarrow c.of.result.modulus c.of.result.residue (stride_modulo c.args.m c.args.stride) =
    modulo_narrow c.args.stride c.args.m c.unsigned_abs.result c.greatest_common_divisor-modulus.result c.of.result.modulus y c.of.result.residue c.requires.int c.requires.some e c.greatest_common_divisor-modulus.ensures f c.of.ensures in
    i.small.modulus

pub narrow-requires-clause-low : goal.narrow-requires-clause-low
narrow-requires-clause-low c =
    let e : c.unsigned_abs.result ≡ unsigned_abs c.args.m = omega (arith, ints) in
    let y : ℤ = to_z w128 (of_z w128 (to_z w64 (of_z w64 c.args.stride.residue))) in
    let f : y ≡ c.args.stride.residue = omega (arith, ints) in
    let i : IsNarrow c.of.result.modulus c.of.result.residue (stride_modulo c.args.m c.args.stride) =
    modulo_narrow c.args.stride c.args.m c.unsigned_abs.result c.greatest_common_divisor-modulus.result c.of.result.modulus y c.of.result.residue c.requires.int c.requires.some e c.greatest_common_divisor-modulus.ensures f c.of.ensures in
    let p : unsigned_abs c.of.result.residue ≤ 4294967296 = i.small.residue in
    omega (arith, ints)

pub narrow-requires-clause-high : goal.narrow-requires-clause-high
narrow-requires-clause-high c =
    let e : c.unsigned_abs.result ≡ unsigned_abs c.args.m = omega (arith, ints) in
    let y : ℤ = to_z w128 (of_z w128 (to_z w64 (of_z w64 c.args.stride.residue))) in
    let f : y ≡ c.args.stride.residue = omega (arith, ints) in
    let i : IsNarrow c.of.result.modulus c.of.result.residue (stride_modulo c.args.m c.args.stride) =
    modulo_narrow c.args.stride c.args.m c.unsigned_abs.result c.greatest_common_divisor-modulus.result c.of.result.modulus y c.of.result.residue c.requires.int c.requires.some e c.greatest_common_divisor-modulus.ensures f c.of.ensures in
    let p : unsigned_abs c.of.result.residue ≤ 4294967296 = i.small.residue in
    omega (arith, ints)

pub returns : goal.returns
returns c =
    let e : c.unsigned_abs.result ≡ unsigned_abs c.args.m = omega (arith, ints) in
    let y : ℤ = to_z w128 (of_z w128 (to_z w64 (of_z w64 c.args.stride.residue))) in
    let f : y ≡ c.args.stride.residue = omega (arith, ints) in
    let i : IsNarrow c.of.result.modulus c.of.result.residue (stride_modulo c.args.m c.args.stride) =
    modulo_narrow c.args.stride c.args.m c.unsigned_abs.result c.greatest_common_divisor-modulus.result c.of.result.modulus y c.of.result.residue c.requires.int c.requires.some e c.greatest_common_divisor-modulus.ensures f c.of.ensures in
    record {
      value = c.narrow.ensures ∙ i.is;
      modulus = subst (λ (t : Stride). t.modulus ≤ 4294967295) (sym c.narrow.ensures) i.small.modulus;
      residue = subst (λ (t : Stride). unsigned_abs t.residue ≤ 4294967296) (sym c.narrow.ensures) i.small.residue;
    }
