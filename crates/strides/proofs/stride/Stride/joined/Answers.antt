use Rattle.std.proofs.Common.{◌≡◌, ◌≤◌, ℤ, ◌-ℤ◌, to_z, of_z, w64, unsigned_abs, ap, ◌∙◌, arith}
use Rattle.std.specs.Int.{w128}
use Rattle.std.proofs.lemmas.Int.{ints}
use Rattle.strides.specs.Strides.{joined_stride, distance}
use Rattle.strides.proofs.WideLaws.{IsFound, found, found_small}
use Rattle.strides.proofs.stride.Stride.joined.Goals as goal

pub of-requires : goal.of-requires
of-requires c =
    let x : ℤ = to_z w128 (of_z w128 (to_z w128 (of_z w128 (to_z w64 (of_z w64 c.args.self.residue))) -ℤ to_z w128 (of_z w128 (to_z w64 (of_z w64 c.args.other.residue))))) in
    let e : x ≡ c.args.self.residue -ℤ c.args.other.residue = omega (arith, ints) in
    let f : c.unsigned_abs-distance.result ≡ distance c.args.self c.args.other = c.unsigned_abs-distance.ensures.value ∙ ap unsigned_abs e in
    let k : c.greatest_common_divisor-modulus.result ≤ 4294967295 =
    found_small c.args.self c.args.other _ _ c.unsigned_abs-distance.result c.greatest_common_divisor-of_both.ensures c.greatest_common_divisor-modulus.ensures f c.requires in
    omega arith

pub narrow-requires-clause-modulus : goal.narrow-requires-clause-modulus
narrow-requires-clause-modulus c =
    let x : ℤ = to_z w128 (of_z w128 (to_z w128 (of_z w128 (to_z w64 (of_z w64 c.args.self.residue))) -ℤ to_z w128 (of_z w128 (to_z w64 (of_z w64 c.args.other.residue))))) in
    let e : x ≡ c.args.self.residue -ℤ c.args.other.residue = omega (arith, ints) in
    let f : c.unsigned_abs-distance.result ≡ distance c.args.self c.args.other = c.unsigned_abs-distance.ensures.value ∙ ap unsigned_abs e in
    let y : ℤ = to_z w128 (of_z w128 (to_z w64 (of_z w64 c.args.self.residue))) in
    let g : y ≡ c.args.self.residue = omega (arith, ints) in
    let i : IsFound c.args.self c.args.other c.of.result.modulus c.of.result.residue =
    found c.args.self c.args.other _ c.greatest_common_divisor-modulus.result c.unsigned_abs-distance.result _ y _ c.greatest_common_divisor-of_both.ensures c.greatest_common_divisor-modulus.ensures f g c.requires (omega (arith, ints)) (omega (arith, ints)) c.of.ensures in
    let m : c.of.result.modulus ≡ (joined_stride c.args.self c.args.other).modulus = ap (λ s. s.modulus) i.same in
    let k : (joined_stride c.args.self c.args.other).modulus ≤ 4294967295 = c.requires in
    omega arith

pub narrow-requires-clause-low : goal.narrow-requires-clause-low
narrow-requires-clause-low c =
    let x : ℤ = to_z w128 (of_z w128 (to_z w128 (of_z w128 (to_z w64 (of_z w64 c.args.self.residue))) -ℤ to_z w128 (of_z w128 (to_z w64 (of_z w64 c.args.other.residue))))) in
    let e : x ≡ c.args.self.residue -ℤ c.args.other.residue = omega (arith, ints) in
    let f : c.unsigned_abs-distance.result ≡ distance c.args.self c.args.other = c.unsigned_abs-distance.ensures.value ∙ ap unsigned_abs e in
    let y : ℤ = to_z w128 (of_z w128 (to_z w64 (of_z w64 c.args.self.residue))) in
    let g : y ≡ c.args.self.residue = omega (arith, ints) in
    let i : IsFound c.args.self c.args.other c.of.result.modulus c.of.result.residue =
    found c.args.self c.args.other _ c.greatest_common_divisor-modulus.result c.unsigned_abs-distance.result _ y _ c.greatest_common_divisor-of_both.ensures c.greatest_common_divisor-modulus.ensures f g c.requires (omega (arith, ints)) (omega (arith, ints)) c.of.ensures in
    i.low

pub narrow-requires-clause-high : goal.narrow-requires-clause-high
narrow-requires-clause-high c =
    let x : ℤ = to_z w128 (of_z w128 (to_z w128 (of_z w128 (to_z w64 (of_z w64 c.args.self.residue))) -ℤ to_z w128 (of_z w128 (to_z w64 (of_z w64 c.args.other.residue))))) in
    let e : x ≡ c.args.self.residue -ℤ c.args.other.residue = omega (arith, ints) in
    let f : c.unsigned_abs-distance.result ≡ distance c.args.self c.args.other = c.unsigned_abs-distance.ensures.value ∙ ap unsigned_abs e in
    let y : ℤ = to_z w128 (of_z w128 (to_z w64 (of_z w64 c.args.self.residue))) in
    let g : y ≡ c.args.self.residue = omega (arith, ints) in
    let i : IsFound c.args.self c.args.other c.of.result.modulus c.of.result.residue =
    found c.args.self c.args.other _ c.greatest_common_divisor-modulus.result c.unsigned_abs-distance.result _ y _ c.greatest_common_divisor-of_both.ensures c.greatest_common_divisor-modulus.ensures f g c.requires (omega (arith, ints)) (omega (arith, ints)) c.of.ensures in
    i.high

pub returns : goal.returns
returns c =
    let x : ℤ = to_z w128 (of_z w128 (to_z w128 (of_z w128 (to_z w64 (of_z w64 c.args.self.residue))) -ℤ to_z w128 (of_z w128 (to_z w64 (of_z w64 c.args.other.residue))))) in
    let e : x ≡ c.args.self.residue -ℤ c.args.other.residue = omega (arith, ints) in
    let f : c.unsigned_abs-distance.result ≡ distance c.args.self c.args.other = c.unsigned_abs-distance.ensures.value ∙ ap unsigned_abs e in
    let y : ℤ = to_z w128 (of_z w128 (to_z w64 (of_z w64 c.args.self.residue))) in
    let g : y ≡ c.args.self.residue = omega (arith, ints) in
    let i : IsFound c.args.self c.args.other c.of.result.modulus c.of.result.residue =
    found c.args.self c.args.other _ c.greatest_common_divisor-modulus.result c.unsigned_abs-distance.result _ y _ c.greatest_common_divisor-of_both.ensures c.greatest_common_divisor-modulus.ensures f g c.requires (omega (arith, ints)) (omega (arith, ints)) c.of.ensures in
    c.narrow.ensures ∙ i.same
