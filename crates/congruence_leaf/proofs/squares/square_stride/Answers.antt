use Rattle.std.proofs.Common.{◌≡◌, ◌*◌, ◌≤◌, ◌≤ℤ◌, pos, unsigned_abs, refl, ap, ◌∙◌, arith}
use Rattle.std.proofs.lemmas.Int.{ints}
use Rattle.congruence_leaf.proofs.SquareStrides.{IsSquareStride, square_stride_found, divisor_small, square_back, wide_back, stride_back}
use Rattle.congruence_leaf.proofs.squares.square_stride.Goals as goal

pub of-stride-requires : goal.of-stride-requires
of-stride-requires c =
    let e : c.unsigned_abs.result ≡ unsigned_abs c.args.number = omega (arith, ints) in
    let k : c.greatest_common_divisor.result ≤ 18446744073709551615 = divisor_small c.args.number c.args.modulus _ _ c.greatest_common_divisor.result c.requires.number c.requires.modulus (ap (λ n. 2 * (n * c.args.modulus)) e) refl c.greatest_common_divisor.ensures in
    omega arith

pub overflow_cast-result : goal.overflow_cast-result
overflow_cast-result c =
    let e : c.unsigned_abs.result ≡ unsigned_abs c.args.number = omega (arith, ints) in
    let q = wide_back c.square.result c.square.ensures.low c.square.ensures.high ∙ square_back c.args.number c.square.result c.requires.number c.square.ensures.value in
    let i : IsSquareStride c.args.number c.args.modulus c.of-stride.result.modulus c.of-stride.result.residue =
    square_stride_found c.args.number c.args.modulus _ _ c.greatest_common_divisor.result c.of-stride.result.modulus _ c.of-stride.result.residue c.requires.number c.requires.modulus (ap (λ n. 2 * (n * c.args.modulus)) e) refl c.greatest_common_divisor.ensures q c.of-stride.ensures in
    let p : c.of-stride.result.modulus ≤ 18446744073709551615 = i.modulus in
    omega arith

pub overflow_cast-result-2 : goal.overflow_cast-result-2
overflow_cast-result-2 c =
    let e : c.unsigned_abs.result ≡ unsigned_abs c.args.number = omega (arith, ints) in
    let q = wide_back c.square.result c.square.ensures.low c.square.ensures.high ∙ square_back c.args.number c.square.result c.requires.number c.square.ensures.value in
    let i : IsSquareStride c.args.number c.args.modulus c.of-stride.result.modulus c.of-stride.result.residue =
    square_stride_found c.args.number c.args.modulus _ _ c.greatest_common_divisor.result c.of-stride.result.modulus _ c.of-stride.result.residue c.requires.number c.requires.modulus (ap (λ n. 2 * (n * c.args.modulus)) e) refl c.greatest_common_divisor.ensures q c.of-stride.ensures in
    let p : pos 0 ≤ℤ c.of-stride.result.residue = i.low in
    let r : c.of-stride.result.residue ≤ℤ pos 4611686018427387904 = i.high in
    omega (arith, ints)

pub returns : goal.returns
returns c =
    let e : c.unsigned_abs.result ≡ unsigned_abs c.args.number = omega (arith, ints) in
    let q = wide_back c.square.result c.square.ensures.low c.square.ensures.high ∙ square_back c.args.number c.square.result c.requires.number c.square.ensures.value in
    let i : IsSquareStride c.args.number c.args.modulus c.of-stride.result.modulus c.of-stride.result.residue =
    square_stride_found c.args.number c.args.modulus _ _ c.greatest_common_divisor.result c.of-stride.result.modulus _ c.of-stride.result.residue c.requires.number c.requires.modulus (ap (λ n. 2 * (n * c.args.modulus)) e) refl c.greatest_common_divisor.ensures q c.of-stride.ensures in
    let p : pos 0 ≤ℤ c.of-stride.result.residue = i.low in
    let r : c.of-stride.result.residue ≤ℤ pos 4611686018427387904 = i.high in
    stride_back _ _ _ _ (omega (arith, ints)) i.is
