use Rattle.std.proofs.Common.{◌≡◌, ◌/◌, pos, unsigned_abs, ap, ◌∙◌, arith}
use Rattle.std.proofs.lemmas.Int.{ints}
use Rattle.strides.specs.Strides.{stride_at, lies_in_stride}
use Rattle.congruence_leaf.proofs.QuotientStrides.{IsQuotientStride, quotient_stride_found, quotient_wide, then_lies, else_all, all_is}
use Rattle.congruence_leaf.proofs.quotients.quotient_stride.Goals as goal

pub narrow-requires-clause-modulus : goal.narrow-requires-clause-modulus
narrow-requires-clause-modulus c =
    let e : c.unsigned_abs-size.result ≡ unsigned_abs c.args.m = omega (arith, ints) in
    let t = then_lies c.args.m c.args.stride c.lies_in.result (c.lies_in.ensures ∙ ap (λ n. lies_in_stride c.args.stride (stride_at n (pos 0))) e) c.if-lies_in.true in
    let i : IsQuotientStride c.args.m c.args.stride c.of.result.modulus c.of.result.residue =
    quotient_stride_found c.args.m c.args.stride _ c.of.result.modulus _ c.of.result.residue c.requires.modulus c.requires.residue (ap (λ n. c.args.stride.modulus / n) e) (quotient_wide c.args.stride.residue c.args.m c.requires.residue c.requires.int) t c.of.ensures in
    i.modulus

pub narrow-requires-clause-low : goal.narrow-requires-clause-low
narrow-requires-clause-low c =
    let e : c.unsigned_abs-size.result ≡ unsigned_abs c.args.m = omega (arith, ints) in
    let t = then_lies c.args.m c.args.stride c.lies_in.result (c.lies_in.ensures ∙ ap (λ n. lies_in_stride c.args.stride (stride_at n (pos 0))) e) c.if-lies_in.true in
    let i : IsQuotientStride c.args.m c.args.stride c.of.result.modulus c.of.result.residue =
    quotient_stride_found c.args.m c.args.stride _ c.of.result.modulus _ c.of.result.residue c.requires.modulus c.requires.residue (ap (λ n. c.args.stride.modulus / n) e) (quotient_wide c.args.stride.residue c.args.m c.requires.residue c.requires.int) t c.of.ensures in
    i.low

pub narrow-requires-clause-high : goal.narrow-requires-clause-high
narrow-requires-clause-high c =
    let e : c.unsigned_abs-size.result ≡ unsigned_abs c.args.m = omega (arith, ints) in
    let t = then_lies c.args.m c.args.stride c.lies_in.result (c.lies_in.ensures ∙ ap (λ n. lies_in_stride c.args.stride (stride_at n (pos 0))) e) c.if-lies_in.true in
    let i : IsQuotientStride c.args.m c.args.stride c.of.result.modulus c.of.result.residue =
    quotient_stride_found c.args.m c.args.stride _ c.of.result.modulus _ c.of.result.residue c.requires.modulus c.requires.residue (ap (λ n. c.args.stride.modulus / n) e) (quotient_wide c.args.stride.residue c.args.m c.requires.residue c.requires.int) t c.of.ensures in
    i.high

pub returns-then-lies_in : goal.returns-then-lies_in
returns-then-lies_in c =
    let e : c.unsigned_abs-size.result ≡ unsigned_abs c.args.m = omega (arith, ints) in
    let t = then_lies c.args.m c.args.stride c.lies_in.result (c.lies_in.ensures ∙ ap (λ n. lies_in_stride c.args.stride (stride_at n (pos 0))) e) c.if-lies_in.true in
    let i : IsQuotientStride c.args.m c.args.stride c.of.result.modulus c.of.result.residue =
    quotient_stride_found c.args.m c.args.stride _ c.of.result.modulus _ c.of.result.residue c.requires.modulus c.requires.residue (ap (λ n. c.args.stride.modulus / n) e) (quotient_wide c.args.stride.residue c.args.m c.requires.residue c.requires.int) t c.of.ensures in
    c.narrow.ensures ∙ i.is

pub returns-else-lies_in : goal.returns-else-lies_in
returns-else-lies_in c =
    let e : c.unsigned_abs-size.result ≡ unsigned_abs c.args.m = omega (arith, ints) in
    all_is ∙ else_all c.args.m c.args.stride c.lies_in.result (c.lies_in.ensures ∙ ap (λ n. lies_in_stride c.args.stride (stride_at n (pos 0))) e) c.if-lies_in.false
