use Rattle.std.proofs.Common.{◌≡◌, ◌≤ℤ◌, to_z, of_z, w64, ap, sym, subst, ◌∙◌, arith}
use Rattle.std.proofs.lemmas.Int.{ints}
use Rattle.strides.specs.Strides.{stride_at, IsReduced}
use Rattle.strides.specs.Strided.{least, greatest, strided_at, strided_in, best_part}
use Rattle.product_leaf.specs.StrideLeaves.{form_stride}
use Rattle.product_leaf.specs.Laws.FormStrides.{form_reduced}
use Rattle.product_leaf.proofs.PartLemmas.{part_own}
use Rattle.congruence_leaf.specs.Congruences.{form_numbers}
use Rattle.congruence_leaf.proofs.results.form_numbers.Goals as goal

pub best-requires-clause-low : goal.best-requires-clause-low
best-requires-clause-low c =
    let u : to_z w64 (of_z w64 c.reach-range.result.low) ≡ c.reach-range.result.low = omega (arith, ints) in
    subst (λ x. least ≤ℤ x) (sym u) c.reach-range.ensures.low

pub best-requires-clause-high : goal.best-requires-clause-high
best-requires-clause-high c =
    let u : to_z w64 (of_z w64 c.reach-range.result.high) ≡ c.reach-range.result.high = omega (arith, ints) in
    subst (λ x. x ≤ℤ greatest) (sym u) c.reach-range.ensures.high

pub best-requires-clause-residue : goal.best-requires-clause-residue
best-requires-clause-residue c = subst IsReduced (sym c.form_stride-stride.ensures.value) (form_reduced c.args.parts.now c.args.f.now)

pub returns-clause-value : goal.returns-clause-value
unfolding form_numbers
returns-clause-value c =
    let u : to_z w64 (of_z w64 c.reach-range.result.low) ≡ c.reach-range.result.low = omega (arith, ints) in
    let w : to_z w64 (of_z w64 c.reach-range.result.high) ≡ c.reach-range.result.high = omega (arith, ints) in
    let e : c.best.result ≡ best_part (strided_at c.reach-range.result.low c.reach-range.result.high (form_stride c.args.parts.now c.args.f.now)) =
    c.best.ensures ∙ ap (λ x. best_part (strided_at x (to_z w64 (of_z w64 c.reach-range.result.high)) (stride_at c.form_stride-stride.result.modulus c.form_stride-stride.result.residue))) u ∙ ap (λ x. best_part (strided_at c.reach-range.result.low x (stride_at c.form_stride-stride.result.modulus c.form_stride-stride.result.residue))) w
    ∙ ap (λ x. best_part (strided_at c.reach-range.result.low c.reach-range.result.high x)) c.form_stride-stride.ensures.value in
    e ∙ ap (λ r. best_part (strided_in r (form_stride c.args.parts.now c.args.f.now))) c.reach-range.ensures.value

pub returns-clause-own : goal.returns-clause-own
returns-clause-own c =
    let u : to_z w64 (of_z w64 c.reach-range.result.low) ≡ c.reach-range.result.low = omega (arith, ints) in
    let w : to_z w64 (of_z w64 c.reach-range.result.high) ≡ c.reach-range.result.high = omega (arith, ints) in
    let e : c.best.result ≡ best_part (strided_at c.reach-range.result.low c.reach-range.result.high (form_stride c.args.parts.now c.args.f.now)) =
    c.best.ensures ∙ ap (λ x. best_part (strided_at x (to_z w64 (of_z w64 c.reach-range.result.high)) (stride_at c.form_stride-stride.result.modulus c.form_stride-stride.result.residue))) u ∙ ap (λ x. best_part (strided_at c.reach-range.result.low x (stride_at c.form_stride-stride.result.modulus c.form_stride-stride.result.residue))) w
    ∙ ap (λ x. best_part (strided_at c.reach-range.result.low c.reach-range.result.high x)) c.form_stride-stride.ensures.value in
    part_own (strided_at c.reach-range.result.low c.reach-range.result.high (form_stride c.args.parts.now c.args.f.now)) c.best.result e
    (record { low = c.reach-range.ensures.low; high = c.reach-range.ensures.high; residue = form_reduced c.args.parts.now c.args.f.now })
