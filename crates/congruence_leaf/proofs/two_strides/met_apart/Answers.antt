use Rattle.std.proofs.Common.{◌≡◌, ◌≤◌, ◌^◌, pos, neg_ℤ, ◌≤ℤ◌, to_z, of_z, w64, ap, sym, subst, ◌∙◌, arith}
use Rattle.std.specs.Int.{w128}
use Rattle.std.proofs.lemmas.Int.{ints}
use Rattle.strides.specs.Strides.{IsReduced, stride_at, stride_of}
use Rattle.strides.specs.Strided.{strided_at, best_part}
use Rattle.strides.proofs.StrideLaws.{stride_reduced}
use Rattle.congruence_leaf.specs.TwoStrides.{common_multiple}
use Rattle.congruence_leaf.proofs.MetStrides.{none_apart, none_common, some_common, own_small, multiple_small, through_wide}
use Rattle.congruence_leaf.proofs.two_strides.met_apart.Goals as goal

pub returns-then-stride-eq0 : goal.returns-then-stride-eq0
returns-then-stride-eq0 c = none_apart c.args.part c.args.stride (omega arith)

pub common_number-requires-clause-first : goal.common_number-requires-clause-first
common_number-requires-clause-first c = own_small c.args.part c.requires.own

pub returns-in_err-n : goal.returns-in_err-n
returns-in_err-n c = c.from_residual.ensures ∙ none_common c.args.part c.args.stride c.in_err-n.ensures.value

pub best-requires-clause-wide : goal.best-requires-clause-wide
best-requires-clause-wide c =
    let p : neg_ℤ (pos (2 ^ 80)) ≤ℤ c.in_ok-n.n = c.in_ok-n.ensures.low in
    let q : c.in_ok-n.n ≤ℤ pos (2 ^ 80) = c.in_ok-n.ensures.high in
    let e : to_z w128 (of_z w128 c.in_ok-n.n) ≡ c.in_ok-n.n = omega (arith, ints) in
    let m : c.common_multiple-modulus.result ≤ 2 ^ 64 = subst (λ k. k ≤ 2 ^ 64) (sym c.common_multiple-modulus.ensures) (multiple_small c.args.part.stride.modulus c.args.stride.modulus c.requires.own.modulus c.requires.small.modulus) in
    through_wide c.common_multiple-modulus.result c.in_ok-n.n (stride_at c.of.result.modulus c.of.result.residue) m p q (c.of.ensures ∙ ap (stride_of c.common_multiple-modulus.result) e)

pub best-requires-clause-residue : goal.best-requires-clause-residue
best-requires-clause-residue c = subst IsReduced (sym c.of.ensures) (stride_reduced c.common_multiple-modulus.result (to_z w128 (of_z w128 c.in_ok-n.n)))

pub returns : goal.returns
returns c =
    let p : neg_ℤ (pos (2 ^ 80)) ≤ℤ c.in_ok-n.n = c.in_ok-n.ensures.low in
    let q : c.in_ok-n.n ≤ℤ pos (2 ^ 80) = c.in_ok-n.ensures.high in
    let e : to_z w128 (of_z w128 c.in_ok-n.n) ≡ c.in_ok-n.n = omega (arith, ints) in
    let u : to_z w64 (of_z w64 c.args.part.low) ≡ c.args.part.low = omega (arith, ints) in
    let w : to_z w64 (of_z w64 c.args.part.high) ≡ c.args.part.high = omega (arith, ints) in
    let s : stride_at c.of.result.modulus c.of.result.residue ≡ stride_of (common_multiple c.args.part.stride.modulus c.args.stride.modulus) c.in_ok-n.n =
    c.of.ensures ∙ ap (stride_of c.common_multiple-modulus.result) e ∙ ap (λ k. stride_of k c.in_ok-n.n) c.common_multiple-modulus.ensures in
    some_common c.args.part c.args.stride c.in_ok-n.n c.best.result c.in_ok-n.ensures.value (
    c.best.ensures
    ∙ ap (λ l. best_part (strided_at l (to_z w64 (of_z w64 c.args.part.high)) (stride_at c.of.result.modulus c.of.result.residue))) u
    ∙ ap (λ h. best_part (strided_at c.args.part.low h (stride_at c.of.result.modulus c.of.result.residue))) w
    ∙ ap (λ t. best_part (strided_at c.args.part.low c.args.part.high t)) s
    )
