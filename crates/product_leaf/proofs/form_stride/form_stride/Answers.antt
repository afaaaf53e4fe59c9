use Rattle.std.proofs.Common.{◌≡◌, ◌≤◌, ◌*◌, ◌^◌, ◌∙◌, ◌+ℤ◌, ◌*ℤ◌, unsigned_abs, to_z, of_z, w64, ap, subst, sym}
use Rattle.std.specs.Int.{w128, IsGcd}
use Rattle.std.proofs.lemmas.Int.{to_z-of_z}
use Rattle.strides.specs.Strides.{IsWide}
use Rattle.product_leaf.specs.StrideLeaves.{part_at}
use Rattle.product_leaf.proofs.FormSums.{IsNextTerm, next_term, sum_next, sum_fits, add_fits, add_back, wide_of}
use Rattle.product_leaf.proofs.form_stride.form_stride.Goals as goal

pub times-requires-clause-modulus : goal.times-requires-clause-modulus
times-requires-clause-modulus c = (next_term _ _ _ _ _ _ _ _ c.requires.own c.terms.invariant c.in-Some.ensures.parts).modulus

pub overflow_add-value : goal.overflow_add-value
overflow_add-value c =
    let n : IsNextTerm c.args.parts.now c.in-Some.x c.in-Some.coefficient = next_term _ _ _ _ _ _ _ _ c.requires.own c.terms.invariant c.in-Some.ensures.parts in
    let u : to_z w64 (of_z w64 c.in-Some.coefficient) ≡ c.in-Some.coefficient = to_z-of_z w64 c.in-Some.coefficient c.in-Some.ensures.fits in
    let e : c.product-value.result ≡ c.in-Some.coefficient *ℤ (part_at c.args.parts.now c.in-Some.x).stride.residue =
    c.product-value.ensures ∙ ap (λ y. y *ℤ to_z w64 (of_z w64 (part_at c.args.parts.now c.in-Some.x).stride.residue)) u ∙ ap (λ y. c.in-Some.coefficient *ℤ y) n.back in
    let p : unsigned_abs c.product-value.result ≤ 2 ^ 72 = subst (λ y. unsigned_abs y ≤ 2 ^ 72) (sym e) n.product in
    let v : unsigned_abs (to_z w128 c.terms.value-bits) ≤ 2 ^ 80 = sum_fits _ _ _ _ _ c.terms.invariant in
    add_fits (to_z w128 c.terms.value-bits) c.product-value.result v p

pub terms-preserved : goal.terms-preserved
terms-preserved c =
    let n : IsNextTerm c.args.parts.now c.in-Some.x c.in-Some.coefficient = next_term _ _ _ _ _ _ _ _ c.requires.own c.terms.invariant c.in-Some.ensures.parts in
    let u : to_z w64 (of_z w64 c.in-Some.coefficient) ≡ c.in-Some.coefficient = to_z-of_z w64 c.in-Some.coefficient c.in-Some.ensures.fits in
    let e : c.product-value.result ≡ c.in-Some.coefficient *ℤ (part_at c.args.parts.now c.in-Some.x).stride.residue =
    c.product-value.ensures ∙ ap (λ y. y *ℤ to_z w64 (of_z w64 (part_at c.args.parts.now c.in-Some.x).stride.residue)) u ∙ ap (λ y. c.in-Some.coefficient *ℤ y) n.back in
    let p : unsigned_abs c.product-value.result ≤ 2 ^ 72 = subst (λ y. unsigned_abs y ≤ 2 ^ 72) (sym e) n.product in
    let v : unsigned_abs (to_z w128 c.terms.value-bits) ≤ 2 ^ 80 = sum_fits _ _ _ _ _ c.terms.invariant in
    let k : c.times.result ≡ unsigned_abs c.in-Some.coefficient * (part_at c.args.parts.now c.in-Some.x).stride.modulus = c.times.ensures ∙ ap (λ y. unsigned_abs y * (part_at c.args.parts.now c.in-Some.x).stride.modulus) u in
    let g : IsGcd c.terms.modulus (unsigned_abs c.in-Some.coefficient * (part_at c.args.parts.now c.in-Some.x).stride.modulus) c.greatest_common_divisor-modulus.result =
    subst (λ y. IsGcd c.terms.modulus y c.greatest_common_divisor-modulus.result) k c.greatest_common_divisor-modulus.ensures in
    sum_next c.args.parts.now c.args.f.now c.terms.modulus _ (to_z w128 c.terms.value-bits) _ c.terms.rest.now c.in-Some.behind.now c.in-Some.x c.in-Some.coefficient c.requires.own c.requires.few c.terms.invariant c.in-Some.ensures.parts g
    (add_back (to_z w128 c.terms.value-bits) c.product-value.result v p ∙ ap (λ y. (to_z w128 c.terms.value-bits) +ℤ y) e)

pub returns-clause-wide : goal.returns-clause-wide
returns-clause-wide c = subst IsWide (sym c.of.ensures) (wide_of c.terms.modulus (to_z w128 c.terms.value-bits) c.terms.invariant.modulus_small (sum_fits _ _ _ _ _ c.terms.invariant))
