use Rattle.std.proofs.Common.{◌∙◌, ◌<◌, ◌≤◌, ap, sym, subst, unsigned_abs, w64}
use Rattle.std.specs.Int.{IsGcd}
use Rattle.std.proofs.lemmas.Int.{to_z-of_z}
use Rattle.linear_atoms.proofs.Divisors.{dividing_more, dividing_all, divisor_positive, divisor_small}
use Rattle.linear_atoms.proofs.normal.common_divisor.Goals as goal

pub terms-preserved : goal.terms-preserved
terms-preserved c =
    let e = c.unsigned_abs.ensures.value ∙ ap unsigned_abs (to_z-of_z w64 c.in-Some.coefficient c.in-Some.ensures.fits) in
    let g = subst (λ x. IsGcd c.terms.divisor x c.greatest_common_divisor-divisor.result) e c.greatest_common_divisor-divisor.ensures in
    dividing_more c.terms.divisor _ _ _ _ _ _ c.terms.invariant c.in-Some.ensures.parts g

pub returns-clause-value : goal.returns-clause-value
returns-clause-value c = dividing_all _ _ _ c.terms.invariant c.in_default.ensures.parts c.requires

pub returns-clause-positive : goal.returns-clause-positive
returns-clause-positive c n a rest e = subst (λ x. 0 < x) (sym (dividing_all _ _ _ c.terms.invariant c.in_default.ensures.parts c.requires)) (divisor_positive _ rest n a e c.requires)

pub returns-clause-small : goal.returns-clause-small
returns-clause-small c h = subst (λ x. x ≤ 2147483648) (sym (dividing_all _ _ _ c.terms.invariant c.in_default.ensures.parts c.requires)) (divisor_small _ c.requires h)
