use Rattle.std.proofs.Common.{subst, sym}
use Rattle.c_tree.specs.View.{whole}
use Rattle.cpp_conditions.specs.Numbering.{AreAllAmong}
use Rattle.cpp_conditions.specs.Validity.{plain}
use Rattle.interval_leaf.specs.Intervals.{intervals}
use Rattle.invariant_certificate.specs.Verdicts.{IsVerdict, StopsAreListed}
use Rattle.famlint_loads.proofs.Selecting.{among_of}
use Rattle.famlint_checks.proofs.Checking.{verdict_for}
use Rattle.famlint_checks.proofs.check.verdict_on.Goals as goal

pub check-requires-clause-among : goal.check-requires-clause-among
check-requires-clause-among c =
    let l = c.args.line.now in
    subst (λ atoms. AreAllAmong atoms (plain l.model).constraints) (sym c.items-atoms.ensures) (among_of l c.requires.line)

pub returns-clause-verdict : goal.returns-clause-verdict
returns-clause-verdict c =
    let l = c.args.line.now in
    let p = whole l.family.code in
    let certificate = c.args.certificate.now in
    let verdict = c.in_ok-verdict.verdict in
    subst (λ atoms. IsVerdict intervals l.model p l.family.conditions atoms certificate verdict) c.items-atoms.ensures
    (subst (λ conditions. IsVerdict intervals l.model p conditions c.items-atoms.result.now certificate verdict) c.items-conditions.ensures c.in_ok-verdict.ensures.verdict)

pub returns-clause-promised : goal.returns-clause-promised
returns-clause-promised c =
    let l = c.args.line.now in
    let p = whole l.family.code in
    let certificate = c.args.certificate.now in
    let verdict = c.in_ok-verdict.verdict in
    verdict_for c.variants_are_projections.ensures.read l certificate c.requires.line verdict
    (subst (λ atoms. IsVerdict intervals l.model p l.family.conditions atoms certificate verdict) c.items-atoms.ensures
    (subst (λ conditions. IsVerdict intervals l.model p conditions c.items-atoms.result.now certificate verdict) c.items-conditions.ensures c.in_ok-verdict.ensures.verdict))
    (λ yes. subst (λ atoms. StopsAreListed intervals l.model p l.family.conditions atoms certificate) c.items-atoms.ensures
    (subst (λ conditions. StopsAreListed intervals l.model p conditions c.items-atoms.result.now certificate) c.items-conditions.ensures (c.in_ok-verdict.ensures.sound yes)))
