use Rattle.std.proofs.Common.{◌≡◌, ap, rules, subst, sym}
use Rattle.std.specs.Prelude.{Ok, Err, IsOk}
use Rattle.fam_outer.specs.Loading.{AreGiven}
use Rattle.fam_outer.proofs.Given.{given_of}
use Rattle.famlint_loads.specs.declared.fault.Done.{Done}
use Rattle.famlint_loads.specs.declared.fault.Failure.{Failure}
use Rattle.famlint_loads.specs.declared.fault.Failure.TheVariants as failure
use Rattle.famlint_loads.specs.Contents.{Contents}
use Rattle.famlint_loads.specs.Loads.{IsRight}
use Rattle.famlint_loads.proofs.Right.{right_done}
use Rattle.famlint_core.specs.Answers.{IsLoaded, Answers, Promised, sources_of, contents_of}
use Rattle.famlint_core.proofs.Running.{given_none, right_memory}
use Rattle.famlint_core.proofs.work.work.Goals as goal

pub returns-in-Variant-clause-given : goal.returns-in-Variant-clause-given
returns-in-Variant-clause-given g c =
    let failed = g.F.Files.failed c.variant.new.files in
    subst (λ r. AreGiven g.F.Files.loads (g.F.Files.content c.args.files.now) c.args.files.now c.variant.new.files (sources_of r) (contents_of r) (IsOk c.variant.result)
    (λ told. IsRight (Answers r told) (Promised r told) (IsLoaded r told) failed c.variant.result)) (sym c.in-Variant.is) c.variant.ensures.given

pub returns-in-Family-clause-given : goal.returns-in-Family-clause-given
returns-in-Family-clause-given g c =
    let failed = g.F.Files.failed c.family.new.files in
    subst (λ r. AreGiven g.F.Files.loads (g.F.Files.content c.args.files.now) c.args.files.now c.family.new.files (sources_of r) (contents_of r) (IsOk c.family.result)
    (λ told. IsRight (Answers r told) (Promised r told) (IsLoaded r told) failed c.family.result)) (sym c.in-Family.is) c.family.ensures.given

pub returns-in-Page-clause-given : goal.returns-in-Page-clause-given
returns-in-Page-clause-given g c =
    let failed = g.F.Files.failed c.page.new.files in
    subst (λ r. AreGiven g.F.Files.loads (g.F.Files.content c.args.files.now) c.args.files.now c.page.new.files (sources_of r) (contents_of r) (IsOk c.page.result)
    (λ told. IsRight (Answers r told) (Promised r told) (IsLoaded r told) failed c.page.result)) (sym c.in-Page.is) c.page.ensures.given

pub returns-in-Advice-clause-given : goal.returns-in-Advice-clause-given
returns-in-Advice-clause-given g c =
    let failed = g.F.Files.failed c.advice.new.files in
    subst (λ r. AreGiven g.F.Files.loads (g.F.Files.content c.args.files.now) c.args.files.now c.advice.new.files (sources_of r) (contents_of r) (IsOk c.advice.result)
    (λ told. IsRight (Answers r told) (Promised r told) (IsLoaded r told) failed c.advice.result)) (sym c.in-Advice.is) c.advice.ensures.given

pub returns-in-Check-clause-given : goal.returns-in-Check-clause-given
returns-in-Check-clause-given g c =
    let failed = g.F.Files.failed c.check.new.files in
    subst (λ r. AreGiven g.F.Files.loads (g.F.Files.content c.args.files.now) c.args.files.now c.check.new.files (sources_of r) (contents_of r) (IsOk c.check.result)
    (λ told. IsRight (Answers r told) (Promised r told) (IsLoaded r told) failed c.check.result)) (sym c.in-Check.is) c.check.ensures.given

pub returns-in-Plain-clause-given : goal.returns-in-Plain-clause-given
returns-in-Plain-clause-given g c =
    let failed = g.F.Files.failed c.plain.new.files in
    subst (λ r. AreGiven g.F.Files.loads (g.F.Files.content c.args.files.now) c.args.files.now c.plain.new.files (sources_of r) (contents_of r) (IsOk c.plain.result)
    (λ told. IsRight (Answers r told) (Promised r told) (IsLoaded r told) failed c.plain.result)) (sym c.in-Plain.is)
    (given_of _ _ _ _ _ _ _ _ (λ (told : Contents). told.file) c.plain.ensures.given)

pub returns-in-Features-clause-given : goal.returns-in-Features-clause-given
returns-in-Features-clause-given g c =
    let failed = g.F.Files.failed c.features.new.files in
    subst (λ r. AreGiven g.F.Files.loads (g.F.Files.content c.args.files.now) c.args.files.now c.features.new.files (sources_of r) (contents_of r) (IsOk c.features.result)
    (λ told. IsRight (Answers r told) (Promised r told) (IsLoaded r told) failed c.features.result)) (sym c.in-Features.is)
    (given_of _ _ _ _ _ _ _ _ (λ (told : Contents). told.model) c.features.ensures.given)

pub returns-in_err-generate-in-Generate-clause-given : goal.returns-in_err-generate-in-Generate-clause-given
returns-in_err-generate-in-Generate-clause-given g c =
    let failed = g.F.Files.failed c.args.files.now in
    let e : c.from_residual.result ≡ Err failure.NoMemory = search rules in
    subst (λ r. AreGiven g.F.Files.loads (g.F.Files.content c.args.files.now) c.args.files.now c.args.files.now (sources_of r) (contents_of r) (IsOk c.from_residual.result)
    (λ told. IsRight (Answers r told) (Promised r told) (IsLoaded r told) failed c.from_residual.result)) (sym c.in-Generate.is)
    (given_none _ _ _ _ _ _ (λ told. right_memory _ _ _ failed c.from_residual.result e))

pub returns-in_ok-generate-in-Generate-clause-given : goal.returns-in_ok-generate-in-Generate-clause-given
returns-in_ok-generate-in-Generate-clause-given g c =
    let failed = g.F.Files.failed c.args.files.now in
    let done = c.in_ok-generate-in-Generate.field-0 in
    subst (λ r. AreGiven g.F.Files.loads (g.F.Files.content c.args.files.now) c.args.files.now c.args.files.now (sources_of r) (contents_of r) (IsOk {T = Done} {E = Failure} (Ok done))
    (λ told. IsRight (Answers r told) (Promised r told) (IsLoaded r told) failed (Ok done))) (sym c.in-Generate.is)
    (given_none _ _ _ _ _ _ (λ told. right_done _ _ _ failed done c.in_ok-generate-in-Generate.ensures.answer c.in_ok-generate-in-Generate.ensures.promise))

pub returns-in_err-guided-in-Guide-clause-given : goal.returns-in_err-guided-in-Guide-clause-given
returns-in_err-guided-in-Guide-clause-given g c =
    let failed = g.F.Files.failed c.args.files.now in
    let e : c.from_residual-in_err-guided-in-Guide.result ≡ Err failure.NoMemory = search rules in
    subst (λ r. AreGiven g.F.Files.loads (g.F.Files.content c.args.files.now) c.args.files.now c.args.files.now (sources_of r) (contents_of r) (IsOk c.from_residual-in_err-guided-in-Guide.result)
    (λ told. IsRight (Answers r told) (Promised r told) (IsLoaded r told) failed c.from_residual-in_err-guided-in-Guide.result)) (sym c.in-Guide.is)
    (given_none _ _ _ _ _ _ (λ told. right_memory _ _ _ failed c.from_residual-in_err-guided-in-Guide.result e))

pub returns-in_ok-guided-in-Guide-clause-given : goal.returns-in_ok-guided-in-Guide-clause-given
returns-in_ok-guided-in-Guide-clause-given g c =
    let failed = g.F.Files.failed c.args.files.now in
    let done = c.in_ok-guided-in-Guide.field-0 in
    subst (λ r. AreGiven g.F.Files.loads (g.F.Files.content c.args.files.now) c.args.files.now c.args.files.now (sources_of r) (contents_of r) (IsOk {T = Done} {E = Failure} (Ok done))
    (λ told. IsRight (Answers r told) (Promised r told) (IsLoaded r told) failed (Ok done))) (sym c.in-Guide.is)
    (given_none _ _ _ _ _ _ (λ told. right_done _ _ _ failed done c.in_ok-guided-in-Guide.ensures (ap (λ d. d.status) c.in_ok-guided-in-Guide.ensures, ap (λ d. d.text) c.in_ok-guided-in-Guide.ensures)))
