use Rattle.std.proofs.Common.{◌≡◌, Err, map, string_bytes, sym, subst, rules}
use Rattle.fam_outer.proofs.Given.{given_so}
use Rattle.famlint_loads.specs.declared.product_line.ProductLine.{ProductLine}
use Rattle.famlint_loads.specs.declared.selected.Selected.{Selected}
use Rattle.famlint_loads.specs.ProductLines.{ComesOfLine}
use Rattle.famlint_loads.specs.Selected.{IsSelected}
use Rattle.famlint_loads.proofs.Loading.{no_line, no_settings, fault_of_any, not_a_fault}
use Rattle.famlint_loads.proofs.selected.select.Goals as goal

pub returns-in_err-line-clause-given : goal.returns-in_err-line-clause-given
returns-in_err-line-clause-given g c =
    let dialect = c.args.dialect in
    let settings = map string_bytes c.args.settings.now in
    let s = c.in_err-line.field-0.0 in
    let e : c.from_residual.result ≡ Err s = search rules in
    let failed = g.F.Files.failed c.load_product_line.new.files in
    given_so _ _ _ _ _ _ _ _ _ _ c.in_err-line.ensures.given (λ ok. absurd (search rules))
    (λ told came. subst (λ r. ComesOfLine (IsSelected dialect told.model told.file settings) dialect.unknown c.args.model_path.now c.args.file_path.now told.model failed r) (sym e) (record {
      comes = no_line dialect told.model told.file settings s came.comes;
      order = λ fault. came.order (fault_of_any Selected ProductLine s fault);
    }))

pub returns-in_err-config-clause-given : goal.returns-in_err-config-clause-given
returns-in_err-config-clause-given g c =
    let dialect = c.args.dialect in
    let settings = map string_bytes c.args.settings.now in
    let s = c.in_err-config.field-0.0 in
    let e : c.from_residual-in_err-config.result ≡ Err s = search rules in
    let failed = g.F.Files.failed c.load_product_line.new.files in
    given_so _ _ _ _ _ _ _ _ _ _ c.in_ok-line.ensures.given (λ ok. absurd (search rules))
    (λ told came. subst (λ r. ComesOfLine (IsSelected dialect told.model told.file settings) dialect.unknown c.args.model_path.now c.args.file_path.now told.model failed r) (sym e) (record {
      comes = no_settings dialect told.model told.file settings c.in_ok-line.line s came.comes c.in_err-config.ensures.config;
      order = λ fault. absurd (not_a_fault s c.in_err-config.ensures.read fault);
    }))

pub returns-clause-given : goal.returns-clause-given
returns-clause-given g c =
    given_so _ _ _ _ _ _ _ _ _ _ c.in_ok-line.ensures.given (λ ok. search rules)
    (λ told came. record { comes = record { line = came.comes; config = c.in_ok-config.ensures.config }; order = λ h. absurd h })
