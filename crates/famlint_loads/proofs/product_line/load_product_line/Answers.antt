use Rattle.std.proofs.Common.{◌≡◌, Err, sym, subst, rules}
use Rattle.fam_outer.proofs.Given.{given_so}
use Rattle.famlint_loads.specs.declared.product_line.ProductLine.{ProductLine}
use Rattle.famlint_loads.specs.declared.product_line.ProductLineFiles.{ProductLineFiles}
use Rattle.famlint_loads.specs.ProductLines.{ComesOfLine, ReadsProductLine}
use Rattle.famlint_loads.proofs.Loading.{line_refused_alone, fault_of_any}
use Rattle.famlint_loads.proofs.product_line.load_product_line.Goals as goal

pub returns-in_err-line-clause-given : goal.returns-in_err-line-clause-given
returns-in_err-line-clause-given g c =
    let dialect = c.args.dialect in
    let s = c.in_err-line.field-0.0 in
    let e : c.from_residual.result ≡ Err s = search rules in
    let failed = g.F.Files.failed c.load_product_line_files.new.files in
    given_so _ _ _ _ _ _ _ _ _ _ c.in_err-line.ensures.given (λ ok. absurd (search rules))
    (λ told came. subst (λ r. ComesOfLine (ReadsProductLine dialect told.model told.file) dialect.unknown c.args.model_path.now c.args.file_path.now told.model failed r) (sym e) (record {
      comes = line_refused_alone dialect told.model told.file s came.comes;
      order = λ fault. came.order (fault_of_any ProductLine ProductLineFiles s fault);
    }))

pub returns-clause-given : goal.returns-clause-given
returns-clause-given g c =
    given_so _ _ _ _ _ _ _ _ _ _ c.in_ok-line.ensures.given (λ ok. search rules) (λ told came. record { comes = came.comes.0; order = λ h. absurd h })
