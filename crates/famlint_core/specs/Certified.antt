-- What `certify` writes, as what `check` is asked of.
use Rattle.std.specs.Prelude.{ℕ, ◌≡◌, ◌≤◌, List, length, Result, Ok, Err}
use Rattle.fam_outer.specs.declared.dialect.Dialect.{Dialect}
use Rattle.linear_atoms.specs.declared.regions.Regions.{Regions}
use Rattle.interval_leaf.specs.Intervals.{intervals}
use Rattle.plain_analysis.specs.declared.options.Options.{Options}
use Rattle.fam_outer.specs.Limits.{certificate_bytes}
use Rattle.famlint_loads.specs.declared.fault.Done.{Done}
use Rattle.famlint_loads.specs.declared.fault.Fault.{Fault}
use Rattle.famlint_loads.specs.declared.product_line.ProductLine.{ProductLine}
use Rattle.famlint_requests.specs.declared.request.FamilyTask.TheVariants as task
use Rattle.famlint_families.specs.FamilyReports.{IsFamilyDone}
use Rattle.famlint_loads.specs.ProductLines.{IsProductLine}

-- the bytes are what `certify` writes of the model and the file, read so, and not too long
pub record IsWrittenByCertify (dialect : Dialect) (m f bytes : List ℕ) : Type 0 where
  pub options : Options
  pub regions : Regions
  pub line : ProductLine
  pub line_is : IsProductLine dialect m f line
  pub done : Done
  pub done_is : IsFamilyDone intervals options regions task.Certify line done
  pub text : bytes ≡ done.text
  pub short : length bytes ≤ certificate_bytes

-- a check that came to yes
abbrev pub IsYes : Result Done Fault → Type 0
IsYes (Ok done) = done.status ≡ 0
IsYes (Err fault) = ⊥
