-- The certificate of a path over a product line, or the first refusal of the model, the file and the certificate.
use Rattle.std.specs.Prelude.{ℕ, ◌≡◌, ◌⊎◌, List, length, Option, Some, Result, Ok, Err}
use Rattle.std.specs.List.{All}
use Rattle.fam_outer.specs.declared.dialect.Dialect.{Dialect}
use Rattle.c_tree.specs.View.{whole}
use Rattle.cpp_conditions.specs.Propositions.{IsBelow}
use Rattle.cpp_conditions.specs.View.{formula}
use Rattle.lifted_analysis.specs.declared.lines.LoopLine.{LoopLine}
use Rattle.lifted_analysis.specs.Lines.{AreVariableBounds, AreRegionsBelow}
use Rattle.certificate_format.specs.declared.certificates.AlarmLine.{AlarmLine}
use Rattle.certificate_format.specs.declared.certificates.Certificate.{Certificate}
use Rattle.certificate_format.specs.Certificates.{SpellsCertificate, HasFault}
use Rattle.certificate_format.specs.Regions.{piece_of}
use Rattle.famlint_loads.specs.declared.fault.Fault.{Fault}
use Rattle.famlint_loads.specs.declared.fault.Fault.TheVariants as fault
use Rattle.famlint_loads.specs.declared.product_line.ProductLine.{ProductLine}
use Rattle.famlint_loads.specs.ProductLines.{IsProductLine, IsLineRefused, IsLoadedFor}

-- the certificate that bytes spell over the literals and the names of a product line, or why they are refused
abbrev pub ReadsCertificate : ProductLine → List ℕ → Result Certificate Fault → Type 0
ReadsCertificate l bytes (Ok c) = SpellsCertificate (piece_of l.model.features l.family.atoms) (whole l.family.code).names bytes c
ReadsCertificate l bytes (Err (fault.Certificate given)) = HasFault (piece_of l.model.features l.family.atoms) (whole l.family.code).names bytes given
ReadsCertificate l bytes (Err other) = ⊥

-- what is known of a certificate that was read over a product line
pub record IsUsableCertificate (l : ProductLine) (c : Certificate) : Type 0 where
  pub regions : AreRegionsBelow (length l.family.atoms) c.loops.items
  pub bounds : All (λ (line : LoopLine). AreVariableBounds (length (whole l.family.code).names) line.bounds) c.loops.items
  pub alarms : All (λ (line : AlarmLine). IsBelow (length l.family.atoms) (formula line.region)) c.alarms.items

-- the model is refused, or else the file, or else the certificate
pub data IsCheckRefused (dialect : Dialect) (m f c : List ℕ) (fault : Fault) : Type 0 where
  no_product_line : IsLineRefused dialect m f fault → IsCheckRefused dialect m f c fault
  no_certificate : (l : ProductLine) → IsProductLine dialect m f l → ReadsCertificate l c (Err fault) → IsCheckRefused dialect m f c fault

-- a path that is loaded: MODEL, and where it is accepted FILE, and where that is accepted too CERTIFICATE
abbrev pub IsLoadedForCheck : Dialect → List ℕ → List ℕ → List ℕ → List ℕ → List ℕ → Option (List ℕ) → Type 0
IsLoadedForCheck dialect model_path file_path certificate_path m f failed =
    IsLoadedFor dialect.unknown model_path file_path m failed ⊎ ((failed ≡ Some certificate_path) × (l : ProductLine) × IsProductLine dialect m f l)
