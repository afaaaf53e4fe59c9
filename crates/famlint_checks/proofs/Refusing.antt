-- A model, a file or a certificate that is refused is what `check` is answered; and CERTIFICATE is loaded behind the others.
use Rattle.std.proofs.Common.{ℕ, List, [], inl, inr}
use Rattle.std.specs.Prelude.{◌∷◌, Option, Err}
use Rattle.fam_outer.specs.declared.dialect.Dialect.{Dialect}
use Rattle.certificate_format.specs.declared.certificates.Certificate.{Certificate}
use Rattle.famlint_loads.specs.declared.fault.Done.{Done}
use Rattle.famlint_loads.specs.declared.fault.Failure.{Failure}
use Rattle.famlint_loads.specs.declared.fault.Failure.TheVariants as failure
use Rattle.famlint_loads.specs.declared.product_line.ProductLine.{ProductLine}
use Rattle.famlint_loads.specs.Contents.{Contents}
use Rattle.famlint_checks.specs.Checked.{AnswersCheck}
use Rattle.famlint_loads.specs.CertificateLoads.{ReadsCertificate, IsLoadedForCheck}
use Rattle.famlint_loads.specs.CertificateLoads as checked
use Rattle.famlint_loads.specs.Loads.{Comes, IsReadFault, IsOneOf}
use Rattle.famlint_loads.specs.ProductLines.{IsProductLine, ReadsProductLine}

pub check_no_line : (dialect : Dialect) (told : Contents) (s : Failure) → Comes {X = ProductLine} (ReadsProductLine dialect told.model told.file) (Err s) → Comes {X = Done} (AnswersCheck dialect told) (Err s)
check_no_line dialect told (failure.Refused given) h = checked.no_product_line h
check_no_line dialect told failure.ReadFault h = h
check_no_line dialect told failure.NoMemory h = h

pub check_no_certificate : (dialect : Dialect) (told : Contents) (l : ProductLine) (s : Failure) → IsProductLine dialect told.model told.file l
    → Comes {X = Certificate} (ReadsCertificate l told.certificate) (Err s) → Comes {X = Done} (AnswersCheck dialect told) (Err s)
check_no_certificate dialect told l (failure.Refused given) read h = checked.no_certificate l read h
check_no_certificate dialect told l failure.ReadFault read h = h
check_no_certificate dialect told l failure.NoMemory read h = h

-- CERTIFICATE is loaded where MODEL and FILE are accepted
third_of : (dialect : Dialect) (failed : Option (List ℕ)) (model_path file_path certificate_path m f : List ℕ) (l : ProductLine) → IsProductLine dialect m f l
    → IsOneOf failed (certificate_path ∷ []) → IsLoadedForCheck dialect model_path file_path certificate_path m f failed
third_of dialect failed model_path file_path certificate_path m f l read (inl e) = inr (e, l, read)
third_of dialect failed model_path file_path certificate_path m f l read (inr h) = absurd h

pub loaded_third : (dialect : Dialect) (failed : Option (List ℕ)) (model_path file_path certificate_path m f : List ℕ) (l : ProductLine) (s : Failure) → IsProductLine dialect m f l
    → (IsReadFault {X = Certificate} (Err s) → IsOneOf failed (certificate_path ∷ [])) → IsReadFault {X = Done} (Err s)
    → IsLoadedForCheck dialect model_path file_path certificate_path m f failed
loaded_third dialect failed model_path file_path certificate_path m f l (failure.Refused given) read path h = absurd h
loaded_third dialect failed model_path file_path certificate_path m f l failure.ReadFault read path h = third_of dialect failed model_path file_path certificate_path m f l read (path h)
loaded_third dialect failed model_path file_path certificate_path m f l failure.NoMemory read path h = absurd h
