use Rattle.std.proofs.Common.{◌≡◌, ◌<◌, ℕ, List, [], length, refl, sym, subst, inl, inr}
use Rattle.std.proofs.lemmas.Bool.{lt-ltb}
use Rattle.std.specs.Prelude.{◌∷◌, Option, Ok, Err}
use Rattle.fam_outer.specs.declared.dialect.Dialect.{Dialect}
use Rattle.fam_outer.specs.declared.dialect.Unknown.{Unknown}
use Rattle.fam_outer.specs.Limits.{file_bytes}
use Rattle.fam_outer.specs.declared.faults.FileCode.TheVariants.{TooLong}
use Rattle.cpp_conditions.specs.declared.models.Model.{Model}
use Rattle.cpp_lines.specs.Whole.{blanked_file, file_place}
use Rattle.feature_model.specs.declared.faults.ModelFault.TheVariants as model_faults
use Rattle.feature_model.specs.Models as models
use Rattle.feature_model.specs.Stages.{told_of}
use Rattle.linear_atoms.specs.declared.atoms.Config.{Config}
use Rattle.certificate_format.specs.declared.certificates.Certificate.{Certificate}
use Rattle.certificate_format.specs.declared.certificates.CertificateFault.TheVariants.{TooLong as TooLongCertificate}
use Rattle.famlint_loads.specs.declared.fault.Fault.{Fault}
use Rattle.famlint_loads.specs.declared.fault.Fault.TheVariants as fault
use Rattle.famlint_loads.specs.declared.fault.Failure.{Failure}
use Rattle.famlint_loads.specs.declared.fault.Failure.TheVariants as failure
use Rattle.famlint_loads.specs.declared.load.FamilyFile.{FamilyFile}
use Rattle.famlint_loads.specs.declared.load.ModelFile.{ModelFile}
use Rattle.famlint_loads.specs.declared.product_line.ProductLine.{ProductLine}
use Rattle.famlint_loads.specs.declared.product_line.ProductLineFiles.{ProductLineFiles}
use Rattle.famlint_loads.specs.declared.selected.Selected.{Selected}
use Rattle.famlint_loads.specs.CertificateLoads.{ReadsCertificate}
use Rattle.famlint_loads.specs.Loads.{Comes, IsReadFault, IsOneOf, IsText, IsFileText, IsModel, IsModelFile, IsFamilyFile, IsFamily}
use Rattle.famlint_loads.specs.ProductLines.{IsProductLine, ReadsProductLine, ReadsProductLineFiles, IsLoadedFor}
use Rattle.famlint_loads.specs.ProductLines as lines
use Rattle.famlint_loads.specs.Selected.{IsSelected, IsSettled}
use Rattle.famlint_loads.specs.Selected as refused

-- ---- a content over the limit

long_model : (bytes : List ℕ) → 65536 < length bytes → told_of bytes ≡ Err model_faults.TooLong
long_model bytes h = rw (lt-ltb 65536 (length bytes) h) refl

long_blanked : (bytes : List ℕ) → file_bytes < length bytes → blanked_file bytes ≡ Err (TooLong, file_place)
long_blanked bytes h = rw (lt-ltb file_bytes (length bytes) h) refl

-- a model's text that is refused
pub model_refused : (unknown : Unknown) (bytes : List ℕ) (s : Failure) → Comes {X = List ℕ} (IsText 65536 (fault.Model model_faults.TooLong) bytes) (Err s) → Comes {X = ModelFile} (IsModelFile unknown bytes) (Err s)
model_refused unknown bytes (failure.Refused given) h =
    subst (λ (x : Fault). IsModel unknown bytes (Err x)) (sym h.1) (models.untold model_faults.TooLong (long_model bytes h.0))
model_refused unknown bytes failure.ReadFault h = h
model_refused unknown bytes failure.NoMemory h = h

-- a model that is refused, without its bytes
pub refused_alone : (unknown : Unknown) (bytes : List ℕ) (s : Failure) → Comes {X = ModelFile} (IsModelFile unknown bytes) (Err s) → Comes {X = Model} (IsModel unknown bytes) (Err s)
refused_alone unknown bytes (failure.Refused given) h = h
refused_alone unknown bytes failure.ReadFault h = h
refused_alone unknown bytes failure.NoMemory h = h

-- the same as of a model's text, for a family
pub family_refused : (dialect : Dialect) (model : Model) (bytes : List ℕ) (s : Failure) → Comes {X = List ℕ} (IsFileText bytes) (Err s) → Comes {X = FamilyFile} (IsFamilyFile dialect model bytes) (Err s)
family_refused dialect model bytes (failure.Refused given) h =
    subst (λ (x : Fault). IsFamily dialect model bytes (Err x)) (sym h.1) (refl, inl (inl (long_blanked bytes h.0)))
family_refused dialect model bytes failure.ReadFault h = h
family_refused dialect model bytes failure.NoMemory h = h

-- ---- MODEL and FILE

pub line_no_model : (dialect : Dialect) (m f : List ℕ) (s : Failure) → Comes {X = ModelFile} (IsModelFile dialect.unknown m) (Err s)
    → Comes {X = ProductLineFiles} (ReadsProductLineFiles dialect m f) (Err s)
line_no_model dialect m f (failure.Refused given) h = lines.no_model h
line_no_model dialect m f failure.ReadFault h = h
line_no_model dialect m f failure.NoMemory h = h

pub line_no_family : (dialect : Dialect) (m f : List ℕ) (model : Model) (s : Failure) → IsModel dialect.unknown m (Ok model)
    → Comes {X = FamilyFile} (IsFamilyFile dialect model f) (Err s) → Comes {X = ProductLineFiles} (ReadsProductLineFiles dialect m f) (Err s)
line_no_family dialect m f model (failure.Refused given) read h = lines.no_family model read h
line_no_family dialect m f model failure.ReadFault read h = h
line_no_family dialect m f model failure.NoMemory read h = h

-- a product line that is refused, without its bytes
pub line_refused_alone : (dialect : Dialect) (m f : List ℕ) (s : Failure) → Comes {X = ProductLineFiles} (ReadsProductLineFiles dialect m f) (Err s)
    → Comes {X = ProductLine} (ReadsProductLine dialect m f) (Err s)
line_refused_alone dialect m f (failure.Refused given) h = h
line_refused_alone dialect m f failure.ReadFault h = h
line_refused_alone dialect m f failure.NoMemory h = h

-- a failed load stays one, whatever was wanted
pub fault_of_any : (X Y : Type 0) (s : Failure) → IsReadFault {X = X} (Err s) → IsReadFault {X = Y} (Err s)
fault_of_any X Y (failure.Refused given) h = h
fault_of_any X Y failure.ReadFault h = h
fault_of_any X Y failure.NoMemory h = h

pub not_a_fault : (s : Failure) → (IsReadFault {X = Config} (Err s) → ⊥) → IsReadFault {X = Selected} (Err s) → ⊥
not_a_fault (failure.Refused given) never h = absurd h
not_a_fault failure.ReadFault never h = never h
not_a_fault failure.NoMemory never h = absurd h

-- MODEL is loaded first
first_of : (unknown : Unknown) (failed : Option (List ℕ)) (model_path file_path m : List ℕ) → IsOneOf failed (model_path ∷ [])
    → IsLoadedFor unknown model_path file_path m failed
first_of unknown failed model_path file_path m (inl e) = inl e
first_of unknown failed model_path file_path m (inr h) = absurd h

pub loaded_first : (unknown : Unknown) (failed : Option (List ℕ)) (model_path file_path m : List ℕ) (s : Failure)
    → (IsReadFault {X = ModelFile} (Err s) → IsOneOf failed (model_path ∷ [])) → IsReadFault {X = ProductLineFiles} (Err s) → IsLoadedFor unknown model_path file_path m failed
loaded_first unknown failed model_path file_path m (failure.Refused given) path h = absurd h
loaded_first unknown failed model_path file_path m failure.ReadFault path h = first_of unknown failed model_path file_path m (path h)
loaded_first unknown failed model_path file_path m failure.NoMemory path h = absurd h

-- FILE is loaded where MODEL is accepted
second_of : (unknown : Unknown) (failed : Option (List ℕ)) (model_path file_path m : List ℕ) (model : Model) → IsModel unknown m (Ok model) → IsOneOf failed (file_path ∷ [])
    → IsLoadedFor unknown model_path file_path m failed
second_of unknown failed model_path file_path m model read (inl e) = inr (e, model, read)
second_of unknown failed model_path file_path m model read (inr h) = absurd h

pub loaded_second : (unknown : Unknown) (failed : Option (List ℕ)) (model_path file_path m : List ℕ) (model : Model) (s : Failure) → IsModel unknown m (Ok model)
    → (IsReadFault {X = FamilyFile} (Err s) → IsOneOf failed (file_path ∷ [])) → IsReadFault {X = ProductLineFiles} (Err s) → IsLoadedFor unknown model_path file_path m failed
loaded_second unknown failed model_path file_path m model (failure.Refused given) read path h = absurd h
loaded_second unknown failed model_path file_path m model failure.ReadFault read path h = second_of unknown failed model_path file_path m model read (path h)
loaded_second unknown failed model_path file_path m model failure.NoMemory read path h = absurd h

-- ---- and settings

pub no_line : (dialect : Dialect) (m f : List ℕ) (settings : List (List ℕ)) (s : Failure) → Comes {X = ProductLine} (ReadsProductLine dialect m f) (Err s) → Comes {X = Selected} (IsSelected dialect m f settings) (Err s)
no_line dialect m f settings (failure.Refused given) h = refused.no_line h
no_line dialect m f settings failure.ReadFault h = h
no_line dialect m f settings failure.NoMemory h = h

pub no_settings : (dialect : Dialect) (m f : List ℕ) (settings : List (List ℕ)) (line : ProductLine) (s : Failure) → IsProductLine dialect m f line
    → Comes {X = Config} (IsSettled line.model settings) (Err s) → Comes {X = Selected} (IsSelected dialect m f settings) (Err s)
no_settings dialect m f settings line (failure.Refused given) read h = refused.no_settings line read h
no_settings dialect m f settings line failure.ReadFault read h = h
no_settings dialect m f settings line failure.NoMemory read h = h

-- a certificate's text that is refused
pub certificate_refused : (l : ProductLine) (bytes : List ℕ) (s : Failure) → Comes {X = List ℕ} (IsText 16777216 (fault.Certificate TooLongCertificate) bytes) (Err s)
    → Comes {X = Certificate} (ReadsCertificate l bytes) (Err s)
certificate_refused l bytes (failure.Refused given) h = subst (λ (x : Fault). ReadsCertificate l bytes (Err x)) (sym h.1) h.0
certificate_refused l bytes failure.ReadFault h = h
certificate_refused l bytes failure.NoMemory h = h
