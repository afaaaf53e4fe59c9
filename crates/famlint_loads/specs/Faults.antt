-- The statuses and the lines of faults.
use Rattle.std.specs.Prelude.{ℕ, ◌-◌, ℤ, List, [], ◌++◌, codes, Option, Some, None, option_map}
use Rattle.std.specs.Fmt.{decimal}
use Rattle.fam_outer.specs.declared.faults.ConditionFault.{ConditionFault}
use Rattle.fam_outer.specs.declared.faults.ConditionFault.TheVariants as condition
use Rattle.fam_outer.specs.declared.faults.FileCode.{FileCode}
use Rattle.fam_outer.specs.declared.faults.FileCode.TheVariants as code
use Rattle.fam_outer.specs.declared.faults.Place.{Place}
use Rattle.linear_atoms.specs.declared.atoms.Feature.{Feature}
use Rattle.linear_atoms.specs.Texts.{name_at}
use Rattle.feature_model.specs.declared.faults.ModelFault.{ModelFault}
use Rattle.feature_model.specs.declared.faults.ModelFault.TheVariants as model
use Rattle.feature_model.specs.declared.faults.ConfigFault.{ConfigFault}
use Rattle.feature_model.specs.declared.faults.ConfigFault.TheVariants as config
use Rattle.linear_atoms.specs.SettingTexts.{config_text}
use Rattle.alarm_report.specs.Texts.{place_text}
use Rattle.certificate_format.specs.declared.certificates.CertificateFault.{CertificateFault}
use Rattle.certificate_format.specs.declared.certificates.CertificateFault.TheVariants as certificate
use Rattle.famlint_loads.specs.declared.fault.Fault.{Fault}
use Rattle.famlint_loads.specs.declared.fault.Fault.TheVariants as fault

-- ---- what a fault carries

-- the configuration that shows the fault of a file
abbrev pub shown_by : FileCode → Option (List ℤ)
shown_by (code.Undeclared values) = values
shown_by (code.Twice values) = values
shown_by _ = None

-- its text, over the features of the model
abbrev pub example_of : List Feature → FileCode → Option (List ℕ)
example_of features code = option_map (config_text features) (shown_by code)

abbrev pub fault_of_file : List Feature → FileCode → Place → Fault
fault_of_file features code place = fault.File code place (example_of features code)

-- the name of the feature that has no value, or nothing
abbrev pub name_of : List Feature → ConfigFault → List ℕ
name_of features (config.Missing number) = name_at features (number - 1)
name_of features _ = []

abbrev pub fault_of_settings : List Feature → ConfigFault → Fault
fault_of_settings features given = fault.Settings given (name_of features given)

-- ---- lines

abbrev pub condition_code : ConditionFault → List ℕ
condition_code condition.Syntax = codes "C1"
condition_code condition.NonLinear = codes "C2"
condition_code condition.TooLarge = codes "C3"
condition_code condition.ReservedName = codes "C4"
condition_code condition.TooDeep = codes "C5"
condition_code condition.UnknownName = codes "C6"
condition_code condition.DefinedName = codes "C7"

-- a line that ends with a number
abbrev pub numbered : List ℕ → ℕ → List ℕ
numbered front number = front ++ decimal number ++ codes "\n"

abbrev pub constraint_line : ℕ → ConditionFault → List ℕ
constraint_line number fault = codes "model: M7 " ++ condition_code fault ++ codes " at constraint " ++ decimal number ++ codes "\n"

abbrev pub model_line : ModelFault → List ℕ
model_line model.Json = codes "model: M1\n"
model_line model.Shape = codes "model: M2\n"
model_line (model.Name number) = numbered (codes "model: M3 at feature ") number
model_line (model.Twice number) = numbered (codes "model: M4 at feature ") number
model_line (model.Range number) = numbered (codes "model: M5 at feature ") number
model_line model.TooMany = codes "model: M6\n"
model_line (model.Constraint number fault) = constraint_line number fault
model_line model.TooLong = codes "model: M8\n"
model_line model.Void = codes "model: M9\n"
model_line model.TooManyTests = codes "model: M10\n"

-- a file's code, but for what it says of a condition
abbrev pub file_code : FileCode → List ℕ
file_code code.OpenComment = codes "F1"
file_code code.Splice = codes "F2"
file_code code.CommentAtDirective = codes "F3"
file_code code.Directive = codes "F4"
file_code code.NoIf = codes "F5"
file_code code.NoEndif = codes "F6"
file_code code.SecondElse = codes "F7"
file_code (code.Condition fault) = codes "F8"
file_code code.TooManyTests = codes "F9"
file_code code.StrayByte = codes "F10"
file_code code.Literal = codes "F11"
file_code code.Syntax = codes "F12"
file_code (code.Undeclared example) = codes "F13"
file_code (code.Twice example) = codes "F14"
file_code code.FeatureInCode = codes "F15"
file_code code.TooDeep = codes "F16"
file_code code.TooManyVariables = codes "F17"
file_code code.GroupInsideStatement = codes "F19"
file_code code.TooLong = codes "F20"
file_code code.GroupHere = codes "F21"
file_code code.TooManyValueTests = codes "F22"
file_code code.ChangedConstant = codes "F23"
file_code code.TooManyConstants = codes "F24"

-- behind it, the code of a condition's fault
abbrev pub condition_part : FileCode → List ℕ
condition_part (code.Condition fault) = codes " " ++ condition_code fault
condition_part _ = []

abbrev pub file_front : FileCode → Place → List ℕ
file_front code place = codes "file: " ++ file_code code ++ condition_part code ++ codes " at " ++ place_text place

abbrev pub example_part : Option (List ℕ) → List ℕ
example_part None = []
example_part (Some example) = codes "; example " ++ example

abbrev pub file_line : FileCode → Place → Option (List ℕ) → List ℕ
file_line code place example = file_front code place ++ example_part example ++ codes "\n"

abbrev pub missing_line : List ℕ → List ℕ
missing_line name = codes "configuration: K2 " ++ name ++ codes "\n"

abbrev pub config_line : ConfigFault → List ℕ → List ℕ
config_line (config.UnknownName word) name = numbered (codes "configuration: K1 at word ") word
config_line (config.Missing number) name = missing_line name
config_line (config.Twice word) name = numbered (codes "configuration: K3 at word ") word
config_line (config.OutOfRange word) name = numbered (codes "configuration: K4 at word ") word
config_line config.NotValid name = codes "configuration: K5\n"

abbrev pub certificate_line : CertificateFault → List ℕ
certificate_line certificate.TooLong = codes "certificate: E1\n"
certificate_line certificate.Header = codes "certificate: E2\n"
certificate_line (certificate.Line number) = numbered (codes "certificate: E3 at line ") number
certificate_line (certificate.Test number) = numbered (codes "certificate: E4 at line ") number

-- the status with which a fault ends the program
abbrev pub status_of : Fault → ℕ
status_of (fault.Model fault) = 3
status_of (fault.File code place example) = 4
status_of (fault.Settings fault name) = 5
status_of (fault.Certificate fault) = 9

-- the line that tells a fault
abbrev pub line_of : Fault → List ℕ
line_of (fault.Model fault) = model_line fault
line_of (fault.File code place example) = file_line code place example
line_of (fault.Settings fault name) = config_line fault name
line_of (fault.Certificate fault) = certificate_line fault
