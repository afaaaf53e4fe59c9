-- What the words ask for.
use Rattle.std.specs.Prelude.{ℕ, ◌≤◌, Bool, ⊤, false, List, [], ◌∷◌, codes, if◌then◌else◌, Option, Some, None}
use Rattle.std.specs.Option.{option_and_then, option_map}
use Rattle.std.specs.Str.{bytes_eq}
use Rattle.std.specs.List.{All}
use Rattle.fam_outer.specs.declared.dialect.Dialect.{Dialect}
use Rattle.fam_outer.specs.declared.dialect.Unknown.{Unknown}
use Rattle.fam_outer.specs.declared.dialect.Includes.{Includes}
use Rattle.c_tree.specs.Value.{IsInt}
use Rattle.command_words.specs.Arguments.{arguments_of}
use Rattle.command_words.specs.declared.reading.Arguments.{Arguments}
use Rattle.command_words.specs.declared.settings.Chosen.{Chosen}
use Rattle.command_words.specs.declared.settings.Domain.TheVariants as domains
use Rattle.command_words.specs.declared.settings.OptionSettings.{OptionSettings}
use Rattle.command_words.specs.Spelling.{number_up_to}
use Rattle.famlint_requests.specs.Commands.{are_taken, command_of, taken_by}
use Rattle.famlint_requests.specs.Guides.{guide_of}
use Rattle.famlint_requests.specs.declared.request.Analysis.{Analysis}
use Rattle.famlint_requests.specs.declared.request.guide.Guide.{Guide}
use Rattle.linear_atoms.specs.declared.regions.Regions.{Regions}
use Rattle.famlint_requests.specs.declared.request.options.Command.{Command}
use Rattle.famlint_requests.specs.declared.request.options.Command.TheVariants as command
use Rattle.famlint_requests.specs.declared.request.FamilyTask.{FamilyTask}
use Rattle.famlint_requests.specs.declared.request.FamilyTask.TheVariants as family
use Rattle.famlint_requests.specs.declared.request.Request.{Request}
use Rattle.famlint_requests.specs.declared.request.Request.TheVariants as request
use Rattle.famlint_requests.specs.declared.request.Role.{Role}
use Rattle.famlint_requests.specs.declared.request.Role.TheVariants as role
use Rattle.famlint_requests.specs.declared.request.VariantTask.{VariantTask}
use Rattle.famlint_requests.specs.declared.request.VariantTask.TheVariants as task

-- ---- options

-- the options suit a command
abbrev pub suits : Command → Arguments → Bool
suits command arguments = are_taken arguments.given (taken_by command)

-- how names and includes are read
abbrev pub dialect_of : Chosen → Dialect
dialect_of chosen = record { unknown = chosen.unknown; includes = chosen.includes }

-- how programs are analysed
abbrev pub analysis_of : Chosen → Analysis
analysis_of chosen = record {
  domain = chosen.domain;
  delay = chosen.delay;
  narrow = chosen.narrow;
  widening = chosen.widening;
  mode = chosen.overflow;
}

-- the same, by intervals
abbrev pub interval_analysis : Chosen → Analysis
interval_analysis chosen = record (analysis_of chosen) { domain = domains.Interval }

-- ---- commands

-- what `plain` asks for with these words; nothing, where they are refused
abbrev pub plain_request : Includes → Analysis → List (List ℕ) → Option Request
plain_request includes analysis [] = None
plain_request includes analysis (file ∷ []) = Some (request.Plain file includes analysis)
plain_request includes analysis (file ∷ more ∷ words) = None

-- what is asked of a variant with these words
abbrev pub variant_request : Dialect → VariantTask → List (List ℕ) → Option Request
variant_request dialect task [] = None
variant_request dialect task (model ∷ []) = None
variant_request dialect task (model ∷ file ∷ words) = Some (request.Variant model file dialect words task)

-- what is asked of all variants with these words
abbrev pub family_request : Dialect → Analysis → Regions → FamilyTask → List (List ℕ) → Option Request
family_request dialect analysis regions task [] = None
family_request dialect analysis regions task (model ∷ []) = None
family_request dialect analysis regions task (model ∷ file ∷ []) = Some (request.Family model file dialect analysis regions task)
family_request dialect analysis regions task (model ∷ file ∷ more ∷ words) = None

-- what `page` asks for with these words
abbrev pub page_request : Dialect → Analysis → Regions → List (List ℕ) → Option Request
page_request dialect analysis regions [] = None
page_request dialect analysis regions (model ∷ []) = None
page_request dialect analysis regions (model ∷ file ∷ []) = Some (request.Page model file dialect analysis regions)
page_request dialect analysis regions (model ∷ file ∷ more ∷ words) = None

-- the number of blocks that the text spells, from 1 to 2000
abbrev pub blocks_of : List ℕ → Option ℕ
blocks_of text = if bytes_eq text (codes "0") then None else number_up_to 2000 text

-- what `generate` asks for with these words
abbrev pub generate_request : Analysis → Regions → List (List ℕ) → Option Request
generate_request analysis regions [] = None
generate_request analysis regions (number ∷ []) = option_map (λ n. request.Generate n analysis regions) (blocks_of number)
generate_request analysis regions (number ∷ more ∷ words) = None

-- what `check` asks for with these words
abbrev pub check_request : Dialect → List (List ℕ) → Option Request
check_request dialect [] = None
check_request dialect (model ∷ []) = None
check_request dialect (model ∷ file ∷ []) = None
check_request dialect (model ∷ file ∷ certificate ∷ []) = Some (request.Check model file certificate dialect)
check_request dialect (model ∷ file ∷ certificate ∷ more ∷ words) = None

-- what `advise` asks for with these words
abbrev pub advice_request : Dialect → Analysis → List (List ℕ) → Option Request
advice_request dialect analysis [] = None
advice_request dialect analysis (model ∷ []) = None
advice_request dialect analysis (model ∷ file ∷ words) = Some (request.Advice model file dialect words analysis)

-- what `features` asks for with these words
abbrev pub features_request : Unknown → List (List ℕ) → Option Request
features_request unknown [] = None
features_request unknown (model ∷ []) = Some (request.Features model unknown)
features_request unknown (model ∷ more ∷ words) = None

-- the run that the options ask for
abbrev pub run_task : OptionSettings → VariantTask
run_task settings = task.Run settings.chosen.steps settings.inputs settings.chosen.overflow

-- what a command asks for with these words
abbrev pub request_for : Command → OptionSettings → List (List ℕ) → Option Request
request_for command.Plain settings words = plain_request settings.chosen.includes (analysis_of settings.chosen) words
request_for command.Project settings words = variant_request (dialect_of settings.chosen) task.Project words
request_for command.Variant settings words = variant_request (dialect_of settings.chosen) (task.Variant (analysis_of settings.chosen)) words
request_for command.Run settings words = variant_request (dialect_of settings.chosen) (run_task settings) words
request_for command.Analyse settings words = family_request (dialect_of settings.chosen) (analysis_of settings.chosen) settings.chosen.regions family.Analyse words
request_for command.Invariants settings words = family_request (dialect_of settings.chosen) (analysis_of settings.chosen) settings.chosen.regions family.Invariants words
request_for command.Page settings words = page_request (dialect_of settings.chosen) (analysis_of settings.chosen) settings.chosen.regions words
request_for command.Generate settings words = generate_request (analysis_of settings.chosen) settings.chosen.regions words
request_for command.Certify settings words = family_request (dialect_of settings.chosen) (interval_analysis settings.chosen) settings.chosen.regions family.Certify words
request_for command.Check settings words = check_request (dialect_of settings.chosen) words
request_for command.Advise settings words = advice_request (dialect_of settings.chosen) (analysis_of settings.chosen) words
request_for command.Features settings words = features_request settings.chosen.unknown words

-- what a command asks for, where the options suit it
abbrev pub suited : Command → Arguments → List (List ℕ) → Option Request
suited command arguments words = if suits command arguments then request_for command arguments.settings words else None

-- what the words after the first ask for, where that is the name of this command, or of none
abbrev pub request_by : Option Command → Arguments → List (List ℕ) → Option Request
request_by (Some command) arguments words = suited command arguments words
request_by None arguments words = None

-- what the positional words ask for
abbrev pub request_with : Arguments → List (List ℕ) → Option Request
request_with arguments [] = None
request_with arguments (first ∷ words) = request_by (command_of first) arguments words

abbrev pub request_of : Arguments → Option Request
request_of arguments = request_with arguments arguments.positional

-- what words ask for, which ask for this text, or for none
abbrev pub guided : Option Guide → List (List ℕ) → Option Request
guided (Some guide) words = Some (request.Guide guide)
guided None words = option_and_then request_of (arguments_of words)

-- what the words after the program's name ask for; nothing, where they are refused
abbrev pub reading : List (List ℕ) → Option Request
reading words = guided (guide_of words) words

-- ---- paths

-- the paths of a request
abbrev pub paths_of : Request → List (List ℕ)
paths_of (request.Plain file includes analysis) = file ∷ []
paths_of (request.Variant model file dialect settings task) = model ∷ file ∷ []
paths_of (request.Family model file dialect analysis regions task) = model ∷ file ∷ []
paths_of (request.Page model file dialect analysis regions) = model ∷ file ∷ []
paths_of (request.Generate number analysis regions) = []
paths_of (request.Check model file certificate dialect) = model ∷ file ∷ certificate ∷ []
paths_of (request.Advice model file dialect settings analysis) = model ∷ file ∷ []
paths_of (request.Features model unknown) = model ∷ []
paths_of (request.Guide guide) = []

-- the failed path is this one
abbrev pub is_path : Option (List ℕ) → List ℕ → Bool
is_path None path = false
is_path (Some failed) path = bytes_eq failed path

-- what the path of a failed load is, where this is MODEL: it is MODEL also where FILE is the same path
abbrev pub role_beside : Option (List ℕ) → List ℕ → Role
role_beside failed model = if is_path failed model then role.Model else role.File

-- the same of three paths: it is MODEL or FILE also where CERTIFICATE is the same path
abbrev pub role_of_three : Option (List ℕ) → List ℕ → List ℕ → List ℕ → Role
role_of_three failed model file certificate =
    if is_path failed model then role.Model
    else (if is_path failed file then role.File else (if is_path failed certificate then role.Certificate else role.File))

-- what the path of a failed load is to a request
abbrev pub role_of : Request → Option (List ℕ) → Role
role_of (request.Plain file includes analysis) failed = role.File
role_of (request.Variant model file dialect settings task) failed = role_beside failed model
role_of (request.Family model file dialect analysis regions task) failed = role_beside failed model
role_of (request.Page model file dialect analysis regions) failed = role_beside failed model
role_of (request.Generate number analysis regions) failed = role.File
role_of (request.Check model file certificate dialect) failed = role_of_three failed model file certificate
role_of (request.Advice model file dialect settings analysis) failed = role_beside failed model
role_of (request.Features model unknown) failed = role.Model
role_of (request.Guide guide) failed = role.File

-- ---- numbers

-- the inputs of a run are within `int`
abbrev pub HaveInts : VariantTask → Type 0
HaveInts task.Project = ⊤
HaveInts (task.Variant analysis) = ⊤
HaveInts (task.Run steps inputs mode) = All IsInt inputs

-- the numbers of a request are within their ranges
abbrev pub IsWithinRanges : Request → Type 0
IsWithinRanges (request.Plain file includes analysis) = ⊤
IsWithinRanges (request.Variant model file dialect settings task) = HaveInts task
IsWithinRanges (request.Family model file dialect analysis regions task) = ⊤
IsWithinRanges (request.Page model file dialect analysis regions) = ⊤
IsWithinRanges (request.Generate number analysis regions) = number ≤ 2000
IsWithinRanges (request.Check model file certificate dialect) = ⊤
IsWithinRanges (request.Advice model file dialect settings analysis) = ⊤
IsWithinRanges (request.Features model unknown) = ⊤
IsWithinRanges (request.Guide guide) = ⊤
