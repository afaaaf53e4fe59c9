-- The commands, and the options that each takes.
use Rattle.std.specs.Prelude.{ℕ, Bool, true, false, not, ◌&&◌, ◌||◌, List, codes, if◌then◌else◌, Option, Some, None}
use Rattle.std.specs.Str.{bytes_eq}
use Rattle.command_words.specs.Arguments.{nothing_given}
use Rattle.command_words.specs.declared.settings.Given.{Given}
use Rattle.famlint_requests.specs.declared.request.options.Command.{Command}
use Rattle.famlint_requests.specs.declared.request.options.Command.TheVariants as command

-- the command with the name
abbrev pub command_of : List ℕ → Option Command
command_of word =
    if bytes_eq word (codes "plain") then Some command.Plain
    else (if bytes_eq word (codes "project") then Some command.Project
    else (if bytes_eq word (codes "variant") then Some command.Variant
    else (if bytes_eq word (codes "run") then Some command.Run
    else (if bytes_eq word (codes "analyse") then Some command.Analyse
    else (if bytes_eq word (codes "invariants") then Some command.Invariants
    else (if bytes_eq word (codes "page") then Some command.Page
    else (if bytes_eq word (codes "generate") then Some command.Generate
    else (if bytes_eq word (codes "certify") then Some command.Certify
    else (if bytes_eq word (codes "check") then Some command.Check
    else (if bytes_eq word (codes "advise") then Some command.Advise
    else (if bytes_eq word (codes "features") then Some command.Features else None)))))))))))

-- ---- options

-- the options of how FILE is read over MODEL
abbrev pub dialect_options : Given
dialect_options = record nothing_given { unknown = true; includes = true }

-- the options of an analysis of a file without a model
abbrev pub plain_options : Given
plain_options = record { domain = true; delay = true; narrow = true; widening = true; overflow = true; regions = false; unknown = false; includes = true; steps = false; inputs = false }

-- the options of an analysis
abbrev pub analysis_options : Given
analysis_options = record plain_options { unknown = true }

-- the options of an analysis whose report has regions
abbrev pub family_options : Given
family_options = record analysis_options { regions = true }

-- the same, by intervals
abbrev pub interval_options : Given
interval_options = record family_options { domain = false }

-- the same, of a family that is made and has no model to load
abbrev pub generated_options : Given
generated_options = record family_options { unknown = false; includes = false }

-- the options of a run
abbrev pub run_options : Given
run_options = record dialect_options { overflow = true; steps = true; inputs = true }

-- the options of a model alone
abbrev pub model_options : Given
model_options = record nothing_given { unknown = true }

-- the options that a command takes
abbrev pub taken_by : Command → Given
taken_by command.Plain = plain_options
taken_by command.Project = dialect_options
taken_by command.Variant = analysis_options
taken_by command.Run = run_options
taken_by command.Analyse = family_options
taken_by command.Invariants = family_options
taken_by command.Page = family_options
taken_by command.Generate = generated_options
taken_by command.Certify = interval_options
taken_by command.Check = dialect_options
taken_by command.Advise = analysis_options
taken_by command.Features = model_options

-- each option of an analysis that is given is taken
abbrev pub are_analysis_taken : Given → Given → Bool
are_analysis_taken given taken =
    (not given.domain || taken.domain) && (not given.delay || taken.delay) && (not given.narrow || taken.narrow)
    && (not given.widening || taken.widening) && (not given.overflow || taken.overflow)

-- each other option that is given is taken
abbrev pub are_others_taken : Given → Given → Bool
are_others_taken given taken =
    (not given.regions || taken.regions) && (not given.unknown || taken.unknown) && (not given.includes || taken.includes)
    && (not given.steps || taken.steps) && (not given.inputs || taken.inputs)

-- each option that is given is taken
abbrev pub are_taken : Given → Given → Bool
are_taken given taken = are_analysis_taken given taken && are_others_taken given taken

-- all options
abbrev pub all_options : Given
all_options = record { domain = true; delay = true; narrow = true; widening = true; overflow = true; regions = true; unknown = true; includes = true; steps = true; inputs = true }

-- there is an option among them
abbrev pub is_any : Given → Bool
is_any given =
    given.domain || given.delay || given.narrow || given.widening || given.overflow || given.regions || given.unknown || given.includes || given.steps || given.inputs
