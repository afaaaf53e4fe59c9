-- Which words ask for a text about the program, and which text.
use Rattle.std.specs.Prelude.{ℕ, Bool, ◌||◌, List, [], ◌∷◌, ◌++◌, codes, if◌then◌else◌, Option, Some, None}
use Rattle.std.specs.Option.{option_map}
use Rattle.std.specs.Str.{bytes_eq}
use Rattle.command_words.specs.declared.settings.Given.{Given}
use Rattle.famlint_requests.specs.declared.request.guide.Guide.{Guide}
use Rattle.famlint_requests.specs.declared.request.guide.Guide.TheVariants as guide
use Rattle.famlint_requests.specs.declared.request.options.Command.{Command}
use Rattle.famlint_requests.specs.declared.request.options.Command.TheVariants as command
use Rattle.famlint_requests.specs.Commands.{all_options, command_of, is_any, taken_by}
use Rattle.guide_texts.specs.Codes.{code_of, code_text}
use Rattle.guide_texts.specs.declared.command_texts.TheConstants as commands
use Rattle.guide_texts.specs.declared.option_texts.TheConstants as options

-- ---- words

-- the text that one word asks for
abbrev pub guide_alone : List ℕ → Option Guide
guide_alone word =
    if bytes_eq word (codes "--help") || bytes_eq word (codes "-h") || bytes_eq word (codes "help") then Some guide.Commands
    else (if bytes_eq word (codes "--version") || bytes_eq word (codes "-V") then Some guide.Version else None)

-- the text that two words ask for
abbrev pub guide_about : List ℕ → List ℕ → Option Guide
guide_about first second =
    if bytes_eq first (codes "help") then option_map (λ c. guide.Command c) (command_of second)
    else (if bytes_eq first (codes "explain") then option_map (λ code. guide.Code code) (code_of second) else None)

-- the text that the words ask for; nothing, where they ask for something else
abbrev pub guide_of : List (List ℕ) → Option Guide
guide_of [] = None
guide_of (word ∷ []) = guide_alone word
guide_of (first ∷ second ∷ []) = guide_about first second
guide_of (first ∷ second ∷ more ∷ words) = None

-- ---- texts

-- what a command does
abbrev pub about : Command → List ℕ
about command.Plain = commands.PLAIN.now
about command.Project = commands.PROJECT.now
about command.Variant = commands.VARIANT.now
about command.Run = commands.RUN.now
about command.Analyse = commands.ANALYSE.now
about command.Invariants = commands.INVARIANTS.now
about command.Page = commands.PAGE.now
about command.Generate = commands.GENERATE.now
about command.Certify = commands.CERTIFY.now
about command.Check = commands.CHECK.now
about command.Advise = commands.ADVISE.now
about command.Features = commands.FEATURES.now

-- the text, where it is wanted
abbrev pub when : Bool → List ℕ → List ℕ
when is_wanted text = if is_wanted then text else []

-- what the options set that are taken, of those that say how much an analysis finds
abbrev pub precision_text : Given → List ℕ
precision_text taken =
    when taken.domain options.DOMAIN.now ++ (when taken.delay options.DELAY.now
    ++ (when taken.narrow options.NARROW.now ++ when taken.widening options.WIDENING.now))

-- the same of those that say how files and models are read
abbrev pub reading_text : Given → List ℕ
reading_text taken = when taken.unknown options.UNKNOWN.now ++ when taken.includes options.INCLUDES.now

-- the same of the others
abbrev pub other_text : Given → List ℕ
other_text taken =
    when taken.overflow options.OVERFLOW.now ++ (when taken.regions options.REGIONS.now
    ++ (when taken.steps options.STEPS.now ++ when taken.inputs options.INPUTS.now))

-- what the options set that are taken
unfoldable pub options_text : Given → List ℕ
options_text taken = when (is_any taken) commands.OPTIONS.now ++ (precision_text taken ++ (reading_text taken ++ other_text taken))

-- the text of a guide
abbrev pub guide_text : Guide → List ℕ
guide_text guide.Commands = commands.COMMANDS.now ++ options_text all_options
guide_text guide.Version = commands.VERSION.now
guide_text (guide.Command c) = about c ++ options_text (taken_by c)
guide_text (guide.Code code) = code_text code
