-- The command that reads the options other than `--inputs`.
use Rattle.std.specs.Prelude.{ℕ, Bool, true, ◌≡◌, ◌&&◌, ◌<◌, List, [], ◌∷◌, ◌++◌, codes, Option, Some, None, is_some}
use Rattle.std.specs.Str.Parse.{digits_value}
use Rattle.clap.specs.Words.{App, Rule, Row, Text, new_app, new_rule, with_rule, one_of, first_of}
use Rattle.clap.specs.Simple.{on_top}
use Rattle.clap.specs.declared.builder.value_parser.ValueParser.{ValueParser}
use Rattle.clap.specs.declared.builder.value_parser.ValueParser.TheVariants as vp
use Rattle.command_words.specs.declared.named.OptionValues.{OptionValues}
use Rattle.command_words.specs.Spelling.{domain_by, overflow_by, regions_by, unknown_by, includes_by, widening_by, is_number}

-- an option with a parser and a default
abbrev pub option_rule : Text → Text → ValueParser → Rule
option_rule name default parser = record (new_rule name) {
  long = Some name;
  defaults = default ∷ [];
  parser = Some parser;
}

-- a command with no argument and no flag of its own
abbrev pub bare_app : App
bare_app = on_top (λ s. record s { no_binary_name = true; disable_help_flag = true; disable_version_flag = true }) (new_app (codes "options"))

-- the command of the options of an analysis
abbrev pub analysis_app : App
analysis_app =
    with_rule (with_rule (with_rule (with_rule (with_rule bare_app
    (option_rule (codes "domain") (codes "interval") vp.String))
    (option_rule (codes "delay") (codes "0") (vp.Unsigned 0 16)))
    (option_rule (codes "narrow") (codes "1") (vp.Unsigned 0 8)))
    (option_rule (codes "widening") (codes "type") vp.String))
    (option_rule (codes "overflow") (codes "stop") vp.String)

-- the command of these options
abbrev pub options_app : App
options_app =
    with_rule (with_rule (with_rule (with_rule analysis_app
    (option_rule (codes "regions") (codes "paths") vp.String))
    (option_rule (codes "unknown") (codes "zero") vp.String))
    (option_rule (codes "includes") (codes "assert") vp.String))
    (option_rule (codes "steps") (codes "1000") (vp.Unsigned 0 1000000))

-- the word for an option that is given
abbrev pub option_word : Text → Option Text → List Text
option_word name None = []
option_word name (Some value) = (codes "--" ++ name ++ codes "=" ++ value) ∷ []

abbrev pub words_given : Option Text → Option Text → Option Text → Option Text → Option Text → Option Text → Option Text → Option Text → Option Text → List Text
words_given domain delay narrow widening overflow regions unknown includes steps =
    option_word (codes "domain") domain ++ (option_word (codes "delay") delay ++ (option_word (codes "narrow") narrow
    ++ (option_word (codes "widening") widening ++ (option_word (codes "overflow") overflow
    ++ (option_word (codes "regions") regions ++ (option_word (codes "unknown") unknown
    ++ (option_word (codes "includes") includes ++ option_word (codes "steps") steps)))))))

-- the words for the values that are given
abbrev pub words_of : OptionValues → List Text
words_of values = words_given values.domain values.delay values.narrow values.widening values.overflow values.regions values.unknown values.includes values.steps

-- ---- the spelling of the values

-- the text, if there is one, passes the test
abbrev pub passes : (Text → Bool) → Option Text → Bool
passes test None = true
passes test (Some text) = test text

-- each value is spelled as its option wants
abbrev pub are_spelled : OptionValues → Bool
are_spelled values =
    passes (λ text. is_some (domain_by text)) values.domain && (passes is_number values.delay && (passes is_number values.narrow
    && (passes (λ text. is_some (widening_by text)) values.widening && (passes (λ text. is_some (overflow_by text)) values.overflow
    && (passes (λ text. is_some (regions_by text)) values.regions && (passes (λ text. is_some (unknown_by text)) values.unknown
    && (passes (λ text. is_some (includes_by text)) values.includes && passes is_number values.steps)))))))

-- ---- what is read

-- the rows of the command have these texts
pub record HasTexts (rows : List Row) (domain delay narrow widening overflow regions unknown includes steps : Text) : Type 0 where
  pub domain_is : first_of (codes "domain") rows ≡ Some domain
  pub delay_is : one_of (codes "delay") rows ≡ Some delay
  pub narrow_is : one_of (codes "narrow") rows ≡ Some narrow
  pub widening_is : first_of (codes "widening") rows ≡ Some widening
  pub overflow_is : first_of (codes "overflow") rows ≡ Some overflow
  pub regions_is : first_of (codes "regions") rows ≡ Some regions
  pub unknown_is : first_of (codes "unknown") rows ≡ Some unknown
  pub includes_is : first_of (codes "includes") rows ≡ Some includes
  pub steps_is : one_of (codes "steps") rows ≡ Some steps

-- the text is a number below the bound
abbrev pub IsNumberBelow : ℕ → Text → Type 0
IsNumberBelow bound text = (is_number text ≡ true) × (digits_value 10 text < bound)
