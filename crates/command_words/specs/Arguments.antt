-- What the words of a command line say.
use Rattle.std.specs.Prelude.{ℕ, ℤ, pos, negsuc, ◌≡◌, ◌≤◌, ◌≤ℤ◌, ⊤, false, List, [], map, string_bytes, Option, Some, None, is_some, Result, Ok, Err}
use Rattle.std.specs.List.{All}
use Rattle.std.specs.declared.string.String.{String}
use Rattle.fam_outer.specs.declared.dialect.Unknown.{Unknown}
use Rattle.fam_outer.specs.declared.dialect.Unknown.TheVariants.{Zero}
use Rattle.fam_outer.specs.declared.dialect.Includes.{Includes}
use Rattle.fam_outer.specs.declared.dialect.Includes.TheVariants.{Assert}
use Rattle.command_words.specs.declared.named.OptionValues.{OptionValues}
use Rattle.command_words.specs.declared.settings.Chosen.{Chosen}
use Rattle.command_words.specs.declared.settings.Domain.{Domain}
use Rattle.command_words.specs.declared.settings.Domain.TheVariants.{Interval}
use Rattle.command_words.specs.declared.settings.Widening.{Widening}
use Rattle.command_words.specs.declared.settings.Widening.TheVariants.{«Type»}
use Rattle.c_tree.specs.declared.tree.Mode.{Mode}
use Rattle.c_tree.specs.declared.tree.Mode.TheVariants.{Stop}
use Rattle.linear_atoms.specs.declared.regions.Regions.{Regions}
use Rattle.linear_atoms.specs.declared.regions.Regions.TheVariants.{Paths}
use Rattle.command_words.specs.declared.settings.OptionSettings.{OptionSettings}
use Rattle.command_words.specs.declared.settings.Given.{Given}
use Rattle.command_words.specs.declared.reading.Arguments.{Arguments}
use Rattle.command_words.specs.declared.refusal.Usage.{Usage}
use Rattle.fam_outer.specs.declared.refusal.Refusal.{Refusal}
use Rattle.fam_outer.specs.declared.refusal.Refusal.TheVariants as refusal
use Rattle.command_words.specs.Sorting.{sorted}
use Rattle.command_words.specs.Spelling.{domain_by, overflow_by, regions_by, unknown_by, includes_by, widening_by, number_up_to, inputs_of}

-- the words, each as its bytes
abbrev pub texts_of : {Z : Type 0} → List (String Z) → List (List ℕ)
texts_of words = map string_bytes words

infixl 10 ◌>>=◌
abbrev pub ◌>>=◌ : {A B : Type 0} → Option A → (A → Option B) → Option B
(Some x) >>= next = next x
None >>= next = None

-- what the text of an option means, and the default where the option is not given
abbrev pub meant : {A : Type 0} → A → (List ℕ → Option A) → Option (List ℕ) → Option A
meant default meaning None = Some default
meant default meaning (Some text) = meaning text

-- what `--domain` sets
abbrev pub domain_of : OptionValues → Option Domain
domain_of values = meant Interval domain_by values.domain

-- what `--delay` sets
abbrev pub delay_of : OptionValues → Option ℕ
delay_of values = meant 0 (number_up_to 16) values.delay

-- what `--narrow` sets
abbrev pub narrow_of : OptionValues → Option ℕ
narrow_of values = meant 1 (number_up_to 8) values.narrow

-- what `--widening` sets
abbrev pub widening_of : OptionValues → Option Widening
widening_of values = meant «Type» widening_by values.widening

-- what `--overflow` sets
abbrev pub overflow_of : OptionValues → Option Mode
overflow_of values = meant Stop overflow_by values.overflow

-- what `--regions` sets
abbrev pub regions_of : OptionValues → Option Regions
regions_of values = meant Paths regions_by values.regions

-- what `--unknown` sets
abbrev pub unknown_of : OptionValues → Option Unknown
unknown_of values = meant Zero unknown_by values.unknown

-- what `--includes` sets
abbrev pub includes_of : OptionValues → Option Includes
includes_of values = meant Assert includes_by values.includes

-- what `--steps` sets
abbrev pub steps_of : OptionValues → Option ℕ
steps_of values = meant 1000 (number_up_to 1000000) values.steps

-- what `--inputs` sets
unfoldable pub inputs_set : OptionValues → Option (List ℤ)
inputs_set values = meant [] inputs_of values.inputs

-- what these set together
abbrev pub chosen_by : Option Domain → Option ℕ → Option ℕ → Option Widening → Option Mode → Option Regions → Option Unknown → Option Includes → Option ℕ → Option Chosen
chosen_by domain_meant delay_meant narrow_meant widening_meant overflow_meant regions_meant unknown_meant includes_meant steps_meant = do
  domain ← domain_meant
  delay ← delay_meant
  narrow ← narrow_meant
  widening ← widening_meant
  overflow ← overflow_meant
  regions ← regions_meant
  unknown ← unknown_meant
  includes ← includes_meant
  steps ← steps_meant
  Some (record { domain = domain; delay = delay; narrow = narrow; widening = widening; overflow = overflow; regions = regions; unknown = unknown; includes = includes; steps = steps })

-- what the options other than `--inputs` set, or nothing where the text of one means nothing
unfoldable pub chosen_of : OptionValues → Option Chosen
chosen_of values = chosen_by (domain_of values) (delay_of values) (narrow_of values) (widening_of values) (overflow_of values) (regions_of values) (unknown_of values) (includes_of values) (steps_of values)

abbrev pub settings_from : Option Chosen → Option (List ℤ) → Option OptionSettings
settings_from chosen_meant inputs_meant = do
  chosen ← chosen_meant
  inputs ← inputs_meant
  Some (record { chosen = chosen; inputs = inputs })

-- what all options set, or nothing where the text of one means nothing
unfoldable pub settings_of : OptionValues → Option OptionSettings
settings_of values = settings_from (chosen_of values) (inputs_set values)

-- which options are given
abbrev pub given_of : OptionValues → Given
given_of values = record {
  domain = is_some values.domain;
  delay = is_some values.delay;
  narrow = is_some values.narrow;
  widening = is_some values.widening;
  overflow = is_some values.overflow;
  regions = is_some values.regions;
  unknown = is_some values.unknown;
  includes = is_some values.includes;
  steps = is_some values.steps;
  inputs = is_some values.inputs;
}

-- what the words say, or nothing where they are refused
abbrev pub arguments_of : List (List ℕ) → Option Arguments
arguments_of words = do
  state ← sorted words
  settings ← settings_of state.values
  Some (record { positional = state.positional; given = given_of state.values; settings = settings })

-- a call that reads answers this: it refuses exactly where there is nothing, and want of memory is free
abbrev pub AnswersWords : {A : Type 0} → Option A → Result A (Refusal Usage) → Type 0
AnswersWords expected (Ok found) = expected ≡ Some found
AnswersWords expected (Err (refusal.Fault usage)) = expected ≡ None
AnswersWords expected (Err refusal.NoMemory) = ⊤

-- what is set is in the ranges of the options
pub record AreInRange (settings : OptionSettings) : Type 0 where
  pub delay : settings.chosen.delay ≤ 16
  pub narrow : settings.chosen.narrow ≤ 8
  pub steps : settings.chosen.steps ≤ 1000000
  pub inputs : All (λ z. (negsuc 2147483647 ≤ℤ z) × (z ≤ℤ pos 2147483647)) settings.inputs

-- ---- words with no option

-- no option
abbrev pub nothing_given : Given
nothing_given = record { domain = false; delay = false; narrow = false; widening = false; overflow = false; regions = false; unknown = false; includes = false; steps = false; inputs = false }

-- what is set where no option is given
abbrev pub defaults : OptionSettings
defaults = record {
  chosen = record { domain = Interval; delay = 0; narrow = 1; widening = «Type»; overflow = Stop; regions = Paths; unknown = Zero; includes = Assert; steps = 1000 };
  inputs = [];
}

-- all words are positional
abbrev pub all_positional : List (List ℕ) → Arguments
all_positional words = record { positional = words; given = nothing_given; settings = defaults }
