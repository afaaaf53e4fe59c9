-- How words are read.
use Rattle.std.specs.Prelude.{ℕ, Bool, true, false, not, ◌≡◌, ◌==◌, ◌&&◌, ⊤, List, [], ◌∷◌, ◌++◌, length, nat_lt, codes, if◌then◌else◌}
use Rattle.std.specs.Prelude.{Option, Some, None, is_some, option_and_then, Result, Ok, Err}
use Rattle.std.specs.Str.{bytes_eq}
use Rattle.std.specs.List.{before_first, after_first, position_or_len}
use Rattle.std.specs.Borrow.{Bor}
use Rattle.command_words.specs.declared.named.OptionName.{OptionName}
use Rattle.command_words.specs.declared.named.OptionName.TheVariants.{Domain, Delay, Narrow, Widening, Overflow, Regions, Unknown, Includes, Steps, Inputs}
use Rattle.command_words.specs.declared.named.OptionValues.{OptionValues}
use Rattle.command_words.specs.declared.sorting.SortingState.{SortingState}
use Rattle.command_words.specs.declared.refusal.Usage.{Usage}
use Rattle.fam_outer.specs.declared.refusal.Refusal.{Refusal}
use Rattle.fam_outer.specs.declared.refusal.Refusal.TheVariants as refusal

-- ---- options

-- the option with the name
abbrev pub name_by : List ℕ → Option OptionName
name_by name =
    if bytes_eq name (codes "domain") then Some Domain
    else (if bytes_eq name (codes "delay") then Some Delay
    else (if bytes_eq name (codes "narrow") then Some Narrow
    else (if bytes_eq name (codes "widening") then Some Widening
    else (if bytes_eq name (codes "overflow") then Some Overflow
    else (if bytes_eq name (codes "regions") then Some Regions
    else (if bytes_eq name (codes "unknown") then Some Unknown
    else (if bytes_eq name (codes "includes") then Some Includes
    else (if bytes_eq name (codes "steps") then Some Steps
    else (if bytes_eq name (codes "inputs") then Some Inputs else None)))))))))

-- the name of the option
abbrev pub text_of : OptionName → List ℕ
text_of Domain = codes "domain"
text_of Delay = codes "delay"
text_of Narrow = codes "narrow"
text_of Widening = codes "widening"
text_of Overflow = codes "overflow"
text_of Regions = codes "regions"
text_of Unknown = codes "unknown"
text_of Includes = codes "includes"
text_of Steps = codes "steps"
text_of Inputs = codes "inputs"

-- the option is given
abbrev pub is_given : OptionValues → OptionName → Bool
is_given values Domain = is_some values.domain
is_given values Delay = is_some values.delay
is_given values Narrow = is_some values.narrow
is_given values Widening = is_some values.widening
is_given values Overflow = is_some values.overflow
is_given values Regions = is_some values.regions
is_given values Unknown = is_some values.unknown
is_given values Includes = is_some values.includes
is_given values Steps = is_some values.steps
is_given values Inputs = is_some values.inputs

-- the values with one more
abbrev pub with_value : OptionValues → OptionName → List ℕ → OptionValues
with_value values Domain value = record values { domain = Some value }
with_value values Delay value = record values { delay = Some value }
with_value values Narrow value = record values { narrow = Some value }
with_value values Widening value = record values { widening = Some value }
with_value values Overflow value = record values { overflow = Some value }
with_value values Regions value = record values { regions = Some value }
with_value values Unknown value = record values { unknown = Some value }
with_value values Includes value = record values { includes = Some value }
with_value values Steps value = record values { steps = Some value }
with_value values Inputs value = record values { inputs = Some value }

-- ---- words

-- the word begins with `-`
abbrev pub begins_with_dash : List ℕ → Bool
begins_with_dash [] = false
begins_with_dash (x ∷ xs) = x == 45

-- what follows `--`
abbrev pub after_dashes : List ℕ → Option (List ℕ)
after_dashes [] = None
after_dashes (x ∷ []) = None
after_dashes (x ∷ y ∷ rest) = if (x == 45) && (y == 45) then Some rest else None

abbrev pub is_equals : ℕ → Bool
is_equals x = x == 61

-- the name before the first `=` and the value after it, if there is one
abbrev pub parts : List ℕ → List ℕ × Option (List ℕ)
parts text =
    if nat_lt (position_or_len is_equals text) (length text)
    then (before_first is_equals text, Some (after_first is_equals text)) else (text, None)

-- an option word's name and value
abbrev pub option_parts : List ℕ → Option (List ℕ × Option (List ℕ))
option_parts word = option_and_then (λ text. Some (parts text)) (after_dashes word)

-- ---- one word after another

-- where the reading starts
abbrev pub start : SortingState
start = record {
  positional = [];
  values = record { domain = None; delay = None; narrow = None; widening = None; overflow = None; regions = None; unknown = None; includes = None; steps = None; inputs = None };
  waiting = None;
  is_trailing = false;
}

-- a positional word
abbrev pub keep : SortingState → List ℕ → Option SortingState
keep state word = Some (record state { positional = state.positional ++ word ∷ [] })

-- an option's value, once
abbrev pub give : SortingState → OptionName → List ℕ → Option SortingState
give state name value =
    if is_given state.values name then None
    else Some (record state { values = with_value state.values name value; waiting = None })

-- an option with its value, or one whose value is awaited; no other option is known
abbrev pub option_given : SortingState → Option OptionName → Option (List ℕ) → Option SortingState
option_given state None value = None
option_given state (Some name) (Some value) = give state name value
option_given state (Some name) None = Some (record state { waiting = Some name })

-- an option by its name and value, if the word has a name
abbrev pub option_taken : SortingState → Option (List ℕ × Option (List ℕ)) → Option SortingState
option_taken state None = None
option_taken state (Some p) = option_given state (name_by p.0) p.1

-- an option word
abbrev pub option_step : SortingState → List ℕ → Option SortingState
option_step state word = option_taken state (option_parts word)

-- a word where no value is awaited, before the first `--`
abbrev pub free_step : SortingState → List ℕ → Option SortingState
free_step state word =
    if bytes_eq word (codes "--") then Some (record state { is_trailing = true })
    else (if begins_with_dash word && not (bytes_eq word (codes "-")) then option_step state word
    else keep state word)

-- a word where the value of an option may be awaited
abbrev pub waited_step : SortingState → Option OptionName → List ℕ → Option SortingState
waited_step state None word = free_step state word
waited_step state (Some name) word = if begins_with_dash word then None else give state name word

-- the next word
unfoldable pub step : SortingState → List ℕ → Option SortingState
step state word = if state.is_trailing then keep state word else waited_step state state.waiting word

-- the words after a state
abbrev pub sorted_from : SortingState → List (List ℕ) → Option SortingState
sorted_from state [] = if is_some state.waiting then None else Some state
sorted_from state (word ∷ words) = option_and_then (λ next. sorted_from next words) (step state word)

-- the words, sorted into options and positional words, or nothing where they are refused
abbrev pub sorted : List (List ℕ) → Option SortingState
sorted words = sorted_from start words

-- ---- what the code answers

-- a step of the code answers this: it refuses exactly where there is no next state, and want of memory is free
abbrev pub StepsTo : {X : Type 0} → Option SortingState → SortingState → Result X (Refusal Usage) → Type 0
StepsTo expected new (Ok done) = expected ≡ Some new
StepsTo expected new (Err refusal.NoMemory) = ⊤
StepsTo expected new (Err (refusal.Fault usage)) = expected ≡ None

-- the parts behind references
abbrev pub plain_value : Option (Bor (List ℕ)) → Option (List ℕ)
plain_value None = None
plain_value (Some value) = Some value.now

-- a call that splits an option word answers this
abbrev pub Splits : List ℕ → Option (Bor (List ℕ) × Option (Bor (List ℕ))) → Type 0
Splits word None = option_parts word ≡ None
Splits word (Some p) = option_parts word ≡ Some (p.0.now, plain_value p.1)
