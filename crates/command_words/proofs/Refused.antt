-- Words are refused where what their options set is.
use Rattle.std.proofs.Common.{◌≡◌, List, ℕ, refl}
use Rattle.std.specs.Prelude.{Some, Err}
use Rattle.fam_outer.specs.declared.refusal.Refusal.{Refusal}
use Rattle.fam_outer.specs.declared.refusal.Refusal.TheVariants as refusal
use Rattle.command_words.specs.declared.refusal.Usage.{Usage}
use Rattle.command_words.specs.declared.sorting.SortingState.{SortingState}
use Rattle.command_words.specs.Arguments.{arguments_of, settings_of, AnswersWords}
use Rattle.command_words.specs.Sorting.{sorted}

pub settings_refused : (words : List (List ℕ)) (state : SortingState) (refused : Refusal Usage) → sorted words ≡ Some state
    → AnswersWords (settings_of state.values) (Err refused) → AnswersWords (arguments_of words) (Err refused)
settings_refused words state (refusal.Fault usage) is none = rw (is, none) refl
settings_refused words state refusal.NoMemory is none = tt
