-- Settings said a second time: what each word does, by the features and by the words before it, and the configuration that they give.
use Rattle.std.specs.Prelude.{◌≡◌, ℕ, ◌+◌, ℤ, pos, true, false, ◌⊎◌, List, [], ◌∷◌, ◌++◌, slice_get, Option, Some, None, Result, Ok, Err}
use Rattle.linear_atoms.specs.declared.atoms.Feature.{Feature}
use Rattle.cpp_conditions.specs.declared.models.Model.{Model}
use Rattle.cpp_conditions.specs.Expressions.{found}
use Rattle.cpp_conditions.specs.Naming.{AreFeatures}
use Rattle.cpp_conditions.specs.Validity.{plain, is_in_range, IsValid, IsConfig}
use Rattle.feature_model.specs.declared.faults.ConfigFault.{ConfigFault}
use Rattle.feature_model.specs.declared.faults.ConfigFault.TheVariants as faults
use Rattle.feature_model.specs.Settings.{parts, value_of, fits, config_of}
use Rattle.reading_laws.specs.Models.{IsUpTo}

-- ---- words

-- the place of the feature that a word names before its first `=`
abbrev pub place_in : List Feature → List ℕ → Option ℕ
place_in features word = found (parts word).0 features

-- what is written behind the first `=`, or 1
abbrev pub said_in : List ℕ → Option ℤ
said_in word = value_of (parts word).1

-- one of the words names the feature at this place
abbrev pub IsNamed : List Feature → ℕ → List (List ℕ) → Type 0
IsNamed features place [] = ⊥
IsNamed features place (w ∷ ws) = (place_in features w ≡ Some place) ⊎ IsNamed features place ws

-- the word names the feature at this place, and says this value, which is in its range
pub record Sets (features : List Feature) (place : ℕ) (value : ℤ) (word : List ℕ) : Type 0 where
  pub feature : Feature
  pub is_there : slice_get features place ≡ Some feature
  pub named : place_in features word ≡ Some place
  pub says : said_in word ≡ Some value
  pub in_range : is_in_range feature value ≡ true

-- one of the words does
abbrev pub IsSet : List Feature → ℕ → ℤ → List (List ℕ) → Type 0
IsSet features place value [] = ⊥
IsSet features place value (w ∷ ws) = Sets features place value w ⊎ IsSet features place value ws

-- the fault of the word of number n behind the earlier words
pub data HasFault (features : List Feature) (earlier : List (List ℕ)) (n : ℕ) (word : List ℕ) : ConfigFault → Type 0 where
  unknown : place_in features word ≡ None → HasFault features earlier n word (faults.UnknownName n)
  twice : (place : ℕ) → place_in features word ≡ Some place → IsNamed features place earlier → HasFault features earlier n word (faults.Twice n)
  out_of_range : (place : ℕ) (f : Feature) → place_in features word ≡ Some place → (IsNamed features place earlier → ⊥) → slice_get features place ≡ Some f → fits f (said_in word) ≡ false → HasFault features earlier n word (faults.OutOfRange n)

-- the words behind the earlier ones, of which the first has the number n: each sets a feature that none before it names, or the first
-- that does not has this fault
pub data AreGiven (features : List Feature) : List (List ℕ) → ℕ → List (List ℕ) → Option ConfigFault → Type 0 where
  all : (earlier : List (List ℕ)) (n : ℕ) → AreGiven features earlier n [] None
  wrong : (earlier : List (List ℕ)) (n : ℕ) (word : List ℕ) (words : List (List ℕ)) (fault : ConfigFault) → HasFault features earlier n word fault → AreGiven features earlier n (word ∷ words) (Some fault)
  gives : (earlier : List (List ℕ)) (n : ℕ) (word : List ℕ) (words : List (List ℕ)) (place : ℕ) (value : ℤ) (end : Option ConfigFault) → Sets features place value word → (IsNamed features place earlier → ⊥) → AreGiven features (earlier ++ word ∷ []) (n + 1) words end
      → AreGiven features earlier n (word ∷ words) end

-- ---- values

-- the value of the feature at a place: what a word sets, and 0 of a Boolean one that no word names
abbrev pub HasValue : List Feature → List (List ℕ) → ℕ → Feature → ℤ → Type 0
HasValue features words place f v = IsSet features place v words ⊎ ((IsNamed features place words → ⊥) × (f.boolean ≡ true) × (v ≡ pos 0))

-- the values of the features from this place on
abbrev pub HaveValues : List Feature → List (List ℕ) → ℕ → List Feature → List ℤ → Type 0
HaveValues features words place [] [] = Unit {0}
HaveValues features words place [] (v ∷ vs) = ⊥
HaveValues features words place (f ∷ fs) [] = ⊥
HaveValues features words place (f ∷ fs) (v ∷ vs) = HasValue features words place f v × HaveValues features words (place + 1) fs vs

-- the number of the first feature from this place on that has no value: an integer one that no word names
pub data IsMissing (features : List Feature) (words : List (List ℕ)) : ℕ → List Feature → ℕ → Type 0 where
  here : (place : ℕ) (f : Feature) (fs : List Feature) → (IsNamed features place words → ⊥) → f.boolean ≡ false → IsMissing features words place (f ∷ fs) (place + 1)
  later : (place n : ℕ) (f : Feature) (fs : List Feature) (v : ℤ) → HasValue features words place f v → IsMissing features words (place + 1) fs n → IsMissing features words place (f ∷ fs) n

-- ---- configurations

-- the first fault, or the values that the words give
pub data IsConfigured (model : Model) (words : List (List ℕ)) : Result (List ℤ) ConfigFault → Type 0 where
  refused : (fault : ConfigFault) → AreGiven model.features [] 1 words (Some fault) → IsConfigured model words (Err fault)
  missing : (n : ℕ) → AreGiven model.features [] 1 words None → IsMissing model.features words 0 model.features n → IsConfigured model words (Err (faults.Missing n))
  not_valid : (values : List ℤ) → AreGiven model.features [] 1 words None → HaveValues model.features words 0 model.features values → (IsValid (plain model) values → ⊥) → IsConfigured model words (Err faults.NotValid)
  configured : (values : List ℤ) → AreGiven model.features [] 1 words None → HaveValues model.features words 0 model.features values → IsValid (plain model) values → IsConfigured model words (Ok values)

-- what `read_config` is to answer is so
abbrev pub SettingsAreConfigured : Type 0
SettingsAreConfigured = (model : Model) (words : List (List ℕ)) → IsConfigured model words (config_of model words)

-- and nothing else is
abbrev pub SettingsAreConfiguredOnce : Type 0
SettingsAreConfiguredOnce = (model : Model) (words : List (List ℕ)) (r : Result (List ℤ) ConfigFault) → IsConfigured model words r → r ≡ config_of model words

-- ---- answers

-- the number of a word or of a feature
abbrev pub HasPlace : ConfigFault → Type 0
HasPlace (faults.UnknownName n) = IsUpTo 33 n
HasPlace (faults.Twice n) = IsUpTo 33 n
HasPlace (faults.OutOfRange n) = IsUpTo 33 n
HasPlace (faults.Missing n) = IsUpTo 32 n
HasPlace faults.NotValid = Unit {0}

-- the values are a valid configuration, as `read_config` promises; a fault has a number where it speaks of a word or of a feature
abbrev pub HasAnswer : Model → Result (List ℤ) ConfigFault → Type 0
HasAnswer model (Ok values) = IsValid (plain model) values × IsConfig model.features values
HasAnswer model (Err fault) = HasPlace fault

-- so is the answer for all words, over the features of a model
abbrev pub SettingsHaveAnswers : Type 0
SettingsHaveAnswers = (model : Model) (words : List (List ℕ)) → AreFeatures model.features → HasAnswer model (config_of model words)
