-- Settings of features, word by word, and the configuration that they give.
use Rattle.std.specs.Prelude.{◌≡◌, ⊤, ℕ, ◌+◌, ◌≤◌, ◌<◌, ◌==◌, nat_lt, ℤ, pos, neg_ℤ, unsigned_abs, Bool, false, not, ◌&&◌, if◌then◌else◌, List, [], ◌∷◌, ◌++◌, map, length, slice_index_or, slice_set, Option, Some, None, is_some, Result, Ok, Err}
use Rattle.std.specs.List.{before_first, after_first, position_or_len}
use Rattle.std.specs.Str.{bytes_eq}
use Rattle.c_words.specs.Numbers.{begins_with_zero, is_decimal, value_in}
use Rattle.linear_atoms.specs.declared.atoms.Feature.{Feature}
use Rattle.cpp_conditions.specs.declared.models.Model.{Model}
use Rattle.cpp_conditions.specs.Validity.{plain, is_in_range, is_valid}
use Rattle.feature_model.specs.declared.faults.ConfigFault.{ConfigFault}
use Rattle.feature_model.specs.declared.faults.ConfigFault.TheVariants as faults
use Rattle.fam_outer.specs.declared.refusal.Refusal.{Refusal}
use Rattle.fam_outer.specs.declared.refusal.Refusal.TheVariants as refusals
use Rattle.fam_outer.specs.Limits.{most_value}
use Rattle.feature_model.specs.Stages.{◌>>=◌}

-- ---- words

abbrev pub is_equals : ℕ → Bool
is_equals b = b == 61

-- the name before the first `=`, and the value after it, if there is one
abbrev pub parts : List ℕ → List ℕ × Option (List ℕ)
parts word =
    if nat_lt (position_or_len is_equals word) (length word)
    then (before_first is_equals word, Some (after_first is_equals word)) else (word, None)

-- `0`, or digits that do not begin with 0
abbrev pub positive : List ℕ → Option ℤ
positive digits = if is_decimal digits then Some (pos (value_in 10 digits)) else None

-- the same, but not `0`, behind `-`
abbrev pub negative : List ℕ → Option ℤ
negative digits = if is_decimal digits && not (begins_with_zero digits) then Some (neg_ℤ (pos (value_in 10 digits))) else None

abbrev pub spelled : List ℕ → Option ℤ
spelled [] = None
spelled (b ∷ bs) = if b == 45 then negative bs else positive (b ∷ bs)

-- a name alone means 1
abbrev pub value_of : Option (List ℕ) → Option ℤ
value_of None = Some (pos 1)
value_of (Some text) = spelled text

abbrev pub fits : Feature → Option ℤ → Bool
fits f None = false
fits f (Some v) = is_in_range f v

-- ---- what is set

-- the number, counted from this one, and the feature with the name
abbrev pub named : List ℕ → ℕ → List Feature → Option (ℕ × Feature)
named name n [] = None
named name n (f ∷ fs) = if bytes_eq f.name name then Some (n, f) else named name (n + 1) fs

abbrev pub is_set : List (Option ℤ) → ℕ → Bool
is_set slots place = is_some (slice_index_or slots place None)

-- the value of the word of number n, set at its feature
abbrev pub set_at : ℕ → List (Option ℤ) → Option ℤ → Option (ℕ × Feature) → Result (List (Option ℤ)) ConfigFault
set_at n slots value None = Err (faults.UnknownName n)
set_at n slots value (Some x) =
    if is_set slots x.0 then Err (faults.Twice n)
    else (if fits x.1 value then Ok (slice_set slots x.0 value) else Err (faults.OutOfRange n))

abbrev pub set_by : List Feature → ℕ → List (Option ℤ) → List ℕ × Option (List ℕ) → Result (List (Option ℤ)) ConfigFault
set_by features n slots p = set_at n slots (value_of p.1) (named p.0 0 features)

-- one word, of number n
unfoldable pub step : List Feature → ℕ → List (Option ℤ) → List ℕ → Result (List (Option ℤ)) ConfigFault
step features n slots word = set_by features n slots (parts word)

-- words, of which the first has the number n
abbrev pub steps : List Feature → ℕ → List (Option ℤ) → List (List ℕ) → Result (List (Option ℤ)) ConfigFault
steps features n slots [] = Ok slots
steps features n slots (word ∷ words) = step features n slots word >>= λ next. steps features (n + 1) next words

-- no feature is set
abbrev pub unset : List Feature → List (Option ℤ)
unset features = map (λ (f : Feature). None) features

-- ---- configurations

-- what a feature is set to; a Boolean one that is not set is off
abbrev pub value_by : ℕ → Feature → Option ℤ → Result ℤ ConfigFault
value_by n f (Some v) = Ok v
value_by n f None = if f.boolean then Ok (pos 0) else Err (faults.Missing n)

-- the values of the features, of which the first has the number n
abbrev pub settled : ℕ → List Feature → List (Option ℤ) → Result (List ℤ) ConfigFault
settled n (f ∷ fs) (s ∷ ss) = value_by n f s >>= λ v. settled (n + 1) fs ss >>= λ vs. Ok (v ∷ vs)
settled n _ _ = Ok []

abbrev pub checked : Model → List ℤ → Result (List ℤ) ConfigFault
checked model values = if is_valid (plain model) values then Ok values else Err faults.NotValid

-- the values that the words give, or the first fault
abbrev pub config_of : Model → List (List ℕ) → Result (List ℤ) ConfigFault
config_of model words = steps model.features 1 (unset model.features) words >>= λ slots. settled 1 model.features slots >>= checked model

-- ---- what the code answers

-- what was made, seen as this, is the expected one, unless memory runs out
abbrev pub Gives : {X Y : Type 0} → (X → Y) → Result X (Refusal ConfigFault) → Result Y ConfigFault → Type 0
Gives seen (Ok made) expected = expected ≡ Ok (seen made)
Gives seen (Err refusals.NoMemory) expected = ⊤
Gives seen (Err (refusals.Fault fault)) expected = expected ≡ Err fault

-- the values behind the old ones are the expected ones
abbrev pub Adds : List ℤ → List ℤ → Result ⊤ (Refusal ConfigFault) → Result (List ℤ) ConfigFault → Type 0
Adds old new (Ok _) expected = (more : List ℤ) × (new ≡ old ++ more) × (expected ≡ Ok more)
Adds old new (Err refusals.NoMemory) expected = ⊤
Adds old new (Err (refusals.Fault fault)) expected = expected ≡ Err fault

-- what is now set is what was expected
abbrev pub Sets : List (Option ℤ) → Result ⊤ ConfigFault → Result (List (Option ℤ)) ConfigFault → Type 0
Sets new (Ok _) expected = expected ≡ Ok new
Sets new (Err fault) expected = expected ≡ Err fault

-- a number that is not at most 2^20 in size
abbrev pub IsLarge : Option ℤ → Type 0
IsLarge None = ⊤
IsLarge (Some v) = most_value < unsigned_abs v

-- the expected value, where it is at most 2^20 in size
abbrev pub Spells : Option ℤ → Option ℤ → Type 0
Spells None expected = IsLarge expected
Spells (Some v) expected = (expected ≡ Some v) × (unsigned_abs v ≤ most_value)

-- the range's ends are at most 2^20 in size
pub record IsSmallRange (f : Feature) : Type 0 where
  pub low : unsigned_abs f.low ≤ most_value
  pub high : unsigned_abs f.high ≤ most_value

-- the values that are set are at most 2^20 in size
abbrev pub AreSmall : List (Option ℤ) → Type 0
AreSmall [] = Unit {0}
AreSmall (None ∷ slots) = AreSmall slots
AreSmall (Some v ∷ slots) = (unsigned_abs v ≤ most_value) × AreSmall slots

-- how many are set
abbrev pub count : List (Option ℤ) → ℕ
count [] = 0
count (None ∷ slots) = count slots
count (Some v ∷ slots) = count slots + 1
