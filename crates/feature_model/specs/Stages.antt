-- What bytes say of a model, up to its constraints, or the first fault.
use Rattle.std.specs.Prelude.{◌≡◌, ⊤, ℕ, nat_lt, ◌||◌, if◌then◌else◌, List, map, length, Option, Some, None, Result, Ok, Err}
use Rattle.std.specs.Str.{is_utf8}
use Rattle.fam_outer.specs.Limits.{model_bytes}
use Rattle.linear_atoms.specs.declared.atoms.Feature.{Feature}
use Rattle.serde_json.specs.Data.{Data}
use Rattle.serde_json.specs.Read.{read}
use Rattle.feature_model.specs.declared.faults.ModelFault.{ModelFault}
use Rattle.feature_model.specs.declared.faults.ModelFault.TheVariants as faults
use Rattle.fam_outer.specs.declared.refusal.Refusal.{Refusal}
use Rattle.fam_outer.specs.declared.refusal.Refusal.TheVariants as refusals
use Rattle.feature_model.specs.Features.{feature, fault_of}
use Rattle.feature_model.specs.Shapes.{Outline, outline_of}

infixl 10 ◌>>=◌
abbrev pub ◌>>=◌ : {A B E : Type 0} → Result A E → (A → Result B E) → Result B E
(Ok x) >>= next = next x
(Err fault) >>= next = Err fault

-- the value, or this fault where there is none
abbrev pub or_fault : {A : Type 0} → ModelFault → Option A → Result A ModelFault
or_fault fault None = Err fault
or_fault fault (Some x) = Ok x

-- the fault, if there is one, or the value
abbrev pub unless : {A : Type 0} → Option ModelFault → A → Result A ModelFault
unless None x = Ok x
unless (Some fault) x = Err fault

-- at most 65,536 bytes
abbrev pub short : List ℕ → Result (List ℕ) ModelFault
short bytes = if nat_lt model_bytes (length bytes) then Err faults.TooLong else Ok bytes

-- the JSON value of UTF-8
abbrev pub value_of : List ℕ → Option Data
value_of bytes = if is_utf8 bytes then read bytes else None

-- at most 32 features and 256 constraints
abbrev pub few : Outline → Result Outline ModelFault
few outline = if nat_lt 32 (length outline.entries) || nat_lt 256 (length outline.texts) then Err faults.TooMany else Ok outline

-- features, and the texts of constraints
pub record Told : Type 0 where
  pub features : List Feature
  pub texts : List (List ℕ)

abbrev pub told : Outline → Result Told ModelFault
told outline = unless (fault_of outline.entries) (record { features = map feature outline.entries; texts = outline.texts })

abbrev pub told_from : Outline → Result Told ModelFault
told_from outline = few outline >>= told

abbrev pub outlined : List ℕ → Result Outline ModelFault
outlined bytes = short bytes >>= λ text. or_fault faults.Json (value_of text) >>= λ value. or_fault faults.Shape (outline_of value)

abbrev pub told_of : List ℕ → Result Told ModelFault
told_of bytes = outlined bytes >>= told_from

-- ---- what the code answers

-- the fault is the expected one, unless memory runs out
abbrev pub Fails : {Y : Type 0} → (Refusal ModelFault) → Result Y ModelFault → Type 0
Fails refusals.NoMemory expected = ⊤
Fails (refusals.Fault fault) expected = expected ≡ Err fault

-- what was made, seen as this, is the expected one, or the fault is
abbrev pub Gives : {X Y : Type 0} → (X → Y) → Result X (Refusal ModelFault) → Result Y ModelFault → Type 0
Gives seen (Ok made) expected = expected ≡ Ok (seen made)
Gives seen (Err refusal) expected = Fails refusal expected
