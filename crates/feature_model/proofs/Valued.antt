-- The JSON value of bytes.
use Rattle.std.proofs.Common.{◌≡◌, ℕ, Bool, true, false, cond, List, Some, None, Ok, Err, refl, ap, ◌∙◌}
use Rattle.std.specs.Str.{IsUtf8, is_utf8}
use Rattle.std.proofs.lemmas.Str.{IsUtf8-from_is_utf8, is_utf8-from_IsUtf8}
use Rattle.serde_json.specs.Data.{Data}
use Rattle.serde_json.specs.Read.{read}
use Rattle.feature_model.specs.declared.faults.ModelFault.TheVariants as faults
use Rattle.feature_model.specs.Stages.{or_fault, value_of}

pub value_read : (bytes : List ℕ) (d : Data) → IsUtf8 bytes → read bytes ≡ Some d → or_fault faults.Json (value_of bytes) ≡ Ok d
value_read bytes d u e = ap (λ b. or_fault faults.Json (cond b (read bytes) None)) (is_utf8-from_IsUtf8 bytes u) ∙ ap (or_fault faults.Json) e

no_value_by : (bytes : List ℕ) (b : Bool) → is_utf8 bytes ≡ b → (IsUtf8 bytes → read bytes ≡ None) → cond b (read bytes) None ≡ None
no_value_by bytes true u h = h (IsUtf8-from_is_utf8 bytes u)
no_value_by bytes false u h = refl

pub no_value : (bytes : List ℕ) → (IsUtf8 bytes → read bytes ≡ None) → or_fault faults.Json (value_of bytes) ≡ Err faults.Json
no_value bytes h = ap (or_fault faults.Json) (no_value_by bytes _ refl h)
