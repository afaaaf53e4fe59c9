-- What a JSON value says of a model, before it is judged, where it has the shape of one.
use Rattle.std.specs.Prelude.{ℕ, ℤ, Bool, true, false, ◌&&◌, if◌then◌else◌, List, [], ◌∷◌, codes, Option, Some, None, option_map, option_and_then, unwrap_or}
use Rattle.serde_json.specs.Data.{Data, Items, no_items, item, Members, no_members, member}
use Rattle.serde_json.specs.Find.{get, as_array, as_number, as_object, as_str, as_i64}
use Rattle.feature_model.specs.declared.shapes.Entry.{Entry}
use Rattle.feature_model.specs.declared.shapes.Outline as coded
use Rattle.c_words.specs.Keywords.{is_among}

-- each member has one of these names
abbrev pub are_among : List (List ℕ) → Members → Bool
are_among names no_members = true
are_among names (member k d ms) = is_among names k && are_among names ms

-- an object whose members all have one of these names
abbrev pub has_only : List (List ℕ) → Data → Bool
has_only names d = unwrap_or (option_map (are_among names) (as_object d)) false

-- a whole number of 64 bits
abbrev pub whole : Data → Option ℤ
whole d = option_and_then as_i64 (as_number d)

abbrev pub pair_of : Option ℤ → Option ℤ → Option (Option (ℤ × ℤ))
pair_of (Some low) (Some high) = Some (Some (low, high))
pair_of _ _ = None

-- both ends, or no range
abbrev pub range_of : Option Data → Option Data → Option (Option (ℤ × ℤ))
range_of None None = Some None
range_of (Some low) (Some high) = pair_of (whole low) (whole high)
range_of _ _ = None

-- a member that is a text
abbrev pub text_at : Option Data → Option (List ℕ)
text_at d = option_and_then as_str d

abbrev pub entry_by : Option (List ℕ) → Option (Option (ℤ × ℤ)) → Option Entry
entry_by (Some name) (Some range) = Some (record { name = name; range = range })
entry_by _ _ = None

-- a feature: an object with a name, and with both ends of a range or none
abbrev pub entry_of : Data → Option Entry
entry_of d =
    if has_only (codes "name" ∷ codes "min" ∷ codes "max" ∷ []) d
    then entry_by (text_at (get (codes "name") d)) (range_of (get (codes "min") d) (get (codes "max") d)) else None

-- what each item says
abbrev pub each : {X : Type 0} → (Data → Option X) → Items → Option (List X)
each f no_items = Some []
each f (item d ds) = option_and_then (λ x. option_map (λ xs. x ∷ xs) (each f ds)) (f d)

-- an array of features
abbrev pub entries_of : Option Data → Option (List Entry)
entries_of d = option_and_then (each entry_of) (option_and_then as_array d)

-- no constraints, or an array of texts
abbrev pub texts_of : Option Data → Option (List (List ℕ))
texts_of None = Some []
texts_of (Some d) = option_and_then (each as_str) (as_array d)

-- what a value says of features and constraints
pub record Outline : Type 0 where
  pub entries : List Entry
  pub texts : List (List ℕ)

-- the same as the code has it
abbrev pub outline : coded.Outline → Outline
outline made = record { entries = made.entries.items; texts = made.texts.items }

abbrev pub outline_by : Option (List Entry) → Option (List (List ℕ)) → Option Outline
outline_by (Some entries) (Some texts) = Some (record { entries = entries; texts = texts })
outline_by _ _ = None

-- a model: an object with an array of features, and perhaps one of constraints
abbrev pub outline_of : Data → Option Outline
outline_of d =
    if has_only (codes "features" ∷ codes "constraints" ∷ []) d
    then outline_by (entries_of (get (codes "features") d)) (texts_of (get (codes "constraints") d)) else None
