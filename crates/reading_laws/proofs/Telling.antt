-- What is told of a model before its constraints are read, and the numbers of the refusals up to there.
use Rattle.std.proofs.Common.{◌≡◌, ℕ, suc, ◌+◌, ◌≤◌, ◌<◌, nat_lt, Bool, true, false, ◌||◌, if◌then◌else◌, List, [], ◌∷◌, ◌++◌, length, map, Option, Some, None, option_map, Result, Ok, Err, refl, sym, subst, arith}
use Rattle.cpp_conditions.specs.Naming.{AreFeatures}
use Rattle.feature_model.specs.declared.faults.ModelFault.{ModelFault}
use Rattle.feature_model.specs.declared.faults.ModelFault.TheVariants as faults
use Rattle.feature_model.specs.Features.{feature, is_bad_range, first_where, has_name, first_repeated, or_else, fault_of, AreDistinct, AreNamed, HaveSwitches}
use Rattle.feature_model.specs.Names.{is_misnamed}
use Rattle.feature_model.specs.Shapes.{Outline, outline_of}
use Rattle.feature_model.specs.Stages.{◌>>=◌, or_fault, unless, value_of, Told, told, told_from, told_of}
use Rattle.fam_outer.specs.Limits.{model_bytes}
use Rattle.feature_model.proofs.Judging.{named_so, switches_so, features_so, distinct_so}
use Rattle.reading_laws.specs.Models.{IsUpTo, HasNumber}

-- what is told
pub record IsTold (t : Told) : Type 0 where
  pub are : AreFeatures t.features
  pub distinct : AreDistinct t.features
  pub named : AreNamed t.features
  pub switches : HaveSwitches t.features
  pub few : length t.texts ≤ 256

-- a fault that has a number has one that counts from 1
abbrev Numbered : {A : Type 0} → (A → Type 0) → Result A ModelFault → Type 0
Numbered P (Ok x) = P x
Numbered P (Err fault) = HasNumber fault

-- ---- the numbers of features

-- a number that counts so many from this one
abbrev Counts : ℕ → ℕ → Option ℕ → Type 0
Counts n count None = Unit {0}
Counts n count (Some k) = (n ≤ k) × (k < n + count)

counts_by : (n count : ℕ) (b : Bool) (o : Option ℕ) → Counts (n + 1) count o → Counts n (suc count) (if b then Some n else o)
counts_by n count true o h = (omega arith, omega arith)
counts_by n count false None h = tt
counts_by n count false (Some k) h = let a = h.0 in let b = h.1 in (omega arith, omega arith)

-- the first that fails a test, which may look at those before it
counted : {X : Type 0} (fails : List X → X → Bool) (first : List X → ℕ → List X → Option ℕ) → ((earlier : List X) (n : ℕ) → first earlier n [] ≡ None)
    → ((earlier : List X) (n : ℕ) (x : X) (xs : List X) → first earlier n (x ∷ xs) ≡ (if fails earlier x then Some n else first (earlier ++ x ∷ []) (n + 1) xs)) → (earlier : List X) (n : ℕ) (xs : List X) → Counts n (length xs) (first earlier n xs)
counted fails first none more earlier n [] = subst (Counts n 0) (sym (none earlier n)) tt
counted fails first none more earlier n (x ∷ xs) =
    subst (Counts n (suc (length xs))) (sym (more earlier n x xs))
    (counts_by n (length xs) (fails earlier x) (first (earlier ++ x ∷ []) (n + 1) xs) (counted fails first none more (earlier ++ x ∷ []) (n + 1) xs))

-- a fault with a number, or none
abbrev HasNone : Option ModelFault → Type 0
HasNone None = Unit {0}
HasNone (Some fault) = HasNumber fault

numbered_map : (made : ℕ → ModelFault) (count : ℕ) (o : Option ℕ) → ((n : ℕ) → IsUpTo 32 n → HasNumber (made n)) → count ≤ 32 → Counts 1 count o → HasNone (option_map made o)
numbered_map made count None f few h = tt
numbered_map made count (Some n) f few h = let a = h.0 in let b = h.1 in f n (a, omega arith)

numbered_else : (a b : Option ModelFault) → HasNone a → HasNone b → HasNone (or_else a b)
numbered_else None b h k = k
numbered_else (Some fault) b h k = h

misnamed_number : (o : Outline) → length o.entries ≤ 32 → HasNone (option_map faults.Name (first_where (λ e. is_misnamed e.name) 1 o.entries))
misnamed_number o few =
    numbered_map faults.Name (length o.entries) (first_where (λ e. is_misnamed e.name) 1 o.entries) (λ n h. h) few
    (counted (λ earlier e. is_misnamed e.name) (λ earlier. first_where (λ e. is_misnamed e.name)) (λ earlier n. refl) (λ earlier n x xs. refl) [] 1 o.entries)

repeated_number : (o : Outline) → length o.entries ≤ 32 → HasNone (option_map faults.Twice (first_repeated [] 1 o.entries))
repeated_number o few =
    numbered_map faults.Twice (length o.entries) (first_repeated [] 1 o.entries) (λ n h. h) few (counted (λ earlier e. has_name e.name earlier) first_repeated (λ earlier n. refl) (λ earlier n x xs. refl) [] 1 o.entries)

ranged_number : (o : Outline) → length o.entries ≤ 32 → HasNone (option_map faults.Range (first_where (λ e. is_bad_range e.range) 1 o.entries))
ranged_number o few =
    numbered_map faults.Range (length o.entries) (first_where (λ e. is_bad_range e.range) 1 o.entries) (λ n h. h) few
    (counted (λ earlier e. is_bad_range e.range) (λ earlier. first_where (λ e. is_bad_range e.range)) (λ earlier n. refl) (λ earlier n x xs. refl) [] 1 o.entries)

fault_numbered : (o : Outline) → length o.entries ≤ 32 → HasNone (fault_of o.entries)
fault_numbered o few =
    numbered_else (option_map faults.Name (first_where (λ e. is_misnamed e.name) 1 o.entries))
    (or_else (option_map faults.Twice (first_repeated [] 1 o.entries)) (option_map faults.Range (first_where (λ e. is_bad_range e.range) 1 o.entries))) (misnamed_number o few)
    (numbered_else (option_map faults.Twice (first_repeated [] 1 o.entries)) (option_map faults.Range (first_where (λ e. is_bad_range e.range) 1 o.entries)) (repeated_number o few) (ranged_number o few))

-- ---- what is told of an outline

or_left : (a b : Bool) → (a || b) ≡ false → a ≡ false
or_left true b h = h
or_left false b h = refl

or_right : (a b : Bool) → (a || b) ≡ false → b ≡ false
or_right true b h = absurd cc
or_right false b h = h

at_most : (m n : ℕ) → nat_lt m n ≡ false → n ≤ m
at_most m n h = grind arith

abbrev is_long : Outline → Bool
is_long o = nat_lt 32 (length o.entries) || nat_lt 256 (length o.texts)

few_entries : (o : Outline) → is_long o ≡ false → length o.entries ≤ 32
few_entries o h = at_most 32 (length o.entries) (or_left (nat_lt 32 (length o.entries)) (nat_lt 256 (length o.texts)) h)

few_texts : (o : Outline) → is_long o ≡ false → length o.texts ≤ 256
few_texts o h = at_most 256 (length o.texts) (or_right (nat_lt 32 (length o.entries)) (nat_lt 256 (length o.texts)) h)

abbrev whole_of : Outline → Told
whole_of o = record { features = map feature o.entries; texts = o.texts }

told_outline : (o : Outline) → is_long o ≡ false → None ≡ fault_of o.entries → IsTold (whole_of o)
told_outline o h e = record {
  are = features_so o.entries o.entries o.entries (map feature o.entries) refl refl e refl (few_entries o h);
  distinct = distinct_so o.entries o.entries o.entries (map feature o.entries) refl refl e refl;
  named = named_so o.entries o.entries o.entries (map feature o.entries) refl refl e refl;
  switches = switches_so o.entries (map feature o.entries) refl;
  few = few_texts o h;
}

told_unless : (o : Outline) (f : Option ModelFault) → is_long o ≡ false → f ≡ fault_of o.entries → Numbered IsTold (unless f (whole_of o))
told_unless o None h e = told_outline o h e
told_unless o (Some fault) h e = subst HasNone (sym e) (fault_numbered o (few_entries o h))

told_few : (o : Outline) (b : Bool) → is_long o ≡ b → Numbered IsTold ((if b then Err faults.TooMany else Ok o) >>= told)
told_few o true h = tt
told_few o false h = told_unless o (fault_of o.entries) h refl

-- ---- what is told of bytes

told_shape : (r : Option Outline) → Numbered IsTold (or_fault faults.Shape r >>= told_from)
told_shape None = tt
told_shape (Some o) = told_few o (is_long o) refl

told_value : {X : Type 0} (shape : X → Option Outline) (d : Option X) → Numbered IsTold ((or_fault faults.Json d >>= λ value. or_fault faults.Shape (shape value)) >>= told_from)
told_value shape None = tt
told_value shape (Some d) = told_shape (shape d)

told_short : (bytes : List ℕ) (b : Bool) → Numbered IsTold (((if b then Err faults.TooLong else Ok bytes) >>= λ text. or_fault faults.Json (value_of text) >>= λ value. or_fault faults.Shape (outline_of value)) >>= told_from)
told_short bytes true = tt
told_short bytes false = told_value outline_of (value_of bytes)

numbered : (bytes : List ℕ) → Numbered IsTold (told_of bytes)
numbered bytes = told_short bytes (nat_lt model_bytes (length bytes))

pub is_told : (bytes : List ℕ) (t : Told) → told_of bytes ≡ Ok t → IsTold t
is_told bytes t e = subst (Numbered IsTold) e (numbered bytes)

pub has_number : (bytes : List ℕ) (fault : ModelFault) → told_of bytes ≡ Err fault → HasNumber fault
has_number bytes fault e = subst (Numbered IsTold) e (numbered bytes)
