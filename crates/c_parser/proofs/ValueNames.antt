-- The names with values from outside, as those of features that a family uses, are those that its names say.
use Rattle.std.proofs.Common.{◌≡◌, inl, inr, ℕ, ℤ, zero, suc, ◌+◌, ◌<◌, nat_eq, Bool, true, false, ◌||◌, cond, List, [], ◌∷◌, length, map, slice_get, Option, Some, None, refl, sym, ap, ◌∙◌, arith}
use Rattle.std.specs.Prelude.{if◌then◌else◌, option_map}
use Rattle.std.specs.List.{filter, list_any}
use Rattle.std.specs.Str.{bytes_eq}
use Rattle.std.proofs.lemmas.Bool.Decides.{nat_tests}
use Rattle.std.proofs.lemmas.List.Folds.{list_any-append}
use Rattle.linear_atoms.specs.declared.atoms.Feature.{Feature}
use Rattle.cpp_conditions.specs.declared.models.Model.{Model}
use Rattle.cpp_conditions.specs.Expressions.{found}
use Rattle.c_grammar.specs.declared.items.Item.{Item}
use Rattle.feature_values.specs.declared.feature_uses.Use.{Use}
use Rattle.feature_values.specs.Declarators.{presets}
use Rattle.feature_values.specs.Values.{use_at, uses_from, uses_of}
use Rattle.family_names.specs.Names as family
use Rattle.family_names.specs.Names.{NameContext, behind_main, declared_by, is_among, is_feature, is_feature_name, is_value, names_of, values_of}
use Rattle.family_names.proofs.Declared.{among_once}
use Rattle.c_parser.specs.FamilyItems.{has}
use Rattle.c_parser.proofs.AmongNumbers.{is_same, or_cases}
use Rattle.c_parser.proofs.FewNames.{all_fine}
use Rattle.c_parser.proofs.KeptNames.{no_value}

-- ---- the numbers of uses

-- a use has this number
abbrev has_number : ℕ → List Use → Bool
has_number n us = list_any (λ u. nat_eq n u.name) us

preset_numbers : (n : ℕ) (us : List Use) (values : List ℤ) → list_any (nat_eq n) (map (λ v. v.0) (presets us values)) ≡ has_number n us
preset_numbers n [] values = refl
preset_numbers n (u ∷ us) values = ap (λ (b : Bool). nat_eq n u.name || b) (preset_numbers n us values)

lower : (n k : ℕ) → n < k → nat_eq n k ≡ false
lower n k h = grind (arith, nat_tests)

higher : (n k : ℕ) → k < n → nat_eq n k ≡ false
higher n k h = grind (arith, nat_tests)

itself : (n k : ℕ) → n ≡ k → nat_eq n k ≡ true
itself n k e = grind (arith, nat_tests)

not_at : (n k : ℕ) (o : Option ℕ) → nat_eq n k ≡ false → has_number n (use_at o k) ≡ false
not_at n k None e = refl
not_at n k (Some m) e = ap (λ (b : Bool). b || false) e

-- names from a number on have no lower numbers
none_lower : (fs : List Feature) (n k : ℕ) (names : List (List ℕ)) → n < k → has_number n (uses_from fs k names) ≡ false
none_lower fs n k [] lt = refl
none_lower fs n k (w ∷ ws) lt =
    list_any-append (λ (u : Use). nat_eq n u.name) (use_at (found w fs) k) (uses_from fs (k + 1) ws)
    ∙ ap (λ (b : Bool). b || has_number n (uses_from fs (k + 1) ws)) (not_at n k (found w fs) (lower n k lt))
    ∙ none_lower fs n (k + 1) ws (omega arith)

abbrev is_some : Option ℕ → Bool
is_some None = false
is_some (Some n) = true

some_next : (o : Option ℕ) → is_some (option_map suc o) ≡ is_some o
some_next None = refl
some_next (Some n) = refl

found_any : (w : List ℕ) (fs : List Feature) → is_some (found w fs) ≡ list_any (λ f. bytes_eq f.name w) fs
found_any w [] = refl
found_any w (f ∷ fs) = elim (bytes_eq f.name w) as (λ b. is_some (if b then Some 0 else option_map suc (found w fs)) ≡ (b || list_any (λ g. bytes_eq g.name w) fs)) [
  | true ↦ refl
  | false ↦ some_next (found w fs) ∙ found_any w fs
]

at_own : (n k : ℕ) (o : Option ℕ) → n ≡ k → has_number n (use_at o k) ≡ is_some o
at_own n k None e = refl
at_own n k (Some m) e = ap (λ (b : Bool). b || false) (itself n k e)

or_nothing : (a b : Bool) → b ≡ false → (a || b) ≡ a
or_nothing true b e = refl
or_nothing false b e = e

feature_numbers : (model : Model) (n k m : ℕ) (names : List (List ℕ)) → n ≡ k + m → has_number n (uses_from model.features k names) ≡ is_feature_name model (slice_get names m)
feature_numbers model n k m [] e = refl
feature_numbers model n k zero (w ∷ ws) e =
    list_any-append (λ (u : Use). nat_eq n u.name) (use_at (found w model.features) k) (uses_from model.features (k + 1) ws)
    ∙ or_nothing (has_number n (use_at (found w model.features) k)) (has_number n (uses_from model.features (k + 1) ws)) (none_lower model.features n (k + 1) ws (omega arith))
    ∙ at_own n k (found w model.features) (omega arith) ∙ found_any w model.features
feature_numbers model n k (suc m) (w ∷ ws) e =
    list_any-append (λ (u : Use). nat_eq n u.name) (use_at (found w model.features) k) (uses_from model.features (k + 1) ws)
    ∙ ap (λ (b : Bool). b || has_number n (uses_from model.features (k + 1) ws)) (not_at n k (found w model.features) (higher n k (omega arith)))
    ∙ feature_numbers model n (k + 1) m ws (omega arith)

-- ---- where no name has a fault

pub number_below : (model : Model) (names : List (List ℕ)) (n : ℕ) → is_feature_name model (slice_get names n) ≡ true → n < length names
number_below model [] n h = absurd cc
number_below model (w ∷ ws) zero h = omega arith
number_below model (w ∷ ws) (suc n) h = omega (arith, number_below model ws n h)

in_filter : (p : ℕ → Bool) (n : ℕ) (xs : List ℕ) → is_among n (filter p xs) ≡ true → p n ≡ true
in_filter p n [] h = absurd cc
in_filter p n (x ∷ xs) h = elim (p x) as (λ b. p x ≡ b → is_among n (cond b (x ∷ filter p xs) (filter p xs)) ≡ true → p n ≡ true) [
  | true ↦ λ e k. (elim (or_cases (nat_eq n x) (is_among n (filter p xs)) k) [
    | inl same ↦ ap p (is_same n x same) ∙ e
    | inr more ↦ in_filter p n xs more
  ])
  | false ↦ λ e k. in_filter p n xs k
] refl h

pub both_ways : (b : Bool) → b ≡ true → b ≡ false → ⊥
both_ways b h k = let bad : true ≡ false = sym h ∙ k in cc

-- a feature's name that occurs is a value's
pub features_are_values : (context : NameContext) (items : List Item) → family.IsFirstNameFault context items None → ((x : ℕ) → x < length context.names → has x items ≡ true) → (n : ℕ) → is_feature context n ≡ is_value context n
features_are_values context items h occur n =
    let f = all_fine context items h in
    elim (is_feature context n) as (λ b. is_feature context n ≡ b → b ≡ is_value context n) [
      | true ↦ λ e. (elim (or_cases (is_among n (declared_by items)) (is_among n (values_of context items)) (f.named n (occur n (number_below context.model context.names n e)))) [
        | inl declared ↦ absurd (both_ways (is_feature context n) e (f.few.apart n declared))
        | inr used ↦ sym (in_filter (is_value context) n (names_of (behind_main items)) (sym (among_once n [] (filter (is_value context) (names_of (behind_main items)))) ∙ used))
      ])
      | false ↦ λ e. sym (no_value context n e)
    ] refl

-- the numbers with values from outside
pub numbers_of_values : (context : NameContext) (items : List Item) (values : List ℤ) → family.IsFirstNameFault context items None → ((x : ℕ) → x < length context.names → has x items ≡ true) → (n : ℕ)
    → list_any (nat_eq n) (map (λ v. v.0) (presets (uses_of context.model.features context.names) values)) ≡ is_value context n
numbers_of_values context items values h occur n =
    preset_numbers n (uses_of context.model.features context.names) values ∙ feature_numbers context.model n 0 n context.names (omega arith) ∙ features_are_values context items h occur n
