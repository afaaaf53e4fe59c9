-- The names with values from outside are those of features.
use Rattle.std.proofs.Common.{◌≡◌, ℕ, zero, suc, ◌+◌, nat_eq, Bool, true, false, ◌||◌, List, [], ◌∷◌, ◌++◌, map, slice_get, Option, Some, None, refl, sym, ap, ◌∙◌, arith}
use Rattle.std.specs.Prelude.{ℤ, option_map, if◌then◌else◌}
use Rattle.std.specs.List.{list_any}
use Rattle.std.specs.Str.{bytes_eq}
use Rattle.std.proofs.lemmas.Bool.{eq-eqb, eqb-true, or_right}
use Rattle.std.proofs.lemmas.List.Folds.{list_any-append}
use Rattle.linear_atoms.specs.declared.atoms.Feature.{Feature}
use Rattle.cpp_conditions.specs.Expressions.{found}
use Rattle.feature_values.specs.declared.feature_uses.Use.{Use}
use Rattle.feature_values.specs.Declarators.{presets}
use Rattle.feature_values.specs.Values.{use_at, uses_from}
use Rattle.family_names.specs.Names.{NameContext, is_feature, is_feature_name}
use Rattle.c_parser.specs.Names.{has_value}
use Rattle.c_parser.specs.Reading.{outside}
use Rattle.c_parser.specs.Variants.{given_of}

abbrev no_number : Option ℕ
no_number = None

-- no feature has the name
not_found : (fs : List Feature) (name : List ℕ) → list_any (λ f. bytes_eq f.name name) fs ≡ false → found name fs ≡ None
not_found [] name h = refl
not_found (f ∷ fs) name h = elim (bytes_eq f.name name) as (λ b. (b || list_any (λ g. bytes_eq g.name name) fs) ≡ false → (if b then Some 0 else option_map suc (found name fs)) ≡ no_number) [
  | true ↦ λ e. absurd cc
  | false ↦ λ e. ap (option_map suc) (not_found fs name e)
] h

-- the numbers of names with values
abbrev numbers : List Use → List ℤ → List ℕ
numbers uses values = map (λ (v : ℕ × ℤ). v.0) (presets uses values)

numbers_both : (us ws : List Use) (values : List ℤ) → numbers (us ++ ws) values ≡ numbers us values ++ numbers ws values
numbers_both [] ws values = refl
numbers_both (u ∷ us) ws values = ap (λ (ns : List ℕ). u.name ∷ ns) (numbers_both us ws values)

-- another number, or one whose name is no feature's
not_at : (o : Option ℕ) (k n : ℕ) (values : List ℤ) → (nat_eq n k ≡ true → o ≡ None) → list_any (nat_eq n) (numbers (use_at o k) values) ≡ false
not_at None k n values h = refl
not_at (Some m) k n values h = elim (nat_eq n k) as (λ b. nat_eq n k ≡ b → (b || false) ≡ false) [
  | true ↦ λ e. absurd (let bad : Some m ≡ no_number = h e in cc)
  | false ↦ λ e. refl
] refl

one_on : (n k i : ℕ) → n ≡ (k + 1) + i → n ≡ k + suc i
one_on n k i e = omega (arith, e)

-- names from a number on, of which the one with this number is no feature's
none_used : (fs : List Feature) (values : List ℤ) (k : ℕ) (names : List (List ℕ)) (n : ℕ) → ((i : ℕ) (name : List ℕ) → n ≡ k + i → slice_get names i ≡ Some name → list_any (λ f. bytes_eq f.name name) fs ≡ false)
    → list_any (nat_eq n) (numbers (uses_from fs k names) values) ≡ false
none_used fs values k [] n h = refl
none_used fs values k (name ∷ names) n h =
    let here : list_any (nat_eq n) (numbers (use_at (found name fs) k) values) ≡ false = not_at (found name fs) k n values (λ e. (let is : n ≡ k = eqb-true n k e in not_found fs name (h 0 name (omega (arith, is)) refl))) in
    ap (list_any (nat_eq n)) (numbers_both (use_at (found name fs) k) (uses_from fs (k + 1) names) values)
    ∙ list_any-append (nat_eq n) (numbers (use_at (found name fs) k) values) (numbers (uses_from fs (k + 1) names) values)
    ∙ ap (λ (b : Bool). b || list_any (nat_eq n) (numbers (uses_from fs (k + 1) names) values)) here
    ∙ none_used fs values (k + 1) names n (λ i other e g. h (suc i) other (one_on n k i e) g)

pub none_outside : (context : NameContext) (values : List ℤ) (n : ℕ) → is_feature context n ≡ false → has_value (outside (given_of context.model.features context.functions context.names values)) n ≡ false
none_outside context values n h =
    none_used context.model.features values 0 context.names n (λ i name e g. (
    let is : i ≡ n = omega (arith, e) in
    sym (ap (is_feature_name context.model) (ap (slice_get context.names) (sym is) ∙ g)) ∙ h))

-- ---- a feature's name has one

number_of : (fs : List Feature) (name : List ℕ) → list_any (λ f. bytes_eq f.name name) fs ≡ true → (m : ℕ) × (found name fs ≡ Some m)
number_of [] name h = absurd cc
number_of (f ∷ fs) name h = elim (bytes_eq f.name name) as (λ b. (b || list_any (λ g. bytes_eq g.name name) fs) ≡ true → (m : ℕ) × ((if b then Some 0 else option_map suc (found name fs)) ≡ Some m)) [
  | true ↦ λ _. (0, refl)
  | false ↦ λ e. (let m = number_of fs name e in (suc m.0, ap (option_map suc) m.1))
] h

used_here : (o : Option ℕ) (m k : ℕ) (values : List ℤ) → o ≡ Some m → list_any (nat_eq k) (numbers (use_at o k) values) ≡ true
used_here None m k values e = absurd cc
used_here (Some i) m k values e = ap (λ (b : Bool). b || false) (eq-eqb k k refl)

one_off : (n k i : ℕ) → n ≡ k + suc i → n ≡ (k + 1) + i
one_off n k i e = omega (arith, e)

some_name : (v w : List ℕ) → slice_get (v ∷ []) 0 ≡ Some w → v ≡ w
some_name v w e = cc

used_there : (fs : List Feature) (values : List ℤ) (k : ℕ) (names : List (List ℕ)) (n i : ℕ) (name : List ℕ) → n ≡ k + i → slice_get names i ≡ Some name → list_any (λ f. bytes_eq f.name name) fs ≡ true
    → list_any (nat_eq n) (numbers (uses_from fs k names) values) ≡ true
used_there fs values k [] n i name e g h = absurd cc
used_there fs values k (w ∷ ws) n zero name e g h =
    let same : w ≡ name = some_name w name g in
    let here : n ≡ k = omega (arith, e) in
    let m = number_of fs w (ap (λ (v : List ℕ). list_any (λ f. bytes_eq f.name v) fs) same ∙ h) in
    ap (list_any (nat_eq n)) (numbers_both (use_at (found w fs) k) (uses_from fs (k + 1) ws) values)
    ∙ list_any-append (nat_eq n) (numbers (use_at (found w fs) k) values) (numbers (uses_from fs (k + 1) ws) values)
    ∙ ap (λ (b : Bool). b || list_any (nat_eq n) (numbers (uses_from fs (k + 1) ws) values)) (ap (λ (j : ℕ). list_any (nat_eq j) (numbers (use_at (found w fs) k) values)) here ∙ used_here (found w fs) m.0 k values m.1)
used_there fs values k (w ∷ ws) n (suc i) name e g h =
    ap (list_any (nat_eq n)) (numbers_both (use_at (found w fs) k) (uses_from fs (k + 1) ws) values)
    ∙ list_any-append (nat_eq n) (numbers (use_at (found w fs) k) values) (numbers (uses_from fs (k + 1) ws) values)
    ∙ or_right (list_any (nat_eq n) (numbers (use_at (found w fs) k) values)) (list_any (nat_eq n) (numbers (uses_from fs (k + 1) ws) values)) (used_there fs values (k + 1) ws n i name (one_off n k i e) g h)

from_none : (n : ℕ) → n ≡ 0 + n
from_none n = omega arith

pub some_outside : (context : NameContext) (values : List ℤ) (n : ℕ) → is_feature context n ≡ true → has_value (outside (given_of context.model.features context.functions context.names values)) n ≡ true
some_outside context values n h = elim (slice_get context.names n) as (λ o. slice_get context.names n ≡ o → is_feature_name context.model o ≡ true → has_value (outside (given_of context.model.features context.functions context.names values)) n ≡ true) [
  | None ↦ λ g e. absurd cc
  | Some name ↦ λ g e. used_there context.model.features values 0 context.names n n name (from_none n) g e
] refl h
