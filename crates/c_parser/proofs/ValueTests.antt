-- A family without a fault of a name has few tests of the features that it uses as values.
use Rattle.std.proofs.Common.{◌≡◌, ◌⊎◌, inl, inr, ℕ, suc, ◌+◌, ◌≤◌, ◌<◌, nat_eq, true, false, ◌||◌, List, [], ◌∷◌, ◌++◌, length, slice_get, Option, Some, None, refl, sym, ap, ◌∙◌, arith}
use Rattle.std.specs.Prelude.{if◌then◌else◌, option_map, sum_by}
use Rattle.std.specs.Str.{bytes_eq}
use Rattle.std.proofs.lemmas.Bool.Decides.{nat_tests}
use Rattle.std.proofs.lemmas.List.Sums.{sum_by-cons}
use Rattle.linear_atoms.specs.declared.atoms.Feature.{Feature}
use Rattle.cpp_conditions.specs.declared.models.Model.{Model}
use Rattle.cpp_conditions.specs.Expressions.{found}
use Rattle.c_grammar.specs.declared.items.Item.{Item}
use Rattle.feature_values.specs.declared.feature_uses.Use.{Use}
use Rattle.feature_values.specs.Values.{test_count, use_at, uses_from, uses_of, width_at}
use Rattle.family_names.specs.Names as family
use Rattle.family_names.specs.Names.{NameContext, declared_by, feature_in, feature_of, is_among, is_feature, named_feature, values_of, width_or_none}
use Rattle.c_parser.specs.FamilyItems.{has}
use Rattle.c_parser.proofs.AmongNumbers.{is_same, or_cases, others_stay, without}
use Rattle.c_parser.proofs.FewNames.{all_fine}
use Rattle.c_parser.proofs.KeptNames.{no_named}
use Rattle.c_parser.proofs.ValueNames.{both_ways, number_below}

-- ---- the tests of a name

-- the tests of the feature at a place, and none without one
abbrev tests_at : List Feature → Option ℕ → ℕ
tests_at fs None = 0
tests_at fs (Some n) = width_at fs n

next_tests : (f : Feature) (fs : List Feature) (o : Option ℕ) → tests_at (f ∷ fs) (option_map suc o) ≡ tests_at fs o
next_tests f fs None = refl
next_tests f fs (Some n) = refl

tests_of_name : (fs : List Feature) (w : List ℕ) → tests_at fs (found w fs) ≡ width_or_none (feature_in fs w)
tests_of_name [] w = refl
tests_of_name (f ∷ fs) w = elim (bytes_eq f.name w) as (λ b. tests_at (f ∷ fs) (if b then Some 0 else option_map suc (found w fs)) ≡ width_or_none (if b then Some f else feature_in fs w)) [
  | true ↦ refl
  | false ↦ next_tests f fs (found w fs) ∙ tests_of_name fs w
]

one_use : (fs : List Feature) (o : Option ℕ) (k : ℕ) (us : List Use) → test_count fs (use_at o k ++ us) ≡ tests_at fs o + test_count fs us
one_use fs None k us = omega arith
one_use fs (Some n) k us = refl

-- ---- a sum over numbers, each of which counts nothing or is among others

left_sum : (g : ℕ → ℕ) (n : ℕ) (ys : List ℕ) → is_among n ys ≡ true → sum_by g ys ≡ g n + sum_by g (without n ys)
unfolding without
left_sum g n [] h = absurd cc
left_sum g n (y ∷ ys) h = elim (nat_eq n y) as (λ b. nat_eq n y ≡ b → (b || is_among n ys) ≡ true → sum_by g (y ∷ ys) ≡ g n + sum_by g (if b then ys else y ∷ without n ys)) [
  | true ↦ λ e _. sum_by-cons g y ys ∙ ap (λ (m : ℕ). g m + sum_by g ys) (sym (is_same n y e))
  | false ↦ λ e k.
      (let kept : sum_by g (y ∷ ys) ≡ g n + sum_by g (y ∷ without n ys) = omega (arith, sum_by-cons g y ys, sum_by-cons g y (without n ys), left_sum g n ys k) in kept)
] refl h

beyond : (x k : ℕ) → k < x → nat_eq x k ≡ false
beyond x k h = grind (arith, nat_tests)

few_tests_from : (model : Model) (g : ℕ → ℕ) (k : ℕ) (names : List (List ℕ)) (ys : List ℕ) → ((m : ℕ) → g (k + m) ≡ width_or_none (named_feature model (slice_get names m))) → ((x : ℕ) → k ≤ x → (g x ≡ 0) ⊎ (is_among x ys ≡ true))
    → test_count model.features (uses_from model.features k names) ≤ sum_by g ys
few_tests_from model g k [] ys same all = omega arith
few_tests_from model g k (w ∷ ws) ys same all =
    let here : tests_at model.features (found w model.features) ≡ g k =
    tests_of_name model.features w ∙ sym (same 0) ∙ ap g (let e : k + 0 ≡ k = omega arith in e) in
    let count = one_use model.features (found w model.features) k (uses_from model.features (k + 1) ws) in
    let next : (m : ℕ) → g (k + 1 + m) ≡ width_or_none (named_feature model (slice_get ws m)) = λ m. ap g (let e : k + 1 + m ≡ k + suc m = omega arith in e) ∙ same (suc m) in
    elim (all k (omega arith)) [
      | inl none ↦ omega (arith, count, here, none, few_tests_from model g (k + 1) ws ys next (λ x le. all x (omega arith)))
      | inr there ↦ omega (
        arith,
        count,
        here,
        left_sum g k ys there,
        few_tests_from model g (k + 1) ws (without k ys) next (λ x le. (elim (all x (omega arith)) [
          | inl none ↦ inl none
          | inr more ↦ inr (others_stay k x ys (beyond x k (omega arith)) more)
        ])),
      )
    ]

-- ---- a family

used_or_none : (context : NameContext) (items : List Item) → family.IsFirstNameFault context items None → ((x : ℕ) → x < length context.names → has x items ≡ true) → (n : ℕ) → (width_or_none (feature_of context n) ≡ 0) ⊎ (is_among n (values_of context items) ≡ true)
used_or_none context items h occur n =
    let f = all_fine context items h in
    elim (is_feature context n) as (λ b. is_feature context n ≡ b → (width_or_none (feature_of context n) ≡ 0) ⊎ (is_among n (values_of context items) ≡ true)) [
      | true ↦ λ e. (elim (or_cases (is_among n (declared_by items)) (is_among n (values_of context items)) (f.named n (occur n (number_below context.model context.names n e)))) [
        | inl declared ↦ absurd (both_ways (is_feature context n) e (f.few.apart n declared))
        | inr used ↦ inr used
      ])
      | false ↦ λ e. inl (ap width_or_none (no_named context.model (slice_get context.names n) e))
    ] refl

-- the tests of the features that the names of a family name are at most 256
pub few_value_tests : (context : NameContext) (items : List Item) → family.IsFirstNameFault context items None → ((x : ℕ) → x < length context.names → has x items ≡ true) → test_count context.model.features (uses_of context.model.features context.names) ≤ 256
few_value_tests context items h occur =
    let g : ℕ → ℕ = λ n. width_or_none (feature_of context n) in
    let zeros : (m : ℕ) → g (0 + m) ≡ width_or_none (named_feature context.model (slice_get context.names m)) = λ m. ap g (let e : 0 + m ≡ m = omega arith in e) in
    let le : test_count context.model.features (uses_from context.model.features 0 context.names) ≤ family.test_count context (values_of context items) =
    few_tests_from context.model g 0 context.names (values_of context items) zeros (λ x _. used_or_none context items h occur x) in
    omega (arith, le, (all_fine context items h).few.tests)
