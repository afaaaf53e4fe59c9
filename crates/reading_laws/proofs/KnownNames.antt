-- Where no name of a family has a fault, those that it declares are no features', and the others are declared before or those of values.
use Rattle.std.proofs.Common.{◌≡◌, ◌⊎◌, inl, inr, ℕ, nat_eq, Bool, true, false, ◌&&◌, cond, List, [], ◌∷◌, ◌++◌, length, slice_get, Option, Some, None, refl, sym, ap, subst, ◌∙◌}
use Rattle.std.specs.Prelude.{◌||◌, if◌then◌else◌}
use Rattle.std.specs.List.{filter, list_any}
use Rattle.std.specs.Str.{bytes_eq}
use Rattle.std.proofs.lemmas.Bool.{eqb-true}
use Rattle.fam_outer.specs.declared.faults.FileCode.{FileCode}
use Rattle.fam_outer.specs.declared.faults.FileCode.TheVariants.{Undeclared, FeatureInCode}
use Rattle.linear_atoms.specs.declared.atoms.Feature.{Feature}
use Rattle.c_grammar.specs.declared.items.Item.{Item}
use Rattle.c_grammar.specs.declared.items.Sign.{Sign}
use Rattle.c_grammar.specs.declared.items.Sign.TheVariants as signs
use Rattle.family_names.specs.Names.{NameContext, behind_main, names_of, declared_by, is_among, constants_of, values_of, is_feature, is_value, is_integer, feature_in, named_feature, is_feature_name, is_missed, is_used_behind, value_fault, IsFirstNameFault, IsFaultFrom, IsChangeOr, IsNameFault, IsUseFault, IsDeclarationFault, IsWithFirst, IsEither, changed_place}
use Rattle.family_names.proofs.Declared.{among_once}
use Rattle.c_parser.specs.FamilyItems.{has}
use Rattle.c_parser.proofs.AmongNumbers.{or_cases}
use Rattle.c_parser.proofs.FewNames.{used_other, no_feature_declared, all_fine, later_of}

-- ---- a value is a feature

in_features : (features : List Feature) (name : List ℕ) → is_integer (feature_in features name) ≡ true → list_any (λ f. bytes_eq f.name name) features ≡ true
in_features [] name h = absurd cc
in_features (f ∷ fs) name h = elim (bytes_eq f.name name) as (λ b. is_integer (if b then Some f else feature_in fs name) ≡ true → (b || list_any (λ g. bytes_eq g.name name) fs) ≡ true) [
  | true ↦ λ _. refl
  | false ↦ λ k. in_features fs name k
] h

named_value : (context : NameContext) (name : Option (List ℕ)) → is_integer (named_feature context.model name) ≡ true → is_feature_name context.model name ≡ true
named_value context None h = absurd cc
named_value context (Some name) h = in_features context.model.features name h

pub value_named : (context : NameContext) (x : ℕ) → is_value context x ≡ true → is_feature context x ≡ true
value_named context x h = named_value context (slice_get context.names x) h

-- ---- one item after another

-- a name that is declared behind these items is no feature's, and one that is used is declared by them or a value's
abbrev pub IsKnown : NameContext → List Item → ℕ → Type 0
IsKnown context before n = IsEither (is_used_behind before) ((is_among n (declared_by before) ≡ true) ⊎ (is_value context n ≡ true)) (is_feature context n ≡ false)

abbrev ByDeclaration : NameContext → List Item → ℕ → Type 0
ByDeclaration context before n = IsEither (is_feature context n) (◌≡◌ {A = Option FileCode} None (Some FeatureInCode))
    (IsEither (is_among n (declared_by before)) (IsWithFirst context.model (is_missed context before n) Undeclared None None) (◌≡◌ {A = Option FileCode} None (Some (Undeclared None))))

used_known : (context : NameContext) (before : List Item) (n : ℕ) → IsUseFault context before n None → (is_among n (declared_by before) ≡ true) ⊎ (is_value context n ≡ true)
used_known context before n h =
    elim (is_value context n) as (λ b. IsEither b (None ≡ value_fault context (values_of context before) (length (constants_of before)) n) (ByDeclaration context before n) → (is_among n (declared_by before) ≡ true) ⊎ (b ≡ true)) [
      | true ↦ λ _. inr refl
      | false ↦ λ k. inl (used_other context before n k)
    ] h

name_known : (context : NameContext) (before : List Item) (n : ℕ) → IsNameFault context before (signs.Name n) None → IsKnown context before n
name_known context before n h = elim (is_used_behind before) as (λ b. IsEither b (IsUseFault context before n None) (IsDeclarationFault context before n None)
    → IsEither b ((is_among n (declared_by before) ≡ true) ⊎ (is_value context n ≡ true)) (is_feature context n ≡ false)) [
      | true ↦ λ k. used_known context before n k
      | false ↦ λ k. no_feature_declared context before n k
    ] h

abbrev pub AreKnown : NameContext → List Item → List Item → Type 0
AreKnown context before [] = Unit {0}
AreKnown context before (x ∷ xs) = ((n : ℕ) → x.sign ≡ signs.Name n → IsKnown context before n) × AreKnown context (before ++ x ∷ []) xs

pub names_known : (context : NameContext) (before xs : List Item) → IsFaultFrom context before xs None → AreKnown context before xs
names_known context before [] h = tt
names_known context before (x ∷ xs) h =
    let l = later_of h.0 x.place (IsChangeOr context before x None (IsFaultFrom context (before ++ x ∷ []) xs None)) h.2 in
    let m = later_of l.1.0 (changed_place before x) (IsFaultFrom context (before ++ x ∷ []) xs None) l.1.2 in
    let fine = subst (λ (c : Option FileCode). IsNameFault context before x.sign c) l.0 h.1 in
    (λ n e. name_known context before n (subst (λ (s : Sign). IsNameFault context before s None) e fine), names_known context (before ++ x ∷ []) xs m.1)

-- ---- all names

-- a number among those that pass a test passes it
pub both_pass : (P : ℕ → Bool) (xs : List ℕ) (n : ℕ) → list_any (nat_eq n) (filter P xs) ≡ (P n && list_any (nat_eq n) xs)
both_pass P [] n = elim (P n) as (λ b. false ≡ (b && false)) [ true ↦ refl | false ↦ refl ]
both_pass P (x ∷ xs) n = elim (P x) as (λ p. P x ≡ p → list_any (nat_eq n) (cond p (x ∷ filter P xs) (filter P xs)) ≡ (P n && (nat_eq n x || list_any (nat_eq n) xs))) [
  | true ↦ λ px. (elim (nat_eq n x) as (λ e. nat_eq n x ≡ e → (e || list_any (nat_eq n) (filter P xs)) ≡ (P n && (e || list_any (nat_eq n) xs))) [
    | true ↦ λ e. sym (ap (λ (b : Bool). b && true) (ap P (eqb-true n x e) ∙ px))
    | false ↦ λ _. both_pass P xs n
  ] refl)
  | false ↦ λ px. (elim (nat_eq n x) as (λ e. nat_eq n x ≡ e → list_any (nat_eq n) (filter P xs) ≡ (P n && (e || list_any (nat_eq n) xs))) [
    | true ↦ λ e. (let none : P n ≡ false = ap P (eqb-true n x e) ∙ px in
        both_pass P xs n ∙ ap (λ (b : Bool). b && list_any (nat_eq n) xs) none ∙ sym (ap (λ (b : Bool). b && true) none))
    | false ↦ λ _. both_pass P xs n
  ] refl)
] refl

passes : (a b : Bool) → (a && b) ≡ true → a ≡ true
passes true b h = refl
passes false b h = absurd cc

-- the name of an item is no feature's, or a value's
pub names_free : (context : NameContext) (items : List Item) → IsFirstNameFault context items None → (n : ℕ) → has n items ≡ true → (is_feature context n ≡ false) ⊎ (is_value context n ≡ true)
names_free context items h n there =
    let f = all_fine context items h in
    let values = filter (is_value context) (names_of (behind_main items)) in
    elim (or_cases (is_among n (declared_by items)) (is_among n (values_of context items)) (f.named n there)) [
      | inl e ↦ inl (f.few.apart n e)
      | inr e ↦ inr (passes (is_value context n) (is_among n (names_of (behind_main items))) (sym (both_pass (is_value context) (names_of (behind_main items)) n) ∙ sym (among_once n [] values) ∙ e))
    ]
