-- Names of features.
use Rattle.std.proofs.Common.{◌≡◌, ℕ, zero, suc, ◌<◌, ℤ, pos, ◌≤ℤ◌, Bool, true, false, not, ◌||◌, if◌then◌else◌, List, [], ◌∷◌, length, codes, slice_index_or, Some, None, option_map, refl, sym, ap, subst, ◌∙◌, arith}
use Rattle.std.specs.Str.{bytes_eq}
use Rattle.std.proofs.lemmas.Slice.Eq.{bytes_eq-Decides}
use Rattle.c_words.specs.Keywords.{is_among, keywords, other_words}
use Rattle.linear_atoms.specs.declared.atoms.Feature.{Feature}
use Rattle.linear_atoms.specs.Atoms.{IsWithin}
use Rattle.linear_atoms.specs.Texts.{name_at, boolean_at}
use Rattle.cpp_conditions.specs.Expressions.{Name, found, value, value_at}
use Rattle.c_words.specs.Identifiers.{is_identifier, begins_with_two_underscores}
use Rattle.cpp_conditions.specs.Tokens.{Word, Defined, word_token}
use Rattle.feature_model.specs.Features.{AreDistinct, AreNamed, HaveSwitches}
use Rattle.feature_model.specs.Names.{is_misnamed}

neither : (x y : Bool) → (x || y) ≡ false → (x ≡ false) × (y ≡ false)
neither true y e = absurd cc
neither false y e = (refl, e)

not_false : (x : Bool) → not x ≡ false → x ≡ true
not_false true e = refl
not_false false e = absurd cc

named_at : (features : List Feature) (n : ℕ) → AreNamed features → n < length features → is_misnamed (name_at features n) ≡ false
named_at [] n h lt = absurd (omega (arith, lt))
named_at (f ∷ fs) zero h lt = h.0
named_at (f ∷ fs) (suc n) h lt = named_at fs n h.1 (omega (arith, lt))

identifier : (name : List ℕ) → is_misnamed name ≡ false → is_identifier name ≡ true
identifier name e = not_false (is_identifier name) (neither (not (is_identifier name)) (begins_with_two_underscores name || (is_among keywords name || is_among other_words name)) e).0

unreserved : (name : List ℕ) → is_misnamed name ≡ false → begins_with_two_underscores name ≡ false
unreserved name e =
    let own = (neither (not (is_identifier name)) (begins_with_two_underscores name || (is_among keywords name || is_among other_words name)) e).1 in
    (neither (begins_with_two_underscores name) (is_among keywords name || is_among other_words name) own).0

no_defined : (name : List ℕ) → is_misnamed name ≡ false → bytes_eq name (codes "defined") ≡ false
no_defined name e =
    let own = (neither (not (is_identifier name)) (begins_with_two_underscores name || (is_among keywords name || is_among other_words name)) e).1 in
    let words = (neither (begins_with_two_underscores name) (is_among keywords name || is_among other_words name) own).1 in
    let others = (neither (is_among keywords name) (is_among other_words name) words).1 in
    let second = (neither (bytes_eq name (codes "main")) _ others).1 in
    let third = (neither (bytes_eq name (codes "assert")) _ second).1 in
    let fourth = (neither (bytes_eq name (codes "input")) _ third).1 in
    (neither (bytes_eq name (codes "defined")) _ fourth).0

-- a feature's name is a word
pub record IsNamed (name : List ℕ) : Type 0 where
  pub identifier : is_identifier name ≡ true
  pub word : word_token name ≡ Word name
  pub free : begins_with_two_underscores name ≡ false

pub is_named : (features : List Feature) (n : ℕ) → AreNamed features → n < length features → IsNamed (name_at features n)
is_named features n h lt =
    let name = name_at features n in
    let e = named_at features n h lt in
    record { identifier = identifier name e; word = ap (λ b. if b then Defined else Word name) (no_defined name e); free = unreserved name e }

no_some : (n : ℕ) → None ≡ Some n → ⊥
no_some n e = cc

-- the feature of a name is that at its place
pub found_at : (features : List Feature) (n : ℕ) → AreDistinct features → n < length features → found (name_at features n) features ≡ Some n
found_at [] n h lt = absurd (omega (arith, lt))
found_at (f ∷ fs) zero h lt = ap (λ b. if b then Some 0 else option_map suc (found f.name fs)) ((bytes_eq-Decides f.name f.name).1 refl)
found_at (f ∷ fs) (suc n) h lt =
    let name = name_at fs n in
    let later : found name fs ≡ Some n = found_at fs n h.1 (omega (arith, lt)) in
    elim (bytes_eq f.name name) as (λ b. bytes_eq f.name name ≡ b → (if b then Some 0 else option_map suc (found name fs)) ≡ Some (suc n)) [
      | true ↦ λ e. absurd (no_some n (sym h.0 ∙ ap (λ x. found x fs) ((bytes_eq-Decides f.name name).0 e) ∙ later))
      | false ↦ λ e. ap (option_map suc) later
    ] refl

pub value_of_name : (features : List Feature) (values : List ℤ) (n : ℕ) → AreDistinct features → n < length features
    → value features values (Name (name_at features n)) ≡ slice_index_or values n (pos 0)
value_of_name features values n h lt = ap (value_at values) (found_at features n h lt)

-- a Boolean feature is 0 or 1
pub switch_at : (features : List Feature) (values : List ℤ) (n : ℕ) → HaveSwitches features → IsWithin features values → n < length features → boolean_at features n ≡ true
    → (pos 0 ≤ℤ slice_index_or values n (pos 0)) × (slice_index_or values n (pos 0) ≤ℤ pos 1)
switch_at [] values n s w lt b = absurd (omega (arith, lt))
switch_at (f ∷ fs) [] n s w lt b = absurd w
switch_at (f ∷ fs) (v ∷ vs) zero s w lt b =
    let r = s.0 b in
    (subst (λ x. x ≤ℤ v) r.0 w.0, subst (λ x. v ≤ℤ x) r.1 w.1)
switch_at (f ∷ fs) (v ∷ vs) (suc n) s w lt b = switch_at fs vs n s.1 w.2 (omega (arith, lt)) b
