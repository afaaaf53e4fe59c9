-- Names with the features that have them.
use Rattle.std.proofs.Common.{◌≡◌, ℕ, zero, suc, ◌+◌, ◌<◌, ◌≤◌, Bool, true, false, if◌then◌else◌, List, [], ◌∷◌, ◌++◌, length, Option, Some, None, IfSome, refl, ap, subst, sym, ◌∙◌, arith, append_assoc}
use Rattle.std.specs.Prelude.{option_map}
use Rattle.std.specs.List.{All}
use Rattle.std.specs.Str.{bytes_eq}
use Rattle.std.proofs.lemmas.List.{append-nil}
use Rattle.std.proofs.lemmas.List.Elements.{All-nil, All-cons, All-append}
use Rattle.linear_atoms.specs.declared.atoms.Feature.{Feature}
use Rattle.cpp_conditions.specs.Expressions.{found}
use Rattle.feature_values.specs.declared.feature_uses.Use.{Use}
use Rattle.feature_values.specs.Laws.{UsesStand}
use Rattle.feature_values.specs.Values.{use_at, uses_from, AreUses, AreNamed}

-- ---- one name after another

pub use_taken : (features : List Feature) (x : ℕ) (made more all : List Use) (rest behind : List (List ℕ)) (name : List ℕ) → rest ≡ name ∷ behind → more ≡ made ++ use_at (found name features) x
    → made ++ uses_from features x rest ≡ all → more ++ uses_from features (x + 1) behind ≡ all
use_taken features x made more all rest behind name e m w =
    ap (λ (l : List Use). l ++ uses_from features (x + 1) behind) m
    ∙ append_assoc made (use_at (found name features) x) (uses_from features (x + 1) behind)
    ∙ ap (λ (l : List (List ℕ)). made ++ uses_from features x l) (sym e) ∙ w

pub no_name_left : (features : List Feature) (x : ℕ) (made all : List Use) (rest : List (List ℕ)) → rest ≡ [] → made ++ uses_from features x rest ≡ all → made ≡ all
no_name_left features x made all rest e w = sym (append-nil made) ∙ ap (λ (l : List (List ℕ)). made ++ uses_from features x l) (sym e) ∙ w

-- ---- uses are of the features and of the names

one_more : (r : Option ℕ) (count : ℕ) → IfSome r (λ n. n < count) → IfSome (option_map suc r) (λ n. n < suc count)
one_more None count h = tt
one_more (Some n) count h = omega arith

found_by : (b : Bool) (r : Option ℕ) (count : ℕ) → IfSome r (λ n. n < count) → IfSome (if b then Some 0 else option_map suc r) (λ n. n < suc count)
found_by true r count h = omega arith
found_by false r count h = one_more r count h

found_below : (name : List ℕ) (features : List Feature) → IfSome (found name features) (λ n. n < length features)
found_below name [] = tt
found_below name (f ∷ fs) = found_by (bytes_eq f.name name) (found name fs) (length fs) (found_below name fs)

use_stands : (features : List Feature) (r : Option ℕ) (x : ℕ) → IfSome r (λ n. n < length features) → AreUses features (use_at r x)
use_stands features None x h = All-nil (λ (u : Use). u.feature < length features)
use_stands features (Some n) x h = All-cons (λ (u : Use). u.feature < length features) (record { feature = n; name = x }) [] h (All-nil (λ (u : Use). u.feature < length features))

uses_stand_from : (features : List Feature) (x : ℕ) (names : List (List ℕ)) → AreUses features (uses_from features x names)
uses_stand_from features x [] = All-nil (λ (u : Use). u.feature < length features)
uses_stand_from features x (name ∷ names) =
    All-append (λ (u : Use). u.feature < length features) (use_at (found name features) x) (uses_from features (x + 1) names)
    (use_stands features (found name features) x (found_below name features)) (uses_stand_from features (x + 1) names)

use_named : (count : ℕ) (r : Option ℕ) (x : ℕ) → x < count → AreNamed count (use_at r x)
use_named count None x h = All-nil (λ (u : Use). u.name < count)
use_named count (Some n) x h = All-cons (λ (u : Use). u.name < count) (record { feature = n; name = x }) [] h (All-nil (λ (u : Use). u.name < count))

uses_named_from : (features : List Feature) (count x : ℕ) (names : List (List ℕ)) → x + length names ≤ count → AreNamed count (uses_from features x names)
uses_named_from features count x [] h = All-nil (λ (u : Use). u.name < count)
uses_named_from features count x (name ∷ names) h =
    All-append (λ (u : Use). u.name < count) (use_at (found name features) x) (uses_from features (x + 1) names)
    (use_named count (found name features) x (omega arith)) (uses_named_from features count (x + 1) names (omega arith))

pub uses_are : UsesStand
uses_are features names = (uses_stand_from features 0 names, uses_named_from features (length names) 0 names (omega arith))
