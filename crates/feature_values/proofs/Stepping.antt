-- Declarators and tests of one number after another, and of one use after another.
use Rattle.std.proofs.Common.{◌≡◌, ℕ, zero, suc, ◌+◌, ◌<◌, ℤ, pos, ◌+ℤ◌, List, [], ◌∷◌, ◌++◌, length, map, get_or, refl, ap, subst, sym, ◌∙◌, arith, append_assoc, add-one}
use Rattle.std.proofs.lemmas.List.{map-append}
use Rattle.linear_atoms.specs.declared.atoms.Atom.{Atom}
use Rattle.linear_atoms.specs.declared.atoms.Feature.{Feature}
use Rattle.c_tree.specs.declared.lists.Declared.{Declared}
use Rattle.c_tree.specs.declared.lists.Guard.{Guard}
use Rattle.cpp_conditions.specs.declared.conditions.Condition.{Condition}
use Rattle.cpp_conditions.specs.Propositions.{Proposition, Test}
use Rattle.cpp_conditions.specs.View.{proposition}
use Rattle.feature_values.specs.declared.feature_uses.Use.{Use}
use Rattle.feature_values.specs.Declarators.{is_true, declarators_above, declarators}
use Rattle.feature_values.specs.Values.{width, low_at, width_at, value_test, tests_above, tests_of}
use Rattle.feature_values.proofs.Ranges.{low_of, width_of}

-- ---- declarators

abbrev guarded : ℕ → ℤ → List Guard → Declared
guarded x v gs = record { target = x; value = v; guards = gs }

pub value_more : (number x left next : ℕ) (low v : ℤ) (made more all : List Declared) (gs : List Guard) → left ≡ next + 1 → v ≡ low +ℤ pos 1 → gs ≡ is_true number ∷ [] → more ≡ made ++ guarded x v gs ∷ []
    → made ++ declarators_above number x low left ≡ all → more ++ declarators_above (number + 1) x v next ≡ all
value_more number x left next low v made more all gs l e g m w =
    ap (λ (ds : List Declared). ds ++ declarators_above (number + 1) x v next) m
    ∙ append_assoc made (guarded x v gs ∷ []) (declarators_above (number + 1) x v next)
    ∙ ap (λ (hs : List Guard). made ++ guarded x v hs ∷ declarators_above (number + 1) x v next) g
    ∙ ap (λ (z : ℤ). made ++ guarded x z (is_true number ∷ []) ∷ declarators_above (number + 1) x z next) e
    ∙ ap (λ (n : ℕ). made ++ declarators_above number x low n) (sym (l ∙ add-one next)) ∙ w

above_use : (first : ℕ) (features : List Feature) (u : Use) (f : Feature) (us : List Use) → u.feature < length features → f ≡ get_or features u.feature f
    → declarators first features (u ∷ us) ≡ guarded u.name f.low [] ∷ (declarators_above first u.name f.low (width f) ++ declarators (first + width f) features us)
above_use first features u f us l e =
    ap (λ (z : ℤ). guarded u.name z [] ∷ (declarators_above first u.name z (width_at features u.feature) ++ declarators (first + width_at features u.feature) features us)) (low_of features u.feature f l e)
    ∙ ap (λ (n : ℕ). guarded u.name f.low [] ∷ (declarators_above first u.name f.low n ++ declarators (first + n) features us)) (width_of features u.feature f l e)

pub use_more : (first count : ℕ) (features : List Feature) (u : Use) (f : Feature) (low v : ℤ) (gs : List Guard) (made mid more all : List Declared) (rest behind : List Use) → rest ≡ u ∷ behind → u.feature < length features
    → f ≡ get_or features u.feature f → count ≡ width f → mid ≡ made ++ guarded u.name v gs ∷ [] → more ≡ mid ++ declarators_above first u.name low count → made ++ declarators first features rest ≡ all
    → gs ≡ [] → v ≡ f.low → low ≡ f.low → more ++ declarators (first + count) features behind ≡ all
use_more first count features u f low v gs made mid more all rest behind r l e n m p w g a b =
    ap (λ (ds : List Declared). ds ++ declarators (first + count) features behind) (p ∙ ap (λ (ds : List Declared). ds ++ declarators_above first u.name low count) m)
    ∙ append_assoc (made ++ guarded u.name v gs ∷ []) (declarators_above first u.name low count) (declarators (first + count) features behind)
    ∙ append_assoc made (guarded u.name v gs ∷ []) (declarators_above first u.name low count ++ declarators (first + count) features behind)
    ∙ ap (λ (hs : List Guard). made ++ guarded u.name v hs ∷ (declarators_above first u.name low count ++ declarators (first + count) features behind)) g
    ∙ ap (λ (z : ℤ). made ++ guarded u.name z [] ∷ (declarators_above first u.name low count ++ declarators (first + count) features behind)) a
    ∙ ap (λ (z : ℤ). made ++ guarded u.name f.low [] ∷ (declarators_above first u.name z count ++ declarators (first + count) features behind)) b
    ∙ ap (λ (k : ℕ). made ++ guarded u.name f.low [] ∷ (declarators_above first u.name f.low k ++ declarators (first + k) features behind)) n
    ∙ ap (λ (ds : List Declared). made ++ ds) (sym (above_use first features u f behind l e))
    ∙ ap (λ (us : List Use). made ++ declarators first features us) (sym r) ∙ w

-- ---- tests

pub test_more : (n left next : ℕ) (low v : ℤ) (made more : List Condition) (all : List (Proposition Atom)) (c : Condition) (ts : List (ℕ × ℤ)) → left ≡ next + 1 → v ≡ low +ℤ pos 1 → ts ≡ (n, pos 1) ∷ []
    → proposition c ≡ Test (record { terms = ts; bound = v }) → more ≡ made ++ c ∷ [] → map proposition made ++ tests_above n low left ≡ all → map proposition more ++ tests_above n v next ≡ all
test_more n left next low v made more all c ts l e t p m w =
    ap (λ (cs : List Condition). map proposition cs ++ tests_above n v next) m
    ∙ ap (λ (ps : List (Proposition Atom)). ps ++ tests_above n v next) (map-append proposition made (c ∷ []))
    ∙ append_assoc (map proposition made) (proposition c ∷ []) (tests_above n v next)
    ∙ ap (λ (q : Proposition Atom). map proposition made ++ q ∷ tests_above n v next) p
    ∙ ap (λ (us : List (ℕ × ℤ)). map proposition made ++ Test (record { terms = us; bound = v }) ∷ tests_above n v next) t
    ∙ ap (λ (z : ℤ). map proposition made ++ Test (value_test n z) ∷ tests_above n z next) e
    ∙ ap (λ (k : ℕ). map proposition made ++ tests_above n low k) (sym (l ∙ add-one next)) ∙ w

pub use_tested : (count : ℕ) (features : List Feature) (u : Use) (f : Feature) (low : ℤ) (made more : List (Proposition Atom)) (all : List (Proposition Atom)) (rest behind : List Use) → rest ≡ u ∷ behind → u.feature < length features
    → f ≡ get_or features u.feature f → count ≡ width f → more ≡ made ++ tests_above u.feature low count → made ++ tests_of features rest ≡ all → low ≡ f.low → more ++ tests_of features behind ≡ all
use_tested count features u f low made more all rest behind r l e n m w b =
    ap (λ (ps : List (Proposition Atom)). ps ++ tests_of features behind) m
    ∙ append_assoc made (tests_above u.feature low count) (tests_of features behind)
    ∙ ap (λ (z : ℤ). made ++ (tests_above u.feature z count ++ tests_of features behind)) (b ∙ sym (low_of features u.feature f l e))
    ∙ ap (λ (k : ℕ). made ++ (tests_above u.feature (low_at features u.feature) k ++ tests_of features behind)) (n ∙ sym (width_of features u.feature f l e))
    ∙ ap (λ (us : List Use). made ++ tests_of features us) (sym r) ∙ w
