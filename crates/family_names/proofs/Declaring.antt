-- A declaration of a name is kept.
use Rattle.std.proofs.Common.{◌≡◌, ℕ, Bool, true, false, List, [], ◌∷◌, ◌++◌, refl, sym, ap, ◌∙◌}
use Rattle.std.specs.Prelude.{◌||◌}
use Rattle.std.proofs.lemmas.List.Folds.{list_any-append}
use Rattle.std.proofs.lemmas.Bool.{eq-eqb}
use Rattle.cpp_conditions.specs.declared.formulas.Formula.{Formula}
use Rattle.cpp_conditions.specs.Propositions.{true_on}
use Rattle.cpp_conditions.specs.View.{formula}
use Rattle.family_names.specs.declared.declarations.Declaration.{Declaration}
use Rattle.family_names.specs.Groups.{are_kept}
use Rattle.family_names.specs.Names.{truths_on}
use Rattle.family_names.specs.Declarations.{is_kept, is_declared}

pub halved : (conditions : List Formula) (x : ℕ) (ds front back : List Declaration) (left right made : Formula) → ds ≡ front ++ back
    → ((v : List Bool) → is_declared (truths_on conditions v) front x ≡ true_on v (formula left)) → ((v : List Bool) → is_declared (truths_on conditions v) back x ≡ true_on v (formula right))
    → ((v : List Bool) → (true_on v (formula left) || true_on v (formula right)) ≡ true_on v (formula made))
    → (v : List Bool) → is_declared (truths_on conditions v) ds x ≡ true_on v (formula made)
halved conditions x ds front back left right made parts f g h v =
    ap (λ (es : List Declaration). is_declared (truths_on conditions v) es x) parts
    ∙ list_any-append (λ (d : Declaration). is_kept (truths_on conditions v) x d) front back
    ∙ ap (λ (b : Bool). b || is_declared (truths_on conditions v) back x) (f v)
    ∙ ap (λ (b : Bool). true_on v (formula left) || b) (g v)
    ∙ h v

or_true : (b : Bool) → (b || true) ≡ true
or_true true = refl
or_true false = refl

-- the last of some declarations
pub last_kept : (truths : List Bool) (x : ℕ) (ds before : List Declaration) (d : Declaration) → ds ≡ before ++ d ∷ [] → is_kept truths x d ≡ true → is_declared truths ds x ≡ true
last_kept truths x ds before d e h =
    ap (λ (es : List Declaration). is_declared truths es x) e ∙ list_any-append (λ (c : Declaration). is_kept truths x c) before (d ∷ [])
    ∙ ap (λ (b : Bool). is_declared truths before x || (b || false)) h ∙ or_true (is_declared truths before x)

pub earlier_kept : (truths : List Bool) (x : ℕ) (ds before : List Declaration) (d : Declaration) → ds ≡ before ++ d ∷ [] → is_declared truths before x ≡ true → is_declared truths ds x ≡ true
earlier_kept truths x ds before d e h =
    ap (λ (es : List Declaration). is_declared truths es x) e ∙ list_any-append (λ (c : Declaration). is_kept truths x c) before (d ∷ [])
    ∙ ap (λ (b : Bool). b || is_declared truths (d ∷ []) x) h

pub kept_one : (truths : List Bool) (x : ℕ) (d : Declaration) → d.name ≡ x → are_kept truths d.groups ≡ true → is_kept truths x d ≡ true
kept_one truths x d e h = rw (eq-eqb x d.name (sym e)) h
