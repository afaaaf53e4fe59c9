-- Items have a first fault of a name, or none.
use Rattle.std.proofs.Common.{◌≡◌, ℕ, ℤ, Bool, true, false, List, [], ◌∷◌, ◌++◌, length, Option, Some, None, refl}
use Rattle.fam_outer.specs.declared.faults.FileCode.{FileCode}
use Rattle.fam_outer.specs.declared.faults.FileCode.TheVariants.{Undeclared, Twice, FeatureInCode, ChangedConstant}
use Rattle.fam_outer.specs.declared.faults.Place.{Place}
use Rattle.cpp_conditions.specs.declared.models.Model.{Model}
use Rattle.c_grammar.specs.declared.items.Item.{Item}
use Rattle.c_grammar.specs.declared.items.Sign.{Sign}
use Rattle.c_grammar.specs.declared.items.Sign.TheVariants as signs
use Rattle.c_grammar.specs.Changes.{changed_at}
use Rattle.c_grammar.specs.Functions.{is_equals, stands_behind}
use Rattle.family_names.specs.Functions.{callable_by}
use Rattle.family_names.specs.Names.{NameContext, has_main, is_used_behind, declared_by, constants_of, values_of, is_among, is_missed, is_met_again, is_met_constant, is_met_unlike, is_uncallable, is_feature, is_value, value_fault, new_name_fault, function_fault, code_with, changed_place, IsWithFirst, IsEither, IsUseFault, IsDeclarationFault, IsCallFault, IsPrototypeFault, IsNameFault, IsChangeOf, IsChangeFault, IsThisOr, IsChangeOr, IsFaultFrom}
use Rattle.reading_laws.specs.Answered.{FirstConfigurationsAreFound, NamesAreJudged}

-- ---- one item

with_first : FirstConfigurationsAreFound → (model : Model) (holds : List ℤ → Bool) (code : Option (List ℤ) → FileCode) (other : Option FileCode) → (fault : Option FileCode) × IsWithFirst model holds code other fault
with_first law model holds code other = let f = law model holds in (code_with code other f.0, record { found = f.0; finds = f.1; fault_is = refl })

-- one of two answers
one_of : (b : Bool) (P Q : Option FileCode → Type 0) → (fault : Option FileCode) × P fault → (fault : Option FileCode) × Q fault → (fault : Option FileCode) × IsEither b (P fault) (Q fault)
one_of true P Q x y = x
one_of false P Q x y = y

use_answer : FirstConfigurationsAreFound → (context : NameContext) (before : List Item) (x : ℕ) → (fault : Option FileCode) × IsUseFault context before x fault
use_answer law context before x =
    let value : Option FileCode = value_fault context (values_of context before) (length (constants_of before)) x in
    one_of (is_value context x) (λ (fault : Option FileCode). fault ≡ value_fault context (values_of context before) (length (constants_of before)) x)
    (λ (fault : Option FileCode). IsEither (is_feature context x) (fault ≡ Some FeatureInCode) (IsEither (is_among x (declared_by before)) (IsWithFirst context.model (is_missed context before x) Undeclared None fault) (fault ≡ Some (Undeclared None))))
    (value, refl)
    (one_of (is_feature context x) (λ (fault : Option FileCode). fault ≡ Some FeatureInCode)
    (λ (fault : Option FileCode). IsEither (is_among x (declared_by before)) (IsWithFirst context.model (is_missed context before x) Undeclared None fault) (fault ≡ Some (Undeclared None))) (Some FeatureInCode, refl)
    (one_of (is_among x (declared_by before)) (λ (fault : Option FileCode). IsWithFirst context.model (is_missed context before x) Undeclared None fault) (λ (fault : Option FileCode). fault ≡ Some (Undeclared None))
    (with_first law context.model (is_missed context before x) Undeclared None) (Some (Undeclared None), refl)))

declaration_answer : FirstConfigurationsAreFound → (context : NameContext) (before : List Item) (x : ℕ) → (fault : Option FileCode) × IsDeclarationFault context before x fault
declaration_answer law context before x = with_first law context.model (is_met_again context before x) Twice (new_name_fault context before x)

call_answer : FirstConfigurationsAreFound → (context : NameContext) (before : List Item) (k : ℕ) → (fault : Option FileCode) × IsCallFault context before k fault
call_answer law context before k =
    one_of (is_among k (callable_by (stands_behind is_equals before) before)) (λ (fault : Option FileCode). IsWithFirst context.model (is_uncallable context before k) Undeclared None fault) (λ (fault : Option FileCode). fault ≡ Some (Undeclared None))
    (with_first law context.model (is_uncallable context before k) Undeclared None) (Some (Undeclared None), refl)

prototype_answer : FirstConfigurationsAreFound → (context : NameContext) (before : List Item) (k : ℕ) → (fault : Option FileCode) × IsPrototypeFault context before k fault
prototype_answer law context before k = with_first law context.model (is_met_unlike context before k) Twice (function_fault context k)

name_answer : FirstConfigurationsAreFound → (context : NameContext) (before : List Item) (sign : Sign) → (fault : Option FileCode) × IsNameFault context before sign fault
name_answer law context before (signs.Name x) =
    one_of (is_used_behind before) (λ (fault : Option FileCode). IsUseFault context before x fault) (λ (fault : Option FileCode). IsDeclarationFault context before x fault) (use_answer law context before x) (declaration_answer law context before x)
name_answer law context before (signs.Function k) =
    one_of (has_main before) (λ (fault : Option FileCode). IsCallFault context before k fault) (λ (fault : Option FileCode). IsPrototypeFault context before k fault) (call_answer law context before k) (prototype_answer law context before k)
name_answer law context before _ = (None, refl)

change_of : FirstConfigurationsAreFound → (context : NameContext) (before : List Item) (change : Option (ℕ × Place)) → (fault : Option FileCode) × IsChangeOf context before change fault
change_of law context before None = (None, refl)
change_of law context before (Some change) = with_first law context.model (is_met_constant context before change.0) (λ example. ChangedConstant) None

change_answer : FirstConfigurationsAreFound → (context : NameContext) (before : List Item) (x : Item) → (fault : Option FileCode) × IsChangeFault context before x fault
change_answer law context before x =
    one_of (has_main before) (λ (fault : Option FileCode). IsChangeOf context before (changed_at before x) fault) (λ (fault : Option FileCode). fault ≡ None) (change_of law context before (changed_at before x)) (None, refl)

-- ---- all items

abbrev Placed : Type 0
Placed = Option (FileCode × Place)

this_or : (code : Option FileCode) (place : Place) (Later : Placed → Type 0) → (fault : Placed) × Later fault → (fault : Placed) × IsThisOr code place fault (Later fault)
this_or (Some code) place Later x = (Some (code, place), refl)
this_or None place Later x = x

change_or : FirstConfigurationsAreFound → (context : NameContext) (before : List Item) (x : Item) (Later : Placed → Type 0) → (fault : Placed) × Later fault → (fault : Placed) × IsChangeOr context before x fault (Later fault)
change_or law context before x Later y =
    let c = change_answer law context before x in
    let t = this_or c.0 (changed_place before x) Later y in (t.0, (c.0, c.1, t.1))

faults_from : FirstConfigurationsAreFound → (context : NameContext) (before items : List Item) → (fault : Placed) × IsFaultFrom context before items fault
faults_from law context before [] = (None, refl)
faults_from law context before (x ∷ xs) =
    let n = name_answer law context before x.sign in
    let c = change_or law context before x (λ (fault : Placed). IsFaultFrom context (before ++ x ∷ []) xs fault) (faults_from law context (before ++ x ∷ []) xs) in
    let t = this_or n.0 x.place (λ (fault : Placed). IsChangeOr context before x fault (IsFaultFrom context (before ++ x ∷ []) xs fault)) c in (t.0, (n.0, n.1, t.1))

pub names_are_judged : FirstConfigurationsAreFound → NamesAreJudged
names_are_judged law context items = faults_from law context [] items
