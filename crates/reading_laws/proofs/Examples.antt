-- The item of a refusal of a name that has an example, and what the example says of it.
use Rattle.std.proofs.Common.{◌≡◌, ℕ, Bool, true, false, not, ◌&&◌, ◌||◌, List, [], ◌∷◌, ◌++◌, Option, Some, None, refl, sym, ap, subst, ◌∙◌, append_assoc, append-nil, inl, inr}
use Rattle.std.specs.Prelude.{ℤ, ◌⊎◌, length}
use Rattle.fam_outer.specs.declared.faults.FileCode.{FileCode}
use Rattle.fam_outer.specs.declared.faults.FileCode.TheVariants.{Undeclared, Twice, FeatureInCode, ChangedConstant}
use Rattle.fam_outer.specs.declared.faults.Place.{Place}
use Rattle.linear_atoms.specs.declared.atoms.Config.{Config}
use Rattle.atom_solver.specs.Solutions.{Finds}
use Rattle.cpp_conditions.specs.declared.models.Model.{Model}
use Rattle.cpp_conditions.specs.Validity.{plain, IsValid}
use Rattle.c_grammar.specs.declared.items.Item.{Item}
use Rattle.c_grammar.specs.declared.items.Sign.{Sign}
use Rattle.c_grammar.specs.declared.items.Sign.TheVariants as signs
use Rattle.c_grammar.specs.Changes.{changed_at}
use Rattle.c_grammar.specs.Functions.{is_void, is_equals, stands_behind}
use Rattle.c_grammar.specs.Locals.{is_in_own}
use Rattle.family_names.specs.Functions.{functions_at, callable_by, callable_at}
use Rattle.family_names.specs.Names as family
use Rattle.family_names.specs.Names.{NameContext, has_main, declared_by, in_scope_at, taken_at, is_among, is_kept, is_used_behind, is_missed, is_met_again, is_met_unlike, is_uncallable, is_feature, new_name_fault, function_fault, code_with, IsWithFirst, IsEither, IsNameFault, IsChangeOf, IsChangeFault, IsChangeOr, changed_place, IsFaultFrom, IsThisOr, IsUseFault, IsDeclarationFault, IsCallFault, IsPrototypeFault, IsFirstNameFault}
use Rattle.c_parser.proofs.FewNames.{later_of}
use Rattle.reading_laws.proofs.OtherFaults.{some_code, not_of_value, not_of_function, not_new}

-- ---- the first fault of a name

-- the item that has it, behind others that have none
pub record FirstAt (context : NameContext) (items : List Item) (code : FileCode) (place : Place) : Type 0 where
  pub front : List Item
  pub item : Item
  pub back : List Item
  pub are : items ≡ front ++ item ∷ back
  pub fine : IsFirstNameFault context front None
  pub here : IsNameFault context front item.sign (Some code)
  pub stands : item.place ≡ place

-- one more item without a fault
fine_more : (context : NameContext) (first before : List Item) (x : Item) → IsFaultFrom context first before None → IsNameFault context (first ++ before) x.sign None → IsChangeFault context (first ++ before) x None → IsFaultFrom context first (before ++ x ∷ []) None
fine_more context first [] x f h c = (None, subst (λ (xs : List Item). IsNameFault context xs x.sign None) (append-nil first) h, (None, subst (λ (xs : List Item). IsChangeFault context xs x None) (append-nil first) c, refl))
fine_more context first (y ∷ ys) x f h c =
    let l = later_of f.0 y.place (IsChangeOr context first y None (IsFaultFrom context (first ++ y ∷ []) ys None)) f.2 in
    let m = later_of l.1.0 (changed_place first y) (IsFaultFrom context (first ++ y ∷ []) ys None) l.1.2 in
    let is = sym (append_assoc first (y ∷ []) ys) in (
      None,
      subst (λ (d : Option FileCode). IsNameFault context first y.sign d) l.0 f.1,
      (
        None,
        subst (λ (d : Option FileCode). IsChangeFault context first y d) m.0 l.1.1,
        fine_more context (first ++ y ∷ []) ys x m.1 (subst (λ (xs : List Item). IsNameFault context xs x.sign None) is h) (subst (λ (xs : List Item). IsChangeFault context xs x None) is c),
      ),
    )

abbrev pub some_fault : FileCode × Place → Option (FileCode × Place)
some_fault fault = Some fault

one_fault : (f g : FileCode × Place) → some_fault f ≡ some_fault g → f ≡ g
one_fault f g e = cc

this_first : (context : NameContext) (before xs : List Item) (x : Item) (found code : FileCode) (place : Place) → IsFirstNameFault context before None → IsNameFault context before x.sign (Some found) → code ≡ found → place ≡ x.place
    → FirstAt context (before ++ x ∷ xs) code place
this_first context before xs x found code place f h same there = record {
  front = before;
  item = x;
  back = xs;
  are = refl;
  fine = f;
  here = subst (λ (c : FileCode). IsNameFault context before x.sign (Some c)) (sym same) h;
  stands = sym there;
}

-- a change has another code
change_code : (context : NameContext) (before : List Item) (change : Option (ℕ × Place)) (found : FileCode) → IsChangeOf context before change (Some found) → found ≡ ChangedConstant
change_code context before None found h = absurd cc
change_code context before (Some change) found h = by_found h.found h.fault_is
  where
    by_found : (o : Option Config) → Some found ≡ code_with (λ example. ChangedConstant) None o → found ≡ ChangedConstant
    by_found None e = absurd cc
    by_found (Some config) e = let is : found ≡ ChangedConstant = cc in is

fault_code : (context : NameContext) (before : List Item) (x : Item) (found : FileCode) → IsChangeFault context before x (Some found) → found ≡ ChangedConstant
fault_code context before x found h = elim (has_main before) as (λ b. IsEither b (IsChangeOf context before (changed_at before x) (Some found)) (Some found ≡ None) → found ≡ ChangedConstant) [
  | true ↦ λ c. change_code context before (changed_at before x) found c
  | false ↦ λ e. absurd cc
] h

pub find_first : (context : NameContext) (before xs : List Item) (code : FileCode) (place : Place) → (code ≡ ChangedConstant → ⊥) → IsFaultFrom context before xs (Some (code, place)) → IsFirstNameFault context before None → FirstAt context (before ++ xs) code place
find_first context before [] code place other h f = absurd cc
find_first context before (x ∷ xs) code place other h f = elim h.0 as (λ o. IsNameFault context before x.sign o → IsThisOr o x.place (Some (code, place)) (IsChangeOr context before x (Some (code, place)) (IsFaultFrom context (before ++ x ∷ []) xs (Some (code, place)))) → FirstAt context (before ++ x ∷ xs) code place) [
  | Some found ↦ λ n e. (let one = one_fault (code, place) (found, x.place) e in
      this_first context before xs x found code place f n (ap (λ (z : FileCode × Place). z.0) one) (ap (λ (z : FileCode × Place). z.1) one))
  | None ↦ λ n change. (elim change.0 as (λ o. IsChangeFault context before x o → IsThisOr o (changed_place before x) (Some (code, place)) (IsFaultFrom context (before ++ x ∷ []) xs (Some (code, place))) → FirstAt context (before ++ x ∷ xs) code place) [
    | Some found ↦ λ c e. (let one = one_fault (code, place) (found, changed_place before x) e in
        absurd (other (ap (λ (z : FileCode × Place). z.0) one ∙ fault_code context before x found c)))
    | None ↦ λ c later. subst (λ (ys : List Item). FirstAt context ys code place) (append_assoc before (x ∷ []) xs)
        (find_first context (before ++ x ∷ []) xs code place other later (fine_more context [] before x f n c))
  ] change.1 change.2)
] h.1 h.2

-- ---- what its example says

-- a declaration that stays is in scope; where a use is asked, the name stands not in its own declarator, behind which its scope begins
abbrev pub is_there : Bool → Bool → Bool → Bool
is_there true own declared = not own && declared
is_there false own declared = declared

-- the names that are in scope behind these items, or those that may not be declared there
abbrev pub names_for : Bool → List Bool → List Item → List ℕ
names_for true truths front = in_scope_at truths front
names_for false truths front = taken_at truths front

-- the item is a name, which is used where no declaration of it that stays is in scope, or declared again where it is taken
pub record IsNameMissed (context : NameContext) (front : List Item) (sign : Sign) (values : List ℤ) (missed : Bool) : Type 0 where
  pub name : ℕ
  pub sign_is : sign ≡ signs.Name name
  pub use_is : is_used_behind front ≡ missed
  pub declared : is_there missed (is_in_own front name) (is_among name (names_for missed (family.truths_at context values) front)) ≡ not missed
  pub free : missed ≡ true → is_feature context name ≡ false

-- the functions that may be called behind these items, or those that are declared otherwise than what comes next
abbrev pub functions_for : Bool → List Bool → List Item → List ℕ
functions_for true truths front = callable_at truths (stands_behind is_equals front) front
functions_for false truths front = functions_at truths (not (stands_behind is_void front)) front

-- the item is a function, which is called without a declaration there, or declared again and otherwise
pub record IsFunctionMissed (context : NameContext) (front : List Item) (sign : Sign) (values : List ℤ) (missed : Bool) : Type 0 where
  pub function : ℕ
  pub sign_is : sign ≡ signs.Function function
  pub main_is : has_main front ≡ missed
  pub declared : is_among function (functions_for missed (family.truths_at context values) front) ≡ not missed

-- the example is a valid configuration at which the item stays, and is a name or a function of which that is so
pub record IsExample (context : NameContext) (front : List Item) (sign : Sign) (values : List ℤ) (missed : Bool) : Type 0 where
  pub valid : IsValid (plain context.model) values
  pub stays : is_kept (family.truths_at context values) front ≡ true
  pub is : IsNameMissed context front sign values missed ⊎ IsFunctionMissed context front sign values missed

found_values : (model : Model) (holds : List ℤ → Bool) (code : Option (List ℤ) → FileCode) (other : Option FileCode) (values : List ℤ) → ((vs ws : List ℤ) → some_code (code (Some vs)) ≡ some_code (code (Some ws)) → vs ≡ ws) → (some_code (code (Some values)) ≡ other → ⊥)
    → IsWithFirst model holds code other (Some (code (Some values))) → IsValid (plain model) values × (holds values ≡ true)
found_values model holds code other values same never w = elim w.found as (λ o. Finds model holds o → some_code (code (Some values)) ≡ code_with code other o → IsValid (plain model) values × (holds values ≡ true)) [
  | None ↦ λ f e. absurd (never e)
  | Some config ↦ λ f e. (let is : config.values ≡ values = sym (same values config.values e) in
      (subst (λ (vs : List ℤ). IsValid (plain model) vs) is f.valid, subst (λ (vs : List ℤ). holds vs ≡ true) is f.met))
] w.finds w.fault_is

both_so : (a b : Bool) → (a && b) ≡ true → (a ≡ true) × (b ≡ true)
both_so true b e = (refl, e)
both_so false b e = absurd cc

not_so : (b : Bool) → not b ≡ true → b ≡ false
not_so true e = absurd cc
not_so false e = refl

same_missed : (vs ws : List ℤ) → some_code (Undeclared (Some vs)) ≡ some_code (Undeclared (Some ws)) → vs ≡ ws
same_missed vs ws e = cc

same_again : (vs ws : List ℤ) → some_code (Twice (Some vs)) ≡ some_code (Twice (Some ws)) → vs ≡ ws
same_again vs ws e = cc

not_missing : (code : FileCode) (values : List ℤ) → ((example : Option (List ℤ)) → some_code code ≡ some_code (Undeclared example) → ⊥) → (found : Option Config) → some_code code ≡ code_with Undeclared None found → ⊥
not_missing code values never None e = cc
not_missing code values never (Some config) e = never (Some config.values) e

not_again : (code : FileCode) (other : Option FileCode) → ((example : Option (List ℤ)) → some_code code ≡ some_code (Twice example) → ⊥) → (some_code code ≡ other → ⊥) → (found : Option Config) → some_code code ≡ code_with Twice other found → ⊥
not_again code other never none None e = none e
not_again code other never none (Some config) e = never (Some config.values) e

-- the scope of the name has not begun, or no declaration of it that stays is in scope
out_of_scope : (own declared : Bool) → (own || not declared) ≡ true → (not own && declared) ≡ false
out_of_scope true declared e = refl
out_of_scope false true e = absurd cc
out_of_scope false false e = refl

-- a use of a name that is no value's
abbrev IsOtherUse : NameContext → List Item → ℕ → Option FileCode → Type 0
IsOtherUse context front n fault =
    IsEither (is_feature context n) (fault ≡ Some FeatureInCode)
    (IsEither (is_among n (declared_by front)) (IsWithFirst context.model (is_missed context front n) Undeclared None fault) (fault ≡ Some (Undeclared None)))

missed_other : (context : NameContext) (front : List Item) (n : ℕ) (values : List ℤ) → IsOtherUse context front n (Some (Undeclared (Some values))) → IsValid (plain context.model) values × (is_missed context front n values ≡ true)
missed_other context front n values h =
    elim (is_feature context n) as (λ a. IsEither a (some_code (Undeclared (Some values)) ≡ Some FeatureInCode) (IsEither (is_among n (declared_by front)) (IsWithFirst context.model (is_missed context front n) Undeclared None (Some (Undeclared (Some values)))) (some_code (Undeclared (Some values)) ≡ Some (Undeclared None)))
    → IsValid (plain context.model) values × (is_missed context front n values ≡ true)) [
      | true ↦ λ e. absurd cc
      | false ↦ λ k. (elim (is_among n (declared_by front)) as (λ b. IsEither b (IsWithFirst context.model (is_missed context front n) Undeclared None (Some (Undeclared (Some values)))) (some_code (Undeclared (Some values)) ≡ Some (Undeclared None)) → IsValid (plain context.model) values × (is_missed context front n values ≡ true)) [
        | true ↦ λ w. found_values context.model (is_missed context front n) Undeclared None values same_missed (λ e. absurd cc) w
        | false ↦ λ e. absurd cc
      ] k)
    ] h

missed_use : (context : NameContext) (front : List Item) (n : ℕ) (values : List ℤ) → IsUseFault context front n (Some (Undeclared (Some values))) → IsValid (plain context.model) values × (is_missed context front n values ≡ true)
missed_use context front n values h =
    elim (family.is_value context n) as (λ v. IsEither v (some_code (Undeclared (Some values)) ≡ family.value_fault context (family.values_of context front) (length (family.constants_of front)) n) (IsOtherUse context front n (Some (Undeclared (Some values))))
    → IsValid (plain context.model) values × (is_missed context front n values ≡ true)) [
      | true ↦ λ e. absurd (not_of_value context (family.values_of context front) (length (family.constants_of front)) n (Undeclared (Some values)) refl e)
      | false ↦ λ k. missed_other context front n values k
    ] h

-- a name of which that is said is no feature's
missed_free : (context : NameContext) (front : List Item) (n : ℕ) (values : List ℤ) → IsUseFault context front n (Some (Undeclared (Some values))) → is_feature context n ≡ false
missed_free context front n values h =
    elim (family.is_value context n) as (λ v. IsEither v (some_code (Undeclared (Some values)) ≡ family.value_fault context (family.values_of context front) (length (family.constants_of front)) n) (IsOtherUse context front n (Some (Undeclared (Some values)))) → is_feature context n ≡ false) [
      | true ↦ λ e. absurd (not_of_value context (family.values_of context front) (length (family.constants_of front)) n (Undeclared (Some values)) refl e)
      | false ↦ λ k. other_free context front n values k
    ] h
  where
    other_free : (context : NameContext) (front : List Item) (n : ℕ) (values : List ℤ) → IsOtherUse context front n (Some (Undeclared (Some values))) → is_feature context n ≡ false
    other_free context front n values k =
        elim (is_feature context n) as (λ a. IsEither a (some_code (Undeclared (Some values)) ≡ Some FeatureInCode) (IsEither (is_among n (declared_by front)) (IsWithFirst context.model (is_missed context front n) Undeclared None (Some (Undeclared (Some values)))) (some_code (Undeclared (Some values)) ≡ Some (Undeclared None))) → a ≡ false) [
          | true ↦ λ e. absurd cc
          | false ↦ λ _. refl
        ] k

never_twice_other : (context : NameContext) (front : List Item) (n : ℕ) (values : List ℤ) → IsOtherUse context front n (Some (Twice (Some values))) → ⊥
never_twice_other context front n values h =
    elim (is_feature context n) as (λ a. IsEither a (some_code (Twice (Some values)) ≡ Some FeatureInCode) (IsEither (is_among n (declared_by front)) (IsWithFirst context.model (is_missed context front n) Undeclared None (Some (Twice (Some values)))) (some_code (Twice (Some values)) ≡ Some (Undeclared None))) → ⊥) [
      | true ↦ λ e. cc
      | false ↦ λ k. (elim (is_among n (declared_by front)) as (λ b. IsEither b (IsWithFirst context.model (is_missed context front n) Undeclared None (Some (Twice (Some values)))) (some_code (Twice (Some values)) ≡ Some (Undeclared None)) → ⊥) [
        | true ↦ λ w. not_missing (Twice (Some values)) values (λ example e. cc) w.found w.fault_is
        | false ↦ λ e. cc
      ] k)
    ] h

never_twice : (context : NameContext) (front : List Item) (n : ℕ) (values : List ℤ) → IsUseFault context front n (Some (Twice (Some values))) → ⊥
never_twice context front n values h =
    elim (family.is_value context n) as (λ v. IsEither v (some_code (Twice (Some values)) ≡ family.value_fault context (family.values_of context front) (length (family.constants_of front)) n) (IsOtherUse context front n (Some (Twice (Some values)))) → ⊥) [
      | true ↦ λ e. not_of_value context (family.values_of context front) (length (family.constants_of front)) n (Twice (Some values)) refl e
      | false ↦ λ k. never_twice_other context front n values k
    ] h

missed_again : (context : NameContext) (front : List Item) (n : ℕ) (values : List ℤ) → IsDeclarationFault context front n (Some (Twice (Some values))) → IsValid (plain context.model) values × (is_met_again context front n values ≡ true)
missed_again context front n values h =
    found_values context.model (is_met_again context front n) Twice (new_name_fault context front n) values same_again (not_new context front n (Twice (Some values)) refl) h

never_missed : (context : NameContext) (front : List Item) (n : ℕ) (values : List ℤ) → IsDeclarationFault context front n (Some (Undeclared (Some values))) → ⊥
never_missed context front n values h =
    not_again (Undeclared (Some values)) (new_name_fault context front n) (λ example e. cc) (not_new context front n (Undeclared (Some values)) refl) h.found h.fault_is

-- ---- what is said of a function

missed_call : (context : NameContext) (front : List Item) (k : ℕ) (values : List ℤ) → IsCallFault context front k (Some (Undeclared (Some values))) → IsValid (plain context.model) values × (is_uncallable context front k values ≡ true)
missed_call context front k values h =
    elim (is_among k (callable_by (stands_behind is_equals front) front)) as (λ b. IsEither b (IsWithFirst context.model (is_uncallable context front k) Undeclared None (Some (Undeclared (Some values)))) (some_code (Undeclared (Some values)) ≡ Some (Undeclared None)) → IsValid (plain context.model) values × (is_uncallable context front k values ≡ true)) [
      | true ↦ λ w. found_values context.model (is_uncallable context front k) Undeclared None values same_missed (λ e. absurd cc) w
      | false ↦ λ e. absurd cc
    ] h

never_twice_called : (context : NameContext) (front : List Item) (k : ℕ) (values : List ℤ) → IsCallFault context front k (Some (Twice (Some values))) → ⊥
never_twice_called context front k values h =
    elim (is_among k (callable_by (stands_behind is_equals front) front)) as (λ b. IsEither b (IsWithFirst context.model (is_uncallable context front k) Undeclared None (Some (Twice (Some values)))) (some_code (Twice (Some values)) ≡ Some (Undeclared None)) → ⊥) [
      | true ↦ λ w. not_missing (Twice (Some values)) values (λ example e. cc) w.found w.fault_is
      | false ↦ λ e. cc
    ] h

met_unlike : (context : NameContext) (front : List Item) (k : ℕ) (values : List ℤ) → IsPrototypeFault context front k (Some (Twice (Some values))) → IsValid (plain context.model) values × (is_met_unlike context front k values ≡ true)
met_unlike context front k values h = found_values context.model (is_met_unlike context front k) Twice (function_fault context k) values same_again (not_of_function context k (Twice (Some values)) refl) h

never_missed_again : (context : NameContext) (front : List Item) (k : ℕ) (values : List ℤ) → IsPrototypeFault context front k (Some (Undeclared (Some values))) → ⊥
never_missed_again context front k values h =
    not_again (Undeclared (Some values)) (function_fault context k) (λ example e. cc) (not_of_function context k (Undeclared (Some values)) refl) h.found h.fault_is

-- ---- the item and its example

pub name_used : (context : NameContext) (front : List Item) (s : Sign) (values : List ℤ) → IsNameFault context front s (Some (Undeclared (Some values))) → IsExample context front s values true
name_used context front (signs.Name n) values h = elim (is_used_behind front) as (λ b. is_used_behind front ≡ b → IsEither b (IsUseFault context front n (Some (Undeclared (Some values)))) (IsDeclarationFault context front n (Some (Undeclared (Some values)))) → IsExample context front (signs.Name n) values true) [
  | true ↦ λ m u. (let w = missed_use context front n values u in
      let declared : Bool = is_among n (in_scope_at (family.truths_at context values) front) in
      let k = both_so (is_kept (family.truths_at context values) front) (is_in_own front n || not declared) w.1 in
      record { valid = w.0; stays = k.0; is = inl (record { name = n; sign_is = refl; use_is = m; declared = out_of_scope (is_in_own front n) declared k.1; free = λ e. missed_free context front n values u }) })
  | false ↦ λ m d. absurd (never_missed context front n values d)
] refl h
name_used context front (signs.Function f) values h = elim (has_main front) as (λ b. has_main front ≡ b → IsEither b (IsCallFault context front f (Some (Undeclared (Some values)))) (IsPrototypeFault context front f (Some (Undeclared (Some values)))) → IsExample context front (signs.Function f) values true) [
  | true ↦ λ m u. (let w = missed_call context front f values u in
      let callable : List ℕ = callable_at (family.truths_at context values) (stands_behind is_equals front) front in
      let k = both_so (is_kept (family.truths_at context values) front) (not (is_among f callable)) w.1 in
      record { valid = w.0; stays = k.0; is = inr (record { function = f; sign_is = refl; main_is = m; declared = not_so (is_among f callable) k.1 }) })
  | false ↦ λ m d. absurd (never_missed_again context front f values d)
] refl h
name_used context front _ values h = absurd cc

pub name_again : (context : NameContext) (front : List Item) (s : Sign) (values : List ℤ) → IsNameFault context front s (Some (Twice (Some values))) → IsExample context front s values false
name_again context front (signs.Name n) values h = elim (is_used_behind front) as (λ b. is_used_behind front ≡ b → IsEither b (IsUseFault context front n (Some (Twice (Some values)))) (IsDeclarationFault context front n (Some (Twice (Some values)))) → IsExample context front (signs.Name n) values false) [
  | true ↦ λ m u. absurd (never_twice context front n values u)
  | false ↦ λ m d. (let w = missed_again context front n values d in
      let k = both_so (is_kept (family.truths_at context values) front) (is_among n (taken_at (family.truths_at context values) front)) w.1 in
      record { valid = w.0; stays = k.0; is = inl (record { name = n; sign_is = refl; use_is = m; declared = k.1; free = λ e. absurd cc }) })
] refl h
name_again context front (signs.Function f) values h = elim (has_main front) as (λ b. has_main front ≡ b → IsEither b (IsCallFault context front f (Some (Twice (Some values)))) (IsPrototypeFault context front f (Some (Twice (Some values)))) → IsExample context front (signs.Function f) values false) [
  | true ↦ λ m u. absurd (never_twice_called context front f values u)
  | false ↦ λ m d. (let w = met_unlike context front f values d in
      let k = both_so (is_kept (family.truths_at context values) front) (is_among f (functions_at (family.truths_at context values) (not (stands_behind is_void front)) front)) w.1 in
      record { valid = w.0; stays = k.0; is = inr (record { function = f; sign_is = refl; main_is = m; declared = k.1 }) })
] refl h
name_again context front _ values h = absurd cc
