-- A family without a fault of a name has at most 16 variables, at most 16 names that `main` declares, and at most 16 constants and features
-- that it uses together.
use Rattle.std.proofs.Common.{◌≡◌, ◌⊎◌, inl, inr, ℕ, ◌+◌, ◌≤◌, ◌<◌, nat_eq, nat_le, nat_lt, Bool, true, false, not, ◌&&◌, ◌||◌, List, [], ◌∷◌, ◌++◌, length, Option, Some, None, refl, sym, ap, subst, ◌∙◌, append_assoc, append-nil, arith}
use Rattle.std.specs.Prelude.{ℤ, if◌then◌else◌}
use Rattle.std.proofs.lemmas.Bool.{or_right}
use Rattle.std.proofs.lemmas.Bool.Decides.{nat_tests}
use Rattle.std.specs.List.{filter}
use Rattle.std.proofs.lemmas.List.{length-append}
use Rattle.std.proofs.lemmas.List.Elements.{filter-append}
use Rattle.std.proofs.lemmas.List.Folds.{list_any-append}
use Rattle.fam_outer.specs.declared.faults.Place.{Place}
use Rattle.fam_outer.specs.declared.faults.FileCode.{FileCode}
use Rattle.fam_outer.specs.declared.faults.FileCode.TheVariants.{Undeclared, Twice, FeatureInCode, TooManyVariables, TooManyConstants, TooManyValueTests}
use Rattle.linear_atoms.specs.declared.atoms.Config.{Config}
use Rattle.c_grammar.specs.declared.items.Item.{Item}
use Rattle.c_grammar.specs.declared.items.Sign.{Sign}
use Rattle.c_grammar.specs.declared.items.Sign.TheVariants as signs
use Rattle.family_names.specs.Names as family
use Rattle.c_grammar.specs.declared.constants.NameClass.{NameClass}
use Rattle.c_grammar.specs.declared.constants.NameClass.TheVariants as classes
use Rattle.c_grammar.specs.Classes.{is_class, class_in}
use Rattle.c_grammar.specs.Grammar.{at}
use Rattle.c_grammar.specs.Locals.{declares_behind, declarations_from, of_declarations}
use Rattle.c_grammar.proofs.Declaring.{declarations_more}
use Rattle.family_names.specs.Judging.{with_new}
use Rattle.family_names.specs.Names.{has_main, behind_main, name_of, names_of, declared_by, names_of_class, constants_of, class_behind, values_of, test_count, is_among, with_number, each_once, is_feature, is_value, is_missed, value_fault, full_fault, new_name_fault, NameContext, is_used_behind, IsFaultFrom, IsChangeOr, changed_place, IsNameFault, IsUseFault, IsDeclarationFault, IsWithFirst, IsEither, code_with, IsThisOr}
use Rattle.family_names.proofs.Declared.{AreStill, more_named, still_used, still_other, names_append, among_once, or_left}
use Rattle.family_names.proofs.Features.{no_value}
use Rattle.family_names.proofs.ClassesBehind.{behind_none, behind_on, more_class, still_class, still_valued, still_values, value_more}
use Rattle.c_parser.specs.FamilyItems.{is_name, has}
use Rattle.c_parser.proofs.AmongNumbers.{or_cases, among_front, same_number, with_it, is_same, once_has, at_least, all_classes, among_both}

-- ---- declared names, one item after another

pub declared_more : (before more : List Item) → declared_by (before ++ more) ≡ declared_by before ++ names_of (declarations_from (has_main before) (declares_behind before) more)
declared_more before more = ap names_of (declarations_more before more) ∙ names_append (of_declarations before) (declarations_from (has_main before) (declares_behind before) more)

-- what is declared stays declared
stays : (x : ℕ) (before more : List Item) → is_among x (declared_by before) ≡ true → is_among x (declared_by (before ++ more)) ≡ true
stays x before more h =
    ap (is_among x) (declared_more before more) ∙ among_front x (declared_by before) (names_of (declarations_from (has_main before) (declares_behind before) more)) h

-- ---- what no fault says of an item

-- a name is declared, or used as a value
abbrev pub is_named : NameContext → List Item → ℕ → Bool
is_named context items n = is_among n (declared_by items) || is_among n (values_of context items)

-- so many names are counted for a class, where so many are of it and so many features are used as values
abbrev taken : NameClass → ℕ → ℕ → ℕ
taken classes.Constant names values = names + values
taken _ names values = names

-- the names of each class are few, and so are the tests of the features that are used; no name of a feature is declared
pub record AreFew (context : NameContext) (items : List Item) : Type 0 where
  pub names : (class : NameClass) → taken class (length (names_of_class class items)) (length (values_of context items)) ≤ 16
  pub tests : test_count context (values_of context items) ≤ 256
  pub apart : (n : ℕ) → is_among n (declared_by items) ≡ true → is_feature context n ≡ false

-- they are few behind an item too, and a name that it names is declared or used, and declared only where it is no feature's
pub record IsFine (context : NameContext) (before : List Item) (x : Item) : Type 0 where
  pub few : AreFew context (before ++ x ∷ [])
  pub named : (n : ℕ) → is_name n x.sign ≡ true → is_named context (before ++ x ∷ []) n ≡ true

pub no_other : (code : Option (List ℤ) → FileCode) (other : Option FileCode) (found : Option Config) → None ≡ code_with code other found → other ≡ None
no_other code other None e = sym e
no_other code other (Some config) e = absurd cc

-- the same names of each class
abbrev AreSame : List Item → List Item → Type 0
AreSame before after = (class : NameClass) → names_of_class class after ≡ names_of_class class before

-- the same names, and the same values
same_few : (context : NameContext) (before after : List Item) → declared_by after ≡ declared_by before → AreSame before after → values_of context after ≡ values_of context before → AreFew context before → AreFew context after
same_few context before after d c u f = record {
  names = λ class. subst (λ (ns : List ℕ). taken class (length ns) (length (values_of context after)) ≤ 16) (sym (c class))
      (subst (λ (ns : List ℕ). taken class (length (names_of_class class before)) (length ns) ≤ 16) (sym u) (f.names class));
  tests = subst (λ (ns : List ℕ). test_count context ns ≤ 256) (sym u) f.tests;
  apart = λ n h. f.apart n (ap (is_among n) (sym d) ∙ h);
}

-- the item names nothing, or this
pub names_this : (s : Sign) → (name_of s ≡ []) ⊎ ((n : ℕ) × (s ≡ signs.Name n))
names_this (signs.Name n) = inr (n, refl)
names_this _ = inl refl

not_named : (n : ℕ) (s : Sign) → name_of s ≡ [] → is_name n s ≡ true → ⊥
not_named n (signs.Name m) e k = absurd cc
not_named n _ e k = absurd cc

-- an item that names nothing
silent_step : (context : NameContext) (before : List Item) (x : Item) → name_of x.sign ≡ [] → AreFew context before → IsFine context before x
silent_step context before x e f =
    let still = still_other before x e in
    record {
      few = same_few context before (before ++ x ∷ []) still.any (λ class. still_class class before x still) (still_values context before x e) f;
      named = λ n k. absurd (not_named n x.sign e k);
    }

-- behind a name, it is named
this_named : (context : NameContext) (items : List Item) (x : Item) (n k : ℕ) → x.sign ≡ signs.Name n → is_named context items n ≡ true → is_name k x.sign ≡ true → is_named context items k ≡ true
this_named context items x n k e h i = subst (λ (j : ℕ). is_named context items j ≡ true) (sym (is_same k n (ap (is_name k) (sym e) ∙ i))) h

at_name : (x : Item) (n : ℕ) → x.sign ≡ signs.Name n → at x.place (signs.Name n) ≡ x
at_name x n e = ap (λ (s : Sign). at x.place s) (sym e)

and_left : (a b : Bool) → (a && b) ≡ true → a ≡ true
and_left true b h = refl
and_left false b h = absurd cc

-- a first use of a feature has room
record HasRoom (context : NameContext) (used : List ℕ) (constants x : ℕ) : Type 0 where
  tests : test_count context (used ++ x ∷ []) ≤ 256
  room : constants + length used < 16

not_more : (n : ℕ) → nat_lt 256 n ≡ false → n ≤ 256
not_more n e = grind (arith, nat_tests)

not_full : (n : ℕ) → nat_le 16 n ≡ false → n < 16
not_full n e = grind (arith, nat_tests)

no_value_fault : (a b c : Bool) → None ≡ (if a then None else (if b then Some TooManyValueTests else (if c then Some TooManyConstants else None))) → (a ≡ true) ⊎ ((b ≡ false) × (c ≡ false))
no_value_fault true b c e = inl refl
no_value_fault false true c e = absurd cc
no_value_fault false false true e = absurd cc
no_value_fault false false false e = inr (refl, refl)

with_unused : (used : List ℕ) (n : ℕ) → is_among n used ≡ false → with_number used n ≡ used ++ n ∷ []
with_unused used n e = ap (λ (b : Bool). if b then used else used ++ n ∷ []) e

with_old : (used : List ℕ) (n : ℕ) → is_among n used ≡ true → with_number used n ≡ used
with_old used n e = ap (λ (b : Bool). if b then used else used ++ n ∷ []) e

-- one more value has room too
value_room : (names : NameClass → ℕ) (class : NameClass) (old new : ℕ) → new ≡ old + 1 → names classes.Constant + old < 16 → taken class (names class) old ≤ 16 → taken class (names class) new ≤ 16
value_room names classes.Constant old new e lt le = omega (arith, e, lt)
value_room names classes.Local old new e lt le = le
value_room names classes.Variable old new e lt le = le

more_values : (context : NameContext) (before after : List Item) (n : ℕ) → declared_by after ≡ declared_by before → AreSame before after → values_of context after ≡ with_number (values_of context before) n
    → None ≡ value_fault context (values_of context before) (length (constants_of before)) n → AreFew context before → AreFew context after
more_values context before after n d c u none f =
    elim (no_value_fault (is_among n (values_of context before)) (nat_lt 256 (test_count context (values_of context before ++ n ∷ []))) (nat_le 16 (length (constants_of before) + length (values_of context before))) none) [
      | inl old ↦ same_few context before after d c (u ∙ with_old (values_of context before) n old) f
      | inr room ↦ elim (is_among n (values_of context before)) as (λ b. is_among n (values_of context before) ≡ b → AreFew context after) [
        | true ↦ λ old. same_few context before after d c (u ∙ with_old (values_of context before) n old) f
        | false ↦ λ new. (
            let is : values_of context after ≡ values_of context before ++ n ∷ [] = u ∙ with_unused (values_of context before) n new in
            record {
              names = λ class. subst (λ (ns : List ℕ). taken class (length ns) (length (values_of context after)) ≤ 16) (sym (c class))
                  (value_room (λ (other : NameClass). length (names_of_class other before)) class (length (values_of context before)) (length (values_of context after)) (omega (arith, ap length is, length-append (values_of context before) (n ∷ [])))
                  (not_full (length (constants_of before) + length (values_of context before)) room.1) (f.names class));
              tests = subst (λ (ns : List ℕ). test_count context ns ≤ 256) (sym is) (not_more (test_count context (values_of context before ++ n ∷ [])) room.0);
              apart = λ k h. f.apart k (ap (is_among k) (sym d) ∙ h);
            })
      ] refl
    ]

-- a name that is used, and no value's
pub used_other : (context : NameContext) (before : List Item) (n : ℕ) → IsEither (is_feature context n) (◌≡◌ {A = Option FileCode} None (Some FeatureInCode))
    (IsEither (is_among n (declared_by before)) (IsWithFirst context.model (is_missed context before n) Undeclared None None) (◌≡◌ {A = Option FileCode} None (Some (Undeclared None)))) → is_among n (declared_by before) ≡ true
used_other context before n h = elim (is_feature context n) as (λ a. IsEither a (◌≡◌ {A = Option FileCode} None (Some FeatureInCode))
    (IsEither (is_among n (declared_by before)) (IsWithFirst context.model (is_missed context before n) Undeclared None None) (◌≡◌ {A = Option FileCode} None (Some (Undeclared None)))) → is_among n (declared_by before) ≡ true) [
      | true ↦ λ e. absurd cc
      | false ↦ λ k. (elim (is_among n (declared_by before)) as (λ b. IsEither b (IsWithFirst context.model (is_missed context before n) Undeclared None None) (◌≡◌ {A = Option FileCode} None (Some (Undeclared None))) → b ≡ true) [
        | true ↦ λ _. refl
        | false ↦ λ e. absurd cc
      ] k)
    ] h

use_step : (context : NameContext) (before : List Item) (x : Item) (n : ℕ) → x.sign ≡ signs.Name n → is_used_behind before ≡ true → IsUseFault context before n None → AreFew context before → IsFine context before x
use_step context before x n e u h f =
    let after = before ++ x ∷ [] in
    let m : has_main before ≡ true = and_left (has_main before) (not (declares_behind before)) u in
    let still : AreStill before x = subst (AreStill before) (at_name x n e) (still_used before x.place n u) in
    let more : values_of context (before ++ x ∷ []) ≡ (if is_value context n then with_number (values_of context before) n else values_of context before) =
    ap (λ (y : Item). values_of context (before ++ y ∷ [])) (sym (at_name x n e)) ∙ value_more context before x.place n m in
    elim (is_value context n) as (λ b. is_value context n ≡ b → IsEither b (None ≡ value_fault context (values_of context before) (length (constants_of before)) n) (IsEither (is_feature context n) (◌≡◌ {A = Option FileCode} None (Some FeatureInCode))
    (IsEither (is_among n (declared_by before)) (IsWithFirst context.model (is_missed context before n) Undeclared None None) (◌≡◌ {A = Option FileCode} None (Some (Undeclared None))))) → IsFine context before x) [
      | true ↦ λ v k. (
          let is : values_of context (before ++ x ∷ []) ≡ with_number (values_of context before) n = more ∙ ap (λ (b : Bool). if b then with_number (values_of context before) n else values_of context before) v in
          record {
            few = more_values context before after n still.any (λ class. still_class class before x still) is k f;
            named = λ j. this_named context after x n j e (or_right (is_among n (declared_by (before ++ x ∷ []))) (is_among n (values_of context (before ++ x ∷ []))) (ap (is_among n) is ∙ with_it n (values_of context before)));
          })
      | false ↦ λ v k. (
          let is : values_of context (before ++ x ∷ []) ≡ values_of context before = more ∙ ap (λ (b : Bool). if b then with_number (values_of context before) n else values_of context before) v in
          record {
            few = same_few context before after still.any (λ class. still_class class before x still) is f;
            named = λ j. this_named context after x n j e (or_left (is_among n (declared_by (before ++ x ∷ []))) (is_among n (values_of context (before ++ x ∷ []))) (ap (is_among n) still.any ∙ used_other context before n k));
          })
    ] refl h

-- a name that is declared
pub no_feature : (a b : Bool) (full : Option FileCode) → (if a then Some FeatureInCode else (if b then None else full)) ≡ None → a ≡ false
no_feature true b full e = absurd cc
no_feature false b full e = refl

no_new_fault : (a b : Bool) (full : Option FileCode) → (if a then Some FeatureInCode else (if b then None else full)) ≡ None → (b ≡ true) ⊎ (full ≡ None)
no_new_fault true b full e = absurd cc
no_new_fault false true full e = inl refl
no_new_fault false false full e = inr e

some_if : (code : FileCode) (b : Bool) → (if b then Some code else None) ≡ None → b ≡ false
some_if code true e = absurd cc
some_if code false e = refl

one_more : (names others : List ℕ) (n : ℕ) → length (with_new true names others n) ≤ length others + 1
one_more names others n = elim (is_among n names) as (λ b. length (if not b then others ++ n ∷ [] else others) ≤ length others + 1) [
  | true ↦ omega arith
  | false ↦ omega (arith, length-append others (n ∷ []))
]

no_more : (of_it : Bool) (names others : List ℕ) (n : ℕ) → is_among n names ≡ true → with_new of_it names others n ≡ others
no_more true names others n old = ap (λ (b : Bool). if not b then others ++ n ∷ [] else others) old
no_more false names others n old = refl

-- the names of its class have room, and the others stay
with_room : (others : NameClass → List ℕ) (class other : NameClass) (names : List ℕ) (values n : ℕ) → (is_among n names ≡ true) ⊎ (full_fault class (length (others class)) values ≡ None)
    → taken other (length (others other)) values ≤ 16 → taken other (length (with_new (is_class other class) names (others other) n)) values ≤ 16
with_room others class other names values n (inl old) le = subst (λ (ns : List ℕ). taken other (length ns) values ≤ 16) (sym (no_more (is_class other class) names (others other) n old)) le
with_room others classes.Variable classes.Variable names values n (inr full) le =
    let variables = others classes.Variable in
    omega (arith, one_more names variables n, not_full (length variables) (some_if TooManyVariables (nat_le 16 (length variables)) full))
with_room others classes.Variable classes.Local names values n (inr full) le = le
with_room others classes.Variable classes.Constant names values n (inr full) le = le
with_room others classes.Local classes.Variable names values n (inr full) le = le
with_room others classes.Local classes.Local names values n (inr full) le =
    let locals = others classes.Local in
    omega (arith, one_more names locals n, not_full (length locals) (some_if TooManyVariables (nat_le 16 (length locals)) full))
with_room others classes.Local classes.Constant names values n (inr full) le = le
with_room others classes.Constant classes.Variable names values n (inr full) le = le
with_room others classes.Constant classes.Local names values n (inr full) le = le
with_room others classes.Constant classes.Constant names values n (inr full) le =
    let constants = others classes.Constant in
    omega (arith, one_more names constants n, not_full (length constants + values) (some_if TooManyConstants (nat_le 16 (length constants + values)) full))

-- what no fault says of a declaration: its name is no feature's, and it is an old one, or there is room for one of its class
abbrev class_full : NameContext → List Item → Option FileCode
class_full context before = full_fault (class_behind before) (length (names_of_class (class_behind before) before)) (length (values_of context before))

pub no_feature_declared : (context : NameContext) (before : List Item) (n : ℕ) → IsDeclarationFault context before n None → is_feature context n ≡ false
no_feature_declared context before n h =
    no_feature (is_feature context n) (is_among n (declared_by before)) (class_full context before) (no_other Twice (new_name_fault context before n) h.found h.fault_is)

old_or_room : (context : NameContext) (before : List Item) (n : ℕ) → IsDeclarationFault context before n None → (is_among n (each_once [] (declared_by before)) ≡ true) ⊎ (class_full context before ≡ None)
old_or_room context before n h =
    elim (no_new_fault (is_feature context n) (is_among n (declared_by before)) (class_full context before) (no_other Twice (new_name_fault context before n) h.found h.fault_is)) [
      | inl old ↦ inl (once_has n [] (declared_by before) old)
      | inr full ↦ inr full
    ]

declaration_step : (context : NameContext) (before : List Item) (x : Item) (n : ℕ) → x.sign ≡ signs.Name n → is_used_behind before ≡ false → IsDeclarationFault context before n None → AreFew context before → IsFine context before x
declaration_step context before x n e u h f =
    let names = each_once [] (declared_by before) in
    let all : declared_by (before ++ x ∷ []) ≡ declared_by before ++ n ∷ [] = ap (λ (y : Item). declared_by (before ++ y ∷ [])) (sym (at_name x n e)) ∙ (more_named before x.place n u).any in
    let other : is_feature context n ≡ false = no_feature_declared context before n h in
    let more : (class : NameClass) → names_of_class class (before ++ x ∷ []) ≡ with_new (is_class class (class_behind before)) (each_once [] (declared_by before)) (names_of_class class before) n =
    λ class. ap (λ (y : Item). names_of_class class (before ++ y ∷ [])) (sym (at_name x n e)) ∙ more_class class before x.place n u in
    let values : values_of context (before ++ x ∷ []) ≡ values_of context before =
    ap (λ (y : Item). values_of context (before ++ y ∷ [])) (sym (at_name x n e)) ∙ still_valued context before x.place n (no_value context n other) in
    record {
      few = record {
        names = λ class. subst (λ (ns : List ℕ). taken class (length ns) (length (values_of context (before ++ x ∷ []))) ≤ 16) (sym (more class))
            (subst (λ (ns : List ℕ). taken class (length (with_new (is_class class (class_behind before)) (each_once [] (declared_by before)) (names_of_class class before) n)) (length ns) ≤ 16) (sym values)
            (with_room (λ (other : NameClass). names_of_class other before) (class_behind before) class names (length (values_of context before)) n (old_or_room context before n h) (f.names class)));
        tests = subst (λ (ns : List ℕ). test_count context ns ≤ 256) (sym values) f.tests;
        apart = λ k i. (elim (or_cases (is_among k (declared_by before)) (is_among k (n ∷ [])) (sym (list_any-append (nat_eq k) (declared_by before) (n ∷ [])) ∙ ap (is_among k) (sym all) ∙ i)) [
          | inl old ↦ f.apart k old
          | inr new ↦ (elim (or_cases (nat_eq k n) false new) [
            | inl e1 ↦ subst (λ (j : ℕ). is_feature context j ≡ false) (sym (is_same k n e1)) other
            | inr e1 ↦ absurd cc
          ])
        ]);
      };
      named = λ j. this_named context (before ++ x ∷ []) x n j e (or_left (is_among n (declared_by (before ++ x ∷ []))) (is_among n (values_of context (before ++ x ∷ []))) (ap (is_among n) all
          ∙ list_any-append (nat_eq n) (declared_by before) (n ∷ []) ∙ or_right (is_among n (declared_by before)) (nat_eq n n || false) (ap (λ b. b || false) (same_number n))));
    }

name_step : (context : NameContext) (before : List Item) (x : Item) (n : ℕ) → x.sign ≡ signs.Name n → IsNameFault context before (signs.Name n) None → AreFew context before → IsFine context before x
name_step context before x n e h f =
    elim (is_used_behind before) as (λ b. is_used_behind before ≡ b → IsEither b (IsUseFault context before n None) (IsDeclarationFault context before n None) → IsFine context before x) [
      | true ↦ λ u k. use_step context before x n e u k f
      | false ↦ λ u k. declaration_step context before x n e u k f
    ] refl h

step : (context : NameContext) (before : List Item) (x : Item) → IsNameFault context before x.sign None → AreFew context before → IsFine context before x
step context before x h f = elim (names_this x.sign) [
  | inl e ↦ silent_step context before x e f
  | inr e ↦ name_step context before x e.0 e.1 (subst (λ (s : Sign). IsNameFault context before s None) e.1 h) f
]

-- ---- all items

pub record AreFine (context : NameContext) (before xs : List Item) : Type 0 where
  pub few : AreFew context (before ++ xs)
  pub named : (n : ℕ) → has n xs ≡ true → is_named context (before ++ xs) n ≡ true

among_values : (context : NameContext) (n : ℕ) (items : List Item) → is_among n (values_of context items) ≡ is_among n (filter (is_value context) (names_of (behind_main items)))
among_values context n items = among_once n [] (filter (is_value context) (names_of (behind_main items)))

-- before `main` nothing is used
unused_yet : (context : NameContext) (before : List Item) → has_main before ≡ false → values_of context before ≡ []
unused_yet context before m = ap (λ (ys : List Item). each_once [] (filter (is_value context) (names_of ys))) (behind_none before m)

-- what is used stays used
values_stay : (context : NameContext) (n : ℕ) (before more : List Item) → is_among n (values_of context before) ≡ true → is_among n (values_of context (before ++ more)) ≡ true
values_stay context n before more h = elim (has_main before) as (λ b. has_main before ≡ b → is_among n (values_of context (before ++ more)) ≡ true) [
  | true ↦ λ m. among_values context n (before ++ more)
      ∙ ap (λ (ys : List Item). is_among n (filter (is_value context) (names_of ys))) (behind_on before more m)
      ∙ ap (λ (ns : List ℕ). is_among n (filter (is_value context) ns)) (names_append (behind_main before) more)
      ∙ ap (is_among n) (filter-append (is_value context) (names_of (behind_main before)) (names_of more))
      ∙ among_front n (filter (is_value context) (names_of (behind_main before))) (filter (is_value context) (names_of more)) (sym (among_values context n before) ∙ h)
  | false ↦ λ m. absurd (let bad : true ≡ false = sym h ∙ ap (is_among n) (unused_yet context before m) in cc)
] refl

named_stays : (context : NameContext) (n : ℕ) (before more : List Item) → is_named context before n ≡ true → is_named context (before ++ more) n ≡ true
named_stays context n before more h = elim (or_cases (is_among n (declared_by before)) (is_among n (values_of context before)) h) [
  | inl e ↦ or_left (is_among n (declared_by (before ++ more))) (is_among n (values_of context (before ++ more))) (stays n before more e)
  | inr e ↦ or_right (is_among n (declared_by (before ++ more))) (is_among n (values_of context (before ++ more))) (values_stay context n before more e)
]

all_steps : (context : NameContext) (before : List Item) (x : Item) (xs : List Item) → IsFine context before x → AreFine context (before ++ x ∷ []) xs → AreFine context before (x ∷ xs)
all_steps context before x xs f a =
    let same : (before ++ x ∷ []) ++ xs ≡ before ++ x ∷ xs = append_assoc before (x ∷ []) xs in
    record {
      few = subst (AreFew context) same a.few;
      named = λ n h. subst (λ (ys : List Item). is_named context ys n ≡ true) same (elim (or_cases (is_name n x.sign) (has n xs) h) [
        | inl e ↦ named_stays context n (before ++ x ∷ []) xs (f.named n e)
        | inr e ↦ a.named n e
      ]);
    }

pub later_of : (code : Option FileCode) (place : Place) (later : Type 0) → IsThisOr code place None later → (code ≡ None) × later
later_of None place later h = (refl, h)
later_of (Some code) place later h = absurd cc

walk : (context : NameContext) (before xs : List Item) → IsFaultFrom context before xs None → AreFew context before → AreFine context before xs
walk context before [] h f = record {
  few = subst (AreFew context) (sym (append-nil before)) f;
  named = λ n k. absurd cc;
}
walk context before (x ∷ xs) h f =
    let l = later_of h.0 x.place (IsChangeOr context before x None (IsFaultFrom context (before ++ x ∷ []) xs None)) h.2 in
    let m = later_of l.1.0 (changed_place before x) (IsFaultFrom context (before ++ x ∷ []) xs None) l.1.2 in
    let g = step context before x (subst (λ (c : Option FileCode). IsNameFault context before x.sign c) l.0 h.1) f in
    all_steps context before x xs g (walk context (before ++ x ∷ []) xs m.1 g.few)

none_yet : (class : NameClass) → taken class 0 0 ≤ 16
none_yet classes.Variable = omega arith
none_yet classes.Local = omega arith
none_yet classes.Constant = omega arith

-- the names of a family without a fault
pub all_fine : (context : NameContext) (items : List Item) → family.IsFirstNameFault context items None → AreFine context [] items
all_fine context items h = walk context [] items h (record { names = none_yet; tests = omega arith; apart = λ n e. absurd cc })

-- a family of which each name occurs and none has a fault has at most 48 names
pub few_names : (context : NameContext) (items : List Item) (count : ℕ) → family.IsFirstNameFault context items None → ((x : ℕ) → x < count → has x items ≡ true) → count ≤ 48
few_names context items count h occur =
    let f = all_fine context items h in
    let all = each_once [] (declared_by items) in
    let values = values_of context items in
    let most : count ≤ length (each_once [] (declared_by items) ++ values_of context items) =
    at_least count (all ++ values) (λ x lt. among_both x all values (is_among x (declared_by items)) (sym (among_once x [] (declared_by items))) (f.named x (occur x lt))) in
    omega (arith, most, length-append (each_once [] (declared_by items)) (values_of context items), all_classes (class_in items) (each_once [] (declared_by items)), f.few.names classes.Variable, f.few.names classes.Local, f.few.names classes.Constant)
