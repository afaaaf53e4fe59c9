-- Without groups each item is kept.
use Rattle.std.proofs.Common.{◌≡◌, ℕ, ℤ, Bool, true, false, not, ◌&&◌, List, [], ◌∷◌, ◌++◌, length, Option, Some, None, refl, sym, ap, ◌∙◌}
use Rattle.std.specs.Prelude.{◌||◌, if◌then◌else◌}
use Rattle.fam_outer.specs.declared.faults.FileCode.{FileCode}
use Rattle.fam_outer.specs.declared.faults.FileCode.TheVariants.{Undeclared, Twice, FeatureInCode}
use Rattle.linear_atoms.specs.declared.atoms.Config.{Config}
use Rattle.cpp_conditions.specs.declared.models.Model.{Model}
use Rattle.cpp_groups.specs.Kept.{sections_after, all_kept}
use Rattle.cpp_groups.specs.declared.section.Section.{Section}
use Rattle.c_grammar.specs.declared.items.Item.{Item}
use Rattle.c_grammar.specs.declared.items.Sign.{Sign}
use Rattle.c_grammar.specs.declared.items.Sign.TheVariants as signs
use Rattle.c_grammar.specs.Constants.{is_name}
use Rattle.c_grammar.specs.Grammar.{is_group}
use Rattle.c_grammar.specs.Kept.{directive_of, kept_from}
use Rattle.c_grammar.specs.Locals.{is_declaring, declarations_from, of_declarations, is_in_own}
use Rattle.c_grammar.specs.Scopes.{is_open_behind, scoped_from, in_scope, names_in_scope, is_static_behind, barred, names_taken}
use Rattle.atom_solver.specs.Solutions.{Finds}
use Rattle.family_names.specs.Names.{NameContext, truths_at, names_of, is_main, declared_by, in_scope_at, taken_at, constants_of, values_of, is_among, sections_behind, is_kept, is_missed, is_met_again, is_feature, is_value, value_fault, new_name_fault, IsWithFirst, IsEither, is_used_behind, IsUseFault, IsDeclarationFault, code_with}
use Rattle.family_names.specs.Laws.{has_groups, IsPlainUseFault, PlainNames}
use Rattle.family_names.proofs.Answering.{found_same}
use Rattle.family_names.proofs.Barred.{locals_plain}

pub no_directive : (s : Sign) → is_group s ≡ false → directive_of s ≡ None
no_directive (signs.GroupIf n) h = absurd cc
no_directive (signs.GroupElif n) h = absurd cc
no_directive signs.GroupElse h = absurd cc
no_directive signs.GroupEnd h = absurd cc
no_directive _ h = refl

pub or_first : (a b : Bool) → (a || b) ≡ false → a ≡ false
or_first true b h = absurd cc
or_first false b h = refl

pub or_second : (a b : Bool) → (a || b) ≡ false → b ≡ false
or_second true b h = absurd cc
or_second false b h = h

after_none : (truths : List Bool) (x : Item) → is_group x.sign ≡ false → sections_after truths [] (directive_of x.sign) ≡ []
after_none truths x h = rw (no_directive x.sign h) refl

none_open : (truths : List Bool) (w : List Item) → has_groups w ≡ false → sections_behind truths [] w ≡ []
none_open truths [] h = refl
none_open truths (x ∷ xs) h =
    ap (λ (ss : List Section). sections_behind truths ss xs) (after_none truths x (or_first (is_group x.sign) (has_groups xs) h)) ∙ none_open truths xs (or_second (is_group x.sign) (has_groups xs) h)

pub all_stay : (truths : List Bool) (w : List Item) → has_groups w ≡ false → kept_from truths [] w ≡ w
all_stay truths [] h = refl
all_stay truths (x ∷ xs) h =
    let g : is_group x.sign ≡ false = or_first (is_group x.sign) (has_groups xs) h in
    ap (λ (b : Bool). if (not b && true) then x ∷ kept_from truths (sections_after truths [] (directive_of x.sign)) xs else kept_from truths (sections_after truths [] (directive_of x.sign)) xs) g
    ∙ ap (λ (ss : List Section). x ∷ kept_from truths ss xs) (after_none truths x g)
    ∙ ap (λ (ys : List Item). x ∷ ys) (all_stay truths xs (or_second (is_group x.sign) (has_groups xs) h))

-- the items without the names that `main` uses
declared_none : (main declaring : Bool) (w : List Item) → has_groups w ≡ false → has_groups (declarations_from main declaring w) ≡ false
declared_none main declaring [] h = refl
declared_none main declaring (x ∷ xs) h =
    let m = main || is_main x.sign in
    let d = is_declaring x.sign in
    let rest = declared_none m d xs (or_second (is_group x.sign) (has_groups xs) h) in
    elim (main && not declaring && is_name x.sign) as (λ b. has_groups (if b then declarations_from (main || is_main x.sign) (is_declaring x.sign) xs else x ∷ declarations_from (main || is_main x.sign) (is_declaring x.sign) xs) ≡ false) [
      | true ↦ rest
      | false ↦ ap (λ (b : Bool). b || has_groups (declarations_from m d xs)) (or_first (is_group x.sign) (has_groups xs) h) ∙ rest
    ]

-- and without those whose block is left
scoped_none : (n : ℕ) (main : Bool) (w : List Item) → has_groups w ≡ false → has_groups (scoped_from n main w) ≡ false
scoped_none n main [] h = refl
scoped_none n main (x ∷ xs) h =
    let m = main || is_main x.sign in
    let rest = scoped_none n m xs (or_second (is_group x.sign) (has_groups xs) h) in
    elim (main && is_name x.sign && not (is_open_behind n xs)) as (λ b. has_groups (if b then scoped_from n (main || is_main x.sign) xs else x ∷ scoped_from n (main || is_main x.sign) xs) ≡ false) [
      | true ↦ rest
      | false ↦ ap (λ (b : Bool). b || has_groups (scoped_from n m xs)) (or_first (is_group x.sign) (has_groups xs) h) ∙ rest
    ]

pub kept_plain : (truths : List Bool) (before : List Item) → has_groups before ≡ false → is_kept truths before ≡ true
kept_plain truths before h = ap all_kept (none_open truths before h)

scope_plain : (truths : List Bool) (before : List Item) → has_groups before ≡ false → in_scope_at truths before ≡ names_in_scope before
scope_plain truths before h = ap names_of (all_stay truths (in_scope before) (scoped_none 0 false (of_declarations before) (declared_none false false before h)))

taken_plain : (truths : List Bool) (before : List Item) → has_groups before ≡ false → taken_at truths before ≡ names_taken before
taken_plain truths before h =
    ap (λ (ns : List ℕ). ns ++ names_of (kept_from truths [] (barred before))) (scope_plain truths before h)
    ∙ ap (λ (ys : List Item). names_in_scope before ++ names_of ys)
    (all_stay truths (barred before) (locals_plain (not (is_static_behind before)) false false (of_declarations before) (declared_none false false before h)))

-- a name is missed where it stands in its own declarator, or behind the block of its declaration
abbrev is_plain_missed : List Item → ℕ → Bool
is_plain_missed before x = is_in_own before x || not (is_among x (names_in_scope before))

missed_plain : (context : NameContext) (before : List Item) (x : ℕ) → has_groups before ≡ false → (values : List ℤ) → is_missed context before x values ≡ is_plain_missed before x
missed_plain context before x h values =
    ap (λ (b : Bool). b && (is_in_own before x || not (is_among x (in_scope_at (truths_at context values) before)))) (kept_plain (truths_at context values) before h)
    ∙ ap (λ (ns : List ℕ). is_in_own before x || not (is_among x ns)) (scope_plain (truths_at context values) before h)

met_plain : (context : NameContext) (before : List Item) (x : ℕ) → has_groups before ≡ false → (values : List ℤ) → is_met_again context before x values ≡ is_among x (names_taken before)
met_plain context before x h values =
    ap (λ (b : Bool). b && is_among x (taken_at (truths_at context values) before)) (kept_plain (truths_at context values) before h)
    ∙ ap (is_among x) (taken_plain (truths_at context values) before h)

-- where this holds nowhere, nothing is found
pub never_found : (model : Model) (holds : List ℤ → Bool) (code : Option (List ℤ) → FileCode) (other fault : Option FileCode) → ((values : List ℤ) → holds values ≡ false) → IsWithFirst model holds code other fault → fault ≡ other
never_found model holds code other fault none w = by_found w.found w.finds w.fault_is
  where
    by_found : (found : Option Config) → Finds model holds found → fault ≡ code_with code other found → fault ≡ other
    by_found None h e = e
    by_found (Some config) h e = absurd (let f : true ≡ false = sym h.met ∙ none config.values in cc)

-- a name that is declared: it is missed at each configuration, or at none
declared_plain : (context : NameContext) (before : List Item) (x : ℕ) (fault : Option FileCode) → has_groups before ≡ false → IsWithFirst context.model (is_missed context before x) Undeclared None fault
    → IsEither (is_plain_missed before x) (IsWithFirst context.model (λ (values : List ℤ). true) Undeclared None fault) (fault ≡ None)
declared_plain context before x fault h w =
    elim (is_plain_missed before x) as (λ o. is_plain_missed before x ≡ o → IsEither o (IsWithFirst context.model (λ (values : List ℤ). true) Undeclared None fault) (fault ≡ None)) [
      | true ↦ λ o. record { found = w.found; finds = found_same context.model (is_missed context before x) (λ (values : List ℤ). true) (λ values. missed_plain context before x h values ∙ o) w.found w.finds; fault_is = w.fault_is }
      | false ↦ λ o. never_found context.model (is_missed context before x) Undeclared None fault (λ values. missed_plain context before x h values ∙ o) w
    ] refl

-- where a name that is no value's is used, without groups
abbrev IsOtherPlain : NameContext → List Item → ℕ → Option FileCode → Type 0
IsOtherPlain context before x fault =
    IsEither (is_feature context x) (fault ≡ Some FeatureInCode)
    (IsEither (not (is_among x (declared_by before))) (fault ≡ Some (Undeclared None))
    (IsEither (is_plain_missed before x) (IsWithFirst context.model (λ (values : List ℤ). true) Undeclared None fault) (fault ≡ None)))

other_plain : (context : NameContext) (before : List Item) (x : ℕ) (fault : Option FileCode) → has_groups before ≡ false → IsEither (is_feature context x) (fault ≡ Some FeatureInCode)
    (IsEither (is_among x (declared_by before)) (IsWithFirst context.model (is_missed context before x) Undeclared None fault) (fault ≡ Some (Undeclared None)))
    → IsOtherPlain context before x fault
other_plain context before x fault h u =
    elim (is_feature context x) as (λ f. IsEither f (fault ≡ Some FeatureInCode) (IsEither (is_among x (declared_by before)) (IsWithFirst context.model (is_missed context before x) Undeclared None fault) (fault ≡ Some (Undeclared None)))
    → IsEither f (fault ≡ Some FeatureInCode) (IsEither (not (is_among x (declared_by before))) (fault ≡ Some (Undeclared None))
    (IsEither (is_plain_missed before x) (IsWithFirst context.model (λ (values : List ℤ). true) Undeclared None fault) (fault ≡ None)))) [
      | true ↦ λ e. e
      | false ↦ elim (is_among x (declared_by before)) as (λ a. IsEither a (IsWithFirst context.model (is_missed context before x) Undeclared None fault) (fault ≡ Some (Undeclared None))
          → IsEither (not a) (fault ≡ Some (Undeclared None)) (IsEither (is_plain_missed before x) (IsWithFirst context.model (λ (values : List ℤ). true) Undeclared None fault) (fault ≡ None))) [
            | true ↦ λ w. declared_plain context before x fault h w
            | false ↦ λ e. e
          ]
    ] u

use_plain : (context : NameContext) (before : List Item) (x : ℕ) (fault : Option FileCode) → has_groups before ≡ false → IsUseFault context before x fault → IsPlainUseFault context before x fault
use_plain context before x fault h u =
    elim (is_value context x) as (λ v. IsEither v (fault ≡ value_fault context (values_of context before) (length (constants_of before)) x)
    (IsEither (is_feature context x) (fault ≡ Some FeatureInCode) (IsEither (is_among x (declared_by before)) (IsWithFirst context.model (is_missed context before x) Undeclared None fault) (fault ≡ Some (Undeclared None))))
    → IsEither v (fault ≡ value_fault context (values_of context before) (length (constants_of before)) x) (IsOtherPlain context before x fault)) [
      | true ↦ λ e. e
      | false ↦ λ e. other_plain context before x fault h e
    ] u

declaration_plain : (context : NameContext) (before : List Item) (x : ℕ) (fault : Option FileCode) → has_groups before ≡ false → IsDeclarationFault context before x fault
    → IsEither (is_among x (names_taken before)) (IsWithFirst context.model (λ (values : List ℤ). true) Twice (new_name_fault context before x) fault) (fault ≡ new_name_fault context before x)
declaration_plain context before x fault h w =
    elim (is_among x (names_taken before)) as (λ a. is_among x (names_taken before) ≡ a → IsEither a (IsWithFirst context.model (λ (values : List ℤ). true) Twice (new_name_fault context before x) fault) (fault ≡ new_name_fault context before x)) [
      | true ↦ λ a. record { found = w.found; finds = found_same context.model (is_met_again context before x) (λ (values : List ℤ). true) (λ values. met_plain context before x h values ∙ a) w.found w.finds; fault_is = w.fault_is }
      | false ↦ λ a. never_found context.model (is_met_again context before x) Twice (new_name_fault context before x) fault (λ values. met_plain context before x h values ∙ a) w
    ] refl

pub plain_names : PlainNames
plain_names context before x fault h n =
    elim (is_used_behind before) as (λ m. IsEither m (IsUseFault context before x fault) (IsDeclarationFault context before x fault) → IsEither m (IsPlainUseFault context before x fault)
    (IsEither (is_among x (names_taken before)) (IsWithFirst context.model (λ (values : List ℤ). true) Twice (new_name_fault context before x) fault) (fault ≡ new_name_fault context before x))) [
      | true ↦ λ u. use_plain context before x fault h u
      | false ↦ λ w. declaration_plain context before x fault h w
    ] n
