-- Faults of names that have no example.
use Rattle.std.proofs.Common.{◌≡◌, ℕ, ◌+◌, Bool, true, false, List, [], ◌∷◌, ◌++◌, length, Option, Some, None, refl, sym, ap, ◌∙◌}
use Rattle.std.specs.Prelude.{nat_le, nat_lt, if◌then◌else◌}
use Rattle.fam_outer.specs.declared.faults.FileCode.{FileCode}
use Rattle.fam_outer.specs.declared.faults.FileCode.TheVariants.{FeatureInCode, TooManyVariables, TooManyValueTests, TooManyConstants}
use Rattle.c_grammar.specs.declared.constants.NameClass.{NameClass}
use Rattle.c_grammar.specs.declared.constants.NameClass.TheVariants as classes
use Rattle.c_grammar.specs.declared.items.Item.{Item}
use Rattle.family_names.specs.Names.{NameContext, declared_by, names_of_class, class_behind, values_of, is_among, is_feature, is_feature_function, test_count, value_fault, full_fault, new_name_fault, function_fault}
use Rattle.reading_laws.proofs.Early.{is_of_name}

abbrev pub some_code : FileCode → Option FileCode
some_code code = Some code

-- the fault of a value is none of both
pub clash : (code other : FileCode) → is_of_name code ≡ true → is_of_name other ≡ false → some_code code ≡ some_code other → ⊥
clash code other h k e = let same : code ≡ other = cc in (let bad : true ≡ false = sym h ∙ ap is_of_name same ∙ k in cc)

pub no_room : (code other : FileCode) (b : Bool) (later : Option FileCode) → is_of_name code ≡ true → is_of_name other ≡ false → (some_code code ≡ later → ⊥) → some_code code ≡ (if b then some_code other else later) → ⊥
no_room code other true later h k never e = clash code other h k e
no_room code other false later h k never e = never e

pub no_fault_again : (code : FileCode) (b : Bool) (later : Option FileCode) → (some_code code ≡ later → ⊥) → some_code code ≡ (if b then None else later) → ⊥
no_fault_again code true later never e = cc
no_fault_again code false later never e = never e

pub not_of_value : (context : NameContext) (used : List ℕ) (constants n : ℕ) (code : FileCode) → is_of_name code ≡ true → some_code code ≡ value_fault context used constants n → ⊥
not_of_value context used constants n code h e =
    let tests : Bool = nat_lt 256 (test_count context (used ++ n ∷ [])) in
    let full : Bool = nat_le 16 (constants + length used) in
    no_fault_again code (is_among n used) (if tests then some_code TooManyValueTests else (if full then some_code TooManyConstants else None))
    (λ f. no_room code TooManyValueTests tests (if full then some_code TooManyConstants else None) h refl (λ g. no_room code TooManyConstants full None h refl (λ k. cc) g) f) e

pub not_full : (class : NameClass) (names values : ℕ) (code : FileCode) → is_of_name code ≡ true → some_code code ≡ full_fault class names values → ⊥
not_full classes.Constant names values code h e = no_room code TooManyConstants (nat_le 16 (names + values)) None h refl (λ k. cc) e
not_full classes.Variable names values code h e = no_room code TooManyVariables (nat_le 16 names) None h refl (λ k. cc) e
not_full classes.Local names values code h e = no_room code TooManyVariables (nat_le 16 names) None h refl (λ k. cc) e

-- that of a function neither
pub not_of_function : (context : NameContext) (k : ℕ) (code : FileCode) → is_of_name code ≡ true → some_code code ≡ function_fault context k → ⊥
not_of_function context k code h e = no_room code FeatureInCode (is_feature_function context k) None h refl (λ none. cc) e

-- the other fault of a new name is none of both
pub not_new : (context : NameContext) (front : List Item) (n : ℕ) (code : FileCode) → is_of_name code ≡ true → some_code code ≡ new_name_fault context front n → ⊥
not_new context front n code h e =
    let class : NameClass = class_behind front in
    let names : ℕ = length (names_of_class class front) in
    let values : ℕ = length (values_of context front) in
    let full : Option FileCode = full_fault class names values in
    no_room code FeatureInCode (is_feature context n) (if is_among n (declared_by front) then None else full) h refl
    (λ k. no_fault_again code (is_among n (declared_by front)) full (λ g. not_full class names values code h g) k) e
