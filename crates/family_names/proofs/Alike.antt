-- Items have one first fault of a name.
use Rattle.std.proofs.Common.{◌≡◌, ℕ, ℤ, ◌<ℤ◌, ◌≤ℤ◌, Bool, true, false, not, ◌&&◌, List, [], ◌∷◌, ◌++◌, length, slice_get, Option, Some, None, refl, sym, ap, subst, ◌∙◌, inl, inr, arith}
use Rattle.std.specs.Prelude.{◌+◌, ◌||◌, if◌then◌else◌, nat_le, nat_lt}
use Rattle.std.specs.List.{list_any}
use Rattle.std.specs.Str.{bytes_eq}
use Rattle.std.proofs.lemmas.Int.{by_lt_z, ints}
use Rattle.std.proofs.lemmas.List.Elements.{filter_agree}
use Rattle.std.proofs.lemmas.List.Sums.{sum_by-cons}
use Rattle.fam_outer.specs.declared.faults.FileCode.{FileCode}
use Rattle.fam_outer.specs.declared.faults.FileCode.TheVariants.{Undeclared, Twice, FeatureInCode, TooManyValueTests, ChangedConstant, TooManyConstants}
use Rattle.fam_outer.specs.declared.faults.Place.{Place}
use Rattle.linear_atoms.specs.Atoms.{IsWithin}
use Rattle.linear_atoms.specs.declared.atoms.Config.{Config}
use Rattle.linear_atoms.specs.declared.atoms.Feature.{Feature}
use Rattle.cpp_conditions.specs.declared.models.Model.{Model}
use Rattle.cpp_conditions.specs.Validity.{Plain, plain, IsValid}
use Rattle.cpp_conditions.proofs.Within.{valid_parts}
use Rattle.c_grammar.specs.declared.items.Item.{Item}
use Rattle.c_grammar.specs.declared.items.Sign.{Sign}
use Rattle.c_grammar.specs.declared.items.Sign.TheVariants as signs
use Rattle.c_grammar.specs.Changes.{changed_at}
use Rattle.c_grammar.specs.Functions.{is_void, is_equals, stands_behind}
use Rattle.c_grammar.specs.Locals.{is_in_own}
use Rattle.atom_solver.specs.Solutions.{IsBefore, IsFirst, Finds}
use Rattle.family_names.specs.Functions.{functions_at, callable_by, callable_at}
use Rattle.family_names.specs.Laws.{AreAlike, NamesAreJudgedOnce}
use Rattle.family_names.specs.Names.{NameContext, truths_at, has_main, names_of, declared_by, in_scope_at, taken_at, names_of_class, class_behind, constants_of, behind_main, values_of, test_count, is_among, each_once, is_kept, is_missed, is_met_again, is_met_unlike, is_uncallable, is_met_constant, constants_at, is_feature_name, is_feature, feature_in, named_feature, feature_of, is_integer, is_value, width_or_none, value_fault, full_fault, new_name_fault, function_fault, code_with, IsWithFirst, IsEither, is_used_behind, IsUseFault, IsDeclarationFault, IsPrototypeFault, IsCallFault, IsNameFault, IsChangeOf, IsChangeFault, changed_place, IsThisOr, IsChangeOr, IsFaultFrom}

-- ---- the first configuration

between : (v w : ℤ) → w ≤ℤ v → v ≤ℤ w → v ≡ w
between v w h k = omega (arith, ints)

same_value : (v w : ℤ) → (v <ℤ w → ⊥) → (w <ℤ v → ⊥) → v ≡ w
same_value v w h k = by_lt_z v w (λ l. absurd (h l)) (λ i. by_lt_z w v (λ l. absurd (k l)) (λ j. between v w i j))

-- of two configurations over the same features, one is before the other, or they are one
same_values : (fs : List Feature) (vs ws : List ℤ) → IsWithin fs vs → IsWithin fs ws → (IsBefore vs ws → ⊥) → (IsBefore ws vs → ⊥) → vs ≡ ws
same_values [] [] [] h k b c = refl
same_values [] [] (w ∷ ws) h k b c = absurd k
same_values [] (v ∷ vs) ws h k b c = absurd h
same_values (f ∷ fs) [] ws h k b c = absurd h
same_values (f ∷ fs) (v ∷ vs) [] h k b c = absurd k
same_values (f ∷ fs) (v ∷ vs) (w ∷ ws) h k b c =
    let e : v ≡ w = same_value v w (λ l. b (inl l)) (λ l. c (inl l)) in
    ap (λ (x : ℤ). x ∷ vs) e ∙ ap (λ (xs : List ℤ). w ∷ xs) (same_values fs vs ws h.2 k.2 (λ l. b (inr (e, l))) (λ l. c (inr (sym e, l))))

same_first : (m n : Model) → plain m ≡ plain n → (p q : List ℤ → Bool) → ((values : List ℤ) → p values ≡ q values) → (vs ws : List ℤ) → IsFirst m p vs → IsFirst n q ws → vs ≡ ws
same_first m n e p q s vs ws f g =
    let here : IsValid (plain m) ws = subst (λ (x : Plain). IsValid x ws) (sym e) g.valid in
    let there : IsValid (plain n) vs = subst (λ (x : Plain). IsValid x vs) e f.valid in
    same_values m.features vs ws (valid_parts (plain m) vs f.valid).0 (valid_parts (plain m) ws here).0
    (λ b. g.first vs there (sym (s vs) ∙ f.met) b)
    (λ b. f.first ws here (s ws ∙ g.met) b)

never_met : (m n : Model) → plain m ≡ plain n → (p q : List ℤ → Bool) → ((values : List ℤ) → p values ≡ q values) → (values : List ℤ) → Finds m p None → IsFirst n q values → ⊥
never_met m n e p q s values h f =
    let k : false ≡ true = sym (h values (subst (λ (x : Plain). IsValid x values) (sym e) f.valid)) ∙ s values ∙ f.met in
    cc

same_with : (m n : Model) → plain m ≡ plain n → (p q : List ℤ → Bool) → ((values : List ℤ) → p values ≡ q values) → (code : Option (List ℤ) → FileCode) (other another c d : Option FileCode) → other ≡ another
    → IsWithFirst m p code other c → IsWithFirst n q code another d → c ≡ d
same_with m n e p q s code other another c d o w z = by_found w.found z.found w.finds z.finds w.fault_is z.fault_is
  where
    by_found : (f g : Option Config) → Finds m p f → Finds n q g → c ≡ code_with code other f → d ≡ code_with code another g → c ≡ d
    by_found None None h k i j = i ∙ o ∙ sym j
    by_found None (Some g) h k i j = absurd (never_met m n e p q s g.values h k)
    by_found (Some f) None h k i j = absurd (never_met n m (sym e) q p (λ values. sym (s values)) f.values k h)
    by_found (Some f) (Some g) h k i j = i ∙ ap (λ (vs : List ℤ). Some (code (Some vs))) (same_first m n e p q s f.values g.values h k) ∙ sym j

-- ---- one item

same_feature_name : (m n : Model) → m.features ≡ n.features → (o : Option (List ℕ)) → is_feature_name m o ≡ is_feature_name n o
same_feature_name m n e None = refl
same_feature_name m n e (Some name) = ap (λ (fs : List Feature). list_any (λ f. bytes_eq f.name name) fs) e

same_feature : (a b : NameContext) → AreAlike a b → (x : ℕ) → is_feature a x ≡ is_feature b x
same_feature a b s x =
    same_feature_name a.model b.model (ap (λ (p : Plain). p.features) s.models) (slice_get a.names x) ∙ ap (λ (names : List (List ℕ)). is_feature_name b.model (slice_get names x)) s.names

same_function : (a b : NameContext) → AreAlike a b → (k : ℕ) → function_fault a k ≡ function_fault b k
same_function a b s k =
    ap (λ (f : Bool). if f then Some FeatureInCode else None) (same_feature_name a.model b.model (ap (λ (p : Plain). p.features) s.models) (slice_get a.functions k)
    ∙ ap (λ (functions : List (List ℕ)). is_feature_name b.model (slice_get functions k)) s.functions)

same_named : (m n : Model) → m.features ≡ n.features → (o : Option (List ℕ)) → named_feature m o ≡ named_feature n o
same_named m n e None = refl
same_named m n e (Some name) = ap (λ (fs : List Feature). feature_in fs name) e

same_of : (a b : NameContext) → AreAlike a b → (x : ℕ) → feature_of a x ≡ feature_of b x
same_of a b s x =
    same_named a.model b.model (ap (λ (p : Plain). p.features) s.models) (slice_get a.names x) ∙ ap (λ (names : List (List ℕ)). named_feature b.model (slice_get names x)) s.names

same_value_name : (a b : NameContext) → AreAlike a b → (x : ℕ) → is_value a x ≡ is_value b x
same_value_name a b s x = ap is_integer (same_of a b s x)

same_tests : (a b : NameContext) → AreAlike a b → (numbers : List ℕ) → test_count a numbers ≡ test_count b numbers
same_tests a b s [] = refl
same_tests a b s (x ∷ xs) =
    sum_by-cons (λ y. width_or_none (feature_of a y)) x xs
    ∙ ap (λ (f : Option Feature). width_or_none f + test_count a xs) (same_of a b s x) ∙ ap (λ (n : ℕ). width_or_none (feature_of b x) + n) (same_tests a b s xs)
    ∙ sym (sum_by-cons (λ y. width_or_none (feature_of b y)) x xs)

same_values_of : (a b : NameContext) → AreAlike a b → (items : List Item) → values_of a items ≡ values_of b items
same_values_of a b s items = ap (each_once []) (filter_agree (is_value a) (is_value b) (same_value_name a b s) (names_of (behind_main items)))

same_new : (a b : NameContext) → AreAlike a b → (before : List Item) (x : ℕ) → new_name_fault a before x ≡ new_name_fault b before x
same_new a b s before x =
    ap (λ (f : Bool). if f then Some FeatureInCode else (if is_among x (declared_by before) then None
    else full_fault (class_behind before) (length (names_of_class (class_behind before) before)) (length (values_of a before)))) (same_feature a b s x)
    ∙ ap (λ (ns : List ℕ). if is_feature b x then Some FeatureInCode else (if is_among x (declared_by before) then None
    else full_fault (class_behind before) (length (names_of_class (class_behind before) before)) (length ns))) (same_values_of a b s before)

same_value_fault : (a b : NameContext) → AreAlike a b → (before : List Item) (x : ℕ)
    → value_fault a (values_of a before) (length (constants_of before)) x ≡ value_fault b (values_of b before) (length (constants_of before)) x
same_value_fault a b s before x =
    ap (λ (used : List ℕ). value_fault a used (length (constants_of before)) x) (same_values_of a b s before)
    ∙ ap (λ (n : ℕ). if is_among x (values_of b before) then None
    else (if nat_lt 256 n then Some TooManyValueTests else (if nat_le 16 (length (constants_of before) + length (values_of b before)) then Some TooManyConstants else None)))
    (same_tests a b s (values_of b before ++ x ∷ []))

same_missed : (a b : NameContext) → AreAlike a b → (before : List Item) (x : ℕ) (values : List ℤ) → is_missed a before x values ≡ is_missed b before x values
same_missed a b s before x values = ap (λ (ts : List Bool). is_kept ts before && (is_in_own before x || not (is_among x (in_scope_at ts before)))) (s.truths values)

same_met : (a b : NameContext) → AreAlike a b → (before : List Item) (x : ℕ) (values : List ℤ) → is_met_again a before x values ≡ is_met_again b before x values
same_met a b s before x values = ap (λ (ts : List Bool). is_kept ts before && is_among x (taken_at ts before)) (s.truths values)

same_unlike : (a b : NameContext) → AreAlike a b → (before : List Item) (k : ℕ) (values : List ℤ) → is_met_unlike a before k values ≡ is_met_unlike b before k values
same_unlike a b s before k values = ap (λ (ts : List Bool). is_kept ts before && is_among k (functions_at ts (not (stands_behind is_void before)) before)) (s.truths values)

same_uncallable : (a b : NameContext) → AreAlike a b → (before : List Item) (k : ℕ) (values : List ℤ) → is_uncallable a before k values ≡ is_uncallable b before k values
same_uncallable a b s before k values = ap (λ (ts : List Bool). is_kept ts before && not (is_among k (callable_at ts (stands_behind is_equals before) before))) (s.truths values)

either_same : (A B C D : Type 0) (c d : Option FileCode) (f g : Bool) → f ≡ g → (A → C → c ≡ d) → (B → D → c ≡ d) → IsEither f A B → IsEither g C D → c ≡ d
either_same A B C D c d true true e one two h k = one h k
either_same A B C D c d false false e one two h k = two h k
either_same A B C D c d true false e one two h k = absurd cc
either_same A B C D c d false true e one two h k = absurd cc

-- a use of a name that is no value's
abbrev IsOther : NameContext → List Item → ℕ → Option FileCode → Type 0
IsOther context before x fault =
    IsEither (is_feature context x) (fault ≡ Some FeatureInCode)
    (IsEither (is_among x (declared_by before)) (IsWithFirst context.model (is_missed context before x) Undeclared None fault) (fault ≡ Some (Undeclared None)))

same_other : (a b : NameContext) → AreAlike a b → (before : List Item) (x : ℕ) (c d : Option FileCode) → IsOther a before x c → IsOther b before x d → c ≡ d
same_other a b s before x c d h k =
    either_same (c ≡ Some FeatureInCode) (IsEither (is_among x (declared_by before)) (IsWithFirst a.model (is_missed a before x) Undeclared None c) (c ≡ Some (Undeclared None)))
    (d ≡ Some FeatureInCode) (IsEither (is_among x (declared_by before)) (IsWithFirst b.model (is_missed b before x) Undeclared None d) (d ≡ Some (Undeclared None)))
    c d (is_feature a x) (is_feature b x) (same_feature a b s x) (λ i j. i ∙ sym j)
    (λ i j.
    either_same (IsWithFirst a.model (is_missed a before x) Undeclared None c) (c ≡ Some (Undeclared None)) (IsWithFirst b.model (is_missed b before x) Undeclared None d) (d ≡ Some (Undeclared None))
    c d (is_among x (declared_by before)) (is_among x (declared_by before)) refl
    (λ w z. same_with a.model b.model s.models (is_missed a before x) (is_missed b before x) (same_missed a b s before x) Undeclared None None c d refl w z)
    (λ w z. w ∙ sym z) i j)
    h k

same_use : (a b : NameContext) → AreAlike a b → (before : List Item) (x : ℕ) (c d : Option FileCode) → IsUseFault a before x c → IsUseFault b before x d → c ≡ d
same_use a b s before x c d h k =
    either_same (c ≡ value_fault a (values_of a before) (length (constants_of before)) x) (IsOther a before x c) (d ≡ value_fault b (values_of b before) (length (constants_of before)) x) (IsOther b before x d)
    c d (is_value a x) (is_value b x) (same_value_name a b s x) (λ i j. i ∙ same_value_fault a b s before x ∙ sym j) (same_other a b s before x c d) h k

same_declaration : (a b : NameContext) → AreAlike a b → (before : List Item) (x : ℕ) (c d : Option FileCode) → IsDeclarationFault a before x c → IsDeclarationFault b before x d → c ≡ d
same_declaration a b s before x c d h k =
    same_with a.model b.model s.models (is_met_again a before x) (is_met_again b before x) (same_met a b s before x) Twice
    (new_name_fault a before x) (new_name_fault b before x) c d (same_new a b s before x) h k

same_prototype : (a b : NameContext) → AreAlike a b → (before : List Item) (k : ℕ) (c d : Option FileCode) → IsPrototypeFault a before k c → IsPrototypeFault b before k d → c ≡ d
same_prototype a b s before k c d h i =
    same_with a.model b.model s.models (is_met_unlike a before k) (is_met_unlike b before k) (same_unlike a b s before k) Twice
    (function_fault a k) (function_fault b k) c d (same_function a b s k) h i

same_call : (a b : NameContext) → AreAlike a b → (before : List Item) (k : ℕ) (c d : Option FileCode) → IsCallFault a before k c → IsCallFault b before k d → c ≡ d
same_call a b s before k c d h i =
    let named : Bool = is_among k (callable_by (stands_behind is_equals before) before) in
    either_same (IsWithFirst a.model (is_uncallable a before k) Undeclared None c) (c ≡ Some (Undeclared None)) (IsWithFirst b.model (is_uncallable b before k) Undeclared None d) (d ≡ Some (Undeclared None))
    c d named named refl
    (λ w z. same_with a.model b.model s.models (is_uncallable a before k) (is_uncallable b before k) (same_uncallable a b s before k) Undeclared None None c d refl w z)
    (λ w z. w ∙ sym z) h i

same_code : (a b : NameContext) → AreAlike a b → (before : List Item) (sign : Sign) (c d : Option FileCode) → IsNameFault a before sign c → IsNameFault b before sign d → c ≡ d
same_code a b s before (signs.Name x) c d h k =
    either_same (IsUseFault a before x c) (IsDeclarationFault a before x c) (IsUseFault b before x d) (IsDeclarationFault b before x d) c d (is_used_behind before) (is_used_behind before) refl
    (same_use a b s before x c d) (same_declaration a b s before x c d) h k
same_code a b s before (signs.Function n) c d h k =
    either_same (IsCallFault a before n c) (IsPrototypeFault a before n c) (IsCallFault b before n d) (IsPrototypeFault b before n d) c d (has_main before) (has_main before) refl
    (same_call a b s before n c d) (same_prototype a b s before n c d) h k
same_code a b s before _ c d h k = h ∙ sym k

-- ---- a name that is changed

same_constant : (a b : NameContext) → AreAlike a b → (before : List Item) (x : ℕ) (values : List ℤ) → is_met_constant a before x values ≡ is_met_constant b before x values
same_constant a b s before x values =
    ap (λ (ts : List Bool). is_kept ts before && (is_value a x || is_among x (constants_at ts before))) (s.truths values)
    ∙ ap (λ (v : Bool). is_kept (truths_at b values) before && (v || is_among x (constants_at (truths_at b values) before))) (same_value_name a b s x)

same_change_of : (a b : NameContext) → AreAlike a b → (before : List Item) (change : Option (ℕ × Place)) (c d : Option FileCode) → IsChangeOf a before change c → IsChangeOf b before change d → c ≡ d
same_change_of a b s before None c d h k = h ∙ sym k
same_change_of a b s before (Some change) c d h k =
    same_with a.model b.model s.models (is_met_constant a before change.0) (is_met_constant b before change.0) (same_constant a b s before change.0) (λ example. ChangedConstant) None None c d refl h k

same_change : (a b : NameContext) → AreAlike a b → (before : List Item) (x : Item) (c d : Option FileCode) → IsChangeFault a before x c → IsChangeFault b before x d → c ≡ d
same_change a b s before x c d h k =
    either_same (IsChangeOf a before (changed_at before x) c) (c ≡ None) (IsChangeOf b before (changed_at before x) d) (d ≡ None) c d (has_main before) (has_main before) refl
    (same_change_of a b s before (changed_at before x) c d) (λ i j. i ∙ sym j) h k

-- ---- all items

same_or_later : (code : Option FileCode) (place : Place) (f g : Option (FileCode × Place)) (A B : Type 0) → (A → B → f ≡ g) → IsThisOr code place f A → IsThisOr code place g B → f ≡ g
same_or_later None place f g A B go h k = go h k
same_or_later (Some code) place f g A B go h k = h ∙ sym k

same_changes : (a b : NameContext) → AreAlike a b → (before : List Item) (x : Item) (f g : Option (FileCode × Place)) (A B : Type 0) → (A → B → f ≡ g) → IsChangeOr a before x f A → IsChangeOr b before x g B → f ≡ g
same_changes a b s before x f g A B go (c, h, i) (d, k, j) =
    let e : d ≡ c = sym (same_change a b s before x c d h k) in
    same_or_later c (changed_place before x) f g A B go i (subst (λ (o : Option FileCode). IsThisOr o (changed_place before x) g B) e j)

same_from : (a b : NameContext) → AreAlike a b → (before items : List Item) (f g : Option (FileCode × Place)) → IsFaultFrom a before items f → IsFaultFrom b before items g → f ≡ g
same_from a b s before [] f g h k = h ∙ sym k
same_from a b s before (x ∷ xs) f g (c, h, i) (d, k, j) =
    let e : d ≡ c = sym (same_code a b s before x.sign c d h k) in
    same_or_later c x.place f g (IsChangeOr a before x f (IsFaultFrom a (before ++ x ∷ []) xs f)) (IsChangeOr b before x g (IsFaultFrom b (before ++ x ∷ []) xs g))
    (same_changes a b s before x f g (IsFaultFrom a (before ++ x ∷ []) xs f) (IsFaultFrom b (before ++ x ∷ []) xs g) (same_from a b s (before ++ x ∷ []) xs f g)) i
    (subst (λ (o : Option FileCode). IsThisOr o x.place g (IsChangeOr b before x g (IsFaultFrom b (before ++ x ∷ []) xs g))) e j)

pub judged_once : NamesAreJudgedOnce
judged_once a b items f g s h k = same_from a b s [] items f g h k
