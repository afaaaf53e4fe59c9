-- What is known of names behind one item more.
use Rattle.std.proofs.Common.{◌≡◌, ℕ, Bool, true, false, List, [], ◌∷◌, ◌++◌, Option, Some, None, refl, sym, ap, subst, ◌∙◌, append-nil}
use Rattle.std.specs.Prelude.{◌||◌, ◌&&◌, not, if◌then◌else◌}
use Rattle.fam_outer.specs.declared.faults.FileCode.{FileCode}
use Rattle.c_grammar.specs.declared.items.Item.{Item}
use Rattle.c_grammar.specs.declared.items.Sign.{Sign}
use Rattle.c_grammar.specs.declared.items.Sign.TheVariants as signs
use Rattle.c_grammar.specs.declared.scoped.Scoped.{Scoped}
use Rattle.c_grammar.specs.Grammar.{at}
use Rattle.c_grammar.specs.Scoped.{still}
use Rattle.c_grammar.specs.Scopes.{names_in_scope, barred, names_taken}
use Rattle.c_grammar.specs.Constants.{is_name}
use Rattle.c_grammar.specs.Locals.{declares_behind, declarations_from, of_declarations, is_in_own}
use Rattle.c_grammar.proofs.Declaring.{declarations_more}
use Rattle.family_names.proofs.Declared.{names_append, main_on, or_true, or_false}
use Rattle.c_parser.specs.declared.names.Known.{Known}
use Rattle.c_grammar.specs.Functions.{is_void, is_equals, function_of, stands_behind, is_as_asked}
use Rattle.c_parser.specs.declared.prototypes.Prototypes.{Prototypes}
use Rattle.c_parser.specs.Names.{Outside, is_main, has_main, is_used_behind, name_of, names_of, declared_by, functions_by, declaration_fault, use_fault, unlike_fault, prototype_fault, uncallable_fault, call_fault, name_fault}
use Rattle.c_parser.specs.Judging.{AreInScope, AreInScopeBehind, AreLocals, AreLocalsBehind, DeclaresAlike, ArePrototypes, JudgesFunction, IsKnown, Judges}
use Rattle.c_parser.proofs.InScope.{stays_at, used_in_scope, same_in_scope}
use Rattle.c_parser.proofs.LocalNames.{locals_used, locals_other}
use Rattle.c_parser.proofs.PrototypesBehind.{functions_behind, functions_still, functions_on}

-- ---- what is declared

-- what is declared stays so
pub declared_more : (before xs : List Item) → declared_by (before ++ xs) ≡ declared_by before ++ names_of (declarations_from (has_main before) (declares_behind before) xs)
declared_more before xs = ap names_of (declarations_more before xs) ∙ names_append (of_declarations before) (declarations_from (has_main before) (declares_behind before) xs)

unnamed : (s : Sign) → is_name s ≡ false → name_of s ≡ []
unnamed (signs.Name x) e = absurd cc
unnamed _ e = refl

-- a name that is used is not declared
names_of_one : (used : Bool) (x : Item) → names_of (if used && is_name x.sign then [] else x ∷ []) ≡ (if used then [] else name_of x.sign)
names_of_one true x = elim (is_name x.sign) as (λ b. is_name x.sign ≡ b → names_of (if b then [] else x ∷ []) ≡ []) [
  | true ↦ λ _. refl
  | false ↦ λ e. ap (λ (ns : List ℕ). ns ++ []) (unnamed x.sign e)
] refl
names_of_one false x = append-nil (name_of x.sign)

declared_one : (before : List Item) (x : Item) → declared_by (before ++ x ∷ []) ≡ declared_by before ++ (if is_used_behind before then [] else name_of x.sign)
declared_one before x = declared_more before (x ∷ []) ∙ ap (λ (ns : List ℕ). declared_by before ++ ns) (names_of_one (is_used_behind before) x)

-- where a name is used none is declared
pub declared_behind : (before : List Item) (x : Item) → is_used_behind before ≡ true → declared_by (before ++ x ∷ []) ≡ declared_by before
declared_behind before x h = declared_one before x ∙ ap (λ (b : Bool). declared_by before ++ (if b then [] else name_of x.sign)) h ∙ append-nil (declared_by before)

-- and elsewhere each one is
pub declared_on : (before : List Item) (x : Item) → is_used_behind before ≡ false → declared_by (before ++ x ∷ []) ≡ declared_by before ++ name_of x.sign
declared_on before x h = declared_one before x ∙ ap (λ (b : Bool). declared_by before ++ (if b then [] else name_of x.sign)) h

either_way : (b : Bool) (ns : List ℕ) → (if b then ns else ns) ≡ ns
either_way true ns = refl
either_way false ns = refl

-- an item that is no name declares none
pub declared_still : (before : List Item) (x : Item) → name_of x.sign ≡ [] → declared_by (before ++ x ∷ []) ≡ declared_by before
declared_still before x e =
    declared_one before x ∙ ap (λ (ns : List ℕ). declared_by before ++ (if is_used_behind before then [] else ns)) e ∙ ap (λ (ns : List ℕ). declared_by before ++ ns) (either_way (is_used_behind before) []) ∙ append-nil (declared_by before)

-- whether a name is used, as the code asks
pub used_next : (before : List Item) (main declares : Bool) → main ≡ has_main before → declares ≡ declares_behind before → (main && not declares) ≡ is_used_behind before
used_next before main declares m d = ap (λ (b : Bool). b && not declares) m ∙ ap (λ (b : Bool). has_main before && not b) d

-- ---- the functions that are declared behind one item more

-- behind `main` they are the same
prototypes_same : (before : List Item) (x : Item) (prototypes : Prototypes) → has_main before ≡ true → ArePrototypes before prototypes → ArePrototypes (before ++ x ∷ []) prototypes
prototypes_same before x prototypes h f = record {
  valued = f.valued ∙ sym (functions_behind false before x h);
  void = f.void ∙ sym (functions_behind true before x h);
}

-- and so they are behind an item that is no function
no_function : (before : List Item) (x : Item) (prototypes : Prototypes) → function_of x.sign ≡ [] → ArePrototypes before prototypes → ArePrototypes (before ++ x ∷ []) prototypes
no_function before x prototypes e f = record {
  valued = f.valued ∙ sym (functions_still false before x e);
  void = f.void ∙ sym (functions_still true before x e);
}

-- a call
pub called : (before : List Item) (k : ℕ) (prototypes : Prototypes) (main wants : Bool) (fault : Option FileCode) → main ≡ true → main ≡ has_main before → ArePrototypes before prototypes → wants ≡ stands_behind is_equals before
    → fault ≡ uncallable_fault (if wants then prototypes.valued.items else prototypes.valued.items ++ prototypes.void.items) k → JudgesFunction before k prototypes fault
called before k prototypes main wants fault e m f w is = record {
  fault_is =
      is
      ∙ ap (λ (b : Bool). uncallable_fault (if b then prototypes.valued.items else prototypes.valued.items ++ prototypes.void.items) k) w
      ∙ ap (λ (ns : List ℕ). uncallable_fault (if stands_behind is_equals before then ns else ns ++ prototypes.void.items) k) f.valued
      ∙ ap (λ (ns : List ℕ). uncallable_fault (if stands_behind is_equals before then functions_by false before else functions_by false before ++ ns) k) f.void
      ∙ ap (λ (b : Bool). if b then call_fault before k else prototype_fault before k) (sym (sym m ∙ e));
  prototypes_are = λ _ p. prototypes_same before (at p (signs.Function k)) prototypes (sym m ∙ e) f;
}

-- a declaration with `void`
pub declared_void : (before : List Item) (k : ℕ) (old new : Prototypes) (main void : Bool) (fault : Option FileCode) → main ≡ false → main ≡ has_main before → void ≡ true → ArePrototypes before old → void ≡ stands_behind is_void before
    → new.valued.items ≡ old.valued.items → DeclaresAlike old.void.items old.valued.items k new.void.items fault → JudgesFunction before k new fault
declared_void before k old new main void fault e m v f b same d = record {
  fault_is =
      d.fault_is
      ∙ ap (λ (ns : List ℕ). unlike_fault ns k) f.valued
      ∙ ap (λ (w : Bool). unlike_fault (functions_by (not w) before) k) (sym v ∙ b)
      ∙ ap (λ (w : Bool). if w then call_fault before k else prototype_fault before k) (sym (sym m ∙ e));
  prototypes_are = λ none p. record {
    valued = same ∙ f.valued ∙ sym (functions_on false before (at p (signs.Function k)) k (sym m ∙ e) refl ∙ ap (λ (w : Bool). functions_by false before ++ (if is_as_asked false w then k ∷ [] else [])) (sym b ∙ v) ∙ append-nil (functions_by false before));
    void = d.added none ∙ ap (λ (ns : List ℕ). ns ++ k ∷ []) f.void ∙ sym (functions_on true before (at p (signs.Function k)) k (sym m ∙ e) refl ∙ ap (λ (w : Bool). functions_by true before ++ (if is_as_asked true w then k ∷ [] else [])) (sym b ∙ v));
  };
}

-- a declaration with a value
pub declared_valued : (before : List Item) (k : ℕ) (old new : Prototypes) (main void : Bool) (fault : Option FileCode) → main ≡ false → main ≡ has_main before → void ≡ false → ArePrototypes before old → void ≡ stands_behind is_void before
    → new.void.items ≡ old.void.items → DeclaresAlike old.valued.items old.void.items k new.valued.items fault → JudgesFunction before k new fault
declared_valued before k old new main void fault e m v f b same d = record {
  fault_is =
      d.fault_is
      ∙ ap (λ (ns : List ℕ). unlike_fault ns k) f.void
      ∙ ap (λ (w : Bool). unlike_fault (functions_by (not w) before) k) (sym v ∙ b)
      ∙ ap (λ (w : Bool). if w then call_fault before k else prototype_fault before k) (sym (sym m ∙ e));
  prototypes_are = λ none p. record {
    valued = d.added none ∙ ap (λ (ns : List ℕ). ns ++ k ∷ []) f.valued ∙ sym (functions_on false before (at p (signs.Function k)) k (sym m ∙ e) refl ∙ ap (λ (w : Bool). functions_by false before ++ (if is_as_asked false w then k ∷ [] else [])) (sym b ∙ v));
    void = same ∙ f.void ∙ sym (functions_on true before (at p (signs.Function k)) k (sym m ∙ e) refl ∙ ap (λ (w : Bool). functions_by true before ++ (if is_as_asked true w then k ∷ [] else [])) (sym b ∙ v) ∙ append-nil (functions_by true before));
  };
}

-- ---- a name that is declared

some_fault : (found : FileCode) → ◌≡◌ {A = Option FileCode} (Some found) None → ⊥
some_fault found e = cc

-- what the code asks is what may not be declared
fault_of_declaration : (o : Outside) (before : List Item) (x : ℕ) (known : Known) (scope others : List ℕ) (fault : Option FileCode) → is_used_behind before ≡ false → IsKnown before known → scope ≡ still 0 known.declared → others ≡ names_of (barred before)
    → fault ≡ declaration_fault o (scope ++ others) x → fault ≡ name_fault o before (signs.Name x)
fault_of_declaration o before x known scope others fault u k items bars is =
    is
    ∙ ap (λ (ns : List ℕ). declaration_fault o (ns ++ others) x) (items ∙ k.declared.still_are 0)
    ∙ ap (λ (ns : List ℕ). declaration_fault o (names_in_scope before ++ ns) x) bars
    ∙ ap (λ (b : Bool). if b then use_fault o (is_in_own before x) (names_in_scope before) x else declaration_fault o (names_taken before) x) (sym u)

pub not_declared : (o : Outside) (before : List Item) (x : ℕ) (known : Known) (scope others : List ℕ) (fault : Option FileCode) (found : FileCode) → is_used_behind before ≡ false → IsKnown before known → scope ≡ still 0 known.declared → others ≡ names_of (barred before)
    → fault ≡ declaration_fault o (scope ++ others) x → fault ≡ Some found → Judges o before (signs.Name x) known (Some found)
not_declared o before x known scope others fault found u k items bars is some = record {
  fault_is = sym some ∙ fault_of_declaration o before x known scope others fault u k items bars is;
  known_is = λ none. absurd (some_fault found none);
}

pub now_declared : (o : Outside) (before : List Item) (x : ℕ) (old new : Known) (scope others : List ℕ) (fault : Option FileCode) → is_used_behind before ≡ false → IsKnown before old → scope ≡ still 0 old.declared → others ≡ names_of (barred before)
    → fault ≡ declaration_fault o (scope ++ others) x → fault ≡ None → new.in_main ≡ old.in_main → new.prototypes ≡ old.prototypes → AreLocalsBehind before (signs.Name x) new.locals → AreInScopeBehind before (signs.Name x) new.declared → Judges o before (signs.Name x) new None
now_declared o before x old new scope others fault u k items bars is none same functions locals names = record {
  fault_is = sym none ∙ fault_of_declaration o before x old scope others fault u k items bars is;
  known_is = λ _ p. record {
    declared = names p;
    locals = locals p;
    prototypes = subst (ArePrototypes (before ++ at p (signs.Name x) ∷ [])) (sym functions) (no_function before (at p (signs.Name x)) old.prototypes refl k.prototypes);
    main = same ∙ k.main ∙ sym (main_on before (at p (signs.Name x)) ∙ or_false (has_main before));
  };
}

-- ---- one item more

pub at_main : (o : Outside) (before : List Item) (sign : Sign) (known : Known) (names : Scoped ℕ) → sign ≡ signs.Main → IsKnown before known → (is_name sign ≡ false → AreInScopeBehind before sign names)
    → Judges o before sign (record { declared = names; locals = known.locals; prototypes = known.prototypes; in_main = true }) None
at_main o before sign known names is k scope = subst (λ (s : Sign). (is_name s ≡ false → AreInScopeBehind before s names) → Judges o before s (record { declared = names; locals = known.locals; prototypes = known.prototypes; in_main = true }) None) (sym is) (λ f. record {
  fault_is = refl;
  known_is = λ _ p. record {
    declared = f refl p;
    locals = locals_other before (at p signs.Main) known.locals refl k.locals;
    prototypes = no_function before (at p signs.Main) known.prototypes refl k.prototypes;
    main = sym (main_on before (at p signs.Main) ∙ or_true (has_main before));
  };
}) scope

pub at_use : (o : Outside) (before : List Item) (sign : Sign) (known : Known) (x : ℕ) (used own : Bool) (scope : List ℕ) (fault : Option FileCode) → sign ≡ signs.Name x → used ≡ true → used ≡ is_used_behind before → own ≡ is_in_own before x → IsKnown before known → scope ≡ still 0 known.declared
    → fault ≡ use_fault o own scope x → Judges o before sign known fault
at_use o before sign known x used own scope fault is e u w k items f = subst (λ (s : Sign). Judges o before s known fault) (sym is) (record {
  fault_is =
      f
      ∙ ap (λ (b : Bool). use_fault o b scope x) w
      ∙ ap (λ (ns : List ℕ). use_fault o (is_in_own before x) ns x) (items ∙ k.declared.still_are 0)
      ∙ ap (λ (b : Bool). if b then use_fault o (is_in_own before x) (names_in_scope before) x else declaration_fault o (names_taken before) x) (sym (sym u ∙ e));
  known_is = λ _ p. record {
    declared = used_in_scope before p x known.declared (sym u ∙ e) k.declared;
    locals = locals_used before p x known.locals (sym u ∙ e) k.locals;
    prototypes = no_function before (at p (signs.Name x)) known.prototypes refl k.prototypes;
    main = k.main ∙ sym (main_on before (at p (signs.Name x)) ∙ or_false (has_main before));
  };
})

pub at_declaration : (o : Outside) (before : List Item) (sign : Sign) (new : Known) (x : ℕ) (fault : Option FileCode) → sign ≡ signs.Name x → Judges o before (signs.Name x) new fault → Judges o before sign new fault
at_declaration o before sign new x fault is j = subst (λ (s : Sign). Judges o before s new fault) (sym is) j

pub at_function : (o : Outside) (before : List Item) (sign : Sign) (known new : Known) (x : ℕ) (fault : Option FileCode) → sign ≡ signs.Function x → new.declared ≡ known.declared → new.locals ≡ known.locals → new.in_main ≡ known.in_main → IsKnown before known
    → JudgesFunction before x new.prototypes fault → Judges o before sign new fault
at_function o before sign known new x fault is names others same k f = subst (λ (s : Sign). Judges o before s new fault) (sym is) (record {
  fault_is = f.fault_is;
  known_is = λ none p. record {
    declared = subst (AreInScope (before ++ at p (signs.Function x) ∷ [])) (sym names) (same_in_scope before (signs.Function x) known.declared refl (stays_at (has_main before) (signs.Function x) refl (λ bad. cc)) k.declared p);
    locals = subst (AreLocals (before ++ at p (signs.Function x) ∷ [])) (sym others) (locals_other before (at p (signs.Function x)) known.locals refl k.locals);
    prototypes = f.prototypes_are none p;
    main = same ∙ k.main ∙ sym (main_on before (at p (signs.Function x)) ∙ or_false (has_main before));
  };
})

pub record IsOther (sign : Sign) : Type 0 where
  pub is_no_name : is_name sign ≡ false
  pub functions_none : function_of sign ≡ []
  pub is_no_main : is_main sign ≡ false
  pub has_no_fault : (o : Outside) (before : List Item) → name_fault o before sign ≡ None

pub other_sign : (sign : Sign) → ((x : ℕ) → sign ≡ signs.Name x → ⊥) → (sign ≡ signs.Main → ⊥) → ((x : ℕ) → sign ≡ signs.Function x → ⊥) → IsOther sign
other_sign (signs.Name x) n m f = absurd (n x refl)
other_sign signs.Main n m f = absurd (m refl)
other_sign (signs.Function x) n m f = absurd (f x refl)
other_sign _ n m f = record { is_no_name = refl; functions_none = refl; is_no_main = refl; has_no_fault = λ o before. refl }

pub at_other : (o : Outside) (before : List Item) (sign : Sign) (known : Known) (names : Scoped ℕ) → IsOther sign → IsKnown before known → (is_name sign ≡ false → AreInScopeBehind before sign names)
    → Judges o before sign (record { declared = names; locals = known.locals; prototypes = known.prototypes; in_main = known.in_main }) None
at_other o before sign known names other k scope = record {
  fault_is = sym (other.has_no_fault o before);
  known_is = λ _ p. record {
    declared = scope other.is_no_name p;
    locals = locals_other before (at p sign) known.locals other.is_no_name k.locals;
    prototypes = no_function before (at p sign) known.prototypes other.functions_none k.prototypes;
    main = k.main ∙ sym (main_on before (at p sign) ∙ ap (λ (b : Bool). has_main before || b) other.is_no_main ∙ or_false (has_main before));
  };
}
