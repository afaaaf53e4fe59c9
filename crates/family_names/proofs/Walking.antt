-- What is known behind one item more.
use Rattle.std.proofs.Common.{◌≡◌, ℕ, suc, ◌+◌, ◌<◌, ℤ, Bool, true, false, not, ◌&&◌, List, [], ◌∷◌, ◌++◌, length, take, drop, get_or, Option, Some, None, refl, sym, ap, subst, ◌∙◌, drop-cons, add-one}
use Rattle.std.specs.Prelude.{◌||◌, if◌then◌else◌, option_map}
use Rattle.std.proofs.lemmas.List.{take_more}
use Rattle.std.proofs.lemmas.List.Folds.{list_any-append}
use Rattle.fam_outer.specs.declared.faults.Place.{Place}
use Rattle.fam_outer.specs.declared.faults.FileCode.{FileCode}
use Rattle.fam_outer.specs.declared.faults.FileCode.TheVariants.{Undeclared, Twice, FeatureInCode}
use Rattle.linear_atoms.specs.declared.atoms.Config.{Config}
use Rattle.cpp_conditions.specs.declared.models.Model.{Model}
use Rattle.cpp_groups.specs.declared.section.Section.{Section}
use Rattle.cpp_groups.specs.Kept.{all_kept, sections_after}
use Rattle.c_grammar.specs.declared.constants.NameClass.{NameClass}
use Rattle.c_grammar.specs.declared.constants.NameClass.TheVariants as classes
use Rattle.c_grammar.specs.declared.constants.NameKind.TheVariants as kinds
use Rattle.c_grammar.specs.declared.items.Item.{Item}
use Rattle.c_grammar.specs.declared.items.Sign.{Sign}
use Rattle.c_grammar.specs.declared.items.Sign.TheVariants as signs
use Rattle.c_grammar.specs.declared.scoped.Scoped.{Scoped}
use Rattle.c_grammar.specs.Classes.{class_of, is_class}
use Rattle.c_grammar.specs.Constants.{is_constant, kind_after}
use Rattle.c_grammar.specs.Functions.{is_void, is_equals, function_of, stands_behind}
use Rattle.c_grammar.specs.Grammar.{at}
use Rattle.c_grammar.specs.Kept.{directive_of}
use Rattle.c_grammar.specs.Locals.{declares_behind, is_in_own}
use Rattle.c_grammar.specs.Scoped.{IsSound, is_inside, still}
use Rattle.c_grammar.specs.Scopes.{is_static_behind}
use Rattle.family_names.specs.declared.constants.Constants.{Constants}
use Rattle.family_names.specs.declared.declarations.Declaration.{Declaration}
use Rattle.family_names.specs.declared.seen.Seen.{Seen}
use Rattle.family_names.specs.declared.groups.Group.{Group}
use Rattle.family_names.specs.declared.values.Used.{Used}
use Rattle.family_names.specs.Blocks.{is_shown, left_before, FollowsBlocks, with_shown, AddsDeclaration}
use Rattle.family_names.specs.Declarations.{is_kept as declaration_kept, is_declared}
use Rattle.family_names.specs.Groups.{sections}
use Rattle.family_names.specs.Names.{NameContext, truths_at, is_main, has_main, name_of, declared_by, in_scope_at, constants_of, names_of_class, class_behind, values_of, is_among, with_number, each_once, is_kept, is_missed, is_met_again, is_feature, is_value, value_fault, full_fault, new_name_fault, code_with, IsWithFirst, IsEither, is_used_behind, IsUseFault, IsDeclarationFault, IsCallFault, IsPrototypeFault, IsNameFault, IsChangeFault, changed_place, IsFaultFrom}
use Rattle.family_names.specs.Judging as judging
use Rattle.family_names.specs.Judging.{AreFunctions, AreLocals, names_in, IsSeen, AreUsed, AreSettled, begun, UsesValue, IsOtherFault, Uses, taken_in, new_fault, with_new, IsAgain, HasName, Adds, Declares, IsCall, DeclaresFunction, Passes, Judges, AreHeld, IsChange}
use Rattle.family_names.proofs.Answering.{found_same}
use Rattle.family_names.proofs.Blocks.{stays}
use Rattle.family_names.proofs.Declared.{behind_more, main_on, AreStill, more_named, still_used, still_other, once_append, or_false, among_once, or_left, one_more}
use Rattle.family_names.proofs.Calling.{still_functions, declared_functions, call_is, prototype_is}
use Rattle.family_names.proofs.FunctionsBehind.{AreStillFunctions, IsFunctionMore, called_functions, other_functions, more_functions}
use Rattle.family_names.proofs.ClassesBehind.{still_class, more_class, used_unnamed, used_other, used_names}
use Rattle.family_names.proofs.Features.{no_value}
use Rattle.family_names.proofs.LocalsBehind.{still_locals, declared_locals, repeated_same}

-- ---- what is seen

seen_among : (before : List Item) (seen : Seen) (x : ℕ) → IsSeen before seen → is_among x seen.names.items ≡ is_among x (declared_by before)
seen_among before seen x k = ap (is_among x) k.names ∙ among_once x [] (declared_by before)

-- before the first item nothing is settled
pub none_settled : (context : NameContext) (seen : Seen) (settled : Scoped Declaration) → IsSeen [] seen → IsSound settled → is_inside settled ≡ false → ((n : ℕ) → still n settled ≡ []) → AreSettled context seen.declarations settled
none_settled context seen settled k sound outside empty = record {
  sound = sound;
  inside = outside ∙ sym k.inside;
  among = λ n values x valid h. absurd (let none : false ≡ true = ap (λ (ds : List Declaration). is_declared (truths_at context values) ds x) (sym (empty n)) ∙ h in cc);
}

-- whether a name that comes next is used, as the code asks
pub used_next : (before : List Item) (seen : Seen) (declares : Bool) → IsSeen before seen → declares ≡ declares_behind before → (seen.in_main && not declares) ≡ is_used_behind before
used_next before seen declares k d = ap (λ (b : Bool). b && not declares) k.main ∙ ap (λ (b : Bool). has_main before && not b) d

used_in_main : (before : List Item) → is_used_behind before ≡ true → has_main before ≡ true
used_in_main before h = elim (has_main before) as (λ b. (b && not (declares_behind before)) ≡ true → b ≡ true) [ true ↦ λ _. refl | false ↦ λ e. absurd cc ] h

-- a name in its own declarator is in no scope
not_begun : (own : Bool) (ds : List Declaration) (truths : List Bool) (x : ℕ) → not (is_declared truths (begun own ds) x) ≡ (own || not (is_declared truths ds x))
not_begun true ds truths x = refl
not_begun false ds truths x = refl

missed_same : (context : NameContext) (before : List Item) (seen : Seen) (own : Bool) (x : ℕ) → IsSeen before seen → own ≡ is_in_own before x → (values : List ℤ)
    → judging.is_missed context seen.groups (begun own (still 0 seen.declarations)) x values ≡ is_missed context before x values
missed_same context before seen own x k o values =
    ap (λ (ss : List Section). all_kept ss && not (is_declared (truths_at context values) (begun own (still 0 seen.declarations)) x)) (k.groups (truths_at context values))
    ∙ ap (λ (b : Bool). is_kept (truths_at context values) before && b) (not_begun own (still 0 seen.declarations) (truths_at context values) x
    ∙ ap (λ (b : Bool). own || not b) (k.declarations 0 (truths_at context values) x)
    ∙ ap (λ (b : Bool). b || not (is_among x (in_scope_at (truths_at context values) before))) o)

pub first_same : (model : Model) (a b : List ℤ → Bool) (code : Option (List ℤ) → FileCode) (other fault : Option FileCode) → ((values : List ℤ) → a values ≡ b values) → IsWithFirst model a code other fault → IsWithFirst model b code other fault
first_same model a b code other fault same h = record { found = h.found; finds = found_same model a b same h.found h.finds; fault_is = h.fault_is }

inner : (b : Bool) (A B C : Type 0) → (B → C) → IsEither b A B → IsEither b A C
inner true A B C f h = h
inner false A B C f h = f h

outer : (b : Bool) (A B C : Type 0) → (A → C) → IsEither b A B → IsEither b C B
outer true A B C f h = f h
outer false A B C f h = h

other_is : (context : NameContext) (before : List Item) (seen : Seen) (own : Bool) (x : ℕ) (fault : Option FileCode) → IsSeen before seen → own ≡ is_in_own before x → IsOtherFault context seen own x fault
    → IsEither (is_feature context x) (fault ≡ Some FeatureInCode) (IsEither (is_among x (declared_by before)) (IsWithFirst context.model (is_missed context before x) Undeclared None fault) (fault ≡ Some (Undeclared None)))
other_is context before seen own x fault k o u =
    inner (is_feature context x) (fault ≡ Some FeatureInCode)
    (IsEither (is_among x seen.names.items) (IsWithFirst context.model (judging.is_missed context seen.groups (begun own (still 0 seen.declarations)) x) Undeclared None fault) (fault ≡ Some (Undeclared None)))
    (IsEither (is_among x (declared_by before)) (IsWithFirst context.model (is_missed context before x) Undeclared None fault) (fault ≡ Some (Undeclared None)))
    (λ h. outer (is_among x (declared_by before)) (IsWithFirst context.model (judging.is_missed context seen.groups (begun own (still 0 seen.declarations)) x) Undeclared None fault) (fault ≡ Some (Undeclared None)) (IsWithFirst context.model (is_missed context before x) Undeclared None fault)
    (first_same context.model (judging.is_missed context seen.groups (begun own (still 0 seen.declarations)) x) (is_missed context before x) Undeclared None fault (missed_same context before seen own x k o))
    (subst (λ (b : Bool). IsEither b (IsWithFirst context.model (judging.is_missed context seen.groups (begun own (still 0 seen.declarations)) x) Undeclared None fault) (fault ≡ Some (Undeclared None))) (seen_among before seen x k) h))
    u

value_is : (context : NameContext) (before : List Item) (seen : Seen) (old new : Used) (x : ℕ) (fault : Option FileCode) → IsSeen before seen → AreUsed context before old → UsesValue context (length seen.constants.items) old x new fault
    → fault ≡ value_fault context (values_of context before) (length (constants_of before)) x
value_is context before seen old new x fault k a u =
    u.fault_is ∙ ap (λ (ns : List ℕ). value_fault context ns (length seen.constants.items) x) a.names
    ∙ ap (λ (ns : List ℕ). value_fault context (values_of context before) (length ns) x) (k.classes classes.Constant)

use_is : (context : NameContext) (before : List Item) (seen : Seen) (old new : Used) (settled : Scoped Declaration) (own : Bool) (x : ℕ) (fault : Option FileCode) → IsSeen before seen → own ≡ is_in_own before x → AreUsed context before old → Uses context seen old settled own x new fault
    → IsUseFault context before x fault
use_is context before seen old new settled own x fault k o a u =
    elim (is_value context x) as (λ b. IsEither b (UsesValue context (length seen.constants.items) old x new fault) (IsOtherFault context seen own x fault × (new ≡ old))
    → IsEither b (fault ≡ value_fault context (values_of context before) (length (constants_of before)) x)
    (IsEither (is_feature context x) (fault ≡ Some FeatureInCode) (IsEither (is_among x (declared_by before)) (IsWithFirst context.model (is_missed context before x) Undeclared None fault) (fault ≡ Some (Undeclared None))))) [
      | true ↦ λ h. value_is context before seen old new x fault k a h
      | false ↦ λ h. other_is context before seen own x fault k o h.0
    ] u.fault_is

-- the features that are used behind a use
used_is : (context : NameContext) (before : List Item) (p : Place) (seen : Seen) (old new : Used) (settled : Scoped Declaration) (own : Bool) (x : ℕ) → has_main before ≡ true → AreUsed context before old → Uses context seen old settled own x new None
    → AreUsed context (before ++ at p (signs.Name x) ∷ []) new
used_is context before p seen old new settled own x main a u =
    elim (is_value context x) as (λ b. is_value context x ≡ b → IsEither b (UsesValue context (length seen.constants.items) old x new None) (IsOtherFault context seen own x None × (new ≡ old)) → AreUsed context (before ++ at p (signs.Name x) ∷ []) new) [
      | true ↦ λ v h. record {
        names = h.names refl ∙ ap (λ (ns : List ℕ). with_number ns x) a.names ∙ sym (used_names context before p x main v);
        tests = h.tests refl;
      }
      | false ↦ λ v h. used_other context before p x new v (subst (AreUsed context before) (sym h.1) a)
    ] refl u.fault_is

-- the fault of a new name
new_is : (context : NameContext) (before : List Item) (seen : Seen) (used : Used) (class : NameClass) (x : ℕ) → IsSeen before seen → AreUsed context before used → class ≡ class_behind before
    → new_fault context seen (length used.names.items) class x ≡ new_name_fault context before x
new_is context before seen used class x k a c =
    ap (λ (b : Bool). if is_feature context x then Some FeatureInCode else (if b then None else full_fault class (length (names_in class seen)) (length used.names.items))) (seen_among before seen x k)
    ∙ ap (λ (ns : List ℕ). if is_feature context x then Some FeatureInCode else (if is_among x (declared_by before) then None else full_fault class (length ns) (length used.names.items))) (k.classes class)
    ∙ ap (λ (ns : List ℕ). if is_feature context x then Some FeatureInCode else (if is_among x (declared_by before) then None else full_fault class (length (names_of_class class before)) (length ns))) a.names
    ∙ ap (λ (c : NameClass). if is_feature context x then Some FeatureInCode else (if is_among x (declared_by before) then None else full_fault c (length (names_of_class c before)) (length (values_of context before)))) c

declaration_is : (context : NameContext) (before : List Item) (seen : Seen) (used : Used) (class : NameClass) (static : Bool) (x : ℕ) (fault : Option FileCode) → IsSeen before seen → AreUsed context before used → class ≡ class_behind before → static ≡ is_static_behind before
    → IsAgain context seen (length used.names.items) class static x fault → IsDeclarationFault context before x fault
declaration_is context before seen used class static x fault k a c s h =
    first_same context.model (judging.is_met_again context seen.groups (taken_in static seen) x) (is_met_again context before x) Twice (new_name_fault context before x) fault (repeated_same context before seen static x k s)
    (subst (λ (o : Option FileCode). IsWithFirst context.model (judging.is_met_again context seen.groups (taken_in static seen) x) Twice o fault) (new_is context before seen used class x k a c) h)

-- ---- one item more

-- behind an item that declares no name
still_seen : (before : List Item) (x : Item) (old new : Seen) → IsSeen before old → AreFunctions (before ++ x ∷ []) new.functions → AreStill before x → ((truths : List Bool) → sections truths new.groups ≡ sections_after truths (sections truths old.groups) (directive_of x.sign))
    → new.in_main ≡ (old.in_main || is_main x.sign) → new.names.items ≡ old.names.items → ((class : NameClass) → names_in class new ≡ names_in class old) → FollowsBlocks old.declarations old.in_main x.sign new.declarations → new.local_declarations ≡ old.local_declarations
    → IsSeen (before ++ x ∷ []) new
still_seen before x old new k f s groups main names classes blocks locals = record {
  functions = f;
  locals = subst (AreLocals (before ++ x ∷ [])) (sym locals) (still_locals before x old.local_declarations s k.locals);
  groups = λ truths. groups truths ∙ ap (λ (ss : List Section). sections_after truths ss (directive_of x.sign)) (k.groups truths) ∙ sym (behind_more truths [] before x);
  main = main ∙ ap (λ (b : Bool). b || is_main x.sign) k.main ∙ sym (main_on before x);
  names = names ∙ k.names ∙ ap (each_once []) (sym s.any);
  classes = λ class. classes class ∙ k.classes class ∙ sym (still_class class before x s);
  sound = blocks.sound;
  inside = blocks.inside ∙ ap (λ (b : Bool). b || is_main x.sign) k.main ∙ sym (main_on before x);
  declarations = λ n truths y. ap (λ (ds : List Declaration). is_declared truths ds y) (blocks.still_is n ∙ ap (λ (b : Bool). still (left_before x.sign b n) old.declarations) k.main)
      ∙ k.declarations (left_before x.sign (has_main before) n) truths y ∙ ap (is_among y) (sym (s.kept n truths));
}

-- behind a name or a function the same stands
seen_still : (before : List Item) (x : Item) (old new : Seen) → IsSeen before old → AreFunctions (before ++ x ∷ []) new.functions → AreStill before x → new.groups ≡ old.groups → new.in_main ≡ old.in_main → new.names.items ≡ old.names.items
    → ((class : NameClass) → names_in class new ≡ names_in class old) → new.declarations ≡ old.declarations → new.local_declarations ≡ old.local_declarations
    → directive_of x.sign ≡ None → is_main x.sign ≡ false → ((main : Bool) (n : ℕ) → left_before x.sign main n ≡ n) → IsSeen (before ++ x ∷ []) new
seen_still before x old new k f s groups main names classes declarations locals no_group no_main left =
    let same : (old.in_main || is_main x.sign) ≡ old.in_main = ap (λ (b : Bool). old.in_main || b) no_main ∙ or_false old.in_main in
    still_seen before x old new k f s (λ truths. ap (sections truths) groups ∙ sym (ap (sections_after truths (sections truths old.groups)) no_group)) (main ∙ sym same) names classes
    (subst (FollowsBlocks old.declarations old.in_main x.sign) (sym declarations) (stays old.declarations old.in_main x.sign k.sound (k.inside ∙ sym k.main) same (left old.in_main))) locals

-- the same functions, behind an item that declares none
same_functions : (before : List Item) (x : Item) (old new : Seen) → IsSeen before old → AreStillFunctions before x → new.functions ≡ old.functions → AreFunctions (before ++ x ∷ []) new.functions
same_functions before x old new k s e = subst (AreFunctions (before ++ x ∷ [])) (sym e) (still_functions before x old.functions s k.functions)

pub at_use : (context : NameContext) (before : List Item) (sign : Sign) (seen : Seen) (old new : Used) (settled : Scoped Declaration) (own : Bool) (x : ℕ) (fault : Option FileCode) → sign ≡ signs.Name x → is_used_behind before ≡ true → own ≡ is_in_own before x → IsSeen before seen → AreUsed context before old
    → Uses context seen old settled own x new fault → Judges context before sign seen new settled fault
at_use context before sign seen old new settled own x fault is used o k a u = subst (λ (t : Sign). Judges context before t seen new settled fault) (sym is) (record {
  fault_is = subst (λ (b : Bool). IsEither b (IsUseFault context before x fault) (IsDeclarationFault context before x fault)) (sym used) (use_is context before seen old new settled own x fault k o a u);
  seen_is = λ _ p. seen_still before (at p (signs.Name x)) seen seen k (still_functions before (at p (signs.Name x)) seen.functions (other_functions before (at p (signs.Name x)) refl) k.functions) (still_used before p x used)
      refl refl refl (λ class. refl) refl refl refl refl (λ main n. refl);
  used_is = λ none p. used_is context before p seen old new settled own x (used_in_main before used) a (subst (Uses context seen old settled own x new) none u);
  settled_is = λ _. u.settled_is;
})

-- a use stands in a block
pub use_inside : (before : List Item) (seen : Seen) → IsSeen before seen → is_used_behind before ≡ true → is_inside seen.declarations ≡ true
use_inside before seen k used = k.inside ∙ used_in_main before used

-- a declaration more
class_more : (old new : Seen) (class : NameClass) (x : ℕ) → HasName old class x new → (other : NameClass) → names_in other new ≡ with_new (is_class other class) old.names.items (names_in other old) x
class_more old new class x a classes.Variable = a.variables
class_more old new class x a classes.Local = a.locals
class_more old new class x a classes.Constant = a.constants

more_seen : (before : List Item) (p : Place) (class : NameClass) (static : Bool) (x : ℕ) (old new : Seen) → IsSeen before old → is_used_behind before ≡ false → class ≡ class_behind before → static ≡ is_static_behind before → Adds old class static x new
    → IsSeen (before ++ at p (signs.Name x) ∷ []) new
more_seen before p class static x old new k h c s a =
    let m = more_named before p x h in
    let alone : has_main (before ++ at p (signs.Name x) ∷ []) ≡ has_main before = main_on before (at p (signs.Name x)) ∙ or_false (has_main before) in
    record {
      groups = λ truths. ap (sections truths) a.named.groups ∙ k.groups truths ∙ sym (behind_more truths [] before (at p (signs.Name x)));
      main = a.named.main ∙ k.main ∙ sym alone;
      names = a.named.names ∙ ap (λ (ns : List ℕ). with_number ns x) k.names ∙ sym (ap (each_once []) m.any ∙ once_append [] (declared_by before) (x ∷ []));
      classes = λ other. class_more old new class x a.named other ∙ ap (λ (ns : List ℕ). with_new (is_class other class) ns (names_in other old) x) k.names ∙ ap (λ (ns : List ℕ). with_new (is_class other class) (each_once [] (declared_by before)) ns x) (k.classes other)
          ∙ ap (λ (d : NameClass). with_new (is_class other d) (each_once [] (declared_by before)) (names_of_class other before) x) c ∙ sym (more_class other before p x h);
      functions = same_functions before (at p (signs.Name x)) old new k (other_functions before (at p (signs.Name x)) refl) a.named.functions;
      locals = declared_locals before p old.groups old.in_main static x old.local_declarations new.local_declarations h k.groups k.main s k.locals a.locals;
      sound = a.declarations.sound;
      inside = a.declarations.inside ∙ k.inside ∙ sym alone;
      declarations = λ n truths y. ap (λ (ds : List Declaration). is_declared truths ds y) (a.declarations.still_is n ∙ ap (λ (b : Bool). with_shown (is_shown n b) (still n old.declarations) (record { name = x; groups = old.groups })) k.inside)
          ∙ one_more before p x n (still n old.declarations) old.groups h k.groups (k.declarations n) truths y;
    }

shown_settled : (shown : Bool) (truths : List Bool) (ds : List Declaration) (d : Declaration) (y : ℕ) → is_declared truths ds y ≡ true → is_declared truths (with_shown shown ds d) y ≡ true
shown_settled true truths ds d y h = list_any-append (λ (e : Declaration). declaration_kept truths y e) ds (d ∷ []) ∙ or_left (is_declared truths ds y) (is_declared truths (d ∷ []) y) h
shown_settled false truths ds d y h = h

more_settled : (context : NameContext) (old new settled : Scoped Declaration) (groups : List Group) (x : ℕ) → AddsDeclaration old groups x new → AreSettled context old settled → AreSettled context new settled
more_settled context old new settled groups x a s = record {
  sound = s.sound;
  inside = s.inside ∙ sym a.inside;
  among = λ n values y valid h. ap (λ (ds : List Declaration). is_declared (truths_at context values) ds y) (a.still_is n)
      ∙ shown_settled (is_shown n (is_inside old)) (truths_at context values) (still n old) (record { name = x; groups = groups }) y (s.among n values y valid h);
}

-- a name without a fault is no feature's
no_feature : (b : Bool) (other : Option FileCode) → (if b then Some FeatureInCode else other) ≡ None → b ≡ false
no_feature true other e = absurd cc
no_feature false other e = refl

again_none : (context : NameContext) (seen : Seen) (values : ℕ) (class : NameClass) (static : Bool) (x : ℕ) (fault : Option FileCode) → IsAgain context seen values class static x fault → fault ≡ None → is_feature context x ≡ false
again_none context seen values class static x fault h none = by_found h.found (sym h.fault_is ∙ none)
  where
    by_found : (found : Option Config) → code_with Twice (new_fault context seen values class x) found ≡ None → is_feature context x ≡ false
    by_found None e = no_feature (is_feature context x) (if is_among x seen.names.items then None else full_fault class (length (names_in class seen)) values) e
    by_found (Some config) e = absurd cc

pub at_declaration : (context : NameContext) (before : List Item) (sign : Sign) (seen new : Seen) (used : Used) (settled : Scoped Declaration) (values : ℕ) (class : NameClass) (constant static : Bool) (x : ℕ) (fault : Option FileCode) → sign ≡ signs.Name x → is_used_behind before ≡ false → IsSeen before seen
    → AreUsed context before used → AreSettled context seen.declarations settled → class ≡ class_of seen.in_main constant → constant ≡ is_constant (kind_after kinds.Variable before) → static ≡ is_static_behind before → values ≡ length used.names.items
    → Declares context seen values class static x new fault → Judges context before sign new used settled fault
at_declaration context before sign seen new used settled values class constant static x fault is not_used k a s of c t v d =
    let same : class ≡ class_behind before = of ∙ ap (λ (b : Bool). class_of b constant) k.main ∙ ap (class_of (has_main before)) c in
    subst (λ (z : Sign). Judges context before z new used settled fault) (sym is) (record {
      fault_is = subst (λ (b : Bool). IsEither b (IsUseFault context before x fault) (IsDeclarationFault context before x fault)) (sym not_used)
          (declaration_is context before seen used class static x fault k a same t (subst (λ (n : ℕ). IsAgain context seen n class static x fault) v d.fault_is));
      seen_is = λ none p. more_seen before p class static x seen new k not_used same t (d.added none);
      used_is = λ none p. used_other context before p x used (no_value context x (again_none context seen values class static x fault d.fault_is none)) a;
      settled_is = λ none. more_settled context seen.declarations new.declarations settled seen.groups x (d.added none).declarations s;
    })

pub record IsOther (sign : Sign) : Type 0 where
  pub names_none : name_of sign ≡ []
  pub declares_no_function : function_of sign ≡ []
  pub has_no_fault : (context : NameContext) (before : List Item) → IsNameFault context before sign None

pub other_sign : (sign : Sign) → ((x : ℕ) → sign ≡ signs.Name x → ⊥) → ((k : ℕ) → sign ≡ signs.Function k → ⊥) → IsOther sign
other_sign (signs.Name x) n f = absurd (n x refl)
other_sign (signs.Function k) n f = absurd (f k refl)
other_sign _ n f = record { names_none = refl; declares_no_function = refl; has_no_fault = λ context before. refl }

-- what is settled behind a sign at which a block may begin or end
settled_on : (context : NameContext) (old new old_settled settled : Scoped Declaration) (main : Bool) (sign : Sign) → FollowsBlocks old main sign new → FollowsBlocks old_settled main sign settled → AreSettled context old old_settled → AreSettled context new settled
settled_on context old new old_settled settled main sign d f s = record {
  sound = f.sound;
  inside = f.inside ∙ sym d.inside;
  among = λ n values y valid h. ap (λ (ds : List Declaration). is_declared (truths_at context values) ds y) (d.still_is n)
      ∙ s.among (left_before sign main n) values y valid (ap (λ (ds : List Declaration). is_declared (truths_at context values) ds y) (sym (f.still_is n)) ∙ h);
}

pub same_classes : (old new : Seen) → new.variables.items ≡ old.variables.items → new.locals.items ≡ old.locals.items → new.constants.items ≡ old.constants.items → (class : NameClass) → names_in class new ≡ names_in class old
same_classes old new v l c classes.Variable = v
same_classes old new v l c classes.Local = l
same_classes old new v l c classes.Constant = c

pub at_other : (context : NameContext) (before : List Item) (sign : Sign) (seen new : Seen) (used : Used) (old_settled settled : Scoped Declaration) → IsOther sign → IsSeen before seen → AreUsed context before used → AreSettled context seen.declarations old_settled
    → Passes seen old_settled sign new settled → Judges context before sign new used settled None
at_other context before sign seen new used old_settled settled o k a s passes = record {
  fault_is = o.has_no_fault context before;
  seen_is = λ _ p. still_seen before (at p sign) seen new k (same_functions before (at p sign) seen new k (other_functions before (at p sign) o.declares_no_function) passes.functions) (still_other before (at p sign) o.names_none) passes.groups
      passes.main passes.names (same_classes seen new passes.variables passes.locals passes.constants) passes.declarations passes.local_declarations;
  used_is = λ _ p. used_unnamed context before (at p sign) used o.names_none a;
  settled_is = λ _. settled_on context seen.declarations new.declarations old_settled settled seen.in_main sign passes.declarations passes.settled_too s;
}

-- ---- functions

pub at_call : (context : NameContext) (before : List Item) (sign : Sign) (seen : Seen) (used : Used) (settled : Scoped Declaration) (wants : Bool) (k : ℕ) (fault : Option FileCode) → sign ≡ signs.Function k → seen.in_main ≡ true → IsSeen before seen → AreUsed context before used
    → AreSettled context seen.declarations settled → wants ≡ stands_behind is_equals before → IsCall context seen.groups seen.functions wants k fault → Judges context before sign seen used settled fault
at_call context before sign seen used settled wants k fault is main s a settles e call = subst (λ (t : Sign). Judges context before t seen used settled fault) (sym is) (record {
  fault_is = subst (λ (b : Bool). IsEither b (IsCallFault context before k fault) (IsPrototypeFault context before k fault)) (sym (sym s.main ∙ main))
      (call_is context before seen.groups seen.functions wants k fault s.groups s.functions e call);
  seen_is = λ _ p. seen_still before (at p (signs.Function k)) seen seen s (still_functions before (at p (signs.Function k)) seen.functions (called_functions before (at p (signs.Function k)) (sym s.main ∙ main)) s.functions)
      (still_other before (at p (signs.Function k)) refl) refl refl refl (λ class. refl) refl refl refl refl (λ main n. refl);
  used_is = λ _ p. used_unnamed context before (at p (signs.Function k)) used refl a;
  settled_is = λ _. settles;
})

-- what is seen of names is the same
pub record AreSame (old new : Seen) : Type 0 where
  pub groups : new.groups ≡ old.groups
  pub main : new.in_main ≡ old.in_main
  pub names : new.names.items ≡ old.names.items
  pub classes : (class : NameClass) → names_in class new ≡ names_in class old
  pub declarations : new.declarations ≡ old.declarations
  pub locals : new.local_declarations ≡ old.local_declarations

pub at_prototype : (context : NameContext) (before : List Item) (sign : Sign) (seen new : Seen) (used : Used) (settled : Scoped Declaration) (void : Bool) (k : ℕ) (fault : Option FileCode) → sign ≡ signs.Function k → seen.in_main ≡ false → IsSeen before seen → AreUsed context before used
    → AreSettled context seen.declarations settled → void ≡ stands_behind is_void before → DeclaresFunction context seen.groups seen.functions void k new.functions fault → AreSame seen new → Judges context before sign new used settled fault
at_prototype context before sign seen new used settled void k fault is main s a settles e d same = subst (λ (t : Sign). Judges context before t new used settled fault) (sym is) (record {
  fault_is = subst (λ (b : Bool). IsEither b (IsCallFault context before k fault) (IsPrototypeFault context before k fault)) (sym (sym s.main ∙ main))
      (prototype_is context before seen.groups seen.functions void k fault s.groups s.functions e d.fault_is);
  seen_is = λ none p. seen_still before (at p (signs.Function k)) seen new s
      (declared_functions before (before ++ at p (signs.Function k) ∷ []) seen.groups void k seen.functions new.functions s.groups
      (subst (λ (b : Bool). IsFunctionMore before (before ++ at p (signs.Function k) ∷ []) b k) (sym e) (more_functions before p k (sym s.main ∙ main))) s.functions (d.added none))
      (still_other before (at p (signs.Function k)) refl) same.groups same.main same.names same.classes same.declarations same.locals refl refl (λ main n. refl);
  used_is = λ _ p. used_unnamed context before (at p (signs.Function k)) used refl a;
  settled_is = λ _. subst (λ (ds : Scoped Declaration). AreSettled context ds settled) (sym same.declarations) settles;
})

-- ---- the file

-- a first fault of what is left is one of the file
pub record Leads (context : NameContext) (items before left : List Item) : Type 0 where
  pub leads : (fault : Option (FileCode × Place)) → IsFaultFrom context before left fault → IsFaultFrom context [] items fault

pub leads_on : (context : NameContext) (items before left : List Item) (x : Item) → Leads context items before (x ∷ left) → IsNameFault context before x.sign None → IsChangeFault context before x None → Leads context items (before ++ x ∷ []) left
leads_on context items before left x k h c = record { leads = λ fault later. k.leads fault (None, h, (None, c, later)) }

pub leads_to_change : (context : NameContext) (items before left : List Item) (x : Item) (code : FileCode) → Leads context items before (x ∷ left) → IsNameFault context before x.sign None → IsChangeFault context before x (Some code)
    → IsFaultFrom context [] items (Some (code, changed_place before x))
leads_to_change context items before left x code k h c = k.leads (Some (code, changed_place before x)) (None, h, (Some code, c, refl))

pub leads_to : (context : NameContext) (items before left : List Item) (x : Item) (code : FileCode) → Leads context items before (x ∷ left) → IsNameFault context before x.sign (Some code) → IsFaultFrom context [] items (Some (code, x.place))
leads_to context items before left x code k h = k.leads (Some (code, x.place)) (Some code, h, refl)

-- behind an item without a fault
pub record Walks (context : NameContext) (items : List Item) (n : ℕ) (seen : Seen) (used : Used) (settled : Scoped Declaration) (constants : Constants) : Type 0 where
  pub held : AreHeld (take n items) constants
  pub seen_is : IsSeen (take n items) seen
  pub used_is : AreUsed context (take n items) used
  pub settled_is : AreSettled context seen.declarations settled
  pub fault_is : Leads context items (take n items) (drop n items)

no_change : (code : Option FileCode) (place : Place) (fault : Option (FileCode × Place)) → fault ≡ option_map (λ c. (c, place)) code → fault ≡ None → code ≡ None
no_change None place fault e n = refl
no_change (Some code) place fault e n = absurd cc

pub walk_on : (context : NameContext) (items : List Item) (i : ℕ) (d : Item) (seen : Seen) (used : Used) (settled : Scoped Declaration) (constants : Constants) (fault : Option FileCode) (change : Option (FileCode × Place)) → i < length items → Leads context items (take i items) (drop i items) → fault ≡ None → change ≡ None
    → Judges context (take i items) (get_or items i d).sign seen used settled fault → IsChange context (take i items) (get_or items i d) change → AreHeld (take i items ++ get_or items i d ∷ []) constants → Walks context items (i + 1) seen used settled constants
walk_on context items i d seen used settled constants fault change lt k none unchanged j c held =
    let t : take (i + 1) items ≡ take i items ++ get_or items i d ∷ [] = take_more items i d lt in
    let r : drop i items ≡ get_or items i d ∷ drop (i + 1) items = rw add-one (drop-cons items i d lt) in
    record {
      held = subst (λ (ys : List Item). AreHeld ys constants) (sym t) held;
      seen_is = subst (λ (ys : List Item). IsSeen ys seen) (sym t) (j.seen_is none (get_or items i d).place);
      used_is = subst (λ (ys : List Item). AreUsed context ys used) (sym t) (j.used_is none (get_or items i d).place);
      settled_is = j.settled_is none;
      fault_is = subst (λ (ys : List Item). Leads context items ys (drop (i + 1) items)) (sym t)
          (leads_on context items (take i items) (drop (i + 1) items) (get_or items i d) (subst (Leads context items (take i items)) r k)
          (subst (IsNameFault context (take i items) (get_or items i d).sign) none j.fault_is)
          (subst (IsChangeFault context (take i items) (get_or items i d)) (no_change c.code (changed_place (take i items) (get_or items i d)) change c.is unchanged) c.fault_is));
    }

pub walk_to : (context : NameContext) (items : List Item) (i : ℕ) (d : Item) (seen : Seen) (used : Used) (settled : Scoped Declaration) (fault : Option FileCode) (code : FileCode) → i < length items → Leads context items (take i items) (drop i items) → fault ≡ Some code
    → Judges context (take i items) (get_or items i d).sign seen used settled fault → IsFaultFrom context [] items (Some (code, (get_or items i d).place))
walk_to context items i d seen used settled fault code lt k some j =
    let r : drop i items ≡ get_or items i d ∷ drop (suc i) items = drop-cons items i d lt in
    leads_to context items (take i items) (drop (suc i) items) (get_or items i d) code (subst (Leads context items (take i items)) r k)
    (subst (IsNameFault context (take i items) (get_or items i d).sign) some j.fault_is)

some_change : (code : Option FileCode) (place : Place) (fault : FileCode × Place) → Some fault ≡ option_map (λ (c : FileCode). (c, place)) code → (code ≡ Some fault.0) × (fault.1 ≡ place)
some_change None place fault e = absurd cc
some_change (Some code) place fault e = let same : fault ≡ (code, place) = cc in (ap (λ (f : FileCode × Place). Some f.0) (sym same), ap (λ (f : FileCode × Place). f.1) same)

pub walk_to_change : (context : NameContext) (items : List Item) (i : ℕ) (d : Item) (seen : Seen) (used : Used) (settled : Scoped Declaration) (fault : Option FileCode) (change : Option (FileCode × Place)) (found : FileCode × Place) → i < length items → Leads context items (take i items) (drop i items) → fault ≡ None → change ≡ Some found
    → Judges context (take i items) (get_or items i d).sign seen used settled fault → IsChange context (take i items) (get_or items i d) change → IsFaultFrom context [] items (Some found)
walk_to_change context items i d seen used settled fault change found lt k none some j c =
    let r : drop i items ≡ get_or items i d ∷ drop (suc i) items = drop-cons items i d lt in
    let s = some_change c.code (changed_place (take i items) (get_or items i d)) found (sym some ∙ c.is) in
    let same : (found.0, changed_place (take i items) (get_or items i d)) ≡ found = ap (λ (p : Place). (found.0, p)) (sym s.1) in
    subst (λ (f : FileCode × Place). IsFaultFrom context [] items (Some f)) same
    (leads_to_change context items (take i items) (drop (suc i) items) (get_or items i d) found.0 (subst (Leads context items (take i items)) r k)
    (subst (IsNameFault context (take i items) (get_or items i d).sign) none j.fault_is)
    (subst (IsChangeFault context (take i items) (get_or items i d)) s.0 c.fault_is))
