-- What is known of functions behind one item more, and their faults.
use Rattle.std.proofs.Common.{◌≡◌, ℕ, Bool, true, false, not, ◌&&◌, nat_eq, List, [], ◌∷◌, ◌++◌, Option, Some, None, refl, sym, ap, subst, ◌∙◌}
use Rattle.std.specs.Prelude.{◌||◌}
use Rattle.std.proofs.lemmas.List.Folds.{list_any-append}
use Rattle.fam_outer.specs.declared.faults.FileCode.{FileCode}
use Rattle.fam_outer.specs.declared.faults.FileCode.TheVariants.{Undeclared, Twice}
use Rattle.cpp_groups.specs.declared.section.Section.{Section}
use Rattle.cpp_groups.specs.Kept.{all_kept}
use Rattle.c_grammar.specs.declared.items.Item.{Item}
use Rattle.c_grammar.specs.Functions.{is_void, is_equals, stands_behind}
use Rattle.linear_atoms.specs.declared.atoms.Config.{Config}
use Rattle.atom_solver.specs.Solutions.{Finds}
use Rattle.family_names.specs.declared.declarations.Declaration.{Declaration}
use Rattle.family_names.specs.declared.functions.Functions.{Functions}
use Rattle.family_names.specs.declared.groups.Group.{Group}
use Rattle.family_names.specs.Declarations.{is_kept as declaration_kept, is_declared, has_one}
use Rattle.family_names.specs.Functions.{functions_by, functions_at, callable_by, callable_at}
use Rattle.family_names.specs.Groups.{sections, are_kept}
use Rattle.family_names.specs.Names.{NameContext, truths_at, is_among, sections_behind, is_kept, is_met_unlike, is_uncallable, function_fault, code_with, IsWithFirst, IsEither, IsCallFault, IsPrototypeFault}
use Rattle.family_names.specs.Judging.{Tells, functions_in, callable_in, AreFunctions, is_missed, is_met_again, IsCall, IsUnlike, AddsFunction}
use Rattle.family_names.proofs.Answering.{found_same, not_both}
use Rattle.family_names.proofs.Declared.{or_assoc, or_false}
use Rattle.family_names.proofs.FunctionsBehind.{AreStillFunctions, IsFunctionMore}
use Rattle.family_names.proofs.Holding.{none_declared, and_none}

-- ---- what declarations tell

pub tells_same : (ds : List Declaration) (xs ys : List ℕ) (xs_at ys_at : List Bool → List ℕ) → ys ≡ xs → ((truths : List Bool) → ys_at truths ≡ xs_at truths) → Tells ds xs xs_at → Tells ds ys ys_at
tells_same ds xs ys xs_at ys_at e f t = record {
  any = λ x. t.any x ∙ ap (is_among x) (sym e);
  kept_is = λ truths x. t.kept_is truths x ∙ ap (is_among x) (sym (f truths));
}

-- one declaration more
tells_more : (ds : List Declaration) (d : Declaration) (xs ys : List ℕ) (xs_at ys_at : List Bool → List ℕ) → ((y : ℕ) → is_among y ys ≡ (is_among y xs || nat_eq y d.name))
    → ((truths : List Bool) (y : ℕ) → is_among y (ys_at truths) ≡ (is_among y (xs_at truths) || (nat_eq y d.name && are_kept truths d.groups))) → Tells ds xs xs_at → Tells (ds ++ d ∷ []) ys ys_at
tells_more ds d xs ys xs_at ys_at e f t = record {
  any = λ y. list_any-append (λ (c : Declaration). nat_eq y c.name) ds (d ∷ []) ∙ ap (λ (b : Bool). has_one ds y || b) (or_false (nat_eq y d.name))
      ∙ ap (λ (b : Bool). b || nat_eq y d.name) (t.any y) ∙ sym (e y);
  kept_is = λ truths y. list_any-append (λ (c : Declaration). declaration_kept truths y c) ds (d ∷ []) ∙ ap (λ (b : Bool). is_declared truths ds y || b) (or_false (nat_eq y d.name && are_kept truths d.groups))
      ∙ ap (λ (b : Bool). b || (nat_eq y d.name && are_kept truths d.groups)) (t.kept_is truths y) ∙ sym (f truths y);
}

pub tells_none : (ds : List Declaration) → ds ≡ [] → Tells ds [] (λ truths. [])
tells_none ds e = record {
  any = λ x. ap (λ (es : List Declaration). has_one es x) e;
  kept_is = λ truths x. ap (λ (es : List Declaration). is_declared truths es x) e;
}

-- ---- an item more

none_of : (functions : Functions) → functions.values.items ≡ [] → functions.voids.items ≡ [] → (void : Bool) → Tells (functions_in void functions) (functions_by void []) (λ truths. functions_at truths void [])
none_of functions v w true = tells_none functions.voids.items w
none_of functions v w false = tells_none functions.values.items v

pub no_functions : (functions : Functions) → functions.values.items ≡ [] → functions.voids.items ≡ [] → functions.all.items ≡ [] → AreFunctions [] functions
no_functions functions v w a = record { kinds = none_of functions v w; all = tells_none functions.all.items a }

-- the function is added to those with `void`, or to those with a value
pub adds_void : (old new : Functions) (groups made other : List Group) (void : Bool) (k : ℕ) → void ≡ true → new.values.items ≡ old.values.items → new.voids.items ≡ old.voids.items ++ record { name = k; groups = made } ∷ [] → made ≡ groups
    → new.all.items ≡ old.all.items ++ record { name = k; groups = other } ∷ [] → other ≡ groups → AddsFunction old groups void k new
adds_void old new groups made other void k e v w m a o = subst (λ (b : Bool). AddsFunction old groups b k new) (sym e) (record {
  like = w ∙ ap (λ (gs : List Group). old.voids.items ++ record { name = k; groups = gs } ∷ []) m;
  unlike = v;
  all = a ∙ ap (λ (gs : List Group). old.all.items ++ record { name = k; groups = gs } ∷ []) o;
})

pub adds_value : (old new : Functions) (groups made other : List Group) (void : Bool) (k : ℕ) → void ≡ false → new.voids.items ≡ old.voids.items → new.values.items ≡ old.values.items ++ record { name = k; groups = made } ∷ [] → made ≡ groups
    → new.all.items ≡ old.all.items ++ record { name = k; groups = other } ∷ [] → other ≡ groups → AddsFunction old groups void k new
adds_value old new groups made other void k e w v m a o = subst (λ (b : Bool). AddsFunction old groups b k new) (sym e) (record {
  like = v ∙ ap (λ (gs : List Group). old.values.items ++ record { name = k; groups = gs } ∷ []) m;
  unlike = w;
  all = a ∙ ap (λ (gs : List Group). old.all.items ++ record { name = k; groups = gs } ∷ []) o;
})

-- behind an item that declares no function
pub still_functions : (before : List Item) (x : Item) (functions : Functions) → AreStillFunctions before x → AreFunctions before functions → AreFunctions (before ++ x ∷ []) functions
still_functions before x functions s k = record {
  kinds = λ void. tells_same (functions_in void functions) (functions_by void before) (functions_by void (before ++ x ∷ [])) (λ truths. functions_at truths void before) (λ truths. functions_at truths void (before ++ x ∷ []))
      (s.any void) (s.kept void) (k.kinds void);
  all = tells_same functions.all.items (callable_by false before) (callable_by false (before ++ x ∷ [])) (λ truths. callable_at truths false before) (λ truths. callable_at truths false (before ++ x ∷ []))
      (ap (λ (ns : List ℕ). ns ++ functions_by true (before ++ x ∷ [])) (s.any false) ∙ ap (λ (ns : List ℕ). functions_by false before ++ ns) (s.any true))
      (λ truths. ap (λ (ns : List ℕ). ns ++ functions_at truths true (before ++ x ∷ [])) (s.kept false truths) ∙ ap (λ (ns : List ℕ). functions_at truths false before ++ ns) (s.kept true truths))
      k.all;
}

by_kind : (P : Bool → Type 0) (void other : Bool) → P void → P (not void) → P other
by_kind P true true h k = h
by_kind P true false h k = k
by_kind P false true h k = k
by_kind P false false h k = h

or_last : (a b c : Bool) → ((a || c) || b) ≡ ((a || b) || c)
or_last true b c = refl
or_last false true true = refl
or_last false true false = refl
or_last false false true = refl
or_last false false false = refl

-- one more of a kind is one more of all
one_of_all : (y : ℕ) (old new : Bool → List ℕ) (void more : Bool) → is_among y (new void) ≡ (is_among y (old void) || more) → new (not void) ≡ old (not void) → is_among y (new false ++ new true) ≡ (is_among y (old false ++ old true) || more)
one_of_all y old new true more e f =
    list_any-append (nat_eq y) (new false) (new true) ∙ ap (λ (ns : List ℕ). is_among y ns || is_among y (new true)) f ∙ ap (λ (b : Bool). is_among y (old false) || b) e
    ∙ sym (or_assoc (is_among y (old false)) (is_among y (old true)) more) ∙ ap (λ (b : Bool). b || more) (sym (list_any-append (nat_eq y) (old false) (old true)))
one_of_all y old new false more e f =
    list_any-append (nat_eq y) (new false) (new true) ∙ ap (λ (b : Bool). b || is_among y (new true)) e ∙ ap (λ (ns : List ℕ). (is_among y (old false) || more) || is_among y ns) f
    ∙ or_last (is_among y (old false)) (is_among y (old true)) more ∙ ap (λ (b : Bool). b || more) (sym (list_any-append (nat_eq y) (old false) (old true)))

-- behind a declaration in the groups that stand here
pub declared_functions : (before after : List Item) (groups : List Group) (void : Bool) (k : ℕ) (old new : Functions) → ((truths : List Bool) → sections truths groups ≡ sections_behind truths [] before) → IsFunctionMore before after void k
    → AreFunctions before old → AddsFunction old groups void k new → AreFunctions after new
declared_functions before after groups void k old new same m f a =
    let d : Declaration = record { name = k; groups = groups } in
    let kept : (truths : List Bool) → is_kept truths before ≡ are_kept truths groups = λ truths. sym (ap all_kept (same truths)) in
    let at_kept : (truths : List Bool) (y : ℕ) → is_among y (functions_at truths void after) ≡ (is_among y (functions_at truths void before) || (nat_eq y k && are_kept truths groups)) =
    λ truths y. m.like_kept truths y ∙ ap (λ (b : Bool). is_among y (functions_at truths void before) || (nat_eq y k && b)) (kept truths) in
    record {
      kinds = λ other. by_kind (λ (v : Bool). Tells (functions_in v new) (functions_by v after) (λ truths. functions_at truths v after)) void other
          (subst (λ (ds : List Declaration). Tells ds (functions_by void after) (λ truths. functions_at truths void after)) (sym a.like)
          (tells_more (functions_in void old) (record { name = k; groups = groups }) (functions_by void before) (functions_by void after) (λ truths. functions_at truths void before) (λ truths. functions_at truths void after) m.like at_kept (f.kinds void)))
          (subst (λ (ds : List Declaration). Tells ds (functions_by (not void) after) (λ truths. functions_at truths (not void) after)) (sym a.unlike)
          (tells_same (functions_in (not void) old) (functions_by (not void) before) (functions_by (not void) after) (λ truths. functions_at truths (not void) before) (λ truths. functions_at truths (not void) after)
          m.unlike m.unlike_kept (f.kinds (not void))));
      all = subst (λ (ds : List Declaration). Tells ds (callable_by false after) (λ truths. callable_at truths false after)) (sym a.all)
          (tells_more old.all.items (record { name = k; groups = groups }) (callable_by false before) (callable_by false after) (λ truths. callable_at truths false before) (λ truths. callable_at truths false after)
          (λ y. one_of_all y (λ (v : Bool). functions_by v before) (λ (v : Bool). functions_by v after) void (nat_eq y k) (m.like y) m.unlike)
          (λ truths y. one_of_all y (λ (v : Bool). functions_at truths v before) (λ (v : Bool). functions_at truths v after) void (nat_eq y k && are_kept truths groups) (at_kept truths y) (m.unlike_kept truths))
          f.all);
    }

-- ---- faults

-- what is told of the functions that may be called
callable_told : (before : List Item) (functions : Functions) (wants : Bool) → AreFunctions before functions → Tells (callable_in wants functions) (callable_by wants before) (λ truths. callable_at truths wants before)
callable_told before functions true f = f.kinds false
callable_told before functions false f = f.all

either_on : (b c : Bool) (A B D : Type 0) → b ≡ c → (A → B) → IsEither b A D → IsEither c B D
either_on true true A B D e f h = f h
either_on false false A B D e f h = h
either_on true false A B D e f h = absurd cc
either_on false true A B D e f h = absurd cc

pub call_is : (context : NameContext) (before : List Item) (groups : List Group) (functions : Functions) (wants : Bool) (k : ℕ) (fault : Option FileCode) → ((truths : List Bool) → sections truths groups ≡ sections_behind truths [] before)
    → AreFunctions before functions → wants ≡ stands_behind is_equals before → IsCall context groups functions wants k fault → IsCallFault context before k fault
call_is context before groups functions wants k fault same f e call =
    let equals : Bool = stands_behind is_equals before in
    let t : Tells (callable_in (stands_behind is_equals before) functions) (callable_by (stands_behind is_equals before) before) (λ truths. callable_at truths (stands_behind is_equals before) before) = callable_told before functions equals f in
    either_on (has_one (callable_in equals functions) k) (is_among k (callable_by equals before))
    (IsWithFirst context.model (is_missed context groups (callable_in equals functions) k) Undeclared None fault) (IsWithFirst context.model (is_uncallable context before k) Undeclared None fault) (fault ≡ Some (Undeclared None))
    (t.any k)
    (λ w. record {
      found = w.found;
      finds = found_same context.model (is_missed context groups (callable_in equals functions) k) (is_uncallable context before k)
          (λ values. ap (λ (ss : List Section). all_kept ss && not (is_declared (truths_at context values) (callable_in equals functions) k)) (same (truths_at context values))
          ∙ ap (λ (b : Bool). is_kept (truths_at context values) before && not b) (t.kept_is (truths_at context values) k))
          w.found w.finds;
      fault_is = w.fault_is;
    })
    (subst (λ (b : Bool). IsCall context groups functions b k fault) e call)

pub prototype_is : (context : NameContext) (before : List Item) (groups : List Group) (functions : Functions) (void : Bool) (k : ℕ) (fault : Option FileCode) → ((truths : List Bool) → sections truths groups ≡ sections_behind truths [] before)
    → AreFunctions before functions → void ≡ stands_behind is_void before → IsUnlike context groups functions void k fault → IsPrototypeFault context before k fault
prototype_is context before groups functions void k fault same f e unlike =
    let v : Bool = stands_behind is_void before in
    let w : IsWithFirst context.model (is_met_again context groups (functions_in (not (stands_behind is_void before)) functions) k) Twice (function_fault context k) fault =
    subst (λ (b : Bool). IsUnlike context groups functions b k fault) e unlike in
    record {
      found = w.found;
      finds = found_same context.model (is_met_again context groups (functions_in (not v) functions) k) (is_met_unlike context before k)
          (λ values. ap (λ (ss : List Section). all_kept ss && is_declared (truths_at context values) (functions_in (not v) functions) k) (same (truths_at context values))
          ∙ ap (λ (b : Bool). is_kept (truths_at context values) before && b) ((f.kinds (not v)).kept_is (truths_at context values) k))
          w.found w.finds;
      fault_is = w.fault_is;
    }

-- ---- answers

-- a call, by a list of the functions that may be called
abbrev IsCallBy : NameContext → List Group → List Declaration → ℕ → Option FileCode → Type 0
IsCallBy context groups ds k fault = IsEither (has_one ds k) (IsWithFirst context.model (is_missed context groups ds k) Undeclared None fault) (fault ≡ Some (Undeclared None))

pub call_found : (context : NameContext) (groups : List Group) (functions : Functions) (wants : Bool) (k : ℕ) (ds : List Declaration) (found : Option Config) → ds ≡ callable_in wants functions → has_one ds k ≡ true → Finds context.model (is_missed context groups ds k) found
    → IsCall context groups functions wants k (code_with Undeclared None found)
call_found context groups functions wants k ds found e h f = subst (λ (es : List Declaration). IsCallBy context groups es k (code_with Undeclared None found)) e
    (subst (λ (b : Bool). IsEither b (IsWithFirst context.model (is_missed context groups ds k) Undeclared None (code_with Undeclared None found)) (code_with Undeclared None found ≡ Some (Undeclared None))) (sym h)
    (record { found = found; finds = f; fault_is = refl }))

pub call_unnamed : (context : NameContext) (groups : List Group) (functions : Functions) (wants : Bool) (k : ℕ) (ds : List Declaration) → ds ≡ callable_in wants functions → has_one ds k ≡ false → IsCall context groups functions wants k (Some (Undeclared None))
call_unnamed context groups functions wants k ds e h = subst (λ (es : List Declaration). IsCallBy context groups es k (Some (Undeclared None))) e
    (subst (λ (b : Bool). IsEither b (IsWithFirst context.model (is_missed context groups ds k) Undeclared None (Some (Undeclared None))) (Some (Undeclared None) ≡ Some (Undeclared None))) (sym h) refl)

pub call_clear : (context : NameContext) (groups : List Group) (functions : Functions) (wants : Bool) (k : ℕ) (ds : List Declaration) → ds ≡ callable_in wants functions → has_one ds k ≡ true
    → ((truths : List Bool) → are_kept truths groups ≡ true → is_declared truths ds k ≡ true) → IsCall context groups functions wants k None
call_clear context groups functions wants k ds e h clear =
    call_found context groups functions wants k ds None e h (λ values valid. not_both (are_kept (truths_at context values) groups) (is_declared (truths_at context values) ds k) (clear (truths_at context values)))

pub unlike_found : (context : NameContext) (groups : List Group) (functions : Functions) (void : Bool) (k : ℕ) (ds : List Declaration) (found : Option Config) (fault : Option FileCode) → ds ≡ functions_in (not void) functions → Finds context.model (is_met_again context groups ds k) found
    → fault ≡ code_with Twice (function_fault context k) found → IsUnlike context groups functions void k fault
unlike_found context groups functions void k ds found fault e f is =
    subst (λ (es : List Declaration). IsWithFirst context.model (is_met_again context groups es k) Twice (function_fault context k) fault) e (record { found = found; finds = f; fault_is = is })

pub unlike_none : (context : NameContext) (groups : List Group) (functions : Functions) (void : Bool) (k : ℕ) (ds : List Declaration) (fault : Option FileCode) → ds ≡ functions_in (not void) functions → has_one ds k ≡ false → fault ≡ function_fault context k
    → IsUnlike context groups functions void k fault
unlike_none context groups functions void k ds fault e h is =
    unlike_found context groups functions void k ds None fault e (λ values valid. and_none (are_kept (truths_at context values) groups) (is_declared (truths_at context values) ds k) (none_declared (truths_at context values) ds k h)) is
