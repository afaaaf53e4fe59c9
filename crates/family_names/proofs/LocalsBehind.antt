-- What is known behind one item more of the names that `main` declares, and which names the next declaration may not have.
use Rattle.std.proofs.Common.{◌≡◌, ℕ, ℤ, Bool, true, false, not, ◌&&◌, nat_eq, List, [], ◌∷◌, ◌++◌, Option, None, sym, ap, ◌∙◌, append-nil}
use Rattle.std.specs.Prelude.{◌||◌, if◌then◌else◌}
use Rattle.std.proofs.lemmas.List.Folds.{list_any-append}
use Rattle.fam_outer.specs.declared.faults.Place.{Place}
use Rattle.fam_outer.specs.declared.faults.FileCode.{FileCode}
use Rattle.cpp_groups.specs.declared.section.Section.{Section}
use Rattle.cpp_groups.specs.Kept.{all_kept}
use Rattle.c_grammar.specs.declared.constants.NameClass.{NameClass}
use Rattle.c_grammar.specs.declared.items.Item.{Item}
use Rattle.c_grammar.specs.declared.items.Sign.TheVariants as signs
use Rattle.c_grammar.specs.Grammar.{at}
use Rattle.c_grammar.specs.Kept.{kept_from}
use Rattle.c_grammar.specs.Scoped.{still}
use Rattle.c_grammar.specs.Scopes.{is_static_behind, is_local}
use Rattle.family_names.specs.declared.declarations.Declaration.{Declaration}
use Rattle.family_names.specs.declared.groups.Group.{Group}
use Rattle.family_names.specs.declared.locals.Locals.{Locals}
use Rattle.family_names.specs.declared.seen.Seen.{Seen}
use Rattle.family_names.specs.Blocks.{locals_by, locals_at, with_shown}
use Rattle.family_names.specs.Declarations.{is_kept as declaration_kept, is_declared, has_one}
use Rattle.family_names.specs.Groups.{sections, are_kept}
use Rattle.family_names.specs.Names.{NameContext, truths_at, has_main, names_of, in_scope_at, taken_at, is_among, sections_behind, is_kept, is_met_again, is_used_behind}
use Rattle.family_names.specs.Judging as judging
use Rattle.family_names.specs.Judging.{Tells, locals_in, AreLocals, IsSeen, taken_in, new_fault, IsAgain, AddsLocal}
use Rattle.family_names.proofs.Calling.{tells_same, tells_none}
use Rattle.family_names.proofs.Declared.{or_false, or_true, and_true, AreStill, more_named, kept_name, shown_more}
use Rattle.family_names.proofs.Holding.{none_declared, and_none}

-- ---- an item more

none_of : (locals : Locals) → locals.all.items ≡ [] → locals.statics.items ≡ [] → (only : Bool) → Tells (locals_in only locals) (locals_by only []) (λ truths. locals_at truths only [])
none_of locals a s true = tells_none locals.statics.items s
none_of locals a s false = tells_none locals.all.items a

pub no_locals : (locals : Locals) → locals.all.items ≡ [] → locals.statics.items ≡ [] → AreLocals [] locals
no_locals locals a s = record { told = none_of locals a s }

-- behind an item that declares no name
pub still_locals : (before : List Item) (x : Item) (locals : Locals) → AreStill before x → AreLocals before locals → AreLocals (before ++ x ∷ []) locals
still_locals before x locals s k = record {
  told = λ only. tells_same (locals_in only locals) (locals_by only before) (locals_by only (before ++ x ∷ [])) (λ truths. locals_at truths only before) (λ truths. locals_at truths only (before ++ x ∷ []))
      (s.locals only) (s.kept_locals only) (k.told only);
}

-- where it is one of these, the names and those of a list are more by it
one_shown : (shown : Bool) (y : ℕ) (ds : List Declaration) (d : Declaration) (xs : List ℕ) → has_one ds y ≡ is_among y xs → has_one (with_shown shown ds d) y ≡ is_among y (xs ++ (if shown then d.name ∷ [] else []))
one_shown true y ds d xs known =
    list_any-append (λ (c : Declaration). nat_eq y c.name) ds (d ∷ []) ∙ ap (λ (b : Bool). b || has_one (d ∷ []) y) known ∙ sym (list_any-append (nat_eq y) xs (d.name ∷ []))
one_shown false y ds d xs known = known ∙ ap (is_among y) (sym (append-nil xs))

-- a declaration is one of these
added_in : (only : Bool) (old new : Locals) (groups : List Group) (main static : Bool) (x : ℕ) → AddsLocal old groups main static x new
    → locals_in only new ≡ with_shown (is_local only main static) (locals_in only old) (record { name = x; groups = groups })
added_in true old new groups main static x a = a.statics ∙ ap (λ (b : Bool). with_shown (main && b) old.statics.items (record { name = x; groups = groups })) (sym (or_false static))
added_in false old new groups main static x a =
    a.all ∙ ap (λ (b : Bool). with_shown b old.all.items (record { name = x; groups = groups })) (sym (ap (λ (b : Bool). main && b) (or_true static) ∙ and_true main))

-- behind a declaration in the groups that stand here
pub declared_locals : (before : List Item) (p : Place) (groups : List Group) (main static : Bool) (x : ℕ) (old new : Locals) → is_used_behind before ≡ false → ((truths : List Bool) → sections truths groups ≡ sections_behind truths [] before)
    → main ≡ has_main before → static ≡ is_static_behind before → AreLocals before old → AddsLocal old groups main static x new → AreLocals (before ++ at p (signs.Name x) ∷ []) new
declared_locals before p groups main static x old new h same m s k a = record { told = told }
  where
    d : Declaration
    d = record { name = x; groups = groups }

    shown : Bool → Bool
    shown only = is_local only (has_main before) (is_static_behind before)

    list_is : (only : Bool) → locals_in only new ≡ with_shown (shown only) (locals_in only old) d
    list_is only = added_in only old new groups main static x a ∙ ap (λ (b : Bool). with_shown (is_local only b static) (locals_in only old) d) m
        ∙ ap (λ (b : Bool). with_shown (is_local only (has_main before) b) (locals_in only old) d) s

    kept_one : (truths : List Bool) (y : ℕ) → declaration_kept truths y d ≡ is_among y (names_of (kept_from truths (sections_behind truths [] before) (at p (signs.Name x) ∷ [])))
    kept_one truths y = ap (λ (ss : List Section). nat_eq y x && all_kept ss) (same truths) ∙ sym (kept_name truths before p x y)

    told : (only : Bool) → Tells (locals_in only new) (locals_by only (before ++ at p (signs.Name x) ∷ [])) (λ truths. locals_at truths only (before ++ at p (signs.Name x) ∷ []))
    told only = record {
      any = λ y. ap (λ (ds : List Declaration). has_one ds y) (list_is only) ∙ one_shown (shown only) y (locals_in only old) d (locals_by only before) ((k.told only).any y)
          ∙ ap (is_among y) (sym ((more_named before p x h).locals only));
      kept_is = λ truths y. ap (λ (ds : List Declaration). is_declared truths ds y) (list_is only)
          ∙ shown_more (shown only) truths y (locals_in only old) d (locals_at truths only before) (names_of (kept_from truths (sections_behind truths [] before) (at p (signs.Name x) ∷ []))) ((k.told only).kept_is truths y) (kept_one truths y)
          ∙ ap (is_among y) (sym ((more_named before p x h).kept_locals only truths));
    }

-- ---- names that are taken

-- the declarations tell of each name whether it is taken
taken_same : (truths : List Bool) (before : List Item) (seen : Seen) (static : Bool) (x : ℕ) → IsSeen before seen → static ≡ is_static_behind before → is_declared truths (taken_in static seen) x ≡ is_among x (taken_at truths before)
taken_same truths before seen static x k s =
    list_any-append (λ (d : Declaration). declaration_kept truths x d) (still 0 seen.declarations) (locals_in (not static) seen.local_declarations)
    ∙ ap (λ (b : Bool). b || is_declared truths (locals_in (not static) seen.local_declarations) x) (k.declarations 0 truths x)
    ∙ ap (λ (b : Bool). is_among x (in_scope_at truths before) || b) ((k.locals.told (not static)).kept_is truths x)
    ∙ ap (λ (b : Bool). is_among x (in_scope_at truths before) || is_among x (locals_at truths (not b) before)) s
    ∙ sym (list_any-append (nat_eq x) (in_scope_at truths before) (locals_at truths (not (is_static_behind before)) before))

pub repeated_same : (context : NameContext) (before : List Item) (seen : Seen) (static : Bool) (x : ℕ) → IsSeen before seen → static ≡ is_static_behind before → (values : List ℤ)
    → judging.is_met_again context seen.groups (taken_in static seen) x values ≡ is_met_again context before x values
repeated_same context before seen static x k s values =
    ap (λ (ss : List Section). all_kept ss && is_declared (truths_at context values) (taken_in static seen) x) (k.groups (truths_at context values))
    ∙ ap (λ (b : Bool). is_kept (truths_at context values) before && b) (taken_same (truths_at context values) before seen static x k s)

-- a name that no declaration keeps the next one from
pub untaken : (context : NameContext) (seen : Seen) (values : ℕ) (class : NameClass) (static : Bool) (x : ℕ) (fault : Option FileCode) → has_one (taken_in static seen) x ≡ false → fault ≡ new_fault context seen values class x
    → IsAgain context seen values class static x fault
untaken context seen values class static x fault h is = record {
  found = None;
  finds = λ others valid. and_none (are_kept (truths_at context others) seen.groups) (is_declared (truths_at context others) (taken_in static seen) x) (none_declared (truths_at context others) (taken_in static seen) x h);
  fault_is = is;
}
