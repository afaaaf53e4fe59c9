-- The names that `main` declares among items and one more, whatever block they are in, and the static ones among them.
use Rattle.std.proofs.Common.{◌≡◌, ℕ, Bool, true, false, List, [], ◌∷◌, ◌++◌, refl, sym, ap, ◌∙◌, append-nil}
use Rattle.std.specs.Prelude.{if◌then◌else◌}
use Rattle.fam_outer.specs.declared.faults.Place.{Place}
use Rattle.c_grammar.specs.declared.items.Item.{Item}
use Rattle.c_grammar.specs.declared.items.Sign.TheVariants as signs
use Rattle.c_grammar.specs.Constants.{is_name}
use Rattle.c_grammar.specs.Grammar.{at}
use Rattle.c_grammar.specs.Locals.{names_of}
use Rattle.c_grammar.specs.Scopes.{is_static_behind, is_local, of_locals}
use Rattle.c_grammar.proofs.Scoping.{names_more, no_name}
use Rattle.family_names.proofs.Barred.{name_among_locals, used_among_locals, other_among_locals}
use Rattle.c_parser.specs.declared.locals.Locals.{Locals}
use Rattle.c_parser.specs.Judging.{AreLocals, AreLocalsBehind}
use Rattle.c_parser.specs.Names.{has_main, is_used_behind}

-- ---- one item more

names_used : (only : Bool) (before : List Item) (p : Place) (n : ℕ) → is_used_behind before ≡ true → names_of (of_locals only (before ++ at p (signs.Name n) ∷ [])) ≡ names_of (of_locals only before)
names_used only before p n used = ap names_of (used_among_locals only before p n used)

names_other : (only : Bool) (before : List Item) (x : Item) → is_name x.sign ≡ false → names_of (of_locals only (before ++ x ∷ [])) ≡ names_of (of_locals only before)
names_other only before x e =
    ap names_of (other_among_locals only before x e) ∙ names_more (of_locals only before) (x ∷ [])
    ∙ ap (λ (ns : List ℕ). names_of (of_locals only before) ++ (ns ++ [])) (no_name x.sign e) ∙ append-nil (names_of (of_locals only before))

names_declared : (only : Bool) (before : List Item) (p : Place) (n : ℕ) → is_used_behind before ≡ false
    → names_of (of_locals only (before ++ at p (signs.Name n) ∷ [])) ≡ names_of (of_locals only before) ++ (if is_local only (has_main before) (is_static_behind before) then n ∷ [] else [])
names_declared only before p n unused =
    let local : Bool = is_local only (has_main before) (is_static_behind before) in
    ap names_of (name_among_locals only before p n unused)
    ∙ names_more (of_locals only before) (if local then at p (signs.Name n) ∷ [] else [])
    ∙ ap (λ (ns : List ℕ). names_of (of_locals only before) ++ ns) (if_local local)
  where
    if_local : (b : Bool) → names_of (if b then at p (signs.Name n) ∷ [] else []) ≡ (if b then n ∷ [] else [])
    if_local true = refl
    if_local false = refl

-- ---- what is known of them

pub locals_used : (before : List Item) (p : Place) (n : ℕ) (locals : Locals) → is_used_behind before ≡ true → AreLocals before locals → AreLocals (before ++ at p (signs.Name n) ∷ []) locals
locals_used before p n locals used h = record { all = h.all ∙ sym (names_used false before p n used); statics = h.statics ∙ sym (names_used true before p n used) }

pub locals_other : (before : List Item) (x : Item) (locals : Locals) → is_name x.sign ≡ false → AreLocals before locals → AreLocals (before ++ x ∷ []) locals
locals_other before x locals e h = record { all = h.all ∙ sym (names_other false before x e); statics = h.statics ∙ sym (names_other true before x e) }

-- a name before `main`
pub declared_outside : (before : List Item) (n : ℕ) (main : Bool) (locals : Locals) → main ≡ false → main ≡ has_main before → is_used_behind before ≡ false → AreLocals before locals → AreLocalsBehind before (signs.Name n) locals
declared_outside before n main locals e m unused h p = record { all = h.all ∙ sym (none_more false); statics = h.statics ∙ sym (none_more true) }
  where
    none_more : (only : Bool) → names_of (of_locals only (before ++ at p (signs.Name n) ∷ [])) ≡ names_of (of_locals only before)
    none_more only =
        names_declared only before p n unused
        ∙ ap (λ (b : Bool). names_of (of_locals only before) ++ (if is_local only b (is_static_behind before) then n ∷ [] else [])) (sym m ∙ e)
        ∙ append-nil (names_of (of_locals only before))

-- a name of `main`, in a static declaration or not
one_more : (only : Bool) (before : List Item) (p : Place) (n : ℕ) (main static other : Bool) → main ≡ true → main ≡ has_main before → static ≡ other → static ≡ is_static_behind before → is_used_behind before ≡ false
    → names_of (of_locals only (before ++ at p (signs.Name n) ∷ [])) ≡ names_of (of_locals only before) ++ (if is_local only true other then n ∷ [] else [])
one_more only before p n main static other e m f s unused =
    names_declared only before p n unused
    ∙ ap (λ (b : Bool). names_of (of_locals only before) ++ (if is_local only b (is_static_behind before) then n ∷ [] else [])) (sym m ∙ e)
    ∙ ap (λ (b : Bool). names_of (of_locals only before) ++ (if is_local only true b then n ∷ [] else [])) (sym s ∙ f)

pub declared_static : (before : List Item) (n : ℕ) (main static : Bool) (old new : Locals) → main ≡ true → main ≡ has_main before → static ≡ true → static ≡ is_static_behind before → is_used_behind before ≡ false → AreLocals before old
    → new.all.items ≡ old.all.items ++ n ∷ [] → new.statics.items ≡ old.statics.items ++ n ∷ [] → AreLocalsBehind before (signs.Name n) new
declared_static before n main static old new e m f s unused h all statics p = record {
  all = all ∙ ap (λ (ns : List ℕ). ns ++ n ∷ []) h.all ∙ sym (one_more false before p n main static true e m f s unused);
  statics = statics ∙ ap (λ (ns : List ℕ). ns ++ n ∷ []) h.statics ∙ sym (one_more true before p n main static true e m f s unused);
}

pub declared_automatic : (before : List Item) (n : ℕ) (main static : Bool) (old new : Locals) → main ≡ true → main ≡ has_main before → static ≡ false → static ≡ is_static_behind before → is_used_behind before ≡ false → AreLocals before old
    → new.all.items ≡ old.all.items ++ n ∷ [] → new.statics.items ≡ old.statics.items → AreLocalsBehind before (signs.Name n) new
declared_automatic before n main static old new e m f s unused h all statics p = record {
  all = all ∙ ap (λ (ns : List ℕ). ns ++ n ∷ []) h.all ∙ sym (one_more false before p n main static false e m f s unused);
  statics = statics ∙ h.statics ∙ sym (one_more true before p n main static false e m f s unused ∙ append-nil (names_of (of_locals true before)));
}
