-- Which names are in scope behind one item more, and lists of names that follow the blocks of a file.
use Rattle.std.proofs.Common.{◌≡◌, ℕ, zero, suc, pred, Bool, true, false, not, ◌||◌, ◌&&◌, List, [], ◌∷◌, ◌++◌, Option, Result, Ok, Err, refl, sym, ap, subst, ◌∙◌, append-nil}
use Rattle.std.specs.Prelude.{OnOk, if◌then◌else◌}
use Rattle.fam_outer.specs.declared.faults.Place.{Place}
use Rattle.c_grammar.specs.declared.constants.NameKind.TheVariants as kinds
use Rattle.c_grammar.specs.declared.items.Item.{Item}
use Rattle.c_grammar.specs.declared.items.Sign.{Sign}
use Rattle.c_grammar.specs.declared.items.Sign.TheVariants as signs
use Rattle.c_grammar.specs.declared.scoped.Scoped.{Scoped}
use Rattle.c_grammar.specs.Constants.{is_name, is_constant, kind_after, of_constants}
use Rattle.c_grammar.specs.Functions.{has_sign}
use Rattle.c_grammar.specs.Grammar.{at}
use Rattle.c_grammar.specs.Locals.{is_declaring, declares_behind}
use Rattle.c_grammar.specs.Scoped.{IsSound, is_inside, still}
use Rattle.c_grammar.specs.Scopes.{still_in_scope}
use Rattle.c_grammar.proofs.Declaring.{last_of_constants}
use Rattle.c_grammar.proofs.Scoping.{names_used}
use Rattle.family_names.specs.Blocks.{is_shown, left_before}
use Rattle.family_names.proofs.Blocks.{other_in_scope, name_in_scope}
use Rattle.family_names.proofs.Declared.{names_append, main_on, or_false, or_true}
use Rattle.family_names.proofs.Holding.{from_more, from_main}
use Rattle.c_parser.specs.Names.{is_main, has_main, is_used_behind, name_of, names_of}
use Rattle.c_parser.specs.Judging.{AreInScope, AreInScopeBehind, begins_block, declares_constant}

-- ---- one item more

shown : (b : Bool) (p : Place) (x : ℕ) (ns : List ℕ) → ns ++ names_of (if b then at p (signs.Name x) ∷ [] else []) ≡ (if b then ns ++ x ∷ [] else ns)
shown true p x ns = refl
shown false p x ns = append-nil ns

-- a name that is declared
still_declared : (n : ℕ) (before : List Item) (p : Place) (x : ℕ) → is_used_behind before ≡ false
    → names_of (still_in_scope n (before ++ at p (signs.Name x) ∷ [])) ≡ (if is_shown n (has_main before) then names_of (still_in_scope n before) ++ x ∷ [] else names_of (still_in_scope n before))
still_declared n before p x u =
    ap names_of (name_in_scope before p x n u)
    ∙ names_append (still_in_scope n before) (if is_shown n (has_main before) then at p (signs.Name x) ∷ [] else [])
    ∙ shown (is_shown n (has_main before)) p x (names_of (still_in_scope n before))

pub not_name : (s : Sign) → ((x : ℕ) → s ≡ signs.Name x → ⊥) → is_name s ≡ false
not_name (signs.Name x) h = absurd (h x refl)
not_name _ h = refl

unnamed : (s : Sign) → is_name s ≡ false → name_of s ≡ []
unnamed (signs.Name x) e = absurd cc
unnamed _ e = refl

-- what is no name
still_other : (n : ℕ) (before : List Item) (x : Item) → is_name x.sign ≡ false → names_of (still_in_scope n (before ++ x ∷ [])) ≡ names_of (still_in_scope (left_before x.sign (has_main before) n) before)
still_other n before x e =
    let items : List Item = still_in_scope (left_before x.sign (has_main before) n) before in
    ap names_of (other_in_scope before x n e) ∙ names_append items (x ∷ []) ∙ ap (λ (ns : List ℕ). names_of items ++ (ns ++ [])) (unnamed x.sign e) ∙ append-nil (names_of items)

-- ---- the constants behind one item more

constants_with : (before : List Item) (x : Item) → is_constant (kind_after kinds.Variable before) ≡ true → of_constants (before ++ x ∷ []) ≡ of_constants before ++ x ∷ []
constants_with before x c = from_more kinds.Variable before x ∙ ap (λ (b : Bool). of_constants before ++ (if b || not (is_name x.sign) then x ∷ [] else [])) c

constants_without : (before : List Item) (p : Place) (x : ℕ) → is_constant (kind_after kinds.Variable before) ≡ false → of_constants (before ++ at p (signs.Name x) ∷ []) ≡ of_constants before
constants_without before p x c =
    from_more kinds.Variable before (at p (signs.Name x)) ∙ ap (λ (b : Bool). of_constants before ++ (if b || false then at p (signs.Name x) ∷ [] else [])) c ∙ append-nil (of_constants before)

constants_else : (before : List Item) (x : Item) → is_name x.sign ≡ false → of_constants (before ++ x ∷ []) ≡ of_constants before ++ x ∷ []
constants_else before x e =
    from_more kinds.Variable before x ∙ ap (λ (b : Bool). of_constants before ++ (if is_constant (kind_after kinds.Variable before) || not b then x ∷ [] else [])) e
    ∙ ap (λ (b : Bool). of_constants before ++ (if b then x ∷ [] else [])) (or_true (is_constant (kind_after kinds.Variable before)))

-- where a name would be a constant's, it is used behind the constants if it is behind all items
used_same : (before : List Item) → is_constant (kind_after kinds.Variable before) ≡ true → is_used_behind (of_constants before) ≡ is_used_behind before
used_same before c =
    ap (λ (b : Bool). b && not (declares_behind (of_constants before))) (from_main kinds.Variable before)
    ∙ ap (λ (o : Option Item). has_main before && not (has_sign is_declaring o)) (last_of_constants before c)

-- ---- lists of names

-- a name that is used changes nothing
pub used_in_scope : (before : List Item) (p : Place) (x : ℕ) (names : Scoped ℕ) → is_used_behind before ≡ true → AreInScope before names → AreInScope (before ++ at p (signs.Name x) ∷ []) names
used_in_scope before p x names u h = record {
  sound = h.sound;
  inside = h.inside ∙ sym (main_on before (at p (signs.Name x)) ∙ or_false (has_main before));
  still_are = λ n. h.still_are n ∙ sym (names_used n before p x u);
}

-- one that is declared is added
pub pushed_in_scope : (before : List Item) (p : Place) (x : ℕ) (old new : Scoped ℕ) → is_used_behind before ≡ false → AreInScope before old → (IsSound old → IsSound new) → is_inside new ≡ is_inside old → still 0 new ≡ still 0 old ++ x ∷ []
    → (IsSound old → (n : ℕ) → still (suc n) new ≡ (if is_inside old then still (suc n) old else still (suc n) old ++ x ∷ [])) → AreInScope (before ++ at p (signs.Name x) ∷ []) new
pushed_in_scope before p x old new u h sound inside first later = record {
  sound = sound h.sound;
  inside = inside ∙ h.inside ∙ sym (main_on before (at p (signs.Name x)) ∙ or_false (has_main before));
  still_are = λ n. by_level n ∙ sym (still_declared n before p x u);
}
  where
    added : (n : ℕ) (b : Bool) (ns ms : List ℕ) → ns ≡ ms → (if b then ns else ns ++ x ∷ []) ≡ (if is_shown (suc n) b then ms ++ x ∷ [] else ms)
    added n true ns ms e = e
    added n false ns ms e = ap (λ (ls : List ℕ). ls ++ x ∷ []) e

    by_level : (n : ℕ) → still n new ≡ (if is_shown n (has_main before) then names_of (still_in_scope n before) ++ x ∷ [] else names_of (still_in_scope n before))
    by_level zero = first ∙ ap (λ (ns : List ℕ). ns ++ x ∷ []) (h.still_are 0)
    by_level (suc n) = later h.sound n ∙ ap (λ (b : Bool). if b then still (suc n) old else still (suc n) old ++ x ∷ []) h.inside
        ∙ added n (has_main before) (still (suc n) old) (names_of (still_in_scope (suc n) before)) (h.still_are (suc n))

-- ---- blocks

-- at the sign no block begins or ends, in `main` or before it
pub record Stays (main : Bool) (sign : Sign) : Type 0 where
  behind : (main || is_main sign) ≡ main
  left : (n : ℕ) → left_before sign main n ≡ n

-- one begins
pub record Begins (main : Bool) (sign : Sign) : Type 0 where
  behind : (main || is_main sign) ≡ true
  left : (n : ℕ) → left_before sign main n ≡ pred n

begins_at : (main : Bool) (sign : Sign) → begins_block main sign ≡ true → Begins main sign
begins_at false signs.Main e = record { behind = refl; left = λ n. refl }
begins_at true signs.Main e = absurd cc
begins_at true signs.LeftBrace e = record { behind = refl; left = λ n. refl }
begins_at false signs.LeftBrace e = absurd cc
begins_at main _ e = absurd cc

pub stays_at : (main : Bool) (sign : Sign) → begins_block main sign ≡ false → (sign ≡ signs.RightBrace → ⊥) → Stays main sign
stays_at true signs.Main e r = record { behind = refl; left = λ n. refl }
stays_at false signs.Main e r = absurd cc
stays_at false signs.LeftBrace e r = record { behind = refl; left = λ n. refl }
stays_at true signs.LeftBrace e r = absurd cc
stays_at main signs.RightBrace e r = absurd (r refl)
stays_at main _ e r = record { behind = or_false main; left = λ n. refl }

-- as the code asks
pub block_begins : (sign : Sign) (main here begins : Bool) → begins ≡ true → begins ≡ begins_block here sign → here ≡ main → Begins main sign
block_begins sign main here begins e b h = begins_at main sign (ap (λ (m : Bool). begins_block m sign) (sym h) ∙ sym b ∙ e)

pub block_stays : (sign : Sign) (main here begins : Bool) → begins ≡ false → begins ≡ begins_block here sign → here ≡ main → (sign ≡ signs.RightBrace → ⊥) → Stays main sign
block_stays sign main here begins e b h r = stays_at main sign (ap (λ (m : Bool). begins_block m sign) (sym h) ∙ sym b ∙ e) r

pub same_in_scope : (before : List Item) (sign : Sign) (names : Scoped ℕ) → is_name sign ≡ false → Stays (has_main before) sign → AreInScope before names → AreInScopeBehind before sign names
same_in_scope before sign names e s h p = record {
  sound = h.sound;
  inside = h.inside ∙ sym (main_on before (at p sign) ∙ s.behind);
  still_are = λ n. h.still_are n ∙ sym (still_other n before (at p sign) e ∙ ap (λ (m : ℕ). names_of (still_in_scope m before)) (s.left n));
}

entered : (before : List Item) (sign : Sign) (old new : Scoped ℕ) → is_name sign ≡ false → Begins (has_main before) sign → AreInScope before old
    → (IsSound old → IsSound new) → is_inside new ≡ true → still 0 new ≡ still 0 old → ((n : ℕ) → still (suc n) new ≡ still n old) → AreInScopeBehind before sign new
entered before sign old new e b h sound inside first later p = record {
  sound = sound h.sound;
  inside = inside ∙ sym (main_on before (at p sign) ∙ b.behind);
  still_are = λ n. by_level n ∙ h.still_are (pred n) ∙ sym (still_other n before (at p sign) e ∙ ap (λ (m : ℕ). names_of (still_in_scope m before)) (b.left n));
}
  where
    by_level : (n : ℕ) → still n new ≡ still (pred n) old
    by_level zero = first
    by_level (suc n) = later n

pub entered_in_scope : {A E : Type 0} (made : Result A E) (before : List Item) (sign : Sign) (old new : Scoped ℕ) → is_name sign ≡ false → Begins (has_main before) sign → AreInScope before old
    → OnOk made (IsSound old → IsSound new) → OnOk made (is_inside new ≡ true) → OnOk made (still 0 new ≡ still 0 old) → OnOk made ((n : ℕ) → still (suc n) new ≡ still n old) → OnOk made (AreInScopeBehind before sign new)
entered_in_scope (Ok a) before sign old new e b h sound inside first later = entered before sign old new e b h sound inside first later
entered_in_scope (Err e) before sign old new f b h sound inside first later = tt

-- one ends
pub left_in_scope : (before : List Item) (sign : Sign) (old new : Scoped ℕ) → sign ≡ signs.RightBrace → AreInScope before old → (IsSound old → IsSound new) → is_inside new ≡ is_inside old
    → (IsSound old → (n : ℕ) → still n new ≡ (if is_inside old then still (suc n) old else still n old)) → AreInScopeBehind before sign new
left_in_scope before sign old new is h sound inside left = subst (λ (s : Sign). AreInScopeBehind before s new) (sym is) (λ p. record {
  sound = sound h.sound;
  inside = inside ∙ h.inside ∙ sym (main_on before (at p signs.RightBrace) ∙ or_false (has_main before));
  still_are = λ n. left h.sound n ∙ ap (λ (b : Bool). if b then still (suc n) old else still n old) h.inside ∙ chosen (has_main before) n
      ∙ h.still_are (left_before signs.RightBrace (has_main before) n) ∙ sym (still_other n before (at p signs.RightBrace) refl);
})
  where
    chosen : (b : Bool) (n : ℕ) → (if b then still (suc n) old else still n old) ≡ still (left_before signs.RightBrace b n) old
    chosen true n = refl
    chosen false n = refl

-- ---- constants

-- the sign is no name, or a name of a constant that is declared; then its constants are those before it and it
pub constant_pushed : {A E : Type 0} (made : Result A E) (before : List Item) (sign : Sign) (x : ℕ) (old new : Scoped ℕ) (declared : Bool) → sign ≡ signs.Name x → declared ≡ true → declared ≡ declares_constant before → AreInScope (of_constants before) old
    → OnOk made (IsSound old → IsSound new) → OnOk made (is_inside new ≡ is_inside old) → OnOk made (still 0 new ≡ still 0 old ++ x ∷ [])
    → OnOk made (IsSound old → (n : ℕ) → still (suc n) new ≡ (if is_inside old then still (suc n) old else still (suc n) old ++ x ∷ [])) → OnOk made ((p : Place) → AreInScope (of_constants (before ++ at p sign ∷ [])) new)
constant_pushed (Err e) before sign x old new declared is d b h sound inside first later = tt
constant_pushed (Ok a) before sign x old new declared is d b h sound inside first later = subst (λ (s : Sign). (p : Place) → AreInScope (of_constants (before ++ at p s ∷ [])) new) (sym is) (λ p.
    let both : (is_constant (kind_after kinds.Variable before) ≡ true) × (is_used_behind before ≡ false) = split (is_constant (kind_after kinds.Variable before)) (is_used_behind before) (sym b ∙ d) in
    subst (λ (ys : List Item). AreInScope ys new) (sym (constants_with before (at p (signs.Name x)) both.0))
    (pushed_in_scope (of_constants before) p x old new (used_same before both.0 ∙ both.1) h sound inside first later))
  where
    split : (a b : Bool) → (a && not b) ≡ true → (a ≡ true) × (b ≡ false)
    split true true e = absurd cc
    split true false e = (refl, refl)
    split false b e = absurd cc

-- a name of no constant that is declared
pub constant_passed : (before : List Item) (sign : Sign) (x : ℕ) (names : Scoped ℕ) (declared : Bool) → sign ≡ signs.Name x → declared ≡ false → declared ≡ declares_constant before → AreInScope (of_constants before) names
    → (p : Place) → AreInScope (of_constants (before ++ at p sign ∷ [])) names
constant_passed before sign x names declared is d b h p = subst (λ (s : Sign). AreInScope (of_constants (before ++ at p s ∷ [])) names) (sym is)
    (elim (is_constant (kind_after kinds.Variable before)) as (λ c. is_constant (kind_after kinds.Variable before) ≡ c → AreInScope (of_constants (before ++ at p (signs.Name x) ∷ [])) names) [
      | true ↦ λ c. subst (λ (ys : List Item). AreInScope ys names) (sym (constants_with before (at p (signs.Name x)) c))
          (used_in_scope (of_constants before) p x names (used_same before c ∙ used (is_constant (kind_after kinds.Variable before)) (is_used_behind before) c (sym b ∙ d)) h)
      | false ↦ λ c. subst (λ (ys : List Item). AreInScope ys names) (sym (constants_without before p x c)) h
    ] refl)
  where
    used : (a b : Bool) → a ≡ true → (a && not b) ≡ false → b ≡ true
    used true true e f = refl
    used true false e f = absurd cc
    used false b e f = absurd cc

-- another sign
pub constant_followed : {A E : Type 0} (made : Result A E) (before : List Item) (sign : Sign) (names : Scoped ℕ) → is_name sign ≡ false → OnOk made (AreInScopeBehind (of_constants before) sign names)
    → OnOk made ((p : Place) → AreInScope (of_constants (before ++ at p sign ∷ [])) names)
constant_followed (Err e) before sign names f h = tt
constant_followed (Ok a) before sign names f h = λ p. subst (λ (ys : List Item). AreInScope ys names) (sym (constants_else before (at p sign) f)) (h p)
