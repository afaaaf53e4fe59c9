-- The names that stand before `main`, where the conditions have truths, are the targets of the declarators whose guards hold.
use Rattle.std.proofs.Common.{◌≡◌, ℕ, Bool, true, false, not, ◌&&◌, cond, List, [], ◌∷◌, ◌++◌, Option, None, refl, sym, ap, ◌∙◌, append_assoc}
use Rattle.std.specs.Prelude.{ℤ}
use Rattle.std.proofs.lemmas.List.{map-append}
use Rattle.std.proofs.lemmas.List.Elements.{filter-append}
use Rattle.fam_outer.specs.declared.faults.Place.{Place}
use Rattle.cpp_groups.specs.declared.directive.GroupDirective.{GroupDirective}
use Rattle.cpp_groups.specs.declared.section.Section.{Section}
use Rattle.cpp_groups.specs.declared.section.Section.TheVariants.{Seeking}
use Rattle.cpp_groups.specs.Kept.{truth, next_group, all_kept, sections_after}
use Rattle.c_tree.specs.declared.lists.Declared.{Declared}
use Rattle.c_tree.specs.declared.lists.Guard.{Guard}
use Rattle.c_tree.specs.declared.tree.Op.TheVariants.{Sub}
use Rattle.c_tree.specs.Project.{guards_hold}
use Rattle.c_grammar.specs.declared.items.Item.{Item}
use Rattle.c_grammar.specs.declared.items.Sign.{Sign}
use Rattle.c_grammar.specs.declared.items.Sign.TheVariants as signs
use Rattle.c_grammar.specs.Grammar.{at, Callable, of_input, of_function, Optional, absent, present, Typed, int, int32, signed, signed_int, int_signed, Qualifier, Qualified, unqualified, const_before, const_behind, Begins, only_type, then_type, enumeration, Declarator, bare, positive, negative, counted, Ending, variables_end, constants_end, enumeration_end, comma_end, Defines, defined, negative_defined, enclosed, negative_enclosed, declared, Part, Outer, Vars, Later, Declares, nothing, variables, prototype, void_prototype, definition, section, last_var, next_var, end_part, else_part, elif_part, is_group}
use Rattle.c_grammar.specs.Kept.{directive_of, kept_from}
use Rattle.c_grammar.specs.Locals.{name_of, names_of}
use Rattle.c_grammar.proofs.Guards.{seeks, else_matches, in_true, in_false}
use Rattle.c_parser.specs.Names.{targets}
use Rattle.reading_laws.specs.Declaring.{holding}

-- the names that stand from here on, where the open sections keep them
abbrev pub standing : List Bool → List Section → List Item → List ℕ
standing t secs w = names_of (kept_from t secs w)

-- ---- items that name nothing and are no directive

abbrev pub IsSilent : List Item → Type 0
IsSilent [] = Unit {0}
IsSilent (x ∷ xs) = (directive_of x.sign ≡ None) × (name_of x.sign ≡ []) × IsSilent xs

pub silent_first : (t : List Bool) (secs : List Section) (x : Item) (w : List Item) → directive_of x.sign ≡ None → name_of x.sign ≡ [] → standing t secs (x ∷ w) ≡ standing t secs w
silent_first t secs x w d n =
    ap (λ (o : Option GroupDirective). names_of (cond (not (is_group x.sign) && all_kept secs) (x ∷ kept_from t (sections_after t secs o) w) (kept_from t (sections_after t secs o) w))) d
    ∙ (elim (not (is_group x.sign) && all_kept secs) as (λ b. names_of (cond b (x ∷ kept_from t secs w) (kept_from t secs w)) ≡ names_of (kept_from t secs w)) [
      | true ↦ ap (λ (ns : List ℕ). ns ++ standing t secs w) n
      | false ↦ refl
    ])

pub silent : (t : List Bool) (secs : List Section) (us w : List Item) → IsSilent us → standing t secs (us ++ w) ≡ standing t secs w
silent t secs [] w h = refl
silent t secs (x ∷ us) w h = silent_first t secs x (us ++ w) h.0 h.1 ∙ silent t secs us w h.2

pub typed_silent : {us : List Item} → Typed us → IsSilent us
typed_silent (int p) = (refl, refl, tt)
typed_silent (int32 p) = (refl, refl, tt)
typed_silent (signed p) = (refl, refl, tt)
typed_silent (signed_int p q) = (refl, refl, (refl, refl, tt))
typed_silent (int_signed p q) = (refl, refl, (refl, refl, tt))

pub silent_both : (us vs : List Item) → IsSilent us → IsSilent vs → IsSilent (us ++ vs)
silent_both [] vs h k = k
silent_both (x ∷ us) vs h k = (h.0, h.1, silent_both us vs h.2 k)

pub qualified_silent : {us : List Item} {kind : Qualifier} → Qualified kind us → IsSilent us
qualified_silent (unqualified y) = typed_silent y
qualified_silent (const_before p y) = (refl, refl, typed_silent y)
qualified_silent (const_behind p {us} y) = silent_both us (at p signs.Const ∷ []) (typed_silent y) (refl, refl, tt)

pub static_silent : {us : List Item} {kind : Qualifier} → Begins signs.Static kind us → IsSilent us
static_silent (only_type _ y) = qualified_silent y
static_silent (then_type p _ y) = (refl, refl, qualified_silent y)
static_silent (enumeration p q _) = (refl, refl, (refl, refl, tt))

pub extern_silent : {us : List Item} {kind : Qualifier} → Begins signs.Extern kind us → IsSilent us
extern_silent (only_type _ y) = qualified_silent y
extern_silent (then_type p _ y) = (refl, refl, qualified_silent y)
extern_silent (enumeration p q _) = (refl, refl, (refl, refl, tt))

ending_silent : {us : List Item} {kind : Qualifier} → Ending kind us → IsSilent us
ending_silent (variables_end p) = (refl, refl, tt)
ending_silent (constants_end p) = (refl, refl, tt)
ending_silent (enumeration_end last p q) = (refl, refl, (refl, refl, tt))
ending_silent (comma_end last p q r) = (refl, refl, (refl, refl, (refl, refl, tt)))

pub outer_silent : {us : List Item} → Optional signs.Extern us → IsSilent us
outer_silent (absent _) = tt
outer_silent (present p _) = (refl, refl, tt)

-- the name of a function is no name of the program
pub callable_silent : {f : Sign} (q r : Place) → Callable f → IsSilent (at q f ∷ at r signs.Open ∷ [])
callable_silent q r of_input = (refl, refl, (refl, refl, tt))
callable_silent q r (of_function k) = (refl, refl, (refl, refl, tt))

pub void_silent : {us : List Item} → Optional signs.Void us → IsSilent us
void_silent (absent _) = tt
void_silent (present p _) = (refl, refl, tt)

-- ---- declarators

pub held_both : (t : List Bool) (ds es : List Declared) → targets (holding t (ds ++ es)) ≡ targets (holding t ds) ++ targets (holding t es)
held_both t ds es =
    ap targets (filter-append (λ (d : Declared). guards_hold t d.guards) ds es) ∙ map-append (λ (d : Declared). d.target) (holding t ds) (holding t es)

held_first : (t : List Bool) (x : ℕ) (n : ℤ) (gs : List Guard) (ds : List Declared) (b : Bool) → guards_hold t gs ≡ b → cond b (x ∷ []) [] ++ targets (holding t ds) ≡ targets (holding t (declared x n gs ∷ ds))
held_first t x n gs ds true e = ap (λ (b : Bool). targets (cond b (declared x n gs ∷ holding t ds) (holding t ds))) (sym e)
held_first t x n gs ds false e = ap (λ (b : Bool). targets (cond b (declared x n gs ∷ holding t ds) (holding t ds))) (sym e)

pub name_first : (t : List Bool) (secs : List Section) (p : Place) (x : ℕ) (w : List Item) → standing t secs (at p (signs.Name x) ∷ w) ≡ cond (all_kept secs) (x ∷ []) [] ++ standing t secs w
name_first t secs p x w = elim (all_kept secs) as (λ b. names_of (cond b (at p (signs.Name x) ∷ kept_from t secs w) (kept_from t secs w)) ≡ cond b (x ∷ []) [] ++ names_of (kept_from t secs w)) [ true ↦ refl | false ↦ refl ]

declarator_first : {us : List Item} {x : ℕ} {n : ℤ} {kind : Qualifier} (t : List Bool) (secs : List Section) (w : List Item) → Declarator kind us x n → standing t secs (us ++ w) ≡ cond (all_kept secs) (x ∷ []) [] ++ standing t secs w
declarator_first t secs w (bare p x) = name_first t secs p x w
declarator_first t secs w (counted p x last lt) = name_first t secs p x w
declarator_first t secs w (positive p q r x n) =
    name_first t secs p x (at q signs.Equals ∷ at r (signs.Number n) ∷ w)
    ∙ ap (λ (ns : List ℕ). cond (all_kept secs) (x ∷ []) [] ++ ns) (silent t secs (at q signs.Equals ∷ at r (signs.Number n) ∷ []) w (refl, refl, (refl, refl, tt)))
declarator_first t secs w (negative p q r s x n) =
    name_first t secs p x (at q signs.Equals ∷ at r (signs.Oper Sub) ∷ at s (signs.Number n) ∷ w)
    ∙ ap (λ (ns : List ℕ). cond (all_kept secs) (x ∷ []) [] ++ ns) (silent t secs (at q signs.Equals ∷ at r (signs.Oper Sub) ∷ at s (signs.Number n) ∷ []) w (refl, refl, (refl, refl, (refl, refl, tt))))

-- a definition holds its name
pub definition_first : {us : List Item} {x : ℕ} {n : ℤ} (t : List Bool) (secs : List Section) (w : List Item) → Defines us x n → standing t secs (us ++ w) ≡ cond (all_kept secs) (x ∷ []) [] ++ standing t secs w
definition_first t secs w (defined p q r x n) =
    silent t secs (at p signs.Define ∷ []) (at q (signs.Name x) ∷ at r (signs.Number n) ∷ w) (refl, refl, tt)
    ∙ name_first t secs q x (at r (signs.Number n) ∷ w)
    ∙ ap (λ (ns : List ℕ). cond (all_kept secs) (x ∷ []) [] ++ ns) (silent t secs (at r (signs.Number n) ∷ []) w (refl, refl, tt))
definition_first t secs w (negative_defined p q r s x n) =
    silent t secs (at p signs.Define ∷ []) (at q (signs.Name x) ∷ at r (signs.Oper Sub) ∷ at s (signs.Number n) ∷ w) (refl, refl, tt)
    ∙ name_first t secs q x (at r (signs.Oper Sub) ∷ at s (signs.Number n) ∷ w)
    ∙ ap (λ (ns : List ℕ). cond (all_kept secs) (x ∷ []) [] ++ ns) (silent t secs (at r (signs.Oper Sub) ∷ at s (signs.Number n) ∷ []) w (refl, refl, (refl, refl, tt)))
definition_first t secs w (enclosed p q r s z x n) =
    silent t secs (at p signs.Define ∷ []) (at q (signs.Name x) ∷ at r signs.Open ∷ at s (signs.Number n) ∷ at z signs.Close ∷ w) (refl, refl, tt)
    ∙ name_first t secs q x (at r signs.Open ∷ at s (signs.Number n) ∷ at z signs.Close ∷ w)
    ∙ ap (λ (ns : List ℕ). cond (all_kept secs) (x ∷ []) [] ++ ns) (silent t secs (at r signs.Open ∷ at s (signs.Number n) ∷ at z signs.Close ∷ []) w (refl, refl, (refl, refl, (refl, refl, tt))))
definition_first t secs w (negative_enclosed p q r s z u x n) =
    silent t secs (at p signs.Define ∷ []) (at q (signs.Name x) ∷ at r signs.Open ∷ at s (signs.Oper Sub) ∷ at z (signs.Number n) ∷ at u signs.Close ∷ w) (refl, refl, tt)
    ∙ name_first t secs q x (at r signs.Open ∷ at s (signs.Oper Sub) ∷ at z (signs.Number n) ∷ at u signs.Close ∷ w)
    ∙ ap (λ (ns : List ℕ). cond (all_kept secs) (x ∷ []) [] ++ ns) (silent t secs (at r signs.Open ∷ at s (signs.Oper Sub) ∷ at z (signs.Number n) ∷ at u signs.Close ∷ []) w (refl, refl, (refl, refl, (refl, refl, (refl, refl, tt)))))

-- ---- declarations

abbrev pub HoldsAt : List Bool → Part → List Item → List Declared → Type 0
HoldsAt t (Outer gs) us ds = (secs : List Section) → guards_hold t gs ≡ all_kept secs → (w : List Item) → standing t secs (us ++ w) ≡ targets (holding t ds) ++ standing t secs w
HoldsAt t (Vars kind gs) us ds = (secs : List Section) → guards_hold t gs ≡ all_kept secs → (w : List Item) → standing t secs (us ++ w) ≡ targets (holding t ds) ++ standing t secs w
HoldsAt t (Later gs) us ds = (sec : Section) (secs : List Section) → guards_hold t gs ≡ seeks sec secs → (w : List Item) → standing t (sec ∷ secs) (us ++ w) ≡ targets (holding t ds) ++ standing t secs w

-- one after another
pub both_held : (t : List Bool) (ds es : List Declared) (ns : List ℕ) → targets (holding t ds) ++ (targets (holding t es) ++ ns) ≡ targets (holding t (ds ++ es)) ++ ns
both_held t ds es ns = sym (append_assoc (targets (holding t ds)) (targets (holding t es)) ns) ∙ ap (λ (ms : List ℕ). ms ++ ns) (sym (held_both t ds es))

pub one_held : (t : List Bool) (x : ℕ) (n : ℤ) (gs : List Guard) (ds : List Declared) (secs : List Section) (ns : List ℕ) → guards_hold t gs ≡ all_kept secs → cond (all_kept secs) (x ∷ []) [] ++ (targets (holding t ds) ++ ns) ≡ targets (holding t (declared x n gs ∷ ds)) ++ ns
one_held t x n gs ds secs ns h =
    sym (append_assoc (cond (all_kept secs) (x ∷ []) []) (targets (holding t ds)) ns) ∙ ap (λ (ms : List ℕ). ms ++ ns) (held_first t x n gs ds (all_kept secs) h)

pub holds : {part : Part} {us : List Item} {ds : List Declared} (t : List Bool) → Declares part us ds → HoldsAt t part us ds
holds t (nothing gs) = λ secs h w. refl
holds t (variables gs {us} {vs} {ws} {ds} {es} o v d) = λ secs h w.
    ap (standing t secs) (append_assoc us (vs ++ ws) w)
    ∙ silent t secs us ((vs ++ ws) ++ w) (static_silent o)
    ∙ ap (standing t secs) (append_assoc vs ws w)
    ∙ holds t v secs h (ws ++ w)
    ∙ ap (λ (ns : List ℕ). targets (holding t ds) ++ ns) (holds t d secs h w)
    ∙ both_held t ds es (standing t secs w)
holds t (prototype q r s z gs {f} {us} {vs} {ws} {es} o c v d) = λ secs h w.
    let tail : List Item = at s signs.Close ∷ at z signs.Semicolon ∷ ws in
    ap (standing t secs) (append_assoc us (at q f ∷ at r signs.Open ∷ (vs ++ tail)) w)
    ∙ silent t secs us (at q f ∷ at r signs.Open ∷ ((vs ++ tail) ++ w)) (extern_silent o)
    ∙ silent t secs (at q f ∷ at r signs.Open ∷ []) ((vs ++ tail) ++ w) (callable_silent q r c)
    ∙ ap (standing t secs) (append_assoc vs tail w)
    ∙ silent t secs vs (tail ++ w) (void_silent v)
    ∙ silent t secs (at s signs.Close ∷ at z signs.Semicolon ∷ []) (ws ++ w) (refl, refl, (refl, refl, tt))
    ∙ holds t d secs h w
holds t (void_prototype p q r s z k gs {us} {vs} {ws} {es} o v d) = λ secs h w.
    let tail : List Item = at s signs.Close ∷ at z signs.Semicolon ∷ ws in
    ap (standing t secs) (append_assoc us (at p signs.Void ∷ at q (signs.Function k) ∷ at r signs.Open ∷ (vs ++ tail)) w)
    ∙ silent t secs us (at p signs.Void ∷ at q (signs.Function k) ∷ at r signs.Open ∷ ((vs ++ tail) ++ w)) (outer_silent o)
    ∙ silent t secs (at p signs.Void ∷ at q (signs.Function k) ∷ at r signs.Open ∷ []) ((vs ++ tail) ++ w) (refl, refl, (refl, refl, (refl, refl, tt)))
    ∙ ap (standing t secs) (append_assoc vs tail w)
    ∙ silent t secs vs (tail ++ w) (void_silent v)
    ∙ silent t secs (at s signs.Close ∷ at z signs.Semicolon ∷ []) (ws ++ w) (refl, refl, (refl, refl, tt))
    ∙ holds t d secs h w
holds t (definition gs {us} {ws} {es} {x} {n} o d) = λ secs h w.
    ap (standing t secs) (append_assoc us ws w)
    ∙ definition_first t secs (ws ++ w) o
    ∙ ap (λ (ns : List ℕ). cond (all_kept secs) (x ∷ []) [] ++ ns) (holds t d secs h w)
    ∙ one_held t x n gs es secs (standing t secs w) h
holds t (section p n gs {us} {vs} {ws} {cs} {ds} {es} a b d) = λ secs h w.
    let inner = next_group Seeking (truth t n) in
    let is : (us ++ (vs ++ ws)) ++ w ≡ us ++ (vs ++ (ws ++ w)) = simp append_assoc in
    ap (standing t (inner ∷ secs)) is
    ∙ holds t a (inner ∷ secs) (in_true t gs n Seeking secs h) (vs ++ (ws ++ w))
    ∙ ap (λ (ns : List ℕ). targets (holding t cs) ++ ns) (holds t b inner secs (in_false t gs n Seeking secs h) (ws ++ w)
    ∙ ap (λ (ns : List ℕ). targets (holding t ds) ++ ns) (holds t d secs h w) ∙ both_held t ds es (standing t secs w))
    ∙ both_held t cs (ds ++ es) (standing t secs w)
holds t (last_var gs {us} {vs} {x} {n} d o) = λ secs h w.
    ap (standing t secs) (append_assoc us vs w)
    ∙ declarator_first t secs (vs ++ w) d
    ∙ ap (λ (ns : List ℕ). cond (all_kept secs) (x ∷ []) [] ++ ns) (silent t secs vs w (ending_silent o))
    ∙ one_held t x n gs [] secs (standing t secs w) h
holds t (next_var p gs {us} {vs} {x} {n} {ds} d v) = λ secs h w.
    ap (standing t secs) (append_assoc us (at p signs.Comma ∷ vs) w)
    ∙ declarator_first t secs (at p signs.Comma ∷ (vs ++ w)) d
    ∙ ap (λ (ns : List ℕ). cond (all_kept secs) (x ∷ []) [] ++ ns) (silent t secs (at p signs.Comma ∷ []) (vs ++ w) (refl, refl, tt) ∙ holds t v secs h w)
    ∙ one_held t x n gs ds secs (standing t secs w) h
holds t (end_part p gs) = λ sec secs h w. refl
holds t (else_part p q gs {us} {ds} d) = λ sec secs h w.
    ap (standing t (next_group sec true ∷ secs)) (append_assoc us (at q signs.GroupEnd ∷ []) w)
    ∙ holds t d (next_group sec true ∷ secs) (h ∙ else_matches sec secs) (at q signs.GroupEnd ∷ w)
holds t (elif_part p n gs {us} {vs} {cs} {ds} a b) = λ sec secs h w.
    let inner = next_group sec (truth t n) in
    ap (standing t (inner ∷ secs)) (append_assoc us vs w)
    ∙ holds t a (inner ∷ secs) (in_true t gs n sec secs h) (vs ++ w)
    ∙ ap (λ (ns : List ℕ). targets (holding t cs) ++ ns) (holds t b inner secs (in_false t gs n sec secs h) w)
    ∙ both_held t cs ds (standing t secs w)
