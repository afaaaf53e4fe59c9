-- The names that items declare are the targets of the declarators that the grammar finds, before `main` and in it.
use Rattle.std.proofs.Common.{◌≡◌, ℕ, ℤ, Bool, true, false, ◌||◌, List, [], ◌∷◌, ◌++◌, refl, sym, ap, subst, ◌∙◌, append_assoc, append-nil}
use Rattle.fam_outer.specs.declared.faults.Place.{Place}
use Rattle.c_tree.specs.declared.lists.Guard.{Guard}
use Rattle.c_tree.specs.declared.lists.Declared.{Declared}
use Rattle.c_tree.specs.Tree.{Code}
use Rattle.c_grammar.specs.declared.items.Item.{Item}
use Rattle.c_grammar.specs.declared.items.Sign.{Sign}
use Rattle.c_grammar.specs.declared.items.Sign.TheVariants as signs
use Rattle.c_grammar.specs.Grammar.{at, Callable, of_input, of_function, Optional, absent, present, Typed, int, int32, signed, signed_int, int_signed, Qualifier, Qualified, unqualified, const_before, const_behind, LocalDeclarator, uninitialised, initialised, from_call, Writes, Locals, last_local, next_local, Begins, only_type, then_type, enumeration, Declarator, bare, positive, negative, counted, Ending, variables_end, constants_end, enumeration_end, comma_end, Defines, defined, negative_defined, enclosed, negative_enclosed, declared, Part, Outer, Vars, Declares, nothing, variables, prototype, void_prototype, definition, section, last_var, next_var, end_part, else_part, elif_part, Body, Main, main, File, Forms, file}
use Rattle.c_grammar.specs.Groups.{guarded_by}
use Rattle.c_grammar.specs.Locals.{is_main, declares_behind, declarations_from, of_declarations, name_of, names_of, declared_by}
use Rattle.c_grammar.specs.LocalsOf.{local_name, locals_in, locals_of_body, locals_of_main, declared_in}
use Rattle.c_grammar.proofs.Declaring.{declarations_more, none_left_out}
use Rattle.family_names.specs.AroundMain.{has_main}
use Rattle.family_names.proofs.Declared.{names_append}
use Rattle.c_parser.specs.Names.{targets}
use Rattle.c_parser.proofs.Stretches.{is_calm, are_calm, calm_parts, expression_calm, function_calm, Stretch, calm, behind, before, both, declarators, statics, groups, end_group, else_group, elif_group, stretch_of_body}

pub targets-append : (ds es : List Declared) → targets (ds ++ es) ≡ targets ds ++ targets es
targets-append [] es = refl
targets-append (d ∷ ds) es = ap (λ (xs : List ℕ). d.target ∷ xs) (targets-append ds es)

-- two parts one after another
parts_both : (ds es : List Declared) (ns ms ls : List ℕ) → ns ≡ targets ds ++ ms → ms ≡ targets es ++ ls → ns ≡ targets (ds ++ es) ++ ls
parts_both ds es ns ms ls first second =
    first ∙ ap (λ (xs : List ℕ). targets ds ++ xs) second ∙ sym (append_assoc (targets ds) (targets es) ls) ∙ ap (λ (xs : List ℕ). xs ++ ls) (sym (targets-append ds es))

-- ---- before `main`

no_main_first : (a b c : Bool) → (a || b) ≡ false → (b ≡ false → c ≡ false) → (a || c) ≡ false
no_main_first true b c h go = absurd cc
no_main_first false b c h go = go h

no_main_both : (us vs : List Item) → has_main us ≡ false → has_main vs ≡ false → has_main (us ++ vs) ≡ false
no_main_both [] vs h k = k
no_main_both (x ∷ us) vs h k = no_main_first (is_main x.sign) (has_main us) (has_main (us ++ vs)) h (λ g. no_main_both us vs g k)

-- the items have the names of these declarators, and no `main`
pub record Names (us : List Item) (ds : List Declared) : Type 0 where
  pub are : names_of us ≡ targets ds
  pub no_main : has_main us ≡ false

named : {us : List Item} {ds : List Declared} → names_of us ≡ targets ds → has_main us ≡ false → Names us ds
named e m = record { are = e; no_main = m }

names_both : {us vs : List Item} {ds es : List Declared} → Names us ds → Names vs es → Names (us ++ vs) (ds ++ es)
names_both {us} {vs} {ds} {es} h k = named
    (names_append us vs ∙ ap (λ (xs : List ℕ). xs ++ names_of vs) h.are ∙ ap (λ (xs : List ℕ). targets ds ++ xs) k.are ∙ sym (targets-append ds es))
    (no_main_both us vs h.no_main k.no_main)

word : (p : Place) (s : Sign) → name_of s ≡ [] → is_main s ≡ false → Names (at p s ∷ []) []
word p s e m = named (ap (λ (xs : List ℕ). xs ++ []) e) (ap (λ (b : Bool). b || false) m)

-- what closes the parameters of a function
closing_names : (s t : Place) → Names (at s signs.Close ∷ at t signs.Semicolon ∷ []) []
closing_names s t = named refl refl

type_names : {us : List Item} → Typed us → Names us []
type_names (int p) = named refl refl
type_names (int32 p) = named refl refl
type_names (signed p) = named refl refl
type_names (signed_int p q) = named refl refl
type_names (int_signed p q) = named refl refl

qualified_names : {us : List Item} {kind : Qualifier} → Qualified kind us → Names us []
qualified_names (unqualified y) = type_names y
qualified_names (const_before p y) = names_both (word p signs.Const refl refl) (type_names y)
qualified_names (const_behind p y) = names_both (type_names y) (word p signs.Const refl refl)

begins_names : {s : Sign} {us : List Item} {kind : Qualifier} → name_of s ≡ [] → is_main s ≡ false → Begins s kind us → Names us []
begins_names e m (only_type s y) = qualified_names y
begins_names e m (then_type p s y) = names_both (word p s e m) (qualified_names y)
begins_names e m (enumeration p q s) = named refl refl

optional_names : {s : Sign} {us : List Item} → name_of s ≡ [] → is_main s ≡ false → Optional s us → Names us []
optional_names e m (absent s) = named refl refl
optional_names e m (present p s) = word p s e m

callable_names : {f : Sign} (q r : Place) → Callable f → Names (at q f ∷ at r signs.Open ∷ []) []
callable_names q r of_input = named refl refl
callable_names q r (of_function k) = named refl refl

declarator_names : {us : List Item} {x : ℕ} {n : ℤ} {kind : Qualifier} (gs : List Guard) → Declarator kind us x n → Names us (declared x n gs ∷ [])
declarator_names gs (bare p x) = named refl refl
declarator_names gs (positive p q r x n) = named refl refl
declarator_names gs (negative p q r s x n) = named refl refl
declarator_names gs (counted p x last lt) = named refl refl

ending_names : {us : List Item} {kind : Qualifier} → Ending kind us → Names us []
ending_names (variables_end p) = named refl refl
ending_names (constants_end p) = named refl refl
ending_names (enumeration_end last p q) = named refl refl
ending_names (comma_end last p q r) = named refl refl

pub definition_names : {us : List Item} {x : ℕ} {n : ℤ} (gs : List Guard) → Defines us x n → Names us (declared x n gs ∷ [])
definition_names gs (defined p q r x n) = named refl refl
definition_names gs (negative_defined p q r s x n) = named refl refl
definition_names gs (enclosed p q r s t x n) = named refl refl
definition_names gs (negative_enclosed p q r s t u x n) = named refl refl

-- the last part of a group
else_names : {us : List Item} {ds : List Declared} (p q : Place) → Names us ds → Names (at p signs.GroupElse ∷ (us ++ at q signs.GroupEnd ∷ [])) ds
else_names {us} {ds} p q h =
    subst (Names (at p signs.GroupElse ∷ (us ++ at q signs.GroupEnd ∷ []))) (append-nil ds) (names_both (word p signs.GroupElse refl refl) (names_both h (word q signs.GroupEnd refl refl)))

pub names_before : {part : Part} {us : List Item} {ds : List Declared} → Declares part us ds → Names us ds
names_before (nothing gs) = named refl refl
names_before (variables gs o v d) = names_both (begins_names refl refl o) (names_both (names_before v) (names_before d))
names_before (prototype q r s t gs o c v d) =
    names_both (begins_names refl refl o) (names_both (callable_names q r c) (names_both (optional_names refl refl v) (names_both (closing_names s t) (names_before d))))
names_before (void_prototype p q r s t k gs o v d) =
    let first : Names (at p signs.Void ∷ at q (signs.Function k) ∷ at r signs.Open ∷ []) [] = named refl refl in
    names_both (optional_names refl refl o) (names_both first (names_both (optional_names refl refl v) (names_both (closing_names s t) (names_before d))))
names_before (definition gs o d) = names_both (definition_names gs o) (names_before d)
names_before (section p n gs a b d) = names_both (word p (signs.GroupIf n) refl refl) (names_both (names_before a) (names_both (names_before b) (names_before d)))
names_before (last_var gs d o) = names_both (declarator_names gs d) (ending_names o)
names_before (next_var p gs d v) = names_both (declarator_names gs d) (names_both (word p signs.Comma refl refl) (names_before v))
names_before (end_part p gs) = named refl refl
names_before (else_part p q gs d) = else_names p q (names_before d)
names_before (elif_part p n gs a b) = names_both (word p (signs.GroupElif n) refl refl) (names_both (names_before a) (names_before b))

-- ---- in `main`

-- the names that are declared from here on, behind a sign that a declarator stands behind or not
abbrev from_here : Bool → List Item → List ℕ
from_here declaring w = names_of (declarations_from true declaring w)

calm_first_skipped : (s : Sign) (p : Place) (w : List Item) → is_calm s ≡ true → from_here false (at p s ∷ w) ≡ from_here false w
calm_first_skipped signs.Int p w h = absurd cc
calm_first_skipped signs.Int32 p w h = absurd cc
calm_first_skipped signs.Signed p w h = absurd cc
calm_first_skipped signs.Const p w h = absurd cc
calm_first_skipped signs.Comma p w h = absurd cc
calm_first_skipped _ p w h = refl

calm_skipped : (ts w : List Item) → are_calm ts ≡ true → from_here false (ts ++ w) ≡ from_here false w
calm_skipped [] w h = refl
calm_skipped (x ∷ xs) w h =
    let parts : (is_calm x.sign ≡ true) × (are_calm xs ≡ true) = calm_parts (is_calm x.sign) (are_calm xs) h in
    calm_first_skipped x.sign x.place (xs ++ w) parts.0 ∙ calm_skipped xs w parts.1

-- a declarator stands behind the words of a type
type_skipped : {us : List Item} (declaring : Bool) (w : List Item) → Typed us → from_here declaring (us ++ w) ≡ from_here true w
type_skipped true w (int p) = refl
type_skipped true w (int32 p) = refl
type_skipped true w (signed p) = refl
type_skipped true w (signed_int p q) = refl
type_skipped true w (int_signed p q) = refl
type_skipped false w (int p) = refl
type_skipped false w (int32 p) = refl
type_skipped false w (signed p) = refl
type_skipped false w (signed_int p q) = refl
type_skipped false w (int_signed p q) = refl

qualified_skipped : {us : List Item} {kind : Qualifier} (w : List Item) → Qualified kind us → from_here false (us ++ w) ≡ from_here true w
qualified_skipped w (unqualified y) = type_skipped false w y
qualified_skipped w (const_before p y) = type_skipped true w y
qualified_skipped w (const_behind p {us} y) = ap (from_here false) (append_assoc us (at p signs.Const ∷ []) w) ∙ type_skipped false (at p signs.Const ∷ w) y

-- a declarator declares its name
local_first : {ts : List Item} {c : Code} {kind : Qualifier} (w : List Item) → (d : LocalDeclarator kind ts c) → from_here true (ts ++ w) ≡ local_name d ∷ from_here false w
local_first w (uninitialised p x) = refl
local_first w (initialised p q x {kind} {ts} e) = ap (λ (ns : List ℕ). x ∷ ns) (calm_skipped ts w (expression_calm e))
local_first w (from_call p q r s t x {kind} {f} g) =
    ap (λ (ns : List ℕ). x ∷ ns) (calm_skipped (at r f ∷ at s signs.Open ∷ at t signs.Close ∷ []) w (function_calm r (at s signs.Open ∷ at t signs.Close ∷ []) g refl))

locals_first : {us : List Item} {c : Code} {kind : Qualifier} (gs : List Guard) (w : List Item) → (v : Writes (Locals kind) us c) → from_here true (us ++ w) ≡ targets (locals_in gs v) ++ from_here false w
locals_first gs w (last_local p {ts} d) = ap (from_here true) (append_assoc ts (at p signs.Semicolon ∷ []) w) ∙ local_first (at p signs.Semicolon ∷ w) d
locals_first gs w (next_local p {ts} {us} d v) =
    ap (from_here true) (append_assoc ts (at p signs.Comma ∷ us) w) ∙ local_first (at p signs.Comma ∷ (us ++ w)) d ∙ ap (λ (ns : List ℕ). local_name d ∷ ns) (locals_first gs w v)

-- so does one of a static variable, which starts at a number
static_first : {ts : List Item} {x : ℕ} {n : ℤ} {kind : Qualifier} (w : List Item) → Declarator kind ts x n → from_here true (ts ++ w) ≡ x ∷ from_here false w
static_first w (bare p x) = refl
static_first w (positive p q r x n) = refl
static_first w (negative p q r s x n) = refl
static_first w (counted p x last lt) = refl

ending_skipped : {us : List Item} {kind : Qualifier} (w : List Item) → Ending kind us → from_here false (us ++ w) ≡ from_here false w
ending_skipped w (variables_end p) = refl
ending_skipped w (constants_end p) = refl
ending_skipped w (enumeration_end last p q) = refl
ending_skipped w (comma_end last p q r) = refl

statics_first : {us : List Item} {ds : List Declared} {kind : Qualifier} {inner : List Guard} (gs : List Guard) (w : List Item) → Declares (Vars kind inner) us ds → from_here true (us ++ w) ≡ targets (guarded_by gs ds) ++ from_here false w
statics_first gs w (last_var inner {us} {vs} {x} d o) = ap (from_here true) (append_assoc us vs w) ∙ static_first (vs ++ w) d ∙ ap (λ (ns : List ℕ). x ∷ ns) (ending_skipped w o)
statics_first gs w (next_var p inner {us} {vs} {x} d v) =
    ap (from_here true) (append_assoc us (at p signs.Comma ∷ vs) w) ∙ static_first (at p signs.Comma ∷ (vs ++ w)) d ∙ ap (λ (ns : List ℕ). x ∷ ns) (statics_first gs w v)

stretch_first : {later : Bool} {gs : List Guard} {ts : List Item} {ds : List Declared} (w : List Item) → Stretch later gs ts ds → from_here false (ts ++ w) ≡ targets ds ++ from_here false w
stretch_first w (calm gs ts h) = calm_skipped ts w h
stretch_first w (behind gs ts {us} h s) = ap (from_here false) (append_assoc ts us w) ∙ calm_skipped ts (us ++ w) h ∙ stretch_first w s
stretch_first w (before gs us {ts} {ds} s h) = ap (from_here false) (append_assoc ts us w) ∙ stretch_first (us ++ w) s ∙ ap (λ (ns : List ℕ). targets ds ++ ns) (calm_skipped us w h)
stretch_first w (both gs {ts} {us} {ds} {es} s t) =
    ap (from_here false) (append_assoc ts us w)
    ∙ parts_both ds es (from_here false (ts ++ (us ++ w))) (from_here false (us ++ w)) (from_here false w) (stretch_first (us ++ w) s) (stretch_first w t)
stretch_first w (declarators gs {ts} {us} {vs} {c} {kind} {each} {es} q v s) =
    let re : (ts ++ (us ++ vs)) ++ w ≡ ts ++ (us ++ (vs ++ w)) = simp append_assoc in
    ap (from_here false) re ∙ qualified_skipped (us ++ (vs ++ w)) q
    ∙ parts_both (locals_in gs v) es (from_here true (us ++ (vs ++ w))) (from_here false (vs ++ w)) (from_here false w) (locals_first gs (vs ++ w) v) (stretch_first w s)
stretch_first w (statics gs {ts} {us} {vs} {ds} {es} q v s) =
    let re : (ts ++ (us ++ vs)) ++ w ≡ ts ++ (us ++ (vs ++ w)) = simp append_assoc in
    ap (from_here false) re ∙ qualified_skipped (us ++ (vs ++ w)) q
    ∙ parts_both (guarded_by gs ds) es (from_here true (us ++ (vs ++ w))) (from_here false (vs ++ w)) (from_here false w) (statics_first gs (vs ++ w) v) (stretch_first w s)
stretch_first w (groups gs p n {ts} {us} {vs} {ds} {es} {fs} s t l) =
    let re : (ts ++ (us ++ vs)) ++ w ≡ ts ++ (us ++ (vs ++ w)) = simp append_assoc in
    let rest : from_here false (us ++ (vs ++ w)) ≡ targets (es ++ fs) ++ from_here false w =
    parts_both es fs (from_here false (us ++ (vs ++ w))) (from_here false (vs ++ w)) (from_here false w) (stretch_first (vs ++ w) t) (stretch_first w l) in
    ap (from_here false) re
    ∙ parts_both ds (es ++ fs) (from_here false (ts ++ (us ++ (vs ++ w)))) (from_here false (us ++ (vs ++ w))) (from_here false w) (stretch_first (us ++ (vs ++ w)) s) rest
stretch_first w (end_group gs p) = refl
stretch_first w (else_group gs p q {ts} s) = ap (from_here false) (append_assoc ts (at q signs.GroupEnd ∷ []) w) ∙ stretch_first (at q signs.GroupEnd ∷ w) s
stretch_first w (elif_group gs p n {ts} {us} {ds} {es} s t) =
    ap (from_here false) (append_assoc ts us w)
    ∙ parts_both ds es (from_here false (ts ++ (us ++ w))) (from_here false (us ++ w)) (from_here false w) (stretch_first (us ++ w) s) (stretch_first w t)

-- ---- files

body_first : {us : List Item} {c : Code} {p : Place} (b : Body us c p) → from_here false us ≡ targets (locals_of_body b)
body_first {us} b =
    let ds : List Declared = locals_of_body b in
    ap (from_here false) (sym (append-nil us)) ∙ stretch_first [] (stretch_of_body b) ∙ append-nil (targets (ds ++ [])) ∙ ap targets (append-nil ds)

parameters_skipped : {us : List Item} (s t : Place) (w : List Item) → Optional signs.Void us → from_here false (us ++ at s signs.Close ∷ at t signs.LeftBrace ∷ w) ≡ from_here false w
parameters_skipped s t w (absent _) = refl
parameters_skipped s t w (present p _) = refl

head_skipped : {us : List Item} (declaring : Bool) (q r : Place) (w : List Item) → Typed us → names_of (declarations_from false declaring (us ++ at q signs.Main ∷ at r signs.Open ∷ w)) ≡ from_here false w
head_skipped declaring q r w (int p) = refl
head_skipped declaring q r w (int32 p) = refl
head_skipped declaring q r w (signed p) = refl
head_skipped declaring q r w (signed_int p s) = refl
head_skipped declaring q r w (int_signed p s) = refl

main_first : {us : List Item} {c : Code} {p : Place} (declaring : Bool) → (m : Main us c p) → names_of (declarations_from false declaring us) ≡ targets (locals_of_main m)
main_first declaring (main q r s t u {ts} {us} {vs} y o b) =
    head_skipped declaring q r (us ++ at s signs.Close ∷ at t signs.LeftBrace ∷ vs) y ∙ parameters_skipped s t vs o ∙ body_first b

-- before `main` no item is left out
pub declarations_of_file : {us : List Item} {ds : List Declared} (vs : List Item) → Declares (Outer []) us ds → of_declarations (us ++ vs) ≡ us ++ declarations_from false (declares_behind us) vs
declarations_of_file {us} vs d =
    let none : has_main us ≡ false = (names_before d).no_main in
    declarations_more us vs ∙ ap (λ (b : Bool). of_declarations us ++ declarations_from b (declares_behind us) vs) none
    ∙ ap (λ (xs : List Item). xs ++ declarations_from false (declares_behind us) vs) (none_left_out false us none)

pub declared_all : {items : List Item} {f : File} → (forms : Forms items f) → declared_by items ≡ targets (declared_in forms)
declared_all (file {us} {vs} {ds} d m) =
    ap names_of (declarations_of_file vs d) ∙ names_append us (declarations_from false (declares_behind us) vs)
    ∙ ap (λ (ns : List ℕ). ns ++ names_of (declarations_from false (declares_behind us) vs)) (names_before d).are
    ∙ ap (λ (ns : List ℕ). targets ds ++ ns) (main_first (declares_behind us) m) ∙ sym (targets-append ds (locals_of_main m))
