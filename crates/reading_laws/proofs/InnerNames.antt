-- The names of pieces of `main` that are in scope behind them, where the conditions have truths, are the targets of declarators whose guards
-- hold.
use Rattle.std.proofs.Common.{◌≡◌, ℕ, ℤ, pos, Bool, true, false, not, ◌&&◌, cond, List, [], ◌∷◌, ◌++◌, Option, Some, None, refl, sym, ap, ◌∙◌, append_assoc}
use Rattle.std.specs.Prelude.{if◌then◌else◌}
use Rattle.fam_outer.specs.declared.faults.Place.{Place}
use Rattle.cpp_groups.specs.declared.section.Section.{Section}
use Rattle.cpp_groups.specs.declared.section.Section.TheVariants.{Seeking}
use Rattle.cpp_groups.specs.Kept.{truth, next_group, all_kept}
use Rattle.c_tree.specs.declared.lists.Guard.{Guard}
use Rattle.c_tree.specs.declared.lists.Declared.{Declared}
use Rattle.c_tree.specs.declared.tree.Op.TheVariants.{Sub}
use Rattle.c_tree.specs.Tree.{Code}
use Rattle.c_tree.specs.Project.{guards_hold}
use Rattle.c_grammar.specs.declared.items.Item.{Item}
use Rattle.c_grammar.specs.declared.items.Sign.{Sign}
use Rattle.c_grammar.specs.declared.items.Sign.TheVariants as signs
use Rattle.c_grammar.specs.Constants.{is_name}
use Rattle.c_grammar.specs.Grammar.{at, Typed, int, int32, signed, signed_int, int_signed, Qualifier, Qualified, unqualified, const_before, const_behind, LocalDeclarator, uninitialised, initialised, from_call, Writes, Locals, last_local, next_local, Declarator, bare, positive, negative, counted, Ending, variables_end, constants_end, enumeration_end, comma_end, Unqualified, Constant, Counted, behind, Vars, Declares, last_var, next_var, declared}
use Rattle.c_grammar.specs.Ahead.{IsHeld}
use Rattle.c_grammar.specs.Groups.{guarded_by}
use Rattle.c_grammar.specs.Locals.{declarations_from, name_of}
use Rattle.c_grammar.specs.LocalsOf.{local_name, locals_in}
use Rattle.c_grammar.specs.Scopes.{inner_from, are_open, is_open_behind, scoped_from}
use Rattle.c_grammar.proofs.Guards.{seeks, else_matches, in_true, in_false}
use Rattle.c_grammar.proofs.Scoping.{inner_more}
use Rattle.c_grammar.proofs.ScopingBlocks.{IsBalanced, code_balanced}
use Rattle.c_parser.specs.Names.{targets}
use Rattle.c_parser.proofs.Stretches.{is_calm, are_calm, calm_parts, expression_calm, function_calm}
use Rattle.reading_laws.specs.Declaring.{holding}
use Rattle.reading_laws.proofs.OuterNames.{standing, IsSilent, silent, silent_first, qualified_silent, name_first, both_held, one_held}
use Rattle.reading_laws.proofs.Pieces.{Piece, calm, enclosed, both, declarators, statics, groups, end_group, else_group, elif_group}
use Rattle.reading_laws.proofs.Scoping.{open_declared}

-- the names of `main` from here on that are in scope behind them, behind a sign that a declarator stands behind or not
abbrev pub kept_here : List Bool → List Section → Bool → List Item → List ℕ
kept_here t secs declaring w = standing t secs (scoped_from 0 true (declarations_from true declaring w))

-- ---- items that declare nothing

calm_first : (t : List Bool) (secs : List Section) (s : Sign) (p : Place) (w : List Item) → is_calm s ≡ true → kept_here t secs false (at p s ∷ w) ≡ kept_here t secs false w
calm_first t secs (signs.Name x) p w h = refl
calm_first t secs signs.Int p w h = absurd cc
calm_first t secs signs.Int32 p w h = absurd cc
calm_first t secs signs.Signed p w h = absurd cc
calm_first t secs signs.Const p w h = absurd cc
calm_first t secs signs.Comma p w h = absurd cc
calm_first t secs (signs.GroupIf n) p w h = absurd cc
calm_first t secs (signs.GroupElif n) p w h = absurd cc
calm_first t secs signs.GroupElse p w h = absurd cc
calm_first t secs signs.GroupEnd p w h = absurd cc
calm_first t secs s p w h = silent_first t secs (at p s) (scoped_from 0 true (declarations_from true false w)) refl refl

pub calm_kept : (t : List Bool) (secs : List Section) (ts w : List Item) → are_calm ts ≡ true → kept_here t secs false (ts ++ w) ≡ kept_here t secs false w
calm_kept t secs [] w h = refl
calm_kept t secs (x ∷ xs) w h =
    let parts : (is_calm x.sign ≡ true) × (are_calm xs ≡ true) = calm_parts (is_calm x.sign) (are_calm xs) h in
    calm_first t secs x.sign x.place (xs ++ w) parts.0 ∙ calm_kept t secs xs w parts.1

-- ---- declarations

-- the words of a type stay, and a declarator stands behind them
type_stays : {us : List Item} (declaring : Bool) (w : List Item) → Typed us → declarations_from true declaring (us ++ w) ≡ us ++ declarations_from true true w
type_stays true w (int p) = refl
type_stays true w (int32 p) = refl
type_stays true w (signed p) = refl
type_stays true w (signed_int p q) = refl
type_stays true w (int_signed p q) = refl
type_stays false w (int p) = refl
type_stays false w (int32 p) = refl
type_stays false w (signed p) = refl
type_stays false w (signed_int p q) = refl
type_stays false w (int_signed p q) = refl

qualified_stays : {us : List Item} {kind : Qualifier} (w : List Item) → Qualified kind us → declarations_from true false (us ++ w) ≡ us ++ declarations_from true true w
qualified_stays w (unqualified y) = type_stays false w y
qualified_stays w (const_before p y) = ap (λ (xs : List Item). at p signs.Const ∷ xs) (type_stays true w y)
qualified_stays w (const_behind p {us} y) =
    ap (declarations_from true false) (append_assoc us (at p signs.Const ∷ []) w) ∙ type_stays false (at p signs.Const ∷ w) y ∙ sym (append_assoc us (at p signs.Const ∷ []) (declarations_from true true w))

unnamed : (s : Sign) → name_of s ≡ [] → is_name s ≡ false
unnamed (signs.Name x) h = absurd cc
unnamed _ h = refl

-- what names nothing does not go out of scope
silent_stays : (us w : List Item) → IsSilent us → scoped_from 0 true (us ++ w) ≡ us ++ scoped_from 0 true w
silent_stays [] w h = refl
silent_stays (x ∷ us) w h =
    ap (λ b. if b && not (is_open_behind 0 (us ++ w)) then scoped_from 0 true (us ++ w) else x ∷ scoped_from 0 true (us ++ w)) (unnamed x.sign h.1) ∙ ap (λ (xs : List Item). x ∷ xs) (silent_stays us w h.2)

pub qualified_kept : {us : List Item} {kind : Qualifier} (t : List Bool) (secs : List Section) (w : List Item) → Qualified kind us → kept_here t secs false (us ++ w) ≡ kept_here t secs true w
qualified_kept {us} t secs w q =
    let more : List Item = declarations_from true true w in
    ap (λ (xs : List Item). standing t secs (scoped_from 0 true xs)) (qualified_stays w q) ∙ ap (standing t secs) (silent_stays us more (qualified_silent q)) ∙ silent t secs us (scoped_from 0 true more) (qualified_silent q)

-- ---- names that are in scope

-- these names, if the block that they stand in is not left
abbrev pub if_open : Bool → List ℕ → List ℕ
if_open true ns = ns
if_open false ns = []

pub none_open : (o : Bool) (ns : List ℕ) → ns ≡ if_open o [] ++ ns
none_open true ns = refl
none_open false ns = refl

pub both_open : (t : List Bool) (o : Bool) (ds es : List Declared) (ns : List ℕ) → if_open o (targets (holding t ds)) ++ (if_open o (targets (holding t es)) ++ ns) ≡ if_open o (targets (holding t (ds ++ es))) ++ ns
both_open t true ds es ns = both_held t ds es ns
both_open t false ds es ns = refl

one_open : (t : List Bool) (o : Bool) (x : ℕ) (n : ℤ) (gs : List Guard) (ds : List Declared) (secs : List Section) (ns : List ℕ) → guards_hold t gs ≡ all_kept secs
    → if_open o (cond (all_kept secs) (x ∷ []) []) ++ (if_open o (targets (holding t ds)) ++ ns) ≡ if_open o (targets (holding t (declared x n gs ∷ ds))) ++ ns
one_open t true x n gs ds secs ns h = one_held t x n gs ds secs ns h
one_open t false x n gs ds secs ns h = refl

-- a name is in scope behind these items, if its block is not left
name_scoped : (t : List Bool) (secs : List Section) (p : Place) (x : ℕ) (w : List Item) (o : Bool) → is_open_behind 0 w ≡ o → kept_here t secs true (at p (signs.Name x) ∷ w) ≡ if_open o (cond (all_kept secs) (x ∷ []) []) ++ kept_here t secs false w
name_scoped t secs p x w o h =
    let more : List Item = scoped_from 0 true (declarations_from true false w) in
    ap (λ (b : Bool). standing t secs (if not b then more else at p (signs.Name x) ∷ more)) (open_declared true false w ∙ h)
    ∙ (elim o as (λ b. standing t secs (if not b then more else at p (signs.Name x) ∷ more) ≡ if_open b (cond (all_kept secs) (x ∷ []) []) ++ standing t secs more) [
      | true ↦ name_first t secs p x more
      | false ↦ refl
    ])

-- a declarator opens no block and leaves none
semicolon_on : (o : Option ℕ) (p : Place) (w : List Item) → inner_from o (at p signs.Semicolon ∷ w) ≡ inner_from o w
semicolon_on None p w = refl
semicolon_on (Some n) p w = refl

local_balanced : {ts : List Item} {c : Code} {kind : Qualifier} (p : Place) → LocalDeclarator kind ts c → IsBalanced ts
local_balanced {ts} p d n w =
    inner_more (Some n) ts w ∙ sym (semicolon_on (inner_from (Some n) ts) p w) ∙ sym (inner_more (Some n) ts (at p signs.Semicolon ∷ w))
    ∙ sym (ap (inner_from (Some n)) (append_assoc ts (at p signs.Semicolon ∷ []) w)) ∙ code_balanced (last_local p d) n w

local_first : {ts : List Item} {c : Code} {kind : Qualifier} (t : List Bool) (secs : List Section) (w : List Item) (o : Bool) → is_open_behind 0 w ≡ o → (d : LocalDeclarator kind ts c)
    → kept_here t secs true (ts ++ w) ≡ if_open o (cond (all_kept secs) (local_name d ∷ []) []) ++ kept_here t secs false w
local_first t secs w o h (uninitialised p x) = name_scoped t secs p x w o h
local_first t secs w o h (initialised p q x {kind} {ts} e) =
    name_scoped t secs p x (at q signs.Equals ∷ (ts ++ w)) o (ap (are_open 0) (local_balanced {kind = kind} p (initialised p q x e) 0 w) ∙ h)
    ∙ ap (λ (ns : List ℕ). if_open o (cond (all_kept secs) (x ∷ []) []) ++ ns) (calm_kept t secs (at q signs.Equals ∷ ts) w (expression_calm e))
local_first t secs w o h (from_call p q r s z x {kind} {f} g) =
    name_scoped t secs p x (at q signs.Equals ∷ at r f ∷ at s signs.Open ∷ at z signs.Close ∷ w) o (ap (are_open 0) (local_balanced {kind = kind} p (from_call p q r s z x g) 0 w) ∙ h)
    ∙ ap (λ (ns : List ℕ). if_open o (cond (all_kept secs) (x ∷ []) []) ++ ns)
    (calm_kept t secs (at q signs.Equals ∷ at r f ∷ at s signs.Open ∷ at z signs.Close ∷ []) w (function_calm r (at s signs.Open ∷ at z signs.Close ∷ []) g refl))

pub locals_first : {us : List Item} {c : Code} {kind : Qualifier} (t : List Bool) (gs : List Guard) (secs : List Section) → guards_hold t gs ≡ all_kept secs → (w : List Item) (o : Bool) → is_open_behind 0 w ≡ o → (v : Writes (Locals kind) us c)
    → kept_here t secs true (us ++ w) ≡ if_open o (targets (holding t (locals_in gs v))) ++ kept_here t secs false w
locals_first t gs secs h w o k (last_local p {ts} d) =
    ap (kept_here t secs true) (append_assoc ts (at p signs.Semicolon ∷ []) w) ∙ local_first t secs (at p signs.Semicolon ∷ w) o k d
    ∙ ap (λ (ns : List ℕ). if_open o (cond (all_kept secs) (local_name d ∷ []) []) ++ ns) (calm_kept t secs (at p signs.Semicolon ∷ []) w refl ∙ none_open o (kept_here t secs false w))
    ∙ one_open t o (local_name d) (pos 0) gs [] secs (kept_here t secs false w) h
locals_first t gs secs h w o k (next_local p {ts} {us} d v) =
    ap (kept_here t secs true) (append_assoc ts (at p signs.Comma ∷ us) w) ∙ local_first t secs (at p signs.Comma ∷ (us ++ w)) o (ap (are_open 0) (code_balanced v 0 w) ∙ k) d
    ∙ ap (λ (ns : List ℕ). if_open o (cond (all_kept secs) (local_name d ∷ []) []) ++ ns) (silent_first t secs (at p signs.Comma) (scoped_from 0 true (declarations_from true true (us ++ w))) refl refl ∙ locals_first t gs secs h w o k v)
    ∙ one_open t o (local_name d) (pos 0) gs (locals_in gs v) secs (kept_here t secs false w) h

-- ---- static variables and constants

-- a type comes before them, so that they are not counted
pub typed_held : {us : List Item} {kind : Qualifier} → Qualified kind us → IsHeld kind
typed_held (unqualified y) = tt
typed_held (const_before p y) = tt
typed_held (const_behind p y) = tt

held_behind : (kind : Qualifier) (n : ℤ) → IsHeld kind → IsHeld (behind kind n)
held_behind Unqualified n h = tt
held_behind Constant n h = tt
held_behind (Counted last) n h = absurd h

-- they open no block and leave none
declarator_open : {ts : List Item} {x : ℕ} {n : ℤ} {kind : Qualifier} (w : List Item) → Declarator kind ts x n → is_open_behind 0 (ts ++ w) ≡ is_open_behind 0 w
declarator_open w (bare p x) = refl
declarator_open w (positive p q r x n) = refl
declarator_open w (negative p q r s x n) = refl
declarator_open w (counted p x last lt) = refl

ending_open : {us : List Item} {kind : Qualifier} (w : List Item) → IsHeld kind → Ending kind us → is_open_behind 0 (us ++ w) ≡ is_open_behind 0 w
ending_open w h (variables_end p) = refl
ending_open w h (constants_end p) = refl
ending_open w h (enumeration_end last p q) = absurd h
ending_open w h (comma_end last p q r) = absurd h

statics_open : {us : List Item} {ds : List Declared} {kind : Qualifier} {inner : List Guard} (w : List Item) → IsHeld kind → Declares (Vars kind inner) us ds → is_open_behind 0 (us ++ w) ≡ is_open_behind 0 w
statics_open w h (last_var inner {us} {vs} d o) = ap (is_open_behind 0) (append_assoc us vs w) ∙ declarator_open (vs ++ w) d ∙ ending_open w h o
statics_open w h (next_var p inner {us} {vs} {x} {n} {ds} {kind} d v) =
    ap (is_open_behind 0) (append_assoc us (at p signs.Comma ∷ vs) w) ∙ declarator_open (at p signs.Comma ∷ (vs ++ w)) d ∙ statics_open w (held_behind kind n h) v

static_first : {ts : List Item} {x : ℕ} {n : ℤ} {kind : Qualifier} (t : List Bool) (secs : List Section) (w : List Item) (o : Bool) → is_open_behind 0 w ≡ o → Declarator kind ts x n
    → kept_here t secs true (ts ++ w) ≡ if_open o (cond (all_kept secs) (x ∷ []) []) ++ kept_here t secs false w
static_first t secs w o h (bare p x) = name_scoped t secs p x w o h
static_first t secs w o h (counted p x last lt) = name_scoped t secs p x w o h
static_first t secs w o h (positive p q r x n) =
    name_scoped t secs p x (at q signs.Equals ∷ at r (signs.Number n) ∷ w) o h
    ∙ ap (λ (ns : List ℕ). if_open o (cond (all_kept secs) (x ∷ []) []) ++ ns) (calm_kept t secs (at q signs.Equals ∷ at r (signs.Number n) ∷ []) w refl)
static_first t secs w o h (negative p q r s x n) =
    name_scoped t secs p x (at q signs.Equals ∷ at r (signs.Oper Sub) ∷ at s (signs.Number n) ∷ w) o h
    ∙ ap (λ (ns : List ℕ). if_open o (cond (all_kept secs) (x ∷ []) []) ++ ns) (calm_kept t secs (at q signs.Equals ∷ at r (signs.Oper Sub) ∷ at s (signs.Number n) ∷ []) w refl)

ending_kept : {us : List Item} {kind : Qualifier} (t : List Bool) (secs : List Section) (w : List Item) → IsHeld kind → Ending kind us → kept_here t secs false (us ++ w) ≡ kept_here t secs false w
ending_kept t secs w h (variables_end p) = calm_kept t secs (at p signs.Semicolon ∷ []) w refl
ending_kept t secs w h (constants_end p) = calm_kept t secs (at p signs.Semicolon ∷ []) w refl
ending_kept t secs w h (enumeration_end last p q) = absurd h
ending_kept t secs w h (comma_end last p q r) = absurd h

pub statics_first : {us : List Item} {ds : List Declared} {kind : Qualifier} {inner : List Guard} (t : List Bool) (gs : List Guard) (secs : List Section) → guards_hold t gs ≡ all_kept secs → (w : List Item) (o : Bool) → is_open_behind 0 w ≡ o → IsHeld kind
    → Declares (Vars kind inner) us ds → kept_here t secs true (us ++ w) ≡ if_open o (targets (holding t (guarded_by gs ds))) ++ kept_here t secs false w
statics_first t gs secs h w o k held (last_var inner {us} {vs} {x} {n} d e) =
    ap (kept_here t secs true) (append_assoc us vs w) ∙ static_first t secs (vs ++ w) o (ending_open w held e ∙ k) d
    ∙ ap (λ (ns : List ℕ). if_open o (cond (all_kept secs) (x ∷ []) []) ++ ns) (ending_kept t secs w held e ∙ none_open o (kept_here t secs false w))
    ∙ one_open t o x n gs [] secs (kept_here t secs false w) h
statics_first t gs secs h w o k held (next_var p inner {us} {vs} {x} {n} {ds} {kind} d v) =
    let later : IsHeld (behind kind n) = held_behind kind n held in
    ap (kept_here t secs true) (append_assoc us (at p signs.Comma ∷ vs) w) ∙ static_first t secs (at p signs.Comma ∷ (vs ++ w)) o (statics_open w later v ∙ k) d
    ∙ ap (λ (ns : List ℕ). if_open o (cond (all_kept secs) (x ∷ []) []) ++ ns) (silent_first t secs (at p signs.Comma) (scoped_from 0 true (declarations_from true true (vs ++ w))) refl refl ∙ statics_first t gs secs h w o k later v)
    ∙ one_open t o x n gs (guarded_by gs ds) secs (kept_here t secs false w) h

-- ---- pieces

abbrev PieceHolds : List Bool → Bool → List Guard → List Item → List Declared → Type 0
PieceHolds t false gs ts ds = (secs : List Section) → guards_hold t gs ≡ all_kept secs → (w : List Item) (o : Bool) → is_open_behind 0 w ≡ o → kept_here t secs false (ts ++ w) ≡ if_open o (targets (holding t ds)) ++ kept_here t secs false w
PieceHolds t true gs ts ds = (sec : Section) (secs : List Section) → guards_hold t gs ≡ seeks sec secs → (w : List Item) (o : Bool) → is_open_behind 0 w ≡ o → kept_here t (sec ∷ secs) false (ts ++ w) ≡ if_open o (targets (holding t ds)) ++ kept_here t secs false w

pub piece_holds : {later : Bool} {gs : List Guard} {ts : List Item} {ds cs : List Declared} (t : List Bool) → Piece later gs ts ds cs → PieceHolds t later gs ts ds
piece_holds t (calm gs ts c) = λ secs h w o k. calm_kept t secs ts w c ∙ none_open o (kept_here t secs false w)
piece_holds t (enclosed gs p q {ts} s) = λ secs h w o k.
    calm_kept t secs (at p signs.LeftBrace ∷ []) ((ts ++ at q signs.RightBrace ∷ []) ++ w) refl
    ∙ ap (kept_here t secs false) (append_assoc ts (at q signs.RightBrace ∷ []) w) ∙ piece_holds t s secs h (at q signs.RightBrace ∷ w) false refl
    ∙ calm_kept t secs (at q signs.RightBrace ∷ []) w refl ∙ none_open o (kept_here t secs false w)
piece_holds t (both gs {ts} {us} {ds} {es} a u b) = λ secs h w o k.
    ap (kept_here t secs false) (append_assoc ts us w) ∙ piece_holds t a secs h (us ++ w) o (ap (are_open 0) (u 0 w) ∙ k)
    ∙ ap (λ (ns : List ℕ). if_open o (targets (holding t ds)) ++ ns) (piece_holds t b secs h w o k) ∙ both_open t o ds es (kept_here t secs false w)
piece_holds t (declarators gs {ts} {us} {vs} {c} {kind} {es} q v x s) = λ secs h w o k.
    let re : (ts ++ (us ++ vs)) ++ w ≡ ts ++ (us ++ (vs ++ w)) = simp append_assoc in
    ap (kept_here t secs false) re ∙ qualified_kept t secs (us ++ (vs ++ w)) q ∙ locals_first t gs secs h (vs ++ w) o (ap (are_open 0) (x 0 w) ∙ k) v
    ∙ ap (λ (ns : List ℕ). if_open o (targets (holding t (locals_in gs v))) ++ ns) (piece_holds t s secs h w o k) ∙ both_open t o (locals_in gs v) es (kept_here t secs false w)
piece_holds t (statics gs {ts} {us} {vs} {ds} {es} q v x s) = λ secs h w o k.
    let re : (ts ++ (us ++ vs)) ++ w ≡ ts ++ (us ++ (vs ++ w)) = simp append_assoc in
    ap (kept_here t secs false) re ∙ qualified_kept t secs (us ++ (vs ++ w)) q ∙ statics_first t gs secs h (vs ++ w) o (ap (are_open 0) (x 0 w) ∙ k) (typed_held q) v
    ∙ ap (λ (ns : List ℕ). if_open o (targets (holding t (guarded_by gs ds))) ++ ns) (piece_holds t s secs h w o k) ∙ both_open t o (guarded_by gs ds) es (kept_here t secs false w)
piece_holds t (groups gs p n {ts} {us} {vs} {ds} {es} {fs} a u b v l) = λ secs h w o k.
    let inner = next_group Seeking (truth t n) in
    let re : (ts ++ (us ++ vs)) ++ w ≡ ts ++ (us ++ (vs ++ w)) = simp append_assoc in
    let open_in : is_open_behind 0 (vs ++ w) ≡ o = ap (are_open 0) (v 0 w) ∙ k in
    ap (kept_here t (inner ∷ secs) false) re
    ∙ piece_holds t a (inner ∷ secs) (in_true t gs n Seeking secs h) (us ++ (vs ++ w)) o (ap (are_open 0) (u 0 (vs ++ w)) ∙ open_in)
    ∙ ap (λ (ns : List ℕ). if_open o (targets (holding t ds)) ++ ns) (piece_holds t b inner secs (in_false t gs n Seeking secs h) (vs ++ w) o open_in
    ∙ ap (λ (ns : List ℕ). if_open o (targets (holding t es)) ++ ns) (piece_holds t l secs h w o k) ∙ both_open t o es fs (kept_here t secs false w))
    ∙ both_open t o ds (es ++ fs) (kept_here t secs false w)
piece_holds t (end_group gs p) = λ sec secs h w o k. none_open o (kept_here t secs false w)
piece_holds t (else_group gs p q {ts} s) = λ sec secs h w o k.
    ap (kept_here t (next_group sec true ∷ secs) false) (append_assoc ts (at q signs.GroupEnd ∷ []) w)
    ∙ piece_holds t s (next_group sec true ∷ secs) (h ∙ else_matches sec secs) (at q signs.GroupEnd ∷ w) o k
piece_holds t (elif_group gs p n {ts} {us} {ds} {es} a u b) = λ sec secs h w o k.
    let inner = next_group sec (truth t n) in
    ap (kept_here t (inner ∷ secs) false) (append_assoc ts us w)
    ∙ piece_holds t a (inner ∷ secs) (in_true t gs n sec secs h) (us ++ w) o (ap (are_open 0) (u 0 w) ∙ k)
    ∙ ap (λ (ns : List ℕ). if_open o (targets (holding t ds)) ++ ns) (piece_holds t b inner secs (in_false t gs n sec secs h) w o k)
    ∙ both_open t o ds es (kept_here t secs false w)
