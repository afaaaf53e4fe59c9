-- The constants of pieces of `main` that are in scope behind them, where the conditions have truths, are the targets of those of their
-- declarators whose guards hold.
use Rattle.std.proofs.Common.{◌≡◌, ℕ, ℤ, Bool, true, false, List, [], ◌∷◌, ◌++◌, refl, sym, ap, ◌∙◌, append_assoc}
use Rattle.fam_outer.specs.declared.faults.Place.{Place}
use Rattle.cpp_groups.specs.declared.section.Section.{Section}
use Rattle.cpp_groups.specs.declared.section.Section.TheVariants.{Seeking}
use Rattle.cpp_groups.specs.Kept.{truth, next_group, all_kept}
use Rattle.c_tree.specs.declared.lists.Guard.{Guard}
use Rattle.c_tree.specs.declared.lists.Declared.{Declared}
use Rattle.c_tree.specs.declared.tree.Op.TheVariants.{Sub}
use Rattle.c_tree.specs.Tree.{Term, Code}
use Rattle.c_tree.specs.Project.{guards_hold}
use Rattle.c_grammar.specs.declared.constants.NameKind.TheVariants as kinds
use Rattle.c_grammar.specs.declared.items.Item.{Item}
use Rattle.c_grammar.specs.declared.items.Sign.{Sign}
use Rattle.c_grammar.specs.declared.items.Sign.TheVariants as signs
use Rattle.c_grammar.specs.Constants.{constants_from}
use Rattle.c_grammar.specs.Grammar.{at, Prefix, Positive, Negative, Inverse, prefix_sign, Expresses, number, name, group, prefix, loose, binary, Callable, of_input, of_function, Qualifier, Unqualified, Constant, Counted, LocalDeclarator, uninitialised, initialised, from_call, Writes, Locals, last_local, next_local, Declarator, bare, positive, negative, variables_end, Vars, Declares, last_var, next_var}
use Rattle.c_grammar.specs.Ahead.{IsHeld}
use Rattle.c_grammar.specs.Groups.{guarded_by}
use Rattle.c_grammar.specs.Locals.{declarations_from}
use Rattle.c_grammar.specs.LocalsOf.{locals_in, of_kind}
use Rattle.c_grammar.specs.Scopes.{are_open, is_open_behind, scoped_from}
use Rattle.c_grammar.proofs.Guards.{seeks, else_matches, in_true, in_false}
use Rattle.c_parser.specs.Names.{targets}
use Rattle.c_parser.proofs.Stretches.{is_calm, are_calm, calm_parts, expression_calm, function_calm}
use Rattle.reading_laws.specs.Declaring.{holding}
use Rattle.reading_laws.proofs.InnerNames.{kept_here, if_open, none_open, both_open, qualified_kept, locals_first, typed_held, statics_first}
use Rattle.reading_laws.proofs.OuterConstants.{kind_of, qualified_all, constants_all}
use Rattle.reading_laws.proofs.OuterNames.{silent_first}
use Rattle.reading_laws.proofs.Pieces.{Piece, calm, enclosed, both, declarators, statics, groups, end_group, else_group, elif_group}
use Rattle.reading_laws.proofs.Scoping.{open_constants}

-- the constants of `main` from here on that are in scope behind them, behind a sign that a declarator stands behind or not
abbrev pub constants_here : List Bool → List Section → Bool → List Item → List ℕ
constants_here t secs declaring w = kept_here t secs declaring (constants_from kinds.Variable w)

-- ---- items that declare nothing

calm_first : (t : List Bool) (secs : List Section) (s : Sign) (p : Place) (w : List Item) → is_calm s ≡ true → constants_here t secs false (at p s ∷ w) ≡ constants_here t secs false w
calm_first t secs (signs.Name x) p w h = refl
calm_first t secs signs.Int p w h = absurd cc
calm_first t secs signs.Int32 p w h = absurd cc
calm_first t secs signs.Signed p w h = absurd cc
calm_first t secs signs.Const p w h = absurd cc
calm_first t secs signs.Comma p w h = absurd cc
calm_first t secs signs.Enum p w h = absurd cc
calm_first t secs signs.Define p w h = absurd cc
calm_first t secs (signs.GroupIf n) p w h = absurd cc
calm_first t secs (signs.GroupElif n) p w h = absurd cc
calm_first t secs signs.GroupElse p w h = absurd cc
calm_first t secs signs.GroupEnd p w h = absurd cc
calm_first t secs s p w h = silent_first t secs (at p s) (scoped_from 0 true (declarations_from true false (constants_from kinds.Variable w))) refl refl

calm_kept : (t : List Bool) (secs : List Section) (ts w : List Item) → are_calm ts ≡ true → constants_here t secs false (ts ++ w) ≡ constants_here t secs false w
calm_kept t secs [] w h = refl
calm_kept t secs (x ∷ xs) w h =
    let parts : (is_calm x.sign ≡ true) × (are_calm xs ≡ true) = calm_parts (is_calm x.sign) (are_calm xs) h in
    calm_first t secs x.sign x.place (xs ++ w) parts.0 ∙ calm_kept t secs xs w parts.1

-- ---- declarations of variables

comma_first : (t : List Bool) (secs : List Section) (declaring : Bool) (p : Place) (w : List Item) → constants_here t secs declaring (at p signs.Comma ∷ w) ≡ constants_here t secs true w
comma_first t secs true p w = silent_first t secs (at p signs.Comma) (scoped_from 0 true (declarations_from true true (constants_from kinds.Variable w))) refl refl
comma_first t secs false p w = silent_first t secs (at p signs.Comma) (scoped_from 0 true (declarations_from true true (constants_from kinds.Variable w))) refl refl

semicolon_first : (t : List Bool) (secs : List Section) (declaring : Bool) (p : Place) (w : List Item) → constants_here t secs declaring (at p signs.Semicolon ∷ w) ≡ constants_here t secs false w
semicolon_first t secs true p w = silent_first t secs (at p signs.Semicolon) (scoped_from 0 true (declarations_from true false (constants_from kinds.Variable w))) refl refl
semicolon_first t secs false p w = silent_first t secs (at p signs.Semicolon) (scoped_from 0 true (declarations_from true false (constants_from kinds.Variable w))) refl refl

equals_first : (t : List Bool) (secs : List Section) (p : Place) (w : List Item) → constants_here t secs true (at p signs.Equals ∷ w) ≡ constants_here t secs false w
equals_first t secs p w = silent_first t secs (at p signs.Equals) (scoped_from 0 true (declarations_from true false (constants_from kinds.Variable w))) refl refl

-- the name of a variable is left out, behind a sign that it stands behind
variable_left : {ts : List Item} {c : Code} (t : List Bool) (secs : List Section) → LocalDeclarator Unqualified ts c → (declaring : Bool) × ((w : List Item) → constants_here t secs true (ts ++ w) ≡ constants_here t secs declaring w)
variable_left t secs (uninitialised p x) = (true, λ w. refl)
variable_left t secs (initialised p q x {kind} {ts} e) = (false, λ w. equals_first t secs q (ts ++ w) ∙ calm_kept t secs ts w (expression_calm e))
variable_left t secs (from_call p q r s z x {kind} {f} g) = (
  false,
  λ w. equals_first t secs q (at r f ∷ at s signs.Open ∷ at z signs.Close ∷ w) ∙ calm_kept t secs (at r f ∷ at s signs.Open ∷ at z signs.Close ∷ []) w (function_calm r (at s signs.Open ∷ at z signs.Close ∷ []) g refl),
)

variables_left : {us : List Item} {c : Code} (t : List Bool) (secs : List Section) (w : List Item) → Writes (Locals Unqualified) us c → constants_here t secs true (us ++ w) ≡ constants_here t secs false w
variables_left t secs w (last_local p {ts} d) =
    let one = variable_left t secs d in
    ap (constants_here t secs true) (append_assoc ts (at p signs.Semicolon ∷ []) w) ∙ one.1 (at p signs.Semicolon ∷ w) ∙ semicolon_first t secs one.0 p w
variables_left t secs w (next_local p {ts} {us} d v) =
    let one = variable_left t secs d in
    ap (constants_here t secs true) (append_assoc ts (at p signs.Comma ∷ us) w) ∙ one.1 (at p signs.Comma ∷ (us ++ w)) ∙ comma_first t secs one.0 p (us ++ w) ∙ variables_left t secs w v

-- so is that of a static one
static_left : {ts : List Item} {x : ℕ} {n : ℤ} (t : List Bool) (secs : List Section) → Declarator Unqualified ts x n → (declaring : Bool) × ((w : List Item) → constants_here t secs true (ts ++ w) ≡ constants_here t secs declaring w)
static_left t secs (bare p x) = (true, λ w. refl)
static_left t secs (positive p q r x n) = (false, λ w. equals_first t secs q (at r (signs.Number n) ∷ w) ∙ calm_kept t secs (at r (signs.Number n) ∷ []) w refl)
static_left t secs (negative p q r s x n) = (
  false,
  λ w. equals_first t secs q (at r (signs.Oper Sub) ∷ at s (signs.Number n) ∷ w) ∙ calm_kept t secs (at r (signs.Oper Sub) ∷ at s (signs.Number n) ∷ []) w refl,
)

statics_left : {us : List Item} {ds : List Declared} {inner : List Guard} (t : List Bool) (secs : List Section) (w : List Item) → Declares (Vars Unqualified inner) us ds → constants_here t secs true (us ++ w) ≡ constants_here t secs false w
statics_left t secs w (last_var inner {us} d (variables_end p)) =
    let one = static_left t secs d in
    ap (constants_here t secs true) (append_assoc us (at p signs.Semicolon ∷ []) w) ∙ one.1 (at p signs.Semicolon ∷ w) ∙ semicolon_first t secs one.0 p w
statics_left t secs w (next_var p inner {us} {vs} d v) =
    let one = static_left t secs d in
    ap (constants_here t secs true) (append_assoc us (at p signs.Comma ∷ vs) w) ∙ one.1 (at p signs.Comma ∷ (vs ++ w)) ∙ comma_first t secs one.0 p (vs ++ w) ∙ statics_left t secs w v

-- ---- declarations of constants: no item is left out

prefix_stays : (u : Prefix) (p : Place) (w ws : List Item) → constants_from kinds.Constant w ≡ ws → constants_from kinds.Constant (at p (prefix_sign u) ∷ w) ≡ at p (prefix_sign u) ∷ ws
prefix_stays Positive p w ws e = ap (λ (xs : List Item). at p (prefix_sign Positive) ∷ xs) e
prefix_stays Negative p w ws e = ap (λ (xs : List Item). at p (prefix_sign Negative) ∷ xs) e
prefix_stays Inverse p w ws e = ap (λ (xs : List Item). at p (prefix_sign Inverse) ∷ xs) e

expression_stays : {k : ℕ} {ts : List Item} {e : Term} (w : List Item) → Expresses k ts e → constants_from kinds.Constant (ts ++ w) ≡ ts ++ constants_from kinds.Constant w
expression_stays w (number p n) = refl
expression_stays w (name p x) = refl
expression_stays w (group p q {ts} s) =
    ap (λ (xs : List Item). at p signs.Open ∷ xs)
    (ap (constants_from kinds.Constant) (append_assoc ts (at q signs.Close ∷ []) w) ∙ expression_stays (at q signs.Close ∷ w) s ∙ sym (append_assoc ts (at q signs.Close ∷ []) (constants_from kinds.Constant w)))
expression_stays w (prefix p u {ts} s) = prefix_stays u p (ts ++ w) (ts ++ constants_from kinds.Constant w) (expression_stays w s)
expression_stays w (loose s) = expression_stays w s
expression_stays w (binary p op {ts} {us} s t) =
    ap (constants_from kinds.Constant) (append_assoc ts (at p (signs.Oper op) ∷ us) w) ∙ expression_stays (at p (signs.Oper op) ∷ (us ++ w)) s
    ∙ ap (λ (xs : List Item). ts ++ at p (signs.Oper op) ∷ xs) (expression_stays w t) ∙ sym (append_assoc ts (at p (signs.Oper op) ∷ us) (constants_from kinds.Constant w))

call_stays : {f : Sign} (r s z : Place) (w : List Item) → Callable f
    → constants_from kinds.Constant (at r f ∷ at s signs.Open ∷ at z signs.Close ∷ w) ≡ at r f ∷ at s signs.Open ∷ at z signs.Close ∷ constants_from kinds.Constant w
call_stays r s z w of_input = refl
call_stays r s z w (of_function k) = refl

local_stays : {ts : List Item} {c : Code} {kind : Qualifier} (w : List Item) → LocalDeclarator kind ts c → constants_from kinds.Constant (ts ++ w) ≡ ts ++ constants_from kinds.Constant w
local_stays w (uninitialised p x) = refl
local_stays w (initialised p q x e) = ap (λ (xs : List Item). at p (signs.Name x) ∷ at q signs.Equals ∷ xs) (expression_stays w e)
local_stays w (from_call p q r s z x g) = ap (λ (xs : List Item). at p (signs.Name x) ∷ at q signs.Equals ∷ xs) (call_stays r s z w g)

locals_stay : {us : List Item} {c : Code} {kind : Qualifier} (w : List Item) → Writes (Locals kind) us c → constants_from kinds.Constant (us ++ w) ≡ us ++ constants_from kinds.Variable w
locals_stay w (last_local p {ts} d) =
    ap (constants_from kinds.Constant) (append_assoc ts (at p signs.Semicolon ∷ []) w) ∙ local_stays (at p signs.Semicolon ∷ w) d ∙ sym (append_assoc ts (at p signs.Semicolon ∷ []) (constants_from kinds.Variable w))
locals_stay w (next_local p {ts} {us} d v) =
    ap (constants_from kinds.Constant) (append_assoc ts (at p signs.Comma ∷ us) w) ∙ local_stays (at p signs.Comma ∷ (us ++ w)) d
    ∙ ap (λ (xs : List Item). ts ++ at p signs.Comma ∷ xs) (locals_stay w v) ∙ sym (append_assoc ts (at p signs.Comma ∷ us) (constants_from kinds.Variable w))

-- ---- pieces

locals_hold : {us : List Item} {c : Code} (t : List Bool) (kind : Qualifier) (gs : List Guard) (secs : List Section) → guards_hold t gs ≡ all_kept secs → (w : List Item) (o : Bool) → is_open_behind 0 w ≡ o → (v : Writes (Locals kind) us c)
    → kept_here t secs true (constants_from (kind_of kind) (us ++ w)) ≡ if_open o (targets (holding t (of_kind kind (locals_in gs v)))) ++ constants_here t secs false w
locals_hold t Unqualified gs secs h w o k v = variables_left t secs w v ∙ none_open o (constants_here t secs false w)
locals_hold t Constant gs secs h w o k v = ap (kept_here t secs true) (locals_stay w v) ∙ locals_first t gs secs h (constants_from kinds.Variable w) o (open_constants kinds.Variable w ∙ k) v
locals_hold t (Counted last) gs secs h w o k v = ap (kept_here t secs true) (locals_stay w v) ∙ locals_first t gs secs h (constants_from kinds.Variable w) o (open_constants kinds.Variable w ∙ k) v

statics_hold : {us : List Item} {ds : List Declared} {inner : List Guard} (t : List Bool) (kind : Qualifier) (gs : List Guard) (secs : List Section) → guards_hold t gs ≡ all_kept secs → (w : List Item) (o : Bool) → is_open_behind 0 w ≡ o → IsHeld kind
    → Declares (Vars kind inner) us ds → kept_here t secs true (constants_from (kind_of kind) (us ++ w)) ≡ if_open o (targets (holding t (of_kind kind (guarded_by gs ds)))) ++ constants_here t secs false w
statics_hold t Unqualified gs secs h w o k held v = statics_left t secs w v ∙ none_open o (constants_here t secs false w)
statics_hold t Constant gs secs h w o k held v = ap (kept_here t secs true) (constants_all w v) ∙ statics_first t gs secs h (constants_from kinds.Variable w) o (open_constants kinds.Variable w ∙ k) held v
statics_hold t (Counted last) gs secs h w o k held v = absurd held

abbrev PieceHolds : List Bool → Bool → List Guard → List Item → List Declared → Type 0
PieceHolds t false gs ts cs = (secs : List Section) → guards_hold t gs ≡ all_kept secs → (w : List Item) (o : Bool) → is_open_behind 0 w ≡ o → constants_here t secs false (ts ++ w) ≡ if_open o (targets (holding t cs)) ++ constants_here t secs false w
PieceHolds t true gs ts cs = (sec : Section) (secs : List Section) → guards_hold t gs ≡ seeks sec secs → (w : List Item) (o : Bool) → is_open_behind 0 w ≡ o → constants_here t (sec ∷ secs) false (ts ++ w) ≡ if_open o (targets (holding t cs)) ++ constants_here t secs false w

pub constants_of_piece : {later : Bool} {gs : List Guard} {ts : List Item} {ds cs : List Declared} (t : List Bool) → Piece later gs ts ds cs → PieceHolds t later gs ts cs
constants_of_piece t (calm gs ts c) = λ secs h w o k. calm_kept t secs ts w c ∙ none_open o (constants_here t secs false w)
constants_of_piece t (enclosed gs p q {ts} s) = λ secs h w o k.
    calm_kept t secs (at p signs.LeftBrace ∷ []) ((ts ++ at q signs.RightBrace ∷ []) ++ w) refl
    ∙ ap (constants_here t secs false) (append_assoc ts (at q signs.RightBrace ∷ []) w) ∙ constants_of_piece t s secs h (at q signs.RightBrace ∷ w) false refl
    ∙ calm_kept t secs (at q signs.RightBrace ∷ []) w refl ∙ none_open o (constants_here t secs false w)
constants_of_piece t (both gs {ts} {us} {ds} {es} {cs} {bs} a u b) = λ secs h w o k.
    ap (constants_here t secs false) (append_assoc ts us w) ∙ constants_of_piece t a secs h (us ++ w) o (ap (are_open 0) (u 0 w) ∙ k)
    ∙ ap (λ (ns : List ℕ). if_open o (targets (holding t cs)) ++ ns) (constants_of_piece t b secs h w o k) ∙ both_open t o cs bs (constants_here t secs false w)
constants_of_piece t (declarators gs {ts} {us} {vs} {c} {kind} {es} {bs} q v x s) = λ secs h w o k.
    let re : (ts ++ (us ++ vs)) ++ w ≡ ts ++ (us ++ (vs ++ w)) = simp append_assoc in
    ap (constants_here t secs false) re ∙ ap (kept_here t secs false) (qualified_all (us ++ (vs ++ w)) q)
    ∙ qualified_kept t secs (constants_from (kind_of kind) (us ++ (vs ++ w))) q ∙ locals_hold t kind gs secs h (vs ++ w) o (ap (are_open 0) (x 0 w) ∙ k) v
    ∙ ap (λ (ns : List ℕ). if_open o (targets (holding t (of_kind kind (locals_in gs v)))) ++ ns) (constants_of_piece t s secs h w o k)
    ∙ both_open t o (of_kind kind (locals_in gs v)) bs (constants_here t secs false w)
constants_of_piece t (statics gs {ts} {us} {vs} {ds} {es} {bs} {kind} q v x s) = λ secs h w o k.
    let re : (ts ++ (us ++ vs)) ++ w ≡ ts ++ (us ++ (vs ++ w)) = simp append_assoc in
    ap (constants_here t secs false) re ∙ ap (kept_here t secs false) (qualified_all (us ++ (vs ++ w)) q)
    ∙ qualified_kept t secs (constants_from (kind_of kind) (us ++ (vs ++ w))) q ∙ statics_hold t kind gs secs h (vs ++ w) o (ap (are_open 0) (x 0 w) ∙ k) (typed_held q) v
    ∙ ap (λ (ns : List ℕ). if_open o (targets (holding t (of_kind kind (guarded_by gs ds)))) ++ ns) (constants_of_piece t s secs h w o k)
    ∙ both_open t o (of_kind kind (guarded_by gs ds)) bs (constants_here t secs false w)
constants_of_piece t (groups gs p n {ts} {us} {vs} {ds} {es} {fs} {cs} {bs} {ys} a u b v l) = λ secs h w o k.
    let inner = next_group Seeking (truth t n) in
    let re : (ts ++ (us ++ vs)) ++ w ≡ ts ++ (us ++ (vs ++ w)) = simp append_assoc in
    let open_in : is_open_behind 0 (vs ++ w) ≡ o = ap (are_open 0) (v 0 w) ∙ k in
    ap (constants_here t (inner ∷ secs) false) re
    ∙ constants_of_piece t a (inner ∷ secs) (in_true t gs n Seeking secs h) (us ++ (vs ++ w)) o (ap (are_open 0) (u 0 (vs ++ w)) ∙ open_in)
    ∙ ap (λ (ns : List ℕ). if_open o (targets (holding t cs)) ++ ns) (constants_of_piece t b inner secs (in_false t gs n Seeking secs h) (vs ++ w) o open_in
    ∙ ap (λ (ns : List ℕ). if_open o (targets (holding t bs)) ++ ns) (constants_of_piece t l secs h w o k) ∙ both_open t o bs ys (constants_here t secs false w))
    ∙ both_open t o cs (bs ++ ys) (constants_here t secs false w)
constants_of_piece t (end_group gs p) = λ sec secs h w o k. none_open o (constants_here t secs false w)
constants_of_piece t (else_group gs p q {ts} s) = λ sec secs h w o k.
    ap (constants_here t (next_group sec true ∷ secs) false) (append_assoc ts (at q signs.GroupEnd ∷ []) w)
    ∙ constants_of_piece t s (next_group sec true ∷ secs) (h ∙ else_matches sec secs) (at q signs.GroupEnd ∷ w) o k
constants_of_piece t (elif_group gs p n {ts} {us} {ds} {es} {cs} {bs} a u b) = λ sec secs h w o k.
    let inner = next_group sec (truth t n) in
    ap (constants_here t (inner ∷ secs) false) (append_assoc ts us w)
    ∙ constants_of_piece t a (inner ∷ secs) (in_true t gs n sec secs h) (us ++ w) o (ap (are_open 0) (u 0 w) ∙ k)
    ∙ ap (λ (ns : List ℕ). if_open o (targets (holding t cs)) ++ ns) (constants_of_piece t b inner secs (in_false t gs n sec secs h) w o k)
    ∙ both_open t o cs bs (constants_here t secs false w)
