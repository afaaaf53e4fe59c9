-- The static declarators that are found item by item are those that the grammar declares.
use Rattle.std.proofs.Common.{◌≡◌, ℕ, pos, Bool, true, false, List, [], ◌∷◌, ◌++◌, refl, sym, ap, ◌∙◌, append_assoc}
use Rattle.std.specs.Prelude.{neg_ℤ, if◌then◌else◌}
use Rattle.std.proofs.lemmas.List.{append-nil}
use Rattle.fam_outer.specs.declared.faults.Place.{Place}
use Rattle.c_tree.specs.declared.lists.Guard.{Guard}
use Rattle.c_tree.specs.declared.lists.Declared.{Declared}
use Rattle.c_tree.specs.Tree.{Code}
use Rattle.c_grammar.specs.declared.items.Item.{Item}
use Rattle.c_grammar.specs.declared.items.Sign.{Sign}
use Rattle.c_grammar.specs.declared.items.Sign.TheVariants as signs
use Rattle.c_grammar.specs.Ahead.{IsHeld}
use Rattle.c_grammar.specs.Groups.{guarded_by, Sections, Outermost, InPart, InLast, guards_of, in_next_part, in_last_part, left_group, groups_behind}
use Rattle.c_grammar.specs.Items.{is_main, is_declaring}
use Rattle.c_grammar.specs.Statics.{behind_main, static_behind, statics_from, statics_by}
use Rattle.c_grammar.specs.LocalsOf.{statics_in, statics_of_body, statics_of_main, StaticsAreOfTheGrammar}
use Rattle.c_grammar.specs.Grammar.{at, bare, positive, negative, variables_end, constants_end, Typed, int, int32, signed, signed_int, int_signed, Qualifier, Unqualified, Constant, Counted, Qualified, unqualified, const_before, const_behind, with_true, with_false, declared, Vars, Declares, last_var, next_var, Shape, Listed, Stated, Chained, Locals, Writes, none, more, choice, local, static_local, last_local, next_local, ends, otherwise, elif, change, call, void_call, assert, skip, block, while, for, declaring_for, if_then, if_else, do_while, break, continue, return, Part, Begins, only_type, then_type, enumeration, nothing, variables, prototype, void_prototype, definition, section, end_part, else_part, elif_part, Gap, Gaps, Empty, no_more, empty_section, empty_end, empty_else, empty_elif, Body, body, Main, main, file}
use Rattle.c_grammar.proofs.CompleteDeclarations.{qualified_held}
use Rattle.c_grammar.proofs.Quiet.{is_quiet, AreQuiet, quiet_both, expr_quiet, function_quiet, change_quiet, clause_quiet, tests_quiet, optional_quiet, type_quiet, qualified_quiet, locals_quiet, declarator_quiet, ending_quiet, vars_quiet, extern_quiet, definition_quiet, redo_quiet, return_quiet}

-- ---- text with no static declaration

-- where none goes on, it does not matter what stands before
pub found_alike : (a b : Bool) (secs : Sections) (w : List Item) → statics_from false a secs w ≡ statics_from false b secs w
found_alike a b secs [] = refl
found_alike a b secs (x ∷ xs) = refl

not_static : (s : Sign) → is_quiet s ≡ true → static_behind false s ≡ false
not_static signs.Static h = absurd cc
not_static signs.Semicolon h = refl
not_static _ h = refl

same_groups : (s : Sign) (secs : Sections) → is_quiet s ≡ true → groups_behind secs s ≡ secs
same_groups (signs.GroupIf n) secs h = absurd cc
same_groups (signs.GroupElif n) secs h = absurd cc
same_groups signs.GroupElse secs h = absurd cc
same_groups signs.GroupEnd secs h = absurd cc
same_groups _ secs h = refl

-- in quiet text none is found
pub quiet_found : (ts : List Item) → AreQuiet ts → (secs : Sections) (declaring : Bool) (w : List Item) → statics_from false declaring secs (ts ++ w) ≡ statics_from false false secs w
quiet_found [] q secs declaring w = found_alike declaring false secs w
quiet_found (x ∷ xs) q secs declaring w =
    ap (λ (b : Bool). statics_from b (is_declaring x.sign) (groups_behind secs x.sign) (xs ++ w)) (not_static x.sign q.0)
    ∙ ap (λ (y : Sections). statics_from false (is_declaring x.sign) y (xs ++ w)) (same_groups x.sign secs q.0)
    ∙ quiet_found xs q.1 secs (is_declaring x.sign) w

-- ---- a static declaration

type_found : {ts : List Item} (declaring : Bool) → Typed ts → (secs : Sections) (w : List Item) → statics_from true declaring secs (ts ++ w) ≡ statics_from true true secs w
type_found true (int p) secs w = refl
type_found true (int32 p) secs w = refl
type_found true (signed p) secs w = refl
type_found true (signed_int p q) secs w = refl
type_found true (int_signed p q) secs w = refl
type_found false (int p) secs w = refl
type_found false (int32 p) secs w = refl
type_found false (signed p) secs w = refl
type_found false (signed_int p q) secs w = refl
type_found false (int_signed p q) secs w = refl

qualified_found : {kind : Qualifier} {ts : List Item} → Qualified kind ts → (secs : Sections) (w : List Item) → statics_from true false secs (ts ++ w) ≡ statics_from true true secs w
qualified_found (unqualified y) secs w = type_found false y secs w
qualified_found (const_before p y) secs w = type_found true y secs w
qualified_found (const_behind p {us} y) secs w = ap (statics_from true false secs) (append_assoc us (at p signs.Const ∷ []) w) ∙ type_found false y secs (at p signs.Const ∷ w)

vars_found : (kind : Qualifier) → IsHeld kind → {gs : List Guard} {us : List Item} {ds : List Declared} → Declares (Vars kind gs) us ds → (secs : Sections) (w : List Item) → statics_from true true secs (us ++ w) ≡ guarded_by (guards_of secs) ds ++ statics_from false false secs w
vars_found Unqualified is (last_var gs (bare p x) (variables_end z)) secs w = refl
vars_found Unqualified is (last_var gs (positive p q r x n) (variables_end z)) secs w = refl
vars_found Unqualified is (last_var gs (negative p q r s x n) (variables_end z)) secs w = refl
vars_found Unqualified is (next_var z gs (bare p x) v) secs w = ap (λ (ds : List Declared). declared x (pos 0) (guards_of secs) ∷ ds) (vars_found Unqualified is v secs w)
vars_found Unqualified is (next_var z gs (positive p q r x n) v) secs w = ap (λ (ds : List Declared). declared x n (guards_of secs) ∷ ds) (vars_found Unqualified is v secs w)
vars_found Unqualified is (next_var z gs (negative p q r s x n) v) secs w = ap (λ (ds : List Declared). declared x (neg_ℤ n) (guards_of secs) ∷ ds) (vars_found Unqualified is v secs w)
vars_found Constant is (last_var gs (positive p q r x n) (constants_end z)) secs w = refl
vars_found Constant is (last_var gs (negative p q r s x n) (constants_end z)) secs w = refl
vars_found Constant is (next_var z gs (positive p q r x n) v) secs w = ap (λ (ds : List Declared). declared x n (guards_of secs) ∷ ds) (vars_found Constant is v secs w)
vars_found Constant is (next_var z gs (negative p q r s x n) v) secs w = ap (λ (ds : List Declared). declared x (neg_ℤ n) (guards_of secs) ∷ ds) (vars_found Constant is v secs w)
vars_found (Counted last) is v secs w = absurd is

pub static_found : {kind : Qualifier} {gs : List Guard} {ts us : List Item} {ds : List Declared} (p : Place) → Qualified kind ts → Declares (Vars kind gs) us ds → (secs : Sections) (declaring : Bool) (w : List Item)
    → statics_from false declaring secs (at p signs.Static ∷ (ts ++ (us ++ w))) ≡ guarded_by (guards_of secs) ds ++ statics_from false false secs w
static_found {kind} {us = us} p q v secs declaring w = qualified_found q secs (us ++ w) ∙ vars_found kind (qualified_held q) v secs w

-- ---- statements

-- what is found in text, before what is found behind it; in what closes a group, whose part so far has other guards
abbrev Found : {s : Shape} {ts : List Item} {c : Code} → Writes s ts c → Type 0
Found {s = Listed i} {ts} d = (secs : Sections) (declaring : Bool) (w : List Item) → statics_from false declaring secs (ts ++ w) ≡ statics_in (guards_of secs) d ++ statics_from false false secs w
Found {s = Stated i b} {ts} d = (secs : Sections) (declaring : Bool) (w : List Item) → statics_from false declaring secs (ts ++ w) ≡ statics_in (guards_of secs) d ++ statics_from false false secs w
Found {s = Chained i} {ts} d = (gs : List Guard) (n : ℕ) (outer : Sections) (declaring : Bool) (w : List Item) → statics_from false declaring (InPart gs n outer) (ts ++ w) ≡ statics_in (with_false gs n) d ++ statics_from false false outer w
Found {s = Locals kind} d = Unit {0}

-- one text before another
both : (secs : Sections) (declaring : Bool) (ts us w : List Item) (ds es : List Declared) (rest : List Declared) → ((v : List Item) → statics_from false declaring secs (ts ++ v) ≡ ds ++ statics_from false false secs v) → statics_from false false secs (us ++ w) ≡ es ++ rest → statics_from false declaring secs ((ts ++ us) ++ w) ≡ (ds ++ es) ++ rest
both secs declaring ts us w ds es rest h i =
    ap (statics_from false declaring secs) (append_assoc ts us w) ∙ h (us ++ w) ∙ ap (λ (y : List Declared). ds ++ y) i ∙ sym (append_assoc ds es rest)

-- quiet text before another
behind_quiet : (secs : Sections) (declaring : Bool) (ts us w : List Item) (rest : List Declared) → AreQuiet ts → statics_from false false secs (us ++ w) ≡ rest → statics_from false declaring secs ((ts ++ us) ++ w) ≡ rest
behind_quiet secs declaring ts us w rest q i = ap (statics_from false declaring secs) (append_assoc ts us w) ∙ quiet_found ts q secs declaring (us ++ w) ∙ i

pub code_found : {s : Shape} {ts : List Item} {c : Code} → (d : Writes s ts c) → Found d
code_found none = λ secs declaring w. found_alike declaring false secs w
code_found (more {b} {ts} {us} s l) = λ secs declaring w. both secs declaring ts us w (statics_in (guards_of secs) s) (statics_in (guards_of secs) l) (statics_from false false secs w) (code_found s secs declaring) (code_found l secs false w)
code_found (choice p n {ts} {us} {vs} s t l) = λ secs declaring w.
    let inner : Sections = InPart (guards_of secs) n secs in
    let a : List Declared = statics_in (with_true (guards_of secs) n) s in
    let b : List Declared = statics_in (with_false (guards_of secs) n) t in
    let e : List Declared = statics_in (guards_of secs) l in
    let rest : List Declared = statics_from false false secs w in
    let is : (ts ++ (us ++ vs)) ++ w ≡ ts ++ (us ++ (vs ++ w)) = simp append_assoc in
    ap (statics_from false false inner) is
    ∙ code_found s inner false (us ++ (vs ++ w))
    ∙ ap (λ (y : List Declared). a ++ y) (code_found t (guards_of secs) n secs false (vs ++ w) ∙ ap (λ (y : List Declared). b ++ y) (code_found l secs false w) ∙ sym (append_assoc b e rest))
    ∙ sym (append_assoc a (b ++ e) rest)
code_found (local {ts} {us} {vs} q v l) = λ secs declaring w.
    behind_quiet secs declaring ts (us ++ vs) w (statics_in (guards_of secs) l ++ statics_from false false secs w) (qualified_quiet q)
    (behind_quiet secs false us vs w (statics_in (guards_of secs) l ++ statics_from false false secs w) (locals_quiet v) (code_found l secs false w))
code_found (static_local p {ts} {us} {vs} {ds} q v l) = λ secs declaring w.
    let is : (ts ++ (us ++ vs)) ++ w ≡ ts ++ (us ++ (vs ++ w)) = simp append_assoc in
    ap (λ (y : List Item). statics_from false declaring secs (at p signs.Static ∷ y)) is
    ∙ static_found p q v secs declaring (vs ++ w)
    ∙ ap (λ (y : List Declared). guarded_by (guards_of secs) ds ++ y) (code_found l secs false w)
    ∙ sym (append_assoc (guarded_by (guards_of secs) ds) (statics_in (guards_of secs) l) (statics_from false false secs w))
code_found (last_local p d) = tt
code_found (next_local p d v) = tt
code_found (ends p) = λ gs n outer declaring w. refl
code_found (otherwise p q {ts} s) = λ gs n outer declaring w.
    ap (statics_from false false (InLast (with_false gs n) outer)) (append_assoc ts (at q signs.GroupEnd ∷ []) w) ∙ code_found s (InLast (with_false gs n) outer) false (at q signs.GroupEnd ∷ w)
code_found (elif p m {ts} {us} s t) = λ gs n outer declaring w.
    let inner : Sections = InPart (with_false gs n) m outer in
    let a : List Declared = statics_in (with_true (with_false gs n) m) s in
    let b : List Declared = statics_in (with_false (with_false gs n) m) t in
    ap (statics_from false false inner) (append_assoc ts us w)
    ∙ code_found s inner false (us ++ w)
    ∙ ap (λ (y : List Declared). a ++ y) (code_found t (with_false gs n) m outer false w)
    ∙ sym (append_assoc a b (statics_from false false outer w))
code_found (change r {ts} s) = λ secs declaring w. quiet_found (ts ++ at r signs.Semicolon ∷ []) (quiet_both ts (at r signs.Semicolon ∷ []) (change_quiet s) (refl, tt)) secs declaring w
code_found (call p q r s {f} g) = λ secs declaring w. quiet_found (at p f ∷ at q signs.Open ∷ at r signs.Close ∷ at s signs.Semicolon ∷ []) (function_quiet g, (refl, (refl, (refl, tt)))) secs declaring w
code_found (void_call p q r s t u v {f} g) = λ secs declaring w.
    quiet_found (at p signs.Open ∷ at q signs.Void ∷ at r signs.Close ∷ at s f ∷ at t signs.Open ∷ at u signs.Close ∷ at v signs.Semicolon ∷ []) (refl, (refl, (refl, (function_quiet g, (refl, (refl, (refl, tt))))))) secs declaring w
code_found (assert p q r s {ts} e) = λ secs declaring w.
    quiet_found (at p signs.Assert ∷ at q signs.Open ∷ (ts ++ at r signs.Close ∷ at s signs.Semicolon ∷ [])) (refl, (refl, quiet_both ts (at r signs.Close ∷ at s signs.Semicolon ∷ []) (expr_quiet e) (refl, (refl, tt)))) secs declaring w
code_found (skip p) = λ secs declaring w. refl
code_found (block p q {ts} s) = λ secs declaring w. ap (statics_from false false secs) (append_assoc ts (at q signs.RightBrace ∷ []) w) ∙ code_found s secs false (at q signs.RightBrace ∷ w)
code_found (while p q r {b} {ts} {us} e s) = λ secs declaring w. behind_quiet secs false ts (at r signs.Close ∷ us) w (statics_in (guards_of secs) s ++ statics_from false false secs w) (expr_quiet e) (code_found s secs false w)
code_found (for p q r z {b} {ts} {us} {vs} {ws} a t d s) = λ secs declaring w.
    let rest : List Declared = statics_in (guards_of secs) s ++ statics_from false false secs w in
    behind_quiet secs false ts (at r signs.Semicolon ∷ (us ++ (vs ++ at z signs.Close ∷ ws))) w rest (clause_quiet a)
    (behind_quiet secs false us (vs ++ at z signs.Close ∷ ws) w rest (tests_quiet t) (behind_quiet secs false vs (at z signs.Close ∷ ws) w rest (clause_quiet d) (code_found s secs false w)))
code_found (declaring_for p q z {b} {ts} {ds} {us} {vs} {ws} g l t d s) = λ secs declaring w.
    let rest : List Declared = statics_in (guards_of secs) s ++ statics_from false false secs w in
    behind_quiet secs false ts (ds ++ (us ++ (vs ++ at z signs.Close ∷ ws))) w rest (qualified_quiet g)
    (behind_quiet secs false ds (us ++ (vs ++ at z signs.Close ∷ ws)) w rest (locals_quiet l)
    (behind_quiet secs false us (vs ++ at z signs.Close ∷ ws) w rest (tests_quiet t) (behind_quiet secs false vs (at z signs.Close ∷ ws) w rest (clause_quiet d) (code_found s secs false w))))
code_found (if_then p q r {b} {ts} {us} e s) = λ secs declaring w. behind_quiet secs false ts (at r signs.Close ∷ us) w (statics_in (guards_of secs) s ++ statics_from false false secs w) (expr_quiet e) (code_found s secs false w)
code_found (if_else p q r z {b} {ts} {us} {vs} e s t) = λ secs declaring w.
    let ds : List Declared = statics_in (guards_of secs) s in
    let es : List Declared = statics_in (guards_of secs) t in
    let rest : List Declared = statics_from false false secs w in
    behind_quiet secs false ts (at r signs.Close ∷ (us ++ at z signs.Else ∷ vs)) w ((ds ++ es) ++ rest) (expr_quiet e)
    (both secs false us (at z signs.Else ∷ vs) w ds es rest (code_found s secs false) (code_found t secs false w))
code_found (do_while p q r s t {b} {ts} {us} {x} l e) = λ secs declaring w.
    let tail : List Item = at q signs.While ∷ at r signs.Open ∷ x ∷ (us ++ at s signs.Close ∷ at t signs.Semicolon ∷ []) in
    ap (statics_from false false secs) (append_assoc ts tail w)
    ∙ code_found l secs false (tail ++ w)
    ∙ ap (λ (y : List Declared). statics_in (guards_of secs) l ++ y) (quiet_found tail (redo_quiet q r s t e) secs false w)
code_found (break p q) = λ secs declaring w. refl
code_found (continue p q) = λ secs declaring w. refl
code_found (return p q {ts} e) = λ secs declaring w. quiet_found (at p signs.Return ∷ (ts ++ at q signs.Semicolon ∷ [])) (return_quiet p q e) secs declaring w

-- ---- behind `main`

-- groups that hold no token
gap_found : {s : Gap} {ts : List Item} → Empty s ts → (secs : Sections) (declaring : Bool) (w : List Item) → ((outer : Sections) (behind : Bool) → statics_from false behind outer w ≡ []) → statics_from false declaring secs (ts ++ w) ≡ []
gap_found no_more secs declaring w h = h secs declaring
gap_found (empty_section p n {us} {vs} {ws} a b d) secs declaring w h =
    let inner : Sections = InPart (guards_of secs) n secs in
    let is : (us ++ (vs ++ ws)) ++ w ≡ us ++ (vs ++ (ws ++ w)) = simp append_assoc in
    ap (statics_from false false inner) is ∙ gap_found a inner false (vs ++ (ws ++ w)) (λ outer behind. gap_found b outer behind (ws ++ w) (λ around last. gap_found d around last w h))
gap_found (empty_end p) secs declaring w h = h (left_group secs) false
gap_found (empty_else p q {us} a) secs declaring w h =
    ap (statics_from false false (in_last_part secs)) (append_assoc us (at q signs.GroupEnd ∷ []) w) ∙ gap_found a (in_last_part secs) false (at q signs.GroupEnd ∷ w) (λ outer behind. h (left_group outer) false)
gap_found (empty_elif p n {us} {vs} a b) secs declaring w h =
    ap (statics_from false false (in_next_part n secs)) (append_assoc us vs w) ∙ gap_found a (in_next_part n secs) false (vs ++ w) (λ outer behind. gap_found b outer behind w h)

gap_alone : {ts : List Item} → Empty Gaps ts → statics_from false false Outermost ts ≡ []
gap_alone {ts} e = ap (statics_from false false Outermost) (sym (append-nil ts)) ∙ gap_found e Outermost false [] (λ outer behind. refl)

body_found : {ts : List Item} {c : Code} {p : Place} → (b : Body ts c p) → statics_from false false Outermost ts ≡ statics_of_body b
body_found (body p {us} {vs} s e) =
    code_found s Outermost false (at p signs.RightBrace ∷ vs) ∙ ap (λ (y : List Declared). statics_in [] s ++ y) (gap_alone e) ∙ append-nil (statics_in [] s)

-- ---- before `main`

not_main : (s : Sign) → is_quiet s ≡ true → is_main s ≡ false
not_main signs.Main h = absurd cc
not_main _ h = refl

-- `main` stands not in quiet text
pub quiet_main : (ts : List Item) → AreQuiet ts → (w : List Item) → behind_main (ts ++ w) ≡ behind_main w
quiet_main [] q w = refl
quiet_main (x ∷ xs) q w = ap (λ (b : Bool). if b then xs ++ w else behind_main (xs ++ w)) (not_main x.sign q.0) ∙ quiet_main xs q.1 w

-- quiet text before another
past : (ts us w : List Item) (rest : List Item) → AreQuiet ts → behind_main (us ++ w) ≡ rest → behind_main ((ts ++ us) ++ w) ≡ rest
past ts us w rest q i = ap behind_main (append_assoc ts us w) ∙ quiet_main ts q (us ++ w) ∙ i

begun_main : {us : List Item} {kind : Qualifier} → Begins signs.Static kind us → (w : List Item) → behind_main (us ++ w) ≡ behind_main w
begun_main (only_type s {us} y) w = quiet_main us (qualified_quiet y) w
begun_main (then_type p s {us} y) w = quiet_main us (qualified_quiet y) w
begun_main (enumeration p q s) w = refl

-- nor in declarations
pub declared_main : {part : Part} {ts : List Item} {ds : List Declared} → Declares part ts ds → (w : List Item) → behind_main (ts ++ w) ≡ behind_main w
declared_main (nothing gs) w = refl
declared_main (variables gs {us} {vs} {ws} o v d) w =
    let is : (us ++ (vs ++ ws)) ++ w ≡ us ++ (vs ++ (ws ++ w)) = simp append_assoc in
    ap behind_main is ∙ begun_main o (vs ++ (ws ++ w)) ∙ quiet_main vs (vars_quiet v) (ws ++ w) ∙ declared_main d w
declared_main (prototype q r s t gs {f} {us} {vs} {ws} o g v d) w =
    past us (at q f ∷ at r signs.Open ∷ (vs ++ at s signs.Close ∷ at t signs.Semicolon ∷ ws)) w (behind_main w) (extern_quiet o)
    (past (at q f ∷ at r signs.Open ∷ []) (vs ++ at s signs.Close ∷ at t signs.Semicolon ∷ ws) w (behind_main w) (function_quiet g, (refl, tt))
    (past vs (at s signs.Close ∷ at t signs.Semicolon ∷ ws) w (behind_main w) (optional_quiet refl v) (declared_main d w)))
declared_main (void_prototype p q r s t k gs {us} {vs} {ws} o v d) w =
    past us (at p signs.Void ∷ at q (signs.Function k) ∷ at r signs.Open ∷ (vs ++ at s signs.Close ∷ at t signs.Semicolon ∷ ws)) w (behind_main w) (optional_quiet refl o)
    (past vs (at s signs.Close ∷ at t signs.Semicolon ∷ ws) w (behind_main w) (optional_quiet refl v) (declared_main d w))
declared_main (definition gs {us} {ws} o d) w = past us ws w (behind_main w) (definition_quiet o) (declared_main d w)
declared_main (section p n gs {us} {vs} {ws} a b d) w =
    let is : (us ++ (vs ++ ws)) ++ w ≡ us ++ (vs ++ (ws ++ w)) = simp append_assoc in
    ap behind_main is ∙ declared_main a (vs ++ (ws ++ w)) ∙ declared_main b (ws ++ w) ∙ declared_main d w
declared_main (last_var gs {us} {vs} d o) w = past us vs w (behind_main w) (declarator_quiet d) (quiet_main vs (ending_quiet o) w)
declared_main (next_var p gs {us} {vs} d v) w = past us (at p signs.Comma ∷ vs) w (behind_main w) (declarator_quiet d) (declared_main v w)
declared_main (end_part p gs) w = refl
declared_main (else_part p q gs {us} d) w = ap behind_main (append_assoc us (at q signs.GroupEnd ∷ []) w) ∙ declared_main d (at q signs.GroupEnd ∷ w)
declared_main (elif_part p n gs {us} {vs} a b) w = ap behind_main (append_assoc us vs w) ∙ declared_main a (vs ++ w) ∙ declared_main b w

main_found : {ts : List Item} {c : Code} {p : Place} → (m : Main ts c p) → statics_by ts ≡ statics_of_main m
main_found (main q r s t u {ts} {us} {vs} y o b) =
    let rest : List Item = us ++ at s signs.Close ∷ at t signs.LeftBrace ∷ vs in
    ap (statics_from false false Outermost) (quiet_main ts (type_quiet y) (at q signs.Main ∷ at r signs.Open ∷ rest))
    ∙ quiet_found us (optional_quiet refl o) Outermost false (at s signs.Close ∷ at t signs.LeftBrace ∷ vs)
    ∙ body_found b

pub statics_found : StaticsAreOfTheGrammar
statics_found _ _ (file {us} {vs} d m) = ap (statics_from false false Outermost) (declared_main d vs) ∙ main_found m
