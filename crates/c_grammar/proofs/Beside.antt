-- In a file each group directive stands outside static declarations.
use Rattle.std.proofs.Common.{◌≡◌, Bool, true, false, List, [], ◌∷◌, ◌++◌, refl, sym, subst, append_assoc}
use Rattle.std.proofs.lemmas.List.{append-nil}
use Rattle.fam_outer.specs.declared.faults.Place.{Place}
use Rattle.c_tree.specs.declared.lists.Guard.{Guard}
use Rattle.c_tree.specs.declared.lists.Declared.{Declared}
use Rattle.c_tree.specs.Tree.{Code}
use Rattle.c_grammar.specs.declared.items.Item.{Item}
use Rattle.c_grammar.specs.declared.items.Sign.{Sign}
use Rattle.c_grammar.specs.declared.items.Sign.TheVariants as signs
use Rattle.c_grammar.specs.Statics.{static_behind}
use Rattle.c_grammar.specs.Scopes.{IsBeside, AreBeside, DirectivesStandBeside}
use Rattle.c_grammar.specs.Grammar.{at, Begins, only_type, then_type, enumeration, Ending, variables_end, constants_end, enumeration_end, comma_end, Qualifier, Part, Outer, Vars, Later, Declares, nothing, variables, prototype, void_prototype, definition, section, last_var, next_var, end_part, else_part, elif_part, Shape, Listed, Stated, Chained, Locals, Writes, none, more, choice, local, static_local, last_local, next_local, ends, otherwise, elif, change, call, void_call, assert, skip, block, while, for, declaring_for, if_then, if_else, do_while, break, continue, return, Gap, Empty, no_more, empty_section, empty_end, empty_else, empty_elif, Body, body, Main, main, file, is_group}
use Rattle.c_grammar.proofs.Quiet.{is_quiet, AreQuiet, expr_quiet, function_quiet, change_quiet, clause_quiet, tests_quiet, optional_quiet, type_quiet, qualified_quiet, locals_quiet, declarator_quiet, extern_quiet, definition_quiet, redo_quiet, return_quiet}

-- ---- text with no directive

-- text in front of which directives may stand, and behind which they may
abbrev Leaves : List Item → Type 0
Leaves ts = (w : List Item) → AreBeside false w → AreBeside false (ts ++ w)

both : (ts us : List Item) → Leaves ts → Leaves us → Leaves (ts ++ us)
both ts us a b w h = subst (AreBeside false) (sym (append_assoc ts us w)) (a (us ++ w) (b w h))

quiet_one : (static : Bool) (s : Sign) → is_quiet s ≡ true → IsBeside (is_group s) static
quiet_one static signs.Static h = absurd cc
quiet_one static signs.Main h = absurd cc
quiet_one static (signs.GroupIf n) h = absurd cc
quiet_one static (signs.GroupElif n) h = absurd cc
quiet_one static signs.GroupElse h = absurd cc
quiet_one static signs.GroupEnd h = absurd cc
quiet_one static _ h = tt

not_static : (s : Sign) → is_quiet s ≡ true → static_behind false s ≡ false
not_static signs.Static h = absurd cc
not_static signs.Semicolon h = refl
not_static _ h = refl

-- where no static declaration goes on before it, none does behind it
quiet_leaves : (ts : List Item) → AreQuiet ts → Leaves ts
quiet_leaves [] q w h = h
quiet_leaves (x ∷ xs) q w h = (quiet_one false x.sign q.0, subst (λ (b : Bool). AreBeside b (xs ++ w)) (sym (not_static x.sign q.0)) (quiet_leaves xs q.1 w h))

-- whether one goes on before it or not
quiet_passes : (ts : List Item) → AreQuiet ts → (w : List Item) → ((static : Bool) → AreBeside static w) → (static : Bool) → AreBeside static (ts ++ w)
quiet_passes [] q w h static = h static
quiet_passes (x ∷ xs) q w h static = (quiet_one static x.sign q.0, quiet_passes xs q.1 w h (static_behind static x.sign))

-- ---- declarations

ending_ends : {us : List Item} {kind : Qualifier} → Ending kind us → (w : List Item) → AreBeside false w → (static : Bool) → AreBeside static (us ++ w)
ending_ends (variables_end p) w h static = (tt, h)
ending_ends (constants_end p) w h static = (tt, h)
ending_ends (enumeration_end last p q) w h static = (tt, (tt, h))
ending_ends (comma_end last p q r) w h static = (tt, (tt, (tt, h)))

-- a declaration ends with its semicolon
vars_end : {gs : List Guard} {us : List Item} {ds : List Declared} {kind : Qualifier} → Declares (Vars kind gs) us ds → (w : List Item) → AreBeside false w → (static : Bool) → AreBeside static (us ++ w)
vars_end (last_var gs {us} {vs} d o) w h static = subst (AreBeside static) (sym (append_assoc us vs w)) (quiet_passes us (declarator_quiet d) (vs ++ w) (ending_ends o w h) static)
vars_end (next_var p gs {us} {vs} d v) w h static =
    subst (AreBeside static) (sym (append_assoc us (at p signs.Comma ∷ vs) w)) (quiet_passes us (declarator_quiet d) (at p signs.Comma ∷ (vs ++ w)) (λ b. (tt, vars_end v w h b)) static)

begun : {us : List Item} {kind : Qualifier} → Begins signs.Static kind us → (w : List Item) → ((static : Bool) → AreBeside static w) → AreBeside false (us ++ w)
begun (only_type s {us} y) w h = quiet_passes us (qualified_quiet y) w h false
begun (then_type p s {us} y) w h = (tt, quiet_passes us (qualified_quiet y) w h true)
begun (enumeration p q s) w h = (tt, (tt, h false))

abbrev PartLeaves : Part → List Item → Type 0
PartLeaves (Outer gs) ts = Leaves ts
PartLeaves (Vars kind gs) ts = Unit {0}
PartLeaves (Later gs) ts = Leaves ts

declared_beside : {part : Part} {ts : List Item} {ds : List Declared} → Declares part ts ds → PartLeaves part ts
declared_beside (nothing gs) = λ w h. h
declared_beside (variables gs {us} {vs} {ws} o v d) = λ w h.
    let re : (us ++ (vs ++ ws)) ++ w ≡ us ++ (vs ++ (ws ++ w)) = simp append_assoc in
    subst (AreBeside false) (sym re) (begun o (vs ++ (ws ++ w)) (vars_end v (ws ++ w) (declared_beside d w h)))
declared_beside (prototype q r s t gs {f} {us} {vs} {ws} o g v d) =
    both us (at q f ∷ at r signs.Open ∷ (vs ++ at s signs.Close ∷ at t signs.Semicolon ∷ ws)) (quiet_leaves us (extern_quiet o))
    (both (at q f ∷ at r signs.Open ∷ []) (vs ++ at s signs.Close ∷ at t signs.Semicolon ∷ ws) (quiet_leaves (at q f ∷ at r signs.Open ∷ []) (function_quiet g, (refl, tt)))
    (both vs (at s signs.Close ∷ at t signs.Semicolon ∷ ws) (quiet_leaves vs (optional_quiet refl v)) (λ w h. (tt, (tt, declared_beside d w h)))))
declared_beside (void_prototype p q r s t k gs {us} {vs} {ws} o v d) =
    both us (at p signs.Void ∷ at q (signs.Function k) ∷ at r signs.Open ∷ (vs ++ at s signs.Close ∷ at t signs.Semicolon ∷ ws)) (quiet_leaves us (optional_quiet refl o))
    (λ w h. (tt, (tt, (tt, both vs (at s signs.Close ∷ at t signs.Semicolon ∷ ws) (quiet_leaves vs (optional_quiet refl v)) (λ z i. (tt, (tt, declared_beside d z i))) w h))))
declared_beside (definition gs {us} {ws} o d) = both us ws (quiet_leaves us (definition_quiet o)) (declared_beside d)
declared_beside (section p n gs {us} {vs} {ws} a b d) = λ w h. (refl, both us (vs ++ ws) (declared_beside a) (both vs ws (declared_beside b) (declared_beside d)) w h)
declared_beside (last_var gs d o) = tt
declared_beside (next_var p gs d v) = tt
declared_beside (end_part p gs) = λ w h. (refl, h)
declared_beside (else_part p q gs {us} d) = λ w h. (refl, both us (at q signs.GroupEnd ∷ []) (declared_beside d) (λ v i. (refl, i)) w h)
declared_beside (elif_part p n gs {us} {vs} a b) = λ w h. (refl, both us vs (declared_beside a) (declared_beside b) w h)

-- ---- statements

abbrev ShapeLeaves : Shape → List Item → Type 0
ShapeLeaves (Listed i) ts = Leaves ts
ShapeLeaves (Stated i b) ts = Leaves ts
ShapeLeaves (Chained i) ts = Leaves ts
ShapeLeaves (Locals kind) ts = Unit {0}

code_beside : {s : Shape} {ts : List Item} {c : Code} → Writes s ts c → ShapeLeaves s ts
code_beside none = λ w h. h
code_beside (more {b} {ts} {us} s l) = both ts us (code_beside s) (code_beside l)
code_beside (choice p n {ts} {us} {vs} s t l) = λ w h. (refl, both ts (us ++ vs) (code_beside s) (both us vs (code_beside t) (code_beside l)) w h)
code_beside (local {ts} {us} {vs} q v l) = both ts (us ++ vs) (quiet_leaves ts (qualified_quiet q)) (both us vs (quiet_leaves us (locals_quiet v)) (code_beside l))
code_beside (static_local p {ts} {us} {vs} q v l) = λ w h.
    let re : (ts ++ (us ++ vs)) ++ w ≡ ts ++ (us ++ (vs ++ w)) = simp append_assoc in
    (tt, subst (AreBeside true) (sym re) (quiet_passes ts (qualified_quiet q) (us ++ (vs ++ w)) (vars_end v (vs ++ w) (code_beside l w h)) true))
code_beside (last_local p d) = tt
code_beside (next_local p d v) = tt
code_beside (ends p) = λ w h. (refl, h)
code_beside (otherwise p q {ts} s) = λ w h. (refl, both ts (at q signs.GroupEnd ∷ []) (code_beside s) (λ v i. (refl, i)) w h)
code_beside (elif p n {ts} {us} s t) = λ w h. (refl, both ts us (code_beside s) (code_beside t) w h)
code_beside (change r {ts} s) = both ts (at r signs.Semicolon ∷ []) (quiet_leaves ts (change_quiet s)) (λ w h. (tt, h))
code_beside (call p q r s {f} g) = quiet_leaves (at p f ∷ at q signs.Open ∷ at r signs.Close ∷ at s signs.Semicolon ∷ []) (function_quiet g, (refl, (refl, (refl, tt))))
code_beside (void_call p q r s t u v {f} g) =
    quiet_leaves (at p signs.Open ∷ at q signs.Void ∷ at r signs.Close ∷ at s f ∷ at t signs.Open ∷ at u signs.Close ∷ at v signs.Semicolon ∷ []) (refl, (refl, (refl, (function_quiet g, (refl, (refl, (refl, tt)))))))
code_beside (assert p q r s {ts} e) = λ w h. (tt, (tt, both ts (at r signs.Close ∷ at s signs.Semicolon ∷ []) (quiet_leaves ts (expr_quiet e)) (λ v i. (tt, (tt, i))) w h))
code_beside (skip p) = λ w h. (tt, h)
code_beside (block p q {ts} s) = λ w h. (tt, both ts (at q signs.RightBrace ∷ []) (code_beside s) (λ v i. (tt, i)) w h)
code_beside (while p q r {b} {ts} {us} e s) = λ w h. (tt, (tt, both ts (at r signs.Close ∷ us) (quiet_leaves ts (expr_quiet e)) (λ v i. (tt, code_beside s v i)) w h))
code_beside (for p q r z {b} {ts} {us} {vs} {ws} a t d s) = λ w h.
    let step : Leaves (vs ++ at z signs.Close ∷ ws) = both vs (at z signs.Close ∷ ws) (quiet_leaves vs (clause_quiet d)) (λ v i. (tt, code_beside s v i)) in
    let tests : Leaves (us ++ (vs ++ at z signs.Close ∷ ws)) = both us (vs ++ at z signs.Close ∷ ws) (quiet_leaves us (tests_quiet t)) step in
    (tt, (tt, both ts (at r signs.Semicolon ∷ (us ++ (vs ++ at z signs.Close ∷ ws))) (quiet_leaves ts (clause_quiet a)) (λ v i. (tt, tests v i)) w h))
code_beside (declaring_for p q z {b} {ts} {ds} {us} {vs} {ws} g l t d s) = λ w h.
    let step : Leaves (vs ++ at z signs.Close ∷ ws) = both vs (at z signs.Close ∷ ws) (quiet_leaves vs (clause_quiet d)) (λ v i. (tt, code_beside s v i)) in
    let tests : Leaves (us ++ (vs ++ at z signs.Close ∷ ws)) = both us (vs ++ at z signs.Close ∷ ws) (quiet_leaves us (tests_quiet t)) step in
    let locals : Leaves (ds ++ (us ++ (vs ++ at z signs.Close ∷ ws))) = both ds (us ++ (vs ++ at z signs.Close ∷ ws)) (quiet_leaves ds (locals_quiet l)) tests in
    (tt, (tt, both ts (ds ++ (us ++ (vs ++ at z signs.Close ∷ ws))) (quiet_leaves ts (qualified_quiet g)) locals w h))
code_beside (if_then p q r {b} {ts} {us} e s) = λ w h. (tt, (tt, both ts (at r signs.Close ∷ us) (quiet_leaves ts (expr_quiet e)) (λ v i. (tt, code_beside s v i)) w h))
code_beside (if_else p q r z {b} {ts} {us} {vs} e s t) = λ w h.
    let branches : Leaves (us ++ at z signs.Else ∷ vs) = both us (at z signs.Else ∷ vs) (code_beside s) (λ v i. (tt, code_beside t v i)) in
    (tt, (tt, both ts (at r signs.Close ∷ (us ++ at z signs.Else ∷ vs)) (quiet_leaves ts (expr_quiet e)) (λ v i. (tt, branches v i)) w h))
code_beside (do_while p q r s t {b} {ts} {us} {x} l e) = λ w h.
    let tail : List Item = at q signs.While ∷ at r signs.Open ∷ x ∷ (us ++ at s signs.Close ∷ at t signs.Semicolon ∷ []) in
    (tt, both ts tail (code_beside l) (quiet_leaves tail (redo_quiet q r s t e)) w h)
code_beside (break p q) = λ w h. (tt, (tt, h))
code_beside (continue p q) = λ w h. (tt, (tt, h))
code_beside (return p q {ts} e) = quiet_leaves (at p signs.Return ∷ (ts ++ at q signs.Semicolon ∷ [])) (return_quiet p q e)

-- ---- files

gap_beside : {s : Gap} {ts : List Item} → Empty s ts → Leaves ts
gap_beside no_more = λ w h. h
gap_beside (empty_section p n {us} {vs} {ws} a b d) = λ w h. (refl, both us (vs ++ ws) (gap_beside a) (both vs ws (gap_beside b) (gap_beside d)) w h)
gap_beside (empty_end p) = λ w h. (refl, h)
gap_beside (empty_else p q {us} a) = λ w h. (refl, both us (at q signs.GroupEnd ∷ []) (gap_beside a) (λ v i. (refl, i)) w h)
gap_beside (empty_elif p n {us} {vs} a b) = λ w h. (refl, both us vs (gap_beside a) (gap_beside b) w h)

body_beside : {ts : List Item} {c : Code} {p : Place} → Body ts c p → Leaves ts
body_beside (body p {us} {vs} s e) = both us (at p signs.RightBrace ∷ vs) (code_beside s) (λ w h. (tt, gap_beside e w h))

main_beside : {ts : List Item} {c : Code} {p : Place} → Main ts c p → Leaves ts
main_beside (main q r s t u {ts} {us} {vs} y o b) =
    both ts (at q signs.Main ∷ at r signs.Open ∷ (us ++ at s signs.Close ∷ at t signs.LeftBrace ∷ vs)) (quiet_leaves ts (type_quiet y))
    (λ w h. (tt, (tt, both us (at s signs.Close ∷ at t signs.LeftBrace ∷ vs) (quiet_leaves us (optional_quiet refl o)) (λ v i. (tt, (tt, body_beside b v i))) w h)))

pub directives_beside : DirectivesStandBeside
directives_beside _ _ (file {us} {vs} d m) = subst (AreBeside false) (append-nil (us ++ vs)) (both us vs (declared_beside d) (main_beside m) [] tt)
