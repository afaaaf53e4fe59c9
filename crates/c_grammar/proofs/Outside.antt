-- Where group directives stand in a file: in no declarator, and behind no word of a type, `const` or comma.
use Rattle.std.proofs.Common.{◌≡◌, ℕ, ℤ, Bool, true, false, List, [], ◌∷◌, ◌++◌, Option, Some, None, refl, sym, ap, subst, ◌∙◌, append_assoc}
use Rattle.std.proofs.lemmas.List.{append-nil}
use Rattle.fam_outer.specs.declared.faults.Place.{Place}
use Rattle.c_tree.specs.declared.tree.Op.TheVariants.{Sub}
use Rattle.c_tree.specs.declared.lists.Declared.{Declared}
use Rattle.c_tree.specs.Tree.{Term, Code}
use Rattle.c_grammar.specs.declared.items.Item.{Item}
use Rattle.c_grammar.specs.declared.items.Sign.{Sign}
use Rattle.c_grammar.specs.declared.items.Sign.TheVariants as signs
use Rattle.c_grammar.specs.Grammar.{at, Prefix, Positive, Negative, Inverse, prefix_sign, Expresses, number, name, group, prefix, loose, binary, Update, Sum, Difference, Product, Quotient, Remainder, update_sign, Count, Raise, Lower, count_sign, LocalDeclarator, uninitialised, initialised, from_call, Shape, Listed, Stated, Chained, Locals, Writes, none, more, choice, local, static_local, last_local, next_local, ends, otherwise, elif, change, Callable, of_input, of_function, Changes, assignment, input_taken, compound_assignment, count_behind, count_before, Clause, no_clause, clause, Tests, no_test, test, call, void_call, assert, skip, block, while, for, declaring_for, if_then, if_else, do_while, break, continue, return, Optional, absent, present, Typed, int, int32, signed, signed_int, int_signed, Qualifier, Qualified, unqualified, const_before, const_behind, Begins, only_type, then_type, enumeration, Declarator, bare, positive, negative, counted, Ending, variables_end, constants_end, enumeration_end, comma_end, Defines, defined, negative_defined, enclosed, negative_enclosed, Part, Outer, Vars, Later, Declares, nothing, variables, prototype, void_prototype, definition, section, last_var, next_var, end_part, else_part, elif_part, Gap, Empty, no_more, empty_section, empty_end, empty_else, empty_elif, Body, body, Main, main, file}
use Rattle.c_grammar.specs.Locals.{AreOutside, DirectivesStandOutside}

-- text in front of which directives may stand: where they stand outside declarators in what follows it, they do in the whole
abbrev Leaves : List Item → Type 0
Leaves ts = (w : List Item) → AreOutside false None w → AreOutside false None (ts ++ w)

both : (ts us : List Item) → Leaves ts → Leaves us → Leaves (ts ++ us)
both ts us a b w h = subst (AreOutside false None) (sym (append_assoc ts us w)) (a (us ++ w) (b w h))

-- an expression, in a declarator or in none
abbrev Runs : List Item → Type 0
Runs ts = (opened : Option ℕ) (w : List Item) → AreOutside false opened w → AreOutside false opened (ts ++ w)

prefix_outside : (u : Prefix) (p : Place) (opened : Option ℕ) (w : List Item) → AreOutside false opened w → AreOutside false opened (at p (prefix_sign u) ∷ w)
prefix_outside Positive p opened w h = (tt, h)
prefix_outside Negative p opened w h = (tt, h)
prefix_outside Inverse p opened w h = (tt, h)

expr_runs : {k : ℕ} {ts : List Item} {e : Term} → Expresses k ts e → Runs ts
expr_runs (number p n) = λ opened w h. (tt, h)
expr_runs (name p v) = λ opened w h. (tt, h)
expr_runs (group p q {ts} s) = λ opened w h. (tt, subst (AreOutside false opened) (sym (append_assoc ts (at q signs.Close ∷ []) w)) (expr_runs s opened (at q signs.Close ∷ w) (tt, h)))
expr_runs (prefix p u {ts} s) = λ opened w h. prefix_outside u p opened (ts ++ w) (expr_runs s opened w h)
expr_runs (loose s) = expr_runs s
expr_runs (binary p op {ts} {us} s t) = λ opened w h. subst (AreOutside false opened) (sym (append_assoc ts (at p (signs.Oper op) ∷ us) w)) (expr_runs s opened (at p (signs.Oper op) ∷ (us ++ w)) (tt, expr_runs t opened w h))

-- an expression of a statement and what stands behind it
closed : {ts : List Item} {e : Term} (s : Expresses 6 ts e) (us w : List Item) → AreOutside false None (us ++ w) → AreOutside false None ((ts ++ us) ++ w)
closed {ts} s us w h = subst (AreOutside false None) (sym (append_assoc ts us w)) (expr_runs s None (us ++ w) h)

update_outside : (u : Update) (q : Place) → Leaves (at q (update_sign u) ∷ [])
update_outside Sum q w h = (tt, h)
update_outside Difference q w h = (tt, h)
update_outside Product q w h = (tt, h)
update_outside Quotient q w h = (tt, h)
update_outside Remainder q w h = (tt, h)

count_outside : (u : Count) (q : Place) → Leaves (at q (count_sign u) ∷ [])
count_outside Raise q w h = (tt, h)
count_outside Lower q w h = (tt, h)

-- the name of a function, behind the type of a declaration, in a declarator, or else
function_outside : {f : Sign} (declaring : Bool) (opened : Option ℕ) (p : Place) (w : List Item) → Callable f → AreOutside false opened w → AreOutside declaring opened (at p f ∷ w)
function_outside true opened p w of_input h = (tt, h)
function_outside true opened p w (of_function k) h = (tt, h)
function_outside false opened p w of_input h = (tt, h)
function_outside false opened p w (of_function k) h = (tt, h)

-- ---- declarations in `main`

-- a type, behind `const` or not
type_outside : {us : List Item} (declaring : Bool) → Typed us → (w : List Item) → AreOutside true None w → AreOutside declaring None (us ++ w)
type_outside true (int p) w h = (tt, h)
type_outside true (int32 p) w h = (tt, h)
type_outside true (signed p) w h = (tt, h)
type_outside true (signed_int p q) w h = (tt, (tt, h))
type_outside true (int_signed p q) w h = (tt, (tt, h))
type_outside false (int p) w h = (tt, h)
type_outside false (int32 p) w h = (tt, h)
type_outside false (signed p) w h = (tt, h)
type_outside false (signed_int p q) w h = (tt, (tt, h))
type_outside false (int_signed p q) w h = (tt, (tt, h))

qualified_outside : {us : List Item} {kind : Qualifier} → Qualified kind us → (w : List Item) → AreOutside true None w → AreOutside false None (us ++ w)
qualified_outside (unqualified y) w h = type_outside false y w h
qualified_outside (const_before p y) w h = (tt, type_outside true y w h)
qualified_outside (const_behind p {us} y) w h = subst (AreOutside false None) (sym (append_assoc us (at p signs.Const ∷ []) w)) (type_outside false y (at p signs.Const ∷ w) (tt, h))

-- a declarator, before what ends it
local_outside : {ts : List Item} {c : Code} {kind : Qualifier} → LocalDeclarator kind ts c → (w : List Item) → ((opened : Option ℕ) → AreOutside false opened w) → AreOutside true None (ts ++ w)
local_outside (uninitialised p x) w h = (tt, h (Some x))
local_outside (initialised p q x e) w h = (tt, (tt, expr_runs e (Some x) w (h (Some x))))
local_outside (from_call p q r s t x g) w h = (tt, (tt, function_outside false (Some x) r (at s signs.Open ∷ at t signs.Close ∷ w) g (tt, (tt, h (Some x)))))

-- ---- declarations

-- what stands before the declarators: the first one of an `enum` stands behind its brace
static_outside : {us : List Item} {kind : Qualifier} → Begins signs.Static kind us → (w : List Item) → ((declaring : Bool) → AreOutside declaring None w) → AreOutside false None (us ++ w)
static_outside (only_type s y) w h = qualified_outside y w (h true)
static_outside (then_type p s y) w h = (tt, qualified_outside y w (h true))
static_outside (enumeration p q s) w h = (tt, (tt, h false))

extern_outside : {us : List Item} {kind : Qualifier} → Begins signs.Extern kind us → (w : List Item) → ((declaring : Bool) → AreOutside declaring None w) → AreOutside false None (us ++ w)
extern_outside (only_type s y) w h = qualified_outside y w (h true)
extern_outside (then_type p s y) w h = (tt, qualified_outside y w (h true))
extern_outside (enumeration p q s) w h = (tt, (tt, h false))

void_outside : {us : List Item} → Optional signs.Void us → Leaves us
void_outside (absent s) w h = h
void_outside (present p s) w h = (tt, h)

extern_word_outside : {us : List Item} → Optional signs.Extern us → Leaves us
extern_word_outside (absent s) w h = h
extern_word_outside (present p s) w h = (tt, h)

-- the name of a declarator
name_outside : (declaring : Bool) (p : Place) (x : ℕ) (w : List Item) → ((opened : Option ℕ) → AreOutside false opened w) → AreOutside declaring None (at p (signs.Name x) ∷ w)
name_outside true p x w h = (tt, h (Some x))
name_outside false p x w h = (tt, h None)

-- a declarator, before what follows it
declarator_outside : {us : List Item} {x : ℕ} {n : ℤ} {kind : Qualifier} (declaring : Bool) → Declarator kind us x n → (w : List Item) → ((opened : Option ℕ) → AreOutside false opened w) → AreOutside declaring None (us ++ w)
declarator_outside declaring (bare p x) w h = name_outside declaring p x w h
declarator_outside declaring (positive p q r x n) w h = name_outside declaring p x (at q signs.Equals ∷ at r (signs.Number n) ∷ w) (λ opened. (tt, (tt, h opened)))
declarator_outside declaring (negative p q r s x n) w h = name_outside declaring p x (at q signs.Equals ∷ at r (signs.Oper Sub) ∷ at s (signs.Number n) ∷ w) (λ opened. (tt, (tt, (tt, h opened))))
declarator_outside declaring (counted p x last lt) w h = name_outside declaring p x w h

ending_outside : {us : List Item} {kind : Qualifier} → Ending kind us → (w : List Item) → AreOutside false None w → (opened : Option ℕ) → AreOutside false opened (us ++ w)
ending_outside (variables_end p) w h opened = (tt, h)
ending_outside (constants_end p) w h opened = (tt, h)
ending_outside (enumeration_end last p q) w h opened = (tt, (tt, h))
ending_outside (comma_end last p q r) w h opened = (tt, (tt, (tt, h)))

definition_outside : {us : List Item} {x : ℕ} {n : ℤ} → Defines us x n → Leaves us
definition_outside (defined p q r x n) w h = (tt, (tt, (tt, h)))
definition_outside (negative_defined p q r s x n) w h = (tt, (tt, (tt, (tt, h))))
definition_outside (enclosed p q r s t x n) w h = (tt, (tt, (tt, (tt, (tt, h)))))
definition_outside (negative_enclosed p q r s t u x n) w h = (tt, (tt, (tt, (tt, (tt, (tt, h))))))

abbrev PartLeaves : Part → List Item → Type 0
PartLeaves (Outer gs) ts = Leaves ts
PartLeaves (Vars kind gs) ts = (declaring : Bool) (w : List Item) → AreOutside false None w → AreOutside declaring None (ts ++ w)
PartLeaves (Later gs) ts = Leaves ts

declared_outside : {part : Part} {ts : List Item} {ds : List Declared} → Declares part ts ds → PartLeaves part ts
declared_outside (nothing gs) = λ w h. h
declared_outside (variables gs {us} {vs} {ws} o v d) = λ w h.
    let re : (us ++ (vs ++ ws)) ++ w ≡ us ++ (vs ++ (ws ++ w)) = simp append_assoc in
    subst (AreOutside false None) (sym re) (static_outside o (vs ++ (ws ++ w)) (λ declaring. declared_outside v declaring (ws ++ w) (declared_outside d w h)))
declared_outside (prototype q r s t gs {f} {us} {vs} {ws} o g v d) = λ w h.
    let rest : List Item = vs ++ at s signs.Close ∷ at t signs.Semicolon ∷ (ws ++ w) in
    let re : (us ++ at q f ∷ at r signs.Open ∷ (vs ++ at s signs.Close ∷ at t signs.Semicolon ∷ ws)) ++ w ≡ us ++ at q f ∷ at r signs.Open ∷ rest = simp append_assoc in
    subst (AreOutside false None) (sym re) (extern_outside o (at q f ∷ at r signs.Open ∷ rest) (λ declaring. function_outside declaring None q (at r signs.Open ∷ rest) g (tt, void_outside v (at s signs.Close ∷ at t signs.Semicolon ∷ (ws ++ w)) (tt, (tt, declared_outside d w h)))))
declared_outside (void_prototype p q r s t k gs {us} {vs} {ws} o v d) = λ w h.
    let rest : List Item = vs ++ at s signs.Close ∷ at t signs.Semicolon ∷ (ws ++ w) in
    let head : List Item = at p signs.Void ∷ at q (signs.Function k) ∷ at r signs.Open ∷ rest in
    let re : (us ++ at p signs.Void ∷ at q (signs.Function k) ∷ at r signs.Open ∷ (vs ++ at s signs.Close ∷ at t signs.Semicolon ∷ ws)) ++ w ≡ us ++ head = simp append_assoc in
    subst (AreOutside false None) (sym re) (extern_word_outside o head (tt, (tt, (tt, void_outside v (at s signs.Close ∷ at t signs.Semicolon ∷ (ws ++ w)) (tt, (tt, declared_outside d w h))))))
declared_outside (definition gs {us} {ws} o d) = both us ws (definition_outside o) (declared_outside d)
declared_outside (section p n gs {us} {vs} {ws} a b d) = λ w h. ((refl, refl), both us (vs ++ ws) (declared_outside a) (both vs ws (declared_outside b) (declared_outside d)) w h)
declared_outside (last_var gs {us} {vs} d o) = λ declaring w h. subst (AreOutside declaring None) (sym (append_assoc us vs w)) (declarator_outside declaring d (vs ++ w) (ending_outside o w h))
declared_outside (next_var p gs {us} {vs} d v) = λ declaring w h.
    subst (AreOutside declaring None) (sym (append_assoc us (at p signs.Comma ∷ vs) w)) (declarator_outside declaring d (at p signs.Comma ∷ (vs ++ w)) (λ opened. (tt, declared_outside v true w h)))
declared_outside (end_part p gs) = λ w h. ((refl, refl), h)
declared_outside (else_part p q gs {us} d) = λ w h. ((refl, refl), both us (at q signs.GroupEnd ∷ []) (declared_outside d) (λ v i. ((refl, refl), i)) w h)
declared_outside (elif_part p n gs {us} {vs} a b) = λ w h. ((refl, refl), both us vs (declared_outside a) (declared_outside b) w h)

-- ---- statements

-- a change, and what stands in the parentheses of a `for`
change_outside : {ts : List Item} {c : Code} → Changes ts c → Leaves ts
change_outside (assignment p q x e) = λ w h. (tt, (tt, expr_runs e None w h))
change_outside (input_taken p q r s t x g) = λ w h. (tt, (tt, function_outside false None r (at s signs.Open ∷ at t signs.Close ∷ w) g (tt, (tt, h))))
change_outside (compound_assignment p q x u {ts} e) = λ w h. (tt, update_outside u q (ts ++ w) (expr_runs e None w h))
change_outside (count_behind p q x u) = λ w h. (tt, count_outside u q w h)
change_outside (count_before p q x u) = λ w h. count_outside u p (at q (signs.Name x) ∷ w) (tt, h)

clause_outside : {ts : List Item} {c : Code} → Clause ts c → Leaves ts
clause_outside no_clause = λ w h. h
clause_outside (clause d) = change_outside d

tests_outside : {us : List Item} {t : Place} {e : Term} → Tests us t e → Leaves us
tests_outside (no_test s) = λ w h. (tt, h)
tests_outside (test s {x} {ts} e) = both (x ∷ ts) (at s signs.Semicolon ∷ []) (λ w h. expr_runs e None w h) (λ w h. (tt, h))

-- the declarators of a declaration stand behind its type
abbrev ShapeLeaves : Shape → List Item → Type 0
ShapeLeaves (Listed i) ts = Leaves ts
ShapeLeaves (Stated i b) ts = Leaves ts
ShapeLeaves (Chained i) ts = Leaves ts
ShapeLeaves (Locals kind) ts = (w : List Item) → AreOutside false None w → AreOutside true None (ts ++ w)

code_outside : {s : Shape} {ts : List Item} {c : Code} → Writes s ts c → ShapeLeaves s ts
code_outside none = λ w h. h
code_outside (more {b} {ts} {us} s l) = both ts us (code_outside s) (code_outside l)
code_outside (choice p n {ts} {us} {vs} s t l) = λ w h. ((refl, refl), both ts (us ++ vs) (code_outside s) (both us vs (code_outside t) (code_outside l)) w h)
code_outside (local {ts} {us} {vs} q v l) = λ w h.
    let re : (ts ++ (us ++ vs)) ++ w ≡ ts ++ (us ++ (vs ++ w)) = simp append_assoc in
    subst (AreOutside false None) (sym re) (qualified_outside q (us ++ (vs ++ w)) (code_outside v (vs ++ w) (code_outside l w h)))
code_outside (static_local p {ts} {us} {vs} q v l) = λ w h.
    let re : (ts ++ (us ++ vs)) ++ w ≡ ts ++ (us ++ (vs ++ w)) = simp append_assoc in
    (tt, subst (AreOutside false None) (sym re) (qualified_outside q (us ++ (vs ++ w)) (declared_outside v true (vs ++ w) (code_outside l w h))))
code_outside (last_local p {ts} d) = λ w h. subst (AreOutside true None) (sym (append_assoc ts (at p signs.Semicolon ∷ []) w)) (local_outside d (at p signs.Semicolon ∷ w) (λ opened. (tt, h)))
code_outside (next_local p {ts} {us} d v) = λ w h. subst (AreOutside true None) (sym (append_assoc ts (at p signs.Comma ∷ us) w)) (local_outside d (at p signs.Comma ∷ (us ++ w)) (λ opened. (tt, code_outside v w h)))
code_outside (ends p) = λ w h. ((refl, refl), h)
code_outside (otherwise p q {ts} s) = λ w h. ((refl, refl), both ts (at q signs.GroupEnd ∷ []) (code_outside s) (λ v i. ((refl, refl), i)) w h)
code_outside (elif p n {ts} {us} s t) = λ w h. ((refl, refl), both ts us (code_outside s) (code_outside t) w h)
code_outside (change r {ts} d) = both ts (at r signs.Semicolon ∷ []) (change_outside d) (λ w h. (tt, h))
code_outside (call p q r s g) = λ w h. function_outside false None p (at q signs.Open ∷ at r signs.Close ∷ at s signs.Semicolon ∷ w) g (tt, (tt, (tt, h)))
code_outside (void_call p q r s t u v g) = λ w h. (tt, (tt, (tt, function_outside false None s (at t signs.Open ∷ at u signs.Close ∷ at v signs.Semicolon ∷ w) g (tt, (tt, (tt, h))))))
code_outside (assert p q r s e) = λ w h. (tt, (tt, closed e (at r signs.Close ∷ at s signs.Semicolon ∷ []) w (tt, (tt, h))))
code_outside (skip p) = λ w h. (tt, h)
code_outside (block p q {ts} s) = λ w h. (tt, both ts (at q signs.RightBrace ∷ []) (code_outside s) (λ v i. (tt, i)) w h)
code_outside (while p q r {b} {ts} {us} e s) = λ w h. (tt, (tt, closed e (at r signs.Close ∷ us) w (tt, code_outside s w h)))
code_outside (for p q r z {b} {ts} {us} {vs} {ws} a t d s) = λ w h.
    let step : Leaves (vs ++ at z signs.Close ∷ ws) = both vs (at z signs.Close ∷ ws) (clause_outside d) (λ v i. (tt, code_outside s v i)) in
    let tests : Leaves (us ++ (vs ++ at z signs.Close ∷ ws)) = both us (vs ++ at z signs.Close ∷ ws) (tests_outside t) step in
    (tt, (tt, both ts (at r signs.Semicolon ∷ (us ++ (vs ++ at z signs.Close ∷ ws))) (clause_outside a) (λ v i. (tt, tests v i)) w h))
code_outside (declaring_for p q z {b} {ts} {ds} {us} {vs} {ws} g l t d s) = λ w h.
    let step : Leaves (vs ++ at z signs.Close ∷ ws) = both vs (at z signs.Close ∷ ws) (clause_outside d) (λ v i. (tt, code_outside s v i)) in
    let text : List Item = us ++ (vs ++ at z signs.Close ∷ ws) in
    let tests : Leaves text = both us (vs ++ at z signs.Close ∷ ws) (tests_outside t) step in
    let re : (ts ++ (ds ++ text)) ++ w ≡ ts ++ (ds ++ (text ++ w)) = append_assoc ts (ds ++ text) w ∙ ap (λ (y : List Item). ts ++ y) (append_assoc ds text w) in
    (tt, (tt, subst (AreOutside false None) (sym re) (qualified_outside g (ds ++ (text ++ w)) (code_outside l (text ++ w) (tests w h)))))
code_outside (if_then p q r {b} {ts} {us} e s) = λ w h. (tt, (tt, closed e (at r signs.Close ∷ us) w (tt, code_outside s w h)))
code_outside (if_else p q r z {b} {ts} {us} {vs} e s t) = λ w h.
    (tt, (tt, closed e (at r signs.Close ∷ (us ++ at z signs.Else ∷ vs)) w (tt, both us (at z signs.Else ∷ vs) (code_outside s) (λ v i. (tt, code_outside t v i)) w h)))
code_outside (do_while p q r s t {b} {ts} {us} {x} l e) = λ w h.
    let tail : List Item = at q signs.While ∷ at r signs.Open ∷ x ∷ (us ++ at s signs.Close ∷ at t signs.Semicolon ∷ []) in
    (tt, both ts tail (code_outside l) (λ v i. (tt, (tt, closed e (at s signs.Close ∷ at t signs.Semicolon ∷ []) v (tt, (tt, i))))) w h)
code_outside (break p q) = λ w h. (tt, (tt, h))
code_outside (continue p q) = λ w h. (tt, (tt, h))
code_outside (return p q e) = λ w h. (tt, closed e (at q signs.Semicolon ∷ []) w (tt, h))

-- ---- files

gap_outside : {s : Gap} {ts : List Item} → Empty s ts → Leaves ts
gap_outside no_more = λ w h. h
gap_outside (empty_section p n {us} {vs} {ws} a b d) = λ w h. ((refl, refl), both us (vs ++ ws) (gap_outside a) (both vs ws (gap_outside b) (gap_outside d)) w h)
gap_outside (empty_end p) = λ w h. ((refl, refl), h)
gap_outside (empty_else p q {us} a) = λ w h. ((refl, refl), both us (at q signs.GroupEnd ∷ []) (gap_outside a) (λ v i. ((refl, refl), i)) w h)
gap_outside (empty_elif p n {us} {vs} a b) = λ w h. ((refl, refl), both us vs (gap_outside a) (gap_outside b) w h)

body_outside : {ts : List Item} {c : Code} {p : Place} → Body ts c p → Leaves ts
body_outside (body p {us} {vs} s e) = both us (at p signs.RightBrace ∷ vs) (code_outside s) (λ w h. (tt, gap_outside e w h))

main_outside : {ts : List Item} {c : Code} {p : Place} → Main ts c p → Leaves ts
main_outside (main q r s t u {ts} {us} {vs} y o b) = λ w h.
    let rest : List Item = at s signs.Close ∷ at t signs.LeftBrace ∷ vs in
    let re : (ts ++ at q signs.Main ∷ at r signs.Open ∷ (us ++ rest)) ++ w ≡ ts ++ at q signs.Main ∷ at r signs.Open ∷ (us ++ (rest ++ w)) = simp append_assoc in
    subst (AreOutside false None) (sym re) (type_outside false y (at q signs.Main ∷ at r signs.Open ∷ (us ++ (rest ++ w))) (tt, (tt, void_outside o (rest ++ w) (tt, (tt, body_outside b w h)))))

pub directives_outside : DirectivesStandOutside
directives_outside _ _ (file {us} {vs} d m) = subst (AreOutside false None) (append-nil (us ++ vs)) (both us vs (declared_outside d) (main_outside m) [] tt)
