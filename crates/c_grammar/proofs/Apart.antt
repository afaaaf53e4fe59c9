-- Where group directives stand in a file: outside declarations with `const` or `enum`, not between `#define` and its name, and behind no
-- name, `=` or `void`.
use Rattle.std.proofs.Common.{◌≡◌, ℕ, ℤ, Bool, true, false, List, [], ◌∷◌, ◌++◌, refl, sym, subst, append_assoc}
use Rattle.std.proofs.lemmas.List.{append-nil}
use Rattle.fam_outer.specs.declared.faults.Place.{Place}
use Rattle.c_tree.specs.declared.tree.Op.TheVariants.{Sub}
use Rattle.c_tree.specs.declared.lists.Declared.{Declared}
use Rattle.c_tree.specs.Tree.{Term, Code}
use Rattle.c_tree.specs.declared.lists.Guard.{Guard}
use Rattle.c_grammar.specs.declared.constants.NameKind.{NameKind}
use Rattle.c_grammar.specs.declared.constants.NameKind.TheVariants as kinds
use Rattle.c_grammar.specs.declared.items.Item.{Item}
use Rattle.c_grammar.specs.declared.items.Sign.{Sign}
use Rattle.c_grammar.specs.declared.items.Sign.TheVariants as signs
use Rattle.c_grammar.specs.Grammar.{at, Prefix, Positive, Negative, Inverse, prefix_sign, Expresses, number, name, group, prefix, loose, binary, Update, Sum, Difference, Product, Quotient, Remainder, update_sign, Count, Raise, Lower, count_sign, Callable, of_input, of_function, Changes, assignment, input_taken, compound_assignment, count_behind, count_before, Clause, no_clause, clause, Tests, no_test, test, LocalDeclarator, uninitialised, initialised, from_call, Shape, Listed, Stated, Chained, Locals, Writes, none, more, choice, local, static_local, last_local, next_local, ends, otherwise, elif, change, call, void_call, assert, skip, block, while, for, declaring_for, if_then, if_else, do_while, break, continue, return, Optional, absent, present, Typed, int, int32, signed, signed_int, int_signed, Qualifier, Unqualified, Constant, Counted, behind, Qualified, unqualified, const_before, const_behind, Begins, only_type, then_type, enumeration, Declarator, bare, positive, negative, counted, Ending, variables_end, constants_end, enumeration_end, comma_end, Defines, defined, negative_defined, enclosed, negative_enclosed, Part, Outer, Vars, Later, Declares, nothing, variables, prototype, void_prototype, definition, section, last_var, next_var, end_part, else_part, elif_part, Gap, Empty, no_more, empty_section, empty_end, empty_else, empty_elif, Body, body, Main, main, file, is_group}
use Rattle.c_grammar.specs.Constants.{kind_behind_name, AreApart, DirectivesStandApart}

-- text in front of which directives may stand: where what follows it is apart, the whole is
abbrev Leaves : List Item → Type 0
Leaves ts = (w : List Item) → AreApart kinds.Variable false w → AreApart kinds.Variable false (ts ++ w)

-- what the names of declarators are
abbrev names_of : Qualifier → NameKind
names_of Unqualified = kinds.Variable
names_of Constant = kinds.Constant
names_of (Counted last) = kinds.Constant

names_stay : (kind : Qualifier) → kind_behind_name (names_of kind) ≡ names_of kind
names_stay Unqualified = refl
names_stay Constant = refl
names_stay (Counted last) = refl

-- an expression, before a token that is no directive, in a declaration that goes on or in a statement
abbrev Runs : Qualifier → List Item → Type 0
Runs kind ts = (joined : Bool) (x : Item) (w : List Item) → is_group x.sign ≡ false → ((before : Bool) → AreApart (names_of kind) before (x ∷ w)) → AreApart (names_of kind) joined (ts ++ x ∷ w)

-- a name, of a declarator or of a statement
name_apart : (kind : Qualifier) (p : Place) (x : ℕ) (joined : Bool) (w : List Item) → AreApart (names_of kind) true w → AreApart (names_of kind) joined (at p (signs.Name x) ∷ w)
name_apart kind p x joined w h = (tt, subst (λ (c : NameKind). AreApart c true w) (sym (names_stay kind)) h)

prefix_apart : (kind : Qualifier) (u : Prefix) (p : Place) (joined : Bool) (w : List Item) → AreApart (names_of kind) false w → AreApart (names_of kind) joined (at p (prefix_sign u) ∷ w)
prefix_apart kind Positive p joined w h = (tt, h)
prefix_apart kind Negative p joined w h = (tt, h)
prefix_apart kind Inverse p joined w h = (tt, h)

expr_runs : {k : ℕ} {ts : List Item} {e : Term} (kind : Qualifier) → Expresses k ts e → Runs kind ts
expr_runs kind (number p n) = λ joined x w g h. (tt, h false)
expr_runs kind (name p v) = λ joined x w g h. name_apart kind p v joined (x ∷ w) (h true)
expr_runs kind (group p q {ts} s) = λ joined x w g h. (tt, subst (AreApart (names_of kind) false) (sym (append_assoc ts (at q signs.Close ∷ []) (x ∷ w))) (expr_runs kind s false (at q signs.Close) (x ∷ w) refl (λ b. (tt, h false))))
expr_runs kind (prefix p u {ts} s) = λ joined x w g h. prefix_apart kind u p joined (ts ++ x ∷ w) (expr_runs kind s false x w g h)
expr_runs kind (loose s) = expr_runs kind s
expr_runs kind (binary p op {ts} {us} s t) = λ joined x w g h. subst (AreApart (names_of kind) joined) (sym (append_assoc ts (at p (signs.Oper op) ∷ us) (x ∷ w))) (expr_runs kind s joined (at p (signs.Oper op)) (us ++ x ∷ w) refl (λ b. (tt, expr_runs kind t false x w g h)))

-- an expression of a statement and the token behind it
closed : {ts : List Item} {e : Term} (joined : Bool) (s : Expresses 6 ts e) (x : Item) (us w : List Item) → is_group x.sign ≡ false → ((before : Bool) → AreApart kinds.Variable before (x ∷ (us ++ w))) → AreApart kinds.Variable joined ((ts ++ x ∷ us) ++ w)
closed {ts} joined s x us w g h = subst (AreApart kinds.Variable joined) (sym (append_assoc ts (x ∷ us) w)) (expr_runs Unqualified s joined x (us ++ w) g h)

update_apart : (u : Update) (q : Place) (w : List Item) → AreApart kinds.Variable false w → AreApart kinds.Variable true (at q (update_sign u) ∷ w)
update_apart Sum q w h = (tt, h)
update_apart Difference q w h = (tt, h)
update_apart Product q w h = (tt, h)
update_apart Quotient q w h = (tt, h)
update_apart Remainder q w h = (tt, h)

count_apart : (u : Count) (q : Place) (joined : Bool) (w : List Item) → AreApart kinds.Variable true w → AreApart kinds.Variable joined (at q (count_sign u) ∷ w)
count_apart Raise q joined w h = (tt, h)
count_apart Lower q joined w h = (tt, h)

function_apart : {f : Sign} (kind : NameKind) (p : Place) (joined : Bool) (w : List Item) → Callable f → AreApart kind false w → AreApart kind joined (at p f ∷ w)
function_apart kind p joined w of_input h = (tt, h)
function_apart kind p joined w (of_function k) h = (tt, h)

both : (ts us : List Item) → Leaves ts → Leaves us → Leaves (ts ++ us)
both ts us a b w h = subst (AreApart kinds.Variable false) (sym (append_assoc ts us w)) (a (us ++ w) (b w h))

-- ---- declarations in `main`

type_apart : {us : List Item} (kind : NameKind) → Typed us → (w : List Item) → AreApart kind false w → AreApart kind false (us ++ w)
type_apart kind (int p) w h = (tt, h)
type_apart kind (int32 p) w h = (tt, h)
type_apart kind (signed p) w h = (tt, h)
type_apart kind (signed_int p q) w h = (tt, (tt, h))
type_apart kind (int_signed p q) w h = (tt, (tt, h))

qualified_apart : {us : List Item} {kind : Qualifier} → Qualified kind us → (w : List Item) → AreApart (names_of kind) false w → AreApart kinds.Variable false (us ++ w)
qualified_apart (unqualified y) w h = type_apart kinds.Variable y w h
qualified_apart (const_before p y) w h = (tt, type_apart kinds.Constant y w h)
qualified_apart (const_behind p {us} y) w h = subst (AreApart kinds.Variable false) (sym (append_assoc us (at p signs.Const ∷ []) w)) (type_apart kinds.Variable y (at p signs.Const ∷ w) (tt, h))

-- a declarator of a declaration of this kind, before what ends it
local_apart : {ts : List Item} {c : Code} {held : Qualifier} (kind : Qualifier) → LocalDeclarator held ts c → Runs kind ts
local_apart kind (uninitialised p x) = λ joined y w g h. name_apart kind p x joined (y ∷ w) (h true)
local_apart kind (initialised p q x {ts = ts} e) = λ joined y w g h. name_apart kind p x joined (at q signs.Equals ∷ (ts ++ y ∷ w)) (tt, expr_runs kind e true y w g h)
local_apart kind (from_call p q r s t x {f = f} g) = λ joined y w i h.
    name_apart kind p x joined (at q signs.Equals ∷ at r f ∷ at s signs.Open ∷ at t signs.Close ∷ y ∷ w) (tt, function_apart (names_of kind) r true (at s signs.Open ∷ at t signs.Close ∷ y ∷ w) g (tt, (tt, h false)))

-- ---- changes, and the parentheses of a `for`

-- a change, before what ends it
change_apart : {ts : List Item} {c : Code} → Changes ts c → Runs Unqualified ts
change_apart (assignment p q x {ts} e) = λ joined y w g h. name_apart Unqualified p x joined (at q signs.Equals ∷ (ts ++ y ∷ w)) (tt, expr_runs Unqualified e true y w g h)
change_apart (input_taken p q r s t x {f} i) = λ joined y w g h.
    name_apart Unqualified p x joined (at q signs.Equals ∷ at r f ∷ at s signs.Open ∷ at t signs.Close ∷ y ∷ w) (tt, function_apart kinds.Variable r true (at s signs.Open ∷ at t signs.Close ∷ y ∷ w) i (tt, (tt, h false)))
change_apart (compound_assignment p q x u {ts} e) = λ joined y w g h. name_apart Unqualified p x joined (at q (update_sign u) ∷ (ts ++ y ∷ w)) (update_apart u q (ts ++ y ∷ w) (expr_runs Unqualified e false y w g h))
change_apart (count_behind p q x u) = λ joined y w g h. name_apart Unqualified p x joined (at q (count_sign u) ∷ y ∷ w) (count_apart u q true (y ∷ w) (h true))
change_apart (count_before p q x u) = λ joined y w g h. count_apart u p joined (at q (signs.Name x) ∷ y ∷ w) (name_apart Unqualified q x true (y ∷ w) (h true))

clause_apart : {ts : List Item} {c : Code} → Clause ts c → Runs Unqualified ts
clause_apart no_clause = λ joined y w g h. h joined
clause_apart (clause s) = change_apart s

test_apart : {ts : List Item} {p : Place} {e : Term} → Tests ts p e → Leaves ts
test_apart (no_test z) w h = (tt, h)
test_apart (test z {x} {ts} s) w h = closed false s (at z signs.Semicolon) [] w refl (λ b. (tt, h))

-- ---- declarators of variables that have their values from the start

names_behind : (kind : Qualifier) (n : ℤ) → names_of (behind kind n) ≡ names_of kind
names_behind Unqualified n = refl
names_behind Constant n = refl
names_behind (Counted last) n = refl

-- a declarator, before what follows it
declarator_apart : {us : List Item} {x : ℕ} {n : ℤ} {kind : Qualifier} → Declarator kind us x n → (w : List Item) → ((before : Bool) → AreApart (names_of kind) before w) → AreApart (names_of kind) false (us ++ w)
declarator_apart (bare p x) w h = name_apart Unqualified p x false w (h true)
declarator_apart (positive p q r x n {kind}) w h = name_apart kind p x false (at q signs.Equals ∷ at r (signs.Number n) ∷ w) (tt, (tt, h false))
declarator_apart (negative p q r s x n {kind}) w h = name_apart kind p x false (at q signs.Equals ∷ at r (signs.Oper Sub) ∷ at s (signs.Number n) ∷ w) (tt, (tt, (tt, h false)))
declarator_apart (counted p x last lt) w h = name_apart (Counted last) p x false w (h true)

ending_apart : {us : List Item} {kind : Qualifier} → Ending kind us → (w : List Item) → AreApart kinds.Variable false w → (before : Bool) → AreApart (names_of kind) before (us ++ w)
ending_apart (variables_end p) w h before = (tt, h)
ending_apart (constants_end p) w h before = (tt, h)
ending_apart (enumeration_end last p q) w h before = (tt, (tt, h))
ending_apart (comma_end last p q r) w h before = (tt, (tt, (tt, h)))

vars_apart : {gs : List Guard} {kind : Qualifier} {ts : List Item} {ds : List Declared} → Declares (Vars kind gs) ts ds → (w : List Item) → AreApart kinds.Variable false w → AreApart (names_of kind) false (ts ++ w)
vars_apart (last_var gs {us} {vs} {x} {n} {kind} d o) = λ w h.
    subst (AreApart (names_of kind) false) (sym (append_assoc us vs w)) (declarator_apart d (vs ++ w) (ending_apart o w h))
vars_apart (next_var p gs {us} {vs} {x} {n} {ds} {kind} d v) = λ w h.
    subst (AreApart (names_of kind) false) (sym (append_assoc us (at p signs.Comma ∷ vs) w)) (declarator_apart d (at p signs.Comma ∷ (vs ++ w)) (λ b. (tt, subst (λ (c : NameKind). AreApart c false (vs ++ w)) (names_behind kind n) (vars_apart v w h))))

-- ---- statements

-- the declarators of a declaration stand where its names are of its kind, which in a `for` is not that of the declarators
abbrev ShapeLeaves : Shape → List Item → Type 0
ShapeLeaves (Listed i) ts = Leaves ts
ShapeLeaves (Stated i b) ts = Leaves ts
ShapeLeaves (Chained i) ts = Leaves ts
ShapeLeaves (Locals held) ts = (kind : Qualifier) (w : List Item) → AreApart kinds.Variable false w → AreApart (names_of kind) false (ts ++ w)

code_apart : {s : Shape} {ts : List Item} {c : Code} → Writes s ts c → ShapeLeaves s ts
code_apart none = λ w h. h
code_apart (more {b} {ts} {us} s l) = both ts us (code_apart s) (code_apart l)
code_apart (choice p n {ts} {us} {vs} s t l) = λ w h. ((refl, refl), both ts (us ++ vs) (code_apart s) (both us vs (code_apart t) (code_apart l)) w h)
code_apart (local {ts} {us} {vs} {kind = kind} q v l) = λ w h.
    let re : (ts ++ (us ++ vs)) ++ w ≡ ts ++ (us ++ (vs ++ w)) = simp append_assoc in
    subst (AreApart kinds.Variable false) (sym re) (qualified_apart q (us ++ (vs ++ w)) (code_apart v kind (vs ++ w) (code_apart l w h)))
code_apart (static_local p {ts} {us} {vs} q v l) = λ w h.
    let re : (ts ++ (us ++ vs)) ++ w ≡ ts ++ (us ++ (vs ++ w)) = simp append_assoc in
    (tt, subst (AreApart kinds.Variable false) (sym re) (qualified_apart q (us ++ (vs ++ w)) (vars_apart v (vs ++ w) (code_apart l w h))))
code_apart (last_local p {ts} d) = λ kind w h.
    subst (AreApart (names_of kind) false) (sym (append_assoc ts (at p signs.Semicolon ∷ []) w)) (local_apart kind d false (at p signs.Semicolon) w refl (λ b. (tt, h)))
code_apart (next_local p {ts} {us} d v) = λ kind w h.
    subst (AreApart (names_of kind) false) (sym (append_assoc ts (at p signs.Comma ∷ us) w)) (local_apart kind d false (at p signs.Comma) (us ++ w) refl (λ b. (tt, code_apart v kind w h)))
code_apart (ends p) = λ w h. ((refl, refl), h)
code_apart (otherwise p q {ts} s) = λ w h. ((refl, refl), both ts (at q signs.GroupEnd ∷ []) (code_apart s) (λ v i. ((refl, refl), i)) w h)
code_apart (elif p n {ts} {us} s t) = λ w h. ((refl, refl), both ts us (code_apart s) (code_apart t) w h)
code_apart (change r {ts} s) = λ w h. subst (AreApart kinds.Variable false) (sym (append_assoc ts (at r signs.Semicolon ∷ []) w)) (change_apart s false (at r signs.Semicolon) w refl (λ b. (tt, h)))
code_apart (call p q r s g) = λ w h. function_apart kinds.Variable p false (at q signs.Open ∷ at r signs.Close ∷ at s signs.Semicolon ∷ w) g (tt, (tt, (tt, h)))
code_apart (void_call p q r s t u v g) = λ w h. (tt, (tt, (tt, function_apart kinds.Variable s false (at t signs.Open ∷ at u signs.Close ∷ at v signs.Semicolon ∷ w) g (tt, (tt, (tt, h))))))
code_apart (assert p q r s {ts} e) = λ w h. (tt, (tt, closed false e (at r signs.Close) (at s signs.Semicolon ∷ []) w refl (λ b. (tt, (tt, h)))))
code_apart (skip p) = λ w h. (tt, h)
code_apart (block p q {ts} s) = λ w h. (tt, both ts (at q signs.RightBrace ∷ []) (code_apart s) (λ v i. (tt, i)) w h)
code_apart (while p q r {b} {ts} {us} e s) = λ w h. (tt, (tt, closed false e (at r signs.Close) us w refl (λ b. (tt, code_apart s w h))))
code_apart (for p q r z {b} {ts} {us} {vs} {ws} first middle last s) = λ w h.
    let tail : List Item = us ++ (vs ++ at z signs.Close ∷ (ws ++ w)) in
    let re : (ts ++ at r signs.Semicolon ∷ (us ++ (vs ++ at z signs.Close ∷ ws))) ++ w ≡ ts ++ at r signs.Semicolon ∷ tail = simp append_assoc in
    let rest : AreApart kinds.Variable false tail = test_apart middle (vs ++ at z signs.Close ∷ (ws ++ w)) (clause_apart last false (at z signs.Close) (ws ++ w) refl (λ c. (tt, code_apart s w h))) in
    (tt, (tt, subst (AreApart kinds.Variable false) (sym re) (clause_apart first false (at r signs.Semicolon) tail refl (λ c. (tt, rest)))))
code_apart (declaring_for p q z {b} {ts} {ds} {us} {vs} {ws} {kind = kind} g l middle last s) = λ w h.
    let tail : List Item = us ++ (vs ++ at z signs.Close ∷ (ws ++ w)) in
    let re : (ts ++ (ds ++ (us ++ (vs ++ at z signs.Close ∷ ws)))) ++ w ≡ ts ++ (ds ++ tail) = simp append_assoc in
    let rest : AreApart kinds.Variable false tail = test_apart middle (vs ++ at z signs.Close ∷ (ws ++ w)) (clause_apart last false (at z signs.Close) (ws ++ w) refl (λ c. (tt, code_apart s w h))) in
    (tt, (tt, subst (AreApart kinds.Variable false) (sym re) (qualified_apart g (ds ++ tail) (code_apart l kind tail rest))))
code_apart (if_then p q r {b} {ts} {us} e s) = λ w h. (tt, (tt, closed false e (at r signs.Close) us w refl (λ b. (tt, code_apart s w h))))
code_apart (if_else p q r z {b} {ts} {us} {vs} e s t) = λ w h.
    (tt, (tt, closed false e (at r signs.Close) (us ++ at z signs.Else ∷ vs) w refl (λ b. (tt, both us (at z signs.Else ∷ vs) (code_apart s) (λ v i. (tt, code_apart t v i)) w h))))
code_apart (do_while p q r s t {b} {ts} {us} {x} l e) = λ w h.
    let tail : List Item = at q signs.While ∷ at r signs.Open ∷ x ∷ (us ++ at s signs.Close ∷ at t signs.Semicolon ∷ []) in
    (tt, both ts tail (code_apart l) (λ v i. (tt, (tt, closed false e (at s signs.Close) (at t signs.Semicolon ∷ []) v refl (λ c. (tt, (tt, i)))))) w h)
code_apart (break p q) = λ w h. (tt, (tt, h))
code_apart (continue p q) = λ w h. (tt, (tt, h))
code_apart (return p q e) = λ w h. (tt, closed false e (at q signs.Semicolon) [] w refl (λ b. (tt, h)))

-- ---- declarations

static_apart : {us : List Item} {kind : Qualifier} → Begins signs.Static kind us → (w : List Item) → AreApart (names_of kind) false w → AreApart kinds.Variable false (us ++ w)
static_apart (only_type s y) w h = qualified_apart y w h
static_apart (then_type p s y) w h = (tt, qualified_apart y w h)
static_apart (enumeration p q s) w h = (tt, (tt, h))

extern_apart : {us : List Item} {kind : Qualifier} → Begins signs.Extern kind us → (w : List Item) → AreApart (names_of kind) false w → AreApart kinds.Variable false (us ++ w)
extern_apart (only_type s y) w h = qualified_apart y w h
extern_apart (then_type p s y) w h = (tt, qualified_apart y w h)
extern_apart (enumeration p q s) w h = (tt, (tt, h))

-- `void` or nothing, before a token that is no directive
void_apart : {us : List Item} → Optional signs.Void us → (w : List Item) → ((before : Bool) → AreApart kinds.Variable before w) → AreApart kinds.Variable false (us ++ w)
void_apart (absent s) w h = h false
void_apart (present p s) w h = (tt, h true)

extern_word_apart : {us : List Item} → Optional signs.Extern us → Leaves us
extern_word_apart (absent s) w h = h
extern_word_apart (present p s) w h = (tt, h)

definition_apart : {us : List Item} {x : ℕ} {n : ℤ} → Defines us x n → Leaves us
definition_apart (defined p q r x n) w h = (tt, (tt, (tt, h)))
definition_apart (negative_defined p q r s x n) w h = (tt, (tt, (tt, (tt, h))))
definition_apart (enclosed p q r s t x n) w h = (tt, (tt, (tt, (tt, (tt, h)))))
definition_apart (negative_enclosed p q r s t u x n) w h = (tt, (tt, (tt, (tt, (tt, (tt, h))))))

abbrev PartLeaves : Part → List Item → Type 0
PartLeaves (Outer gs) ts = Leaves ts
PartLeaves (Vars kind gs) ts = (w : List Item) → AreApart kinds.Variable false w → AreApart (names_of kind) false (ts ++ w)
PartLeaves (Later gs) ts = Leaves ts

declared_apart : {part : Part} {ts : List Item} {ds : List Declared} → Declares part ts ds → PartLeaves part ts
declared_apart (nothing gs) = λ w h. h
declared_apart (variables gs {us} {vs} {ws} {kind = kind} o v d) = λ w h.
    let re : (us ++ (vs ++ ws)) ++ w ≡ us ++ (vs ++ (ws ++ w)) = simp append_assoc in
    subst (AreApart kinds.Variable false) (sym re) (static_apart o (vs ++ (ws ++ w)) (declared_apart v (ws ++ w) (declared_apart d w h)))
declared_apart (prototype q r s t gs {f} {us} {vs} {ws} o g v d) = λ w h.
    let rest : List Item = vs ++ at s signs.Close ∷ at t signs.Semicolon ∷ (ws ++ w) in
    let re : (us ++ at q f ∷ at r signs.Open ∷ (vs ++ at s signs.Close ∷ at t signs.Semicolon ∷ ws)) ++ w ≡ us ++ at q f ∷ at r signs.Open ∷ rest = simp append_assoc in
    subst (AreApart kinds.Variable false) (sym re) (extern_apart o (at q f ∷ at r signs.Open ∷ rest) (function_apart kinds.Variable q false (at r signs.Open ∷ rest) g (tt, void_apart v (at s signs.Close ∷ at t signs.Semicolon ∷ (ws ++ w)) (λ b. (tt, (tt, declared_apart d w h))))))
declared_apart (void_prototype p q r s t k gs {us} {vs} {ws} o v d) = λ w h.
    let rest : List Item = vs ++ at s signs.Close ∷ at t signs.Semicolon ∷ (ws ++ w) in
    let head : List Item = at p signs.Void ∷ at q (signs.Function k) ∷ at r signs.Open ∷ rest in
    let re : (us ++ at p signs.Void ∷ at q (signs.Function k) ∷ at r signs.Open ∷ (vs ++ at s signs.Close ∷ at t signs.Semicolon ∷ ws)) ++ w ≡ us ++ head = simp append_assoc in
    subst (AreApart kinds.Variable false) (sym re) (extern_word_apart o head (tt, (tt, (tt, void_apart v (at s signs.Close ∷ at t signs.Semicolon ∷ (ws ++ w)) (λ b. (tt, (tt, declared_apart d w h)))))))
declared_apart (definition gs {us} {ws} o d) = both us ws (definition_apart o) (declared_apart d)
declared_apart (section p n gs {us} {vs} {ws} a b d) = λ w h. ((refl, refl), both us (vs ++ ws) (declared_apart a) (both vs ws (declared_apart b) (declared_apart d)) w h)
declared_apart (last_var gs d o) = vars_apart (last_var gs d o)
declared_apart (next_var p gs d v) = vars_apart (next_var p gs d v)
declared_apart (end_part p gs) = λ w h. ((refl, refl), h)
declared_apart (else_part p q gs {us} d) = λ w h. ((refl, refl), both us (at q signs.GroupEnd ∷ []) (declared_apart d) (λ v i. ((refl, refl), i)) w h)
declared_apart (elif_part p n gs {us} {vs} a b) = λ w h. ((refl, refl), both us vs (declared_apart a) (declared_apart b) w h)

-- ---- files

gap_apart : {s : Gap} {ts : List Item} → Empty s ts → Leaves ts
gap_apart no_more = λ w h. h
gap_apart (empty_section p n {us} {vs} {ws} a b d) = λ w h. ((refl, refl), both us (vs ++ ws) (gap_apart a) (both vs ws (gap_apart b) (gap_apart d)) w h)
gap_apart (empty_end p) = λ w h. ((refl, refl), h)
gap_apart (empty_else p q {us} a) = λ w h. ((refl, refl), both us (at q signs.GroupEnd ∷ []) (gap_apart a) (λ v i. ((refl, refl), i)) w h)
gap_apart (empty_elif p n {us} {vs} a b) = λ w h. ((refl, refl), both us vs (gap_apart a) (gap_apart b) w h)

body_apart : {ts : List Item} {c : Code} {p : Place} → Body ts c p → Leaves ts
body_apart (body p {us} {vs} s e) = both us (at p signs.RightBrace ∷ vs) (code_apart s) (λ w h. (tt, gap_apart e w h))

main_apart : {ts : List Item} {c : Code} {p : Place} → Main ts c p → Leaves ts
main_apart (main q r s t u {ts} {us} {vs} y o b) =
    let rest : List Item = at s signs.Close ∷ at t signs.LeftBrace ∷ vs in
    both ts (at q signs.Main ∷ at r signs.Open ∷ (us ++ rest)) (type_apart kinds.Variable y)
    (λ w h. (tt, (tt, subst (AreApart kinds.Variable false) (sym (append_assoc us rest w)) (void_apart o (rest ++ w) (λ before. (tt, (tt, body_apart b w h)))))))

pub directives_apart : DirectivesStandApart
directives_apart _ _ (file {us} {vs} d m) = subst (AreApart kinds.Variable false) (append-nil (us ++ vs)) (both us vs (declared_apart d) (main_apart m) [] tt)
