-- How braces and groups stand in one another in a file: each closes what opened last. So what is between two braces, and what is in one
-- part of a group, opens and closes the same.
use Rattle.std.proofs.Common.{◌≡◌, ℕ, ℤ, Bool, true, false, List, [], ◌∷◌, ◌++◌, refl, sym, subst, append_assoc}
use Rattle.std.proofs.lemmas.List.{append-nil}
use Rattle.fam_outer.specs.declared.faults.Place.{Place}
use Rattle.c_tree.specs.declared.lists.Declared.{Declared}
use Rattle.c_tree.specs.Tree.{Term, Code}
use Rattle.c_grammar.specs.declared.items.Item.{Item}
use Rattle.c_grammar.specs.declared.items.Sign.{Sign}
use Rattle.c_grammar.specs.declared.items.Sign.TheVariants as signs
use Rattle.c_grammar.specs.Grammar.{at, Prefix, Positive, Negative, Inverse, prefix_sign, Expresses, number, name, group, prefix, loose, binary, Update, Sum, Difference, Product, Quotient, Remainder, update_sign, Count, Raise, Lower, count_sign, LocalDeclarator, uninitialised, initialised, from_call, Shape, Listed, Stated, Chained, Locals, Writes, none, more, choice, local, static_local, last_local, next_local, ends, otherwise, elif, change, Callable, of_input, of_function, Changes, assignment, input_taken, compound_assignment, count_behind, count_before, Clause, no_clause, clause, Tests, no_test, test, call, void_call, assert, skip, block, while, for, declaring_for, if_then, if_else, do_while, break, continue, return, Optional, absent, present, Typed, int, int32, signed, signed_int, int_signed, Qualifier, Unqualified, Constant, Counted, behind, Qualified, unqualified, const_before, const_behind, Begins, only_type, then_type, enumeration, Declarator, bare, positive, negative, counted, Ending, variables_end, constants_end, enumeration_end, comma_end, Defines, defined, negative_defined, enclosed, negative_enclosed, Part, Outer, Vars, Later, Declares, nothing, variables, prototype, void_prototype, definition, section, last_var, next_var, end_part, else_part, elif_part, Gap, Gaps, GapRest, Empty, no_more, empty_section, empty_end, empty_else, empty_elif, Body, body, Main, main, File, Forms, file}

-- ---- what nests

-- the sign is no brace and no group directive
abbrev pub is_flat : Sign → Bool
is_flat signs.LeftBrace = false
is_flat signs.RightBrace = false
is_flat (signs.GroupIf n) = false
is_flat (signs.GroupElif n) = false
is_flat signs.GroupElse = false
is_flat signs.GroupEnd = false
is_flat _ = true

abbrev pub AreFlat : List Item → Type 0
AreFlat [] = Unit {0}
AreFlat (x ∷ xs) = (is_flat x.sign ≡ true) × AreFlat xs

-- items, or what closes a group, with its later parts
pub data Piece : Type 0 where
  Whole : Piece
  Rest : Piece

pub data Nests : Piece → List Item → Type 0 where
  no_item : Nests Whole []
  flat : (x : Item) {ts : List Item} → is_flat x.sign ≡ true → Nests Whole ts → Nests Whole (x ∷ ts)
  braces : (p q : Place) {ts us : List Item} → Nests Whole ts → Nests Whole us → Nests Whole (at p signs.LeftBrace ∷ (ts ++ at q signs.RightBrace ∷ us))
  parts : (p : Place) (n : ℕ) {ts us vs : List Item} → Nests Whole ts → Nests Rest us → Nests Whole vs → Nests Whole (at p (signs.GroupIf n) ∷ (ts ++ (us ++ vs)))
  last_end : (p : Place) → Nests Rest (at p signs.GroupEnd ∷ [])
  last_part : (p q : Place) {ts : List Item} → Nests Whole ts → Nests Rest (at p signs.GroupElse ∷ (ts ++ at q signs.GroupEnd ∷ []))
  next_part : (p : Place) (n : ℕ) {ts us : List Item} → Nests Whole ts → Nests Rest us → Nests Rest (at p (signs.GroupElif n) ∷ (ts ++ us))

pub nests_both : {ts us : List Item} → Nests Whole ts → Nests Whole us → Nests Whole (ts ++ us)
nests_both no_item e = e
nests_both (flat x f d) e = flat x f (nests_both d e)
nests_both {us = w} (braces p q {ts} {us} a d) e =
    subst (Nests Whole) (sym (let re : (at p signs.LeftBrace ∷ (ts ++ at q signs.RightBrace ∷ us)) ++ w ≡ at p signs.LeftBrace ∷ (ts ++ at q signs.RightBrace ∷ (us ++ w)) = simp append_assoc in re)) (braces p q a (nests_both d e))
nests_both {us = w} (parts p n {ts} {us} {vs} a b d) e =
    subst (Nests Whole) (sym (let re : (at p (signs.GroupIf n) ∷ (ts ++ (us ++ vs))) ++ w ≡ at p (signs.GroupIf n) ∷ (ts ++ (us ++ (vs ++ w))) = simp append_assoc in re)) (parts p n a b (nests_both d e))

-- what is flat nests
pub flat_before : (ts : List Item) {us : List Item} → AreFlat ts → Nests Whole us → Nests Whole (ts ++ us)
flat_before [] f d = d
flat_before (x ∷ xs) f d = flat x f.0 (flat_before xs f.1 d)

pub flat_nests : (ts : List Item) → AreFlat ts → Nests Whole ts
flat_nests ts f = subst (Nests Whole) (append-nil ts) (flat_before ts f no_item)

-- ---- what is flat

flat_both : (ts us : List Item) → AreFlat ts → AreFlat us → AreFlat (ts ++ us)
flat_both [] us f g = g
flat_both (x ∷ xs) us f g = (f.0, flat_both xs us f.1 g)

prefix_flat : (u : Prefix) → is_flat (prefix_sign u) ≡ true
prefix_flat Positive = refl
prefix_flat Negative = refl
prefix_flat Inverse = refl

expr_flat : {k : ℕ} {ts : List Item} {e : Term} → Expresses k ts e → AreFlat ts
expr_flat (number p n) = (refl, tt)
expr_flat (name p v) = (refl, tt)
expr_flat (group p q {ts} s) = (refl, flat_both ts (at q signs.Close ∷ []) (expr_flat s) (refl, tt))
expr_flat (prefix p u s) = (prefix_flat u, expr_flat s)
expr_flat (loose s) = expr_flat s
expr_flat (binary p op {ts} {us} s t) = flat_both ts (at p (signs.Oper op) ∷ us) (expr_flat s) (refl, expr_flat t)

update_flat : (u : Update) → is_flat (update_sign u) ≡ true
update_flat Sum = refl
update_flat Difference = refl
update_flat Product = refl
update_flat Quotient = refl
update_flat Remainder = refl

count_flat : (u : Count) → is_flat (count_sign u) ≡ true
count_flat Raise = refl
count_flat Lower = refl

function_flat : {f : Sign} → Callable f → is_flat f ≡ true
function_flat of_input = refl
function_flat (of_function k) = refl

change_flat : {ts : List Item} {c : Code} → Changes ts c → AreFlat ts
change_flat (assignment p q x e) = (refl, (refl, expr_flat e))
change_flat (input_taken p q r s t x g) = (refl, (refl, (function_flat g, (refl, (refl, tt)))))
change_flat (compound_assignment p q x u e) = (refl, (update_flat u, expr_flat e))
change_flat (count_behind p q x u) = (refl, (count_flat u, tt))
change_flat (count_before p q x u) = (count_flat u, (refl, tt))

clause_flat : {ts : List Item} {c : Code} → Clause ts c → AreFlat ts
clause_flat no_clause = tt
clause_flat (clause d) = change_flat d

tests_flat : {us : List Item} {t : Place} {e : Term} → Tests us t e → AreFlat us
tests_flat (no_test s) = (refl, tt)
tests_flat (test s {x} {ts} e) = flat_both (x ∷ ts) (at s signs.Semicolon ∷ []) (expr_flat e) (refl, tt)

optional_flat : {s : Sign} {us : List Item} → is_flat s ≡ true → Optional s us → AreFlat us
optional_flat f (absent s) = tt
optional_flat f (present p s) = (f, tt)

type_flat : {us : List Item} → Typed us → AreFlat us
type_flat (int p) = (refl, tt)
type_flat (int32 p) = (refl, tt)
type_flat (signed p) = (refl, tt)
type_flat (signed_int p q) = (refl, (refl, tt))
type_flat (int_signed p q) = (refl, (refl, tt))

qualified_flat : {us : List Item} {kind : Qualifier} → Qualified kind us → AreFlat us
qualified_flat (unqualified y) = type_flat y
qualified_flat (const_before p y) = (refl, type_flat y)
qualified_flat (const_behind p {us} y) = flat_both us (at p signs.Const ∷ []) (type_flat y) (refl, tt)

local_flat : {ts : List Item} {c : Code} {kind : Qualifier} → LocalDeclarator kind ts c → AreFlat ts
local_flat (uninitialised p x) = (refl, tt)
local_flat (initialised p q x e) = (refl, (refl, expr_flat e))
local_flat (from_call p q r s t x g) = (refl, (refl, (function_flat g, (refl, (refl, tt)))))

declarator_flat : {us : List Item} {x : ℕ} {n : ℤ} {kind : Qualifier} → Declarator kind us x n → AreFlat us
declarator_flat (bare p x) = (refl, tt)
declarator_flat (positive p q r x n) = (refl, (refl, (refl, tt)))
declarator_flat (negative p q r s x n) = (refl, (refl, (refl, (refl, tt))))
declarator_flat (counted p x last lt) = (refl, tt)

definition_flat : {us : List Item} {x : ℕ} {n : ℤ} → Defines us x n → AreFlat us
definition_flat (defined p q r x n) = (refl, (refl, (refl, tt)))
definition_flat (negative_defined p q r s x n) = (refl, (refl, (refl, (refl, tt))))
definition_flat (enclosed p q r s t x n) = (refl, (refl, (refl, (refl, (refl, tt)))))
definition_flat (negative_enclosed p q r s t u x n) = (refl, (refl, (refl, (refl, (refl, (refl, tt))))))

-- ---- declarations

-- declarators up to the brace of an `enum`, and that brace with its semicolon
pub record ClosesEnum (vs : List Item) : Type 0 where
  pub ts : List Item
  pub p : Place
  pub q : Place
  pub is : vs ≡ ts ++ at p signs.RightBrace ∷ at q signs.Semicolon ∷ []
  pub are_flat : AreFlat ts

abbrev VarsNest : Qualifier → List Item → Type 0
VarsNest Unqualified vs = AreFlat vs
VarsNest Constant vs = AreFlat vs
VarsNest (Counted last) vs = ClosesEnum vs

ending_nests : {kind : Qualifier} {us : List Item} → Ending kind us → VarsNest kind us
ending_nests (variables_end p) = (refl, tt)
ending_nests (constants_end p) = (refl, tt)
ending_nests (enumeration_end last p q) = record { ts = []; p = p; q = q; is = refl; are_flat = tt }
ending_nests (comma_end last p q r) = record { ts = at p signs.Comma ∷ []; p = q; q = r; is = refl; are_flat = (refl, tt) }

-- what is flat, before the rest of the declarators
more_closes : (us vs : List Item) → AreFlat us → ClosesEnum vs → ClosesEnum (us ++ vs)
more_closes us vs f e = record {
  ts = us ++ e.ts;
  p = e.p;
  q = e.q;
  is = rw e.is (sym (append_assoc us e.ts (at e.p signs.RightBrace ∷ at e.q signs.Semicolon ∷ [])));
  are_flat = flat_both us e.ts f e.are_flat;
}

more_vars : (kind : Qualifier) (us vs : List Item) → AreFlat us → VarsNest kind vs → VarsNest kind (us ++ vs)
more_vars Unqualified us vs f e = flat_both us vs f e
more_vars Constant us vs f e = flat_both us vs f e
more_vars (Counted last) us vs f e = more_closes us vs f e

next_vars : (kind : Qualifier) (n : ℤ) (p : Place) (vs : List Item) → VarsNest (behind kind n) vs → VarsNest kind (at p signs.Comma ∷ vs)
next_vars Unqualified n p vs e = (refl, e)
next_vars Constant n p vs e = (refl, e)
next_vars (Counted last) n p vs e = more_closes (at p signs.Comma ∷ []) vs (refl, tt) e

-- declarators behind a type
typed_vars : {kind : Qualifier} {us : List Item} (vs : List Item) → Qualified kind us → VarsNest kind vs → AreFlat vs
typed_vars vs (unqualified y) e = e
typed_vars vs (const_before p y) e = e
typed_vars vs (const_behind p y) e = e

-- a declaration, and what follows it
begun_nests : {s : Sign} {kind : Qualifier} {us ws : List Item} (vs : List Item) → is_flat s ≡ true → Begins s kind us → VarsNest kind vs → Nests Whole ws → Nests Whole (us ++ (vs ++ ws))
begun_nests vs f (only_type s {us} y) v d = flat_before us (qualified_flat y) (flat_before vs (typed_vars vs y v) d)
begun_nests vs f (then_type p s {us} y) v d = flat _ f (flat_before us (qualified_flat y) (flat_before vs (typed_vars vs y v) d))
begun_nests {ws} vs f (enumeration p q s) v d =
    let re : vs ++ ws ≡ v.ts ++ at v.p signs.RightBrace ∷ at v.q signs.Semicolon ∷ ws = rw v.is (append_assoc v.ts (at v.p signs.RightBrace ∷ at v.q signs.Semicolon ∷ []) ws) in
    flat _ refl (subst (λ t. Nests Whole (at q signs.LeftBrace ∷ t)) (sym re) (braces q v.p (flat_nests v.ts v.are_flat) (flat _ refl d)))

-- what a prototype begins with
extern_before : {us ws : List Item} → Begins signs.Extern Unqualified us → Nests Whole ws → Nests Whole (us ++ ws)
extern_before (only_type s {us} y) d = flat_before us (qualified_flat y) d
extern_before (then_type p s {us} y) d = flat _ refl (flat_before us (qualified_flat y) d)

abbrev PartNests : Part → List Item → Type 0
PartNests (Outer gs) ts = Nests Whole ts
PartNests (Vars kind gs) ts = VarsNest kind ts
PartNests (Later gs) ts = Nests Rest ts

pub declared_nests : {part : Part} {ts : List Item} {ds : List Declared} → Declares part ts ds → PartNests part ts
declared_nests (nothing gs) = no_item
declared_nests (variables gs {vs} o v d) = begun_nests vs refl o (declared_nests v) (declared_nests d)
declared_nests (prototype q r s t gs {vs} o g v d) =
    extern_before o (flat _ (function_flat g) (flat _ refl (flat_before vs (optional_flat refl v) (flat _ refl (flat _ refl (declared_nests d))))))
declared_nests (void_prototype p q r s t k gs {us} {vs} o v d) =
    flat_before us (optional_flat refl o) (flat _ refl (flat _ refl (flat _ refl (flat_before vs (optional_flat refl v) (flat _ refl (flat _ refl (declared_nests d)))))))
declared_nests (definition gs {us} o d) = flat_before us (definition_flat o) (declared_nests d)
declared_nests (section p n gs a b d) = parts p n (declared_nests a) (declared_nests b) (declared_nests d)
declared_nests (last_var gs {us} {vs} {kind} d o) = more_vars kind us vs (declarator_flat d) (ending_nests o)
declared_nests (next_var p gs {us} {vs} {n} {kind} d v) = more_vars kind us (at p signs.Comma ∷ vs) (declarator_flat d) (next_vars kind n p vs (declared_nests v))
declared_nests (end_part p gs) = last_end p
declared_nests (else_part p q gs d) = last_part p q (declared_nests d)
declared_nests (elif_part p n gs a b) = next_part p n (declared_nests a) (declared_nests b)

-- ---- statements

abbrev pub ShapeNests : Shape → List Item → Type 0
ShapeNests (Listed i) ts = Nests Whole ts
ShapeNests (Stated i b) ts = Nests Whole ts
ShapeNests (Chained i) ts = Nests Rest ts
ShapeNests (Locals kind) ts = AreFlat ts

-- an expression behind an open parenthesis and what stands behind it
closed : {ts : List Item} {e : Term} (s : Expresses 6 ts e) {us : List Item} → Nests Whole us → Nests Whole (ts ++ us)
closed {ts} s d = flat_before ts (expr_flat s) d

pub code_nests : {s : Shape} {ts : List Item} {c : Code} → Writes s ts c → ShapeNests s ts
code_nests none = no_item
code_nests (more s l) = nests_both (code_nests s) (code_nests l)
code_nests (choice p n s t l) = parts p n (code_nests s) (code_nests t) (code_nests l)
code_nests (local {ts} {us} {vs} q v l) = flat_before ts (qualified_flat q) (flat_before us (code_nests v) (code_nests l))
code_nests (static_local p {ts} {us} q v l) = flat _ refl (flat_before ts (qualified_flat q) (flat_before us (typed_vars us q (declared_nests v)) (code_nests l)))
code_nests (last_local p {ts} d) = flat_both ts (at p signs.Semicolon ∷ []) (local_flat d) (refl, tt)
code_nests (next_local p {ts} {us} d v) = flat_both ts (at p signs.Comma ∷ us) (local_flat d) (refl, code_nests v)
code_nests (ends p) = last_end p
code_nests (otherwise p q s) = last_part p q (code_nests s)
code_nests (elif p n s t) = next_part p n (code_nests s) (code_nests t)
code_nests (change r {ts} d) = flat_before ts (change_flat d) (flat _ refl no_item)
code_nests (call p q r s g) = flat _ (function_flat g) (flat _ refl (flat _ refl (flat _ refl no_item)))
code_nests (void_call p q r s t u v g) = flat _ refl (flat _ refl (flat _ refl (flat _ (function_flat g) (flat _ refl (flat _ refl (flat _ refl no_item))))))
code_nests (assert p q r s e) = flat _ refl (flat _ refl (closed e (flat _ refl (flat _ refl no_item))))
code_nests (skip p) = flat _ refl no_item
code_nests (block p q s) = braces p q (code_nests s) no_item
code_nests (while p q r e s) = flat _ refl (flat _ refl (closed e (flat _ refl (code_nests s))))
code_nests (for p q r z {b} {ts} {us} {vs} {ws} a t d s) =
    flat _ refl (flat _ refl (flat_before ts (clause_flat a) (flat _ refl (flat_before us (tests_flat t) (flat_before vs (clause_flat d) (flat _ refl (code_nests s)))))))
code_nests (declaring_for p q z {b} {ts} {ds} {us} {vs} {ws} g l t d s) =
    flat _ refl (flat _ refl (flat_before ts (qualified_flat g) (flat_before ds (code_nests l) (flat_before us (tests_flat t) (flat_before vs (clause_flat d) (flat _ refl (code_nests s)))))))
code_nests (if_then p q r e s) = flat _ refl (flat _ refl (closed e (flat _ refl (code_nests s))))
code_nests (if_else p q r z e s t) = flat _ refl (flat _ refl (closed e (flat _ refl (nests_both (code_nests s) (flat _ refl (code_nests t))))))
code_nests (do_while p q r s t l e) = flat _ refl (nests_both (code_nests l) (flat _ refl (flat _ refl (closed e (flat _ refl (flat _ refl no_item))))))
code_nests (break p q) = flat _ refl (flat _ refl no_item)
code_nests (continue p q) = flat _ refl (flat _ refl no_item)
code_nests (return p q e) = flat _ refl (closed e (flat _ refl no_item))

-- ---- files

abbrev GapNests : Gap → List Item → Type 0
GapNests Gaps ts = Nests Whole ts
GapNests GapRest ts = Nests Rest ts

pub gap_nests : {s : Gap} {ts : List Item} → Empty s ts → GapNests s ts
gap_nests no_more = no_item
gap_nests (empty_section p n a b d) = parts p n (gap_nests a) (gap_nests b) (gap_nests d)
gap_nests (empty_end p) = last_end p
gap_nests (empty_else p q a) = last_part p q (gap_nests a)
gap_nests (empty_elif p n a b) = next_part p n (gap_nests a) (gap_nests b)

-- what is in the braces of `main`, its brace and what follows, behind its first brace
pub body_nests : {ts : List Item} {c : Code} {p : Place} (t : Place) → Body ts c p → Nests Whole (at t signs.LeftBrace ∷ ts)
body_nests t (body p s e) = braces t p (code_nests s) (gap_nests e)

pub main_nests : {ts : List Item} {c : Code} {p : Place} → Main ts c p → Nests Whole ts
main_nests (main q r s t u {ts} {us} {vs} y o b) =
    flat_before ts (type_flat y) (flat _ refl (flat _ refl (flat_before us (optional_flat refl o) (flat _ refl (body_nests t b)))))

-- so it is in a file
pub file_nests : {items : List Item} {f : File} → Forms items f → Nests Whole items
file_nests (file d m) = nests_both (declared_nests d) (main_nests m)
