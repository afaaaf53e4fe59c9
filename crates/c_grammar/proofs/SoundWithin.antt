-- What is read within the limits is spelled within them: expressions and statements. The text is spelled as it is
-- without limits, and each item at which more is open shows that there is room for it.
use Rattle.std.proofs.Common.{◌≡◌, ℕ, zero, suc, ◌+◌, ◌≤◌, Bool, true, false, ◌&&◌, List, [], ◌∷◌, ◌++◌, length, Option, Some, None, Result, Ok, refl, sym, ap, subst, ◌∙◌, append_assoc, arith}
use Rattle.std.specs.Prelude.{nat_le}
use Rattle.std.proofs.lemmas.Bool.{leb-false, or_parts}
use Rattle.fam_outer.specs.declared.faults.Place.{Place}
use Rattle.c_tree.specs.Tree.{Term, Code, Done, If, While, Do, Block, Cond, followed}
use Rattle.c_grammar.specs.declared.items.Sign.TheVariants as signs
use Rattle.c_grammar.specs.declared.items.Item.{Item}
use Rattle.c_grammar.specs.Ahead.{IsLooser, Loose, IsList, NoElse}
use Rattle.c_grammar.specs.Grammar.{at, tighter, Prefix, Positive, Negative, Inverse, prefix_sign, Expresses, number, name, group, prefix, loose, binary, update_sign, Changes, Clause, Tests, Qualifier, LocalDeclarator, Shape, Listed, Stated, Chained, Locals, Writes, File}
use Rattle.c_grammar.specs.Grammar as plain
use Rattle.c_grammar.specs.Machine.{Frame, Paren, Pre, Left, room, Stack, Braces, Yes, No, ThenOf, ElseOf, LoopOf, DoOf, Start, ChangeStart, DeclaredStart, Scope, ListScope, ForScope, Site, AsStatement, AsStart, AsStep, Use, ToAssign, ToInitialise, ToUpdate, ToAssert, ToChoose, ToLoop, ToRepeat, ToRedo, ToReturn, ReadingState, Ready, NextLocal, Ended, Wants, Has, Named, Opens, StartComes, TestComes, StepComes, is_in_loop, folded, with_declarator, initialising, step}
use Rattle.c_grammar.specs.Deep.{depth, opens_more, around, counted, is_deep, is_nested, is_long, Fault, went, guarded}
use Rattle.c_grammar.specs.Within.{operators_in, more_by, Full, ChangesWithin, assignment, input_taken, compound_assignment, count_behind, count_before, ClauseWithin, no_clause, clause, TestsWithin, no_test, test, LocalWithin, uninitialised, initialised, from_call, WritesIn, none, more, choice, local, static_local, last_local, next_local, ends, otherwise, elif, change, call, void_call, assert, skip, block, while, for, declaring_for, if_then, if_else, do_while, break, continue, return}
use Rattle.c_grammar.proofs.CompleteExpressions.{looser, settled}
use Rattle.c_grammar.proofs.StatementEnds.{Free, free_of, no_else, chain_no_else}
use Rattle.c_grammar.proofs.CompleteChanges.{comes, expr_no_semicolon}
use Rattle.c_grammar.proofs.CompleteDeclarations.{locals_named}
use Rattle.c_grammar.proofs.Folding.{folded-list, folded-inside, IsScope, declared-scope, declared-kind}
use Rattle.c_grammar.proofs.CompleteWithin.{takes, prefix_takes, prefix_more, operators_both, expresses_within}
use Rattle.c_grammar.proofs.TokensWithin.{token, opens_in, group_in, folds_in, depth_folded, full_in, last_token, updates_in, named_in, last_sign, start_in, step_in, tests_begin, tests_in, head_in, for_in}
use Rattle.c_grammar.proofs.DeclarationsWithin.{list_opens_in, for_opens_in, qualified_in, initialiser_in, next_in, static_in}
use Rattle.c_grammar.proofs.StatesWithin.{body_in, redo_begins, return_in, accepted_in}

-- ---- an item that is read

never_deep : (o : Option ReadingState) (go : ReadingState → Result File Fault) (n : ℕ) (f : File) → went o true go n ≡ Ok f → ⊥
never_deep None go n f h = absurd cc
never_deep (Some state) go n f h = absurd cc

not_deep : (state : ReadingState) (n : ℕ) (x : Item) (w : List Item) (f : File) → guarded state n (x ∷ w) ≡ Ok f → is_deep state x.sign n ≡ false
unfolding guarded
not_deep state n x w f h =
    let go : ReadingState → Result File Fault = λ next. guarded next (counted state x.sign n) w in
    elim (is_deep state x.sign n) as (λ d. went (step state x.place x.sign) d go (suc (length w)) ≡ Ok f → d ≡ false) [
      | true ↦ λ e. absurd (never_deep (step state x.place x.sign) go (suc (length w)) f e)
      | false ↦ λ e. refl
    ] h

and_right : (a b : Bool) → a ≡ true → (a && b) ≡ false → b ≡ false
and_right true b e h = h
and_right false b e h = absurd cc

-- one that opens more has fewer than 64 around it
pub opens_few : (state : ReadingState) (n : ℕ) (x : Item) (w : List Item) (f : File) → opens_more x.sign ≡ true → guarded state n (x ∷ w) ≡ Ok f → suc (around state) ≤ 64
opens_few state n x w f o h =
    let d = (or_parts (is_nested state x.sign) (is_long state x.sign n) (not_deep state n x w f h)).0 in
    let e : nat_le 64 (around state) ≡ false = and_right (opens_more x.sign) (nat_le 64 (around state)) o d in
    leb-false 64 (around state) e

-- there are at most 64 operators with it
pub not_long : (state : ReadingState) (n m : ℕ) (x : Item) (w : List Item) (f : File) → counted state x.sign n ≡ m → guarded state n (x ∷ w) ≡ Ok f → m ≤ 64
not_long state n m x w f c h =
    let d = (or_parts (is_nested state x.sign) (is_long state x.sign n) (not_deep state n x w f h)).1 in
    let lt = leb-false 65 (counted state x.sign n) d in
    omega (arith, lt, c)

-- ---- expressions

prefix_counts : (u : Prefix) (fs : List Frame) (v : Use) (n : ℕ) → counted (Wants fs v) (prefix_sign u) n ≡ suc n
prefix_counts Positive fs v n = refl
prefix_counts Negative fs v n = refl
prefix_counts Inverse fs v n = refl

short_of : {k : ℕ} {ts : List Item} {e : Term} → Expresses k ts e → (fs : List Frame) (v : Use) → k ≤ room fs → (n : ℕ) → n ≤ 64 → (w : List Item) (f : File) → Loose k w → guarded (Wants fs v) n (ts ++ w) ≡ Ok f → operators_in ts + n ≤ 64
short_of (number p z) fs v le n small w f l h = let e : 0 + n ≤ 64 = omega (arith, small) in e
short_of (name p x) fs v le n small w f l h = let e : 0 + n ≤ 64 = omega (arith, small) in e
short_of (group p q {ts} {e} s) fs v le n small w f l h =
    let one : suc n ≤ 64 = not_long (Wants fs v) n (suc n) (at p signs.Open) ((ts ++ at q signs.Close ∷ []) ++ w) f refl h in
    let next = takes (Wants fs v) (Wants (Paren ∷ fs) v) p signs.Open n (suc n) ((ts ++ at q signs.Close ∷ []) ++ w) refl refl refl one ∙ ap (guarded (Wants (Paren ∷ fs) v) (suc n)) (append_assoc ts (at q signs.Close ∷ []) w) in
    let c = short_of s (Paren ∷ fs) v (omega arith) (suc n) one (at q signs.Close ∷ w) f tt (sym next ∙ h) in
    let d : operators_in (ts ++ at q signs.Close ∷ []) ≡ operators_in ts + 0 = operators_both ts (at q signs.Close ∷ []) in
    let made : suc (operators_in (ts ++ at q signs.Close ∷ [])) + n ≤ 64 = omega (arith, c, d) in
    made
short_of (prefix p u {ts} {e} s) fs v le n small w f l h =
    let one = not_long (Wants fs v) n (suc n) (at p (prefix_sign u)) (ts ++ w) f (prefix_counts u fs v n) h in
    let c = short_of s (Pre u ∷ fs) v (omega arith) (suc n) one w f (looser 0 0 w (omega arith) l) (sym (prefix_takes u p fs v n (ts ++ w) one) ∙ h) in
    let d = prefix_more u (operators_in ts) in
    let made : more_by (prefix_sign u) (operators_in ts) + n ≤ 64 = omega (arith, c, d) in
    made
short_of (loose {k} s) fs v le n small w f l h = short_of s fs v (omega arith) n small w f (looser k (suc k) w (omega arith) l) h
short_of (binary p op {ts} {us} {a} {b} s t) fs v le n small w f l h =
    let m : ℕ = operators_in ts + n in
    let h1 = sym (ap (guarded (Wants fs v) n) (append_assoc ts (at p (signs.Oper op) ∷ us) w)) ∙ h in
    let c : operators_in ts + n ≤ 64 = short_of s fs v le n small (at p (signs.Oper op) ∷ (us ++ w)) f (omega arith) h1 in
    let h2 = sym (expresses_within s fs v le n (operators_in ts + n) refl c (at p (signs.Oper op) ∷ (us ++ w)) (omega arith)) ∙ h1 in
    let one : suc (operators_in ts + n) ≤ 64 = not_long (Has fs v a) (operators_in ts + n) (suc (operators_in ts + n)) (at p (signs.Oper op)) (us ++ w) f refl h2 in
    let next = takes (Has fs v a) (Wants (Left op a ∷ fs) v) p (signs.Oper op) (operators_in ts + n) (suc (operators_in ts + n)) (us ++ w) (ap (λ (y : List Frame × Term). Some (Wants (Left op y.1 ∷ y.0) v)) (settled (tighter op) fs a le)) refl refl one in
    let d = short_of t (Left op a ∷ fs) v (omega arith) (suc (operators_in ts + n)) one w f (looser (tighter op) (suc (tighter op)) w (omega arith) l) (sym next ∙ h2) in
    let both : operators_in (ts ++ at p (signs.Oper op) ∷ us) ≡ operators_in ts + suc (operators_in us) = operators_both ts (at p (signs.Oper op) ∷ us) in
    omega (arith, d, both)

full_back : {ts : List Item} {e : Term} → Expresses 6 ts e → (u : Use) (x : Item) (us w : List Item) (f : File) → IsLooser 6 x.sign → guarded (Wants [] u) 0 ((ts ++ x ∷ us) ++ w) ≡ Ok f → Full ts e
full_back {ts} {e} s u x us w f l h =
    let r = short_of s [] u (omega arith) 0 (omega arith) (x ∷ (us ++ w)) f l (sym (ap (guarded (Wants [] u) 0) (append_assoc ts (x ∷ us) w)) ∙ h) in
    record { expresses = s; short = omega (arith, r) }

then_back : {ts : List Item} {e : Term} → Expresses 6 ts e → (u : Use) (x : Item) (w : List Item) (f : File) → IsLooser 6 x.sign → guarded (Wants [] u) 0 (ts ++ x ∷ w) ≡ Ok f → Full ts e
then_back {ts} {e} s u x w f l h = let r = short_of s [] u (omega arith) 0 (omega arith) (x ∷ w) f l h in record { expresses = s; short = omega (arith, r) }

-- ---- changes, and what stands in the parentheses of a `for`

last_looser : (site : Site) → IsLooser 6 (last_sign site)
last_looser (AsStatement outer) = tt
last_looser (AsStart outer) = tt
last_looser (AsStep start p e outer) = tt

change_back : {ts : List Item} {c : Code} → Changes ts c → (site : Site) (m : ℕ) (z o : Place) (w : List Item) (f : File) → guarded (comes o site) m (ts ++ at z (last_sign site) ∷ w) ≡ Ok f → ChangesWithin ts c
change_back (plain.assignment p q x {ts} s) site m z o w f h =
    let begins =
    named_in o p x site m (at q signs.Equals ∷ (ts ++ at z (last_sign site) ∷ w))
    ∙ token (Named p x site) (Wants [] (ToAssign p x site)) q signs.Equals 0 (ts ++ at z (last_sign site) ∷ w) refl refl refl in
    assignment p q x (then_back s (ToAssign p x site) (at z (last_sign site)) w f (last_looser site) (sym begins ∙ h))
change_back (plain.input_taken p q r s t x g) site m z o w f h = input_taken p q r s t x g
change_back (plain.compound_assignment p q x u {ts} s) site m z o w f h =
    let begins = named_in o p x site m (at q (update_sign u) ∷ (ts ++ at z (last_sign site) ∷ w)) ∙ updates_in p q x u site (ts ++ at z (last_sign site) ∷ w) in
    compound_assignment p q x u (then_back s (ToUpdate p x u site) (at z (last_sign site)) w f (last_looser site) (sym begins ∙ h))
change_back (plain.count_behind p q x u) site m z o w f h = count_behind p q x u
change_back (plain.count_before p q x u) site m z o w f h = count_before p q x u

start_back : {ts : List Item} {c : Code} → Clause ts c → (p : Place) (outer : Stack) (r : Place) (w : List Item) (f : File) → guarded (StartComes p outer) 0 (ts ++ at r signs.Semicolon ∷ w) ≡ Ok f → ClauseWithin ts c
start_back plain.no_clause p outer r w f h = no_clause
start_back (plain.clause s) p outer r w f h = clause (change_back s (AsStart outer) 0 r p w f h)

step_back : {vs : List Item} {d : Code} → Clause vs d → (start : Start) (p : Place) (e : Term) (outer : Stack) (z : Place) (w : List Item) (f : File) → guarded (StepComes start p e outer) 0 (vs ++ at z signs.Close ∷ w) ≡ Ok f → ClauseWithin vs d
step_back plain.no_clause start p e outer z w f h = no_clause
step_back (plain.clause s) start p e outer z w f h = clause (change_back s (AsStep start p e outer) 0 z p w f h)

tests_back : {us : List Item} {t : Place} {e : Term} → Tests us t e → (start : Start) (outer : Stack) (w : List Item) (f : File) → guarded (TestComes start outer) 0 (us ++ w) ≡ Ok f → TestsWithin us t e
tests_back (plain.no_test s) start outer w f h = no_test s
tests_back (plain.test s {x} {ts} e) start outer w f h =
    let begins = tests_begin start outer x ((ts ++ at s signs.Semicolon ∷ []) ++ w) (expr_no_semicolon e []) in
    test s (full_back e (ToRepeat start x.place outer) (at s signs.Semicolon) [] w f tt (sym begins ∙ h))

-- ---- statements

pub room_for : (k d : ℕ) → k + d ≡ 64 → suc d ≤ 64 → (j : ℕ) × (k ≡ suc j)
room_for zero d e h = let bad : ⊥ = omega (arith, e, h) in absurd bad
room_for (suc j) d e h = (j, refl)

abbrev pub GoalBack : Shape → List Item → Code → Type 0
GoalBack (Listed i) ts c = (k : ℕ) (outer : Stack) → IsList outer → is_in_loop outer ≡ i → k + depth outer ≡ 64 → (n : ℕ) (w : List Item) (f : File) → NoElse w → guarded (Ready outer) n (ts ++ w) ≡ Ok f → WritesIn k (Listed i) ts c
GoalBack (Stated i b) ts c = (k : ℕ) (outer : Stack) → is_in_loop outer ≡ i → k + depth outer ≡ 64 → (n : ℕ) (w : List Item) (f : File) → Free b w → guarded (Ready outer) n (ts ++ w) ≡ Ok f → WritesIn k (Stated i b) ts c
GoalBack (Locals held) ts c = (k : ℕ) (scope : Scope) (kind : Qualifier) → IsScope scope → initialising scope kind ≡ held → (w : List Item) (f : File) → guarded (NextLocal kind scope) 0 (ts ++ w) ≡ Ok f → WritesIn k (Locals held) ts c
GoalBack (Chained i) ts d = (k : ℕ) (links : List (ℕ × Code)) (n : ℕ) (c : Code) (outer : Stack) → is_in_loop outer ≡ i → k + (suc (length links) + depth outer) ≡ 64 → (m : ℕ) (w : List Item) (f : File) → guarded (Ready (Yes links n c outer)) m (ts ++ w) ≡ Ok f → WritesIn k (Chained i) ts d

-- a declarator in `main` and what ends it
local_back : {held : Qualifier} {ts : List Item} {c : Code} → LocalDeclarator held ts c → (scope : Scope) (kind : Qualifier) → initialising scope kind ≡ held → (y : Item) (us w : List Item) (f : File) → IsLooser 6 y.sign → guarded (NextLocal kind scope) 0 ((ts ++ y ∷ us) ++ w) ≡ Ok f → LocalWithin held ts c
local_back (plain.uninitialised p x) scope kind is y us w f l h = uninitialised p x
local_back (plain.initialised p q x {kind = held} {ts} s) scope kind is y us w f l h =
    initialised p q x (full_back s (ToInitialise held p x scope) y us w f l (sym (initialiser_in scope kind held is p q x ((ts ++ y ∷ us) ++ w)) ∙ h))
local_back (plain.from_call p q r s t x g) scope kind is y us w f l h = from_call p q r s t x g

pub writes_back : {s : Shape} {ts : List Item} {c : Code} → Writes s ts c → GoalBack s ts c
writes_back plain.none = λ k outer is inside e m w f fr h. none
writes_back (plain.more {b} {ts} {us} {c} {d} s l) = λ k outer is inside e m w f fr h.
    let n = no_else l w fr in
    let h1 = sym (ap (guarded (Ready outer) m) (append_assoc ts us w)) ∙ h in
    let first = writes_back s k outer inside e m (us ++ w) f (free_of b (us ++ w) n) h1 in
    let h2 = sym (accepted_in first outer inside (omega (arith, e)) m (us ++ w) (free_of b (us ++ w) n) ∙ folds_in outer c 0 (us ++ w) is n) ∙ h1 in
    more first (writes_back l k (folded outer c) (folded-list outer c is) (folded-inside outer c ∙ inside) (omega (arith, e, depth_folded outer c is)) 0 w f fr h2)
writes_back (plain.choice p n {ts} {us} {vs} {c} {d} {e = g} {i} s t l) = λ k outer is inside e m w f fr h.
    let r = no_else l w fr in
    let le : suc (depth outer) ≤ 64 = opens_few (Ready outer) m (at p (signs.GroupIf n)) ((ts ++ (us ++ vs)) ++ w) f refl h in
    let j = room_for k (depth outer) e le in
    let one : j.0 + (suc 0 + depth outer) ≡ 64 = omega (arith, e, j.1) in
    let within : j.0 + (suc 0 + depth outer) ≤ 64 = omega (arith, one) in
    let made : Code = Cond n c d Done in
    let begins =
    ap (λ (x : List Item). guarded (Ready outer) m (at p (signs.GroupIf n) ∷ x)) (append_assoc ts (us ++ vs) w ∙ ap (λ (x : List Item). ts ++ x) (append_assoc us vs w))
    ∙ group_in p n outer m (ts ++ (us ++ (vs ++ w))) is le in
    let h1 = sym begins ∙ h in
    let first = writes_back s j.0 (Yes [] n Done outer) tt inside one 0 (us ++ (vs ++ w)) f (no_else t (vs ++ w) r) h1 in
    let h2 = sym (accepted_in first (Yes [] n Done outer) tt inside within 0 (us ++ (vs ++ w)) (no_else t (vs ++ w) r)) ∙ h1 in
    let second = writes_back t j.0 [] n c outer inside one 0 (vs ++ w) f h2 in
    let h3 = sym (accepted_in second [] n c outer inside within 0 (vs ++ w) ∙ folds_in outer made 0 (vs ++ w) is r) ∙ h2 in
    let third = writes_back l k (folded outer made) (folded-list outer made is) (folded-inside outer made ∙ inside) (omega (arith, e, depth_folded outer made is)) 0 w f fr h3 in
    subst (λ (y : ℕ). WritesIn y (Listed i) (at p (signs.GroupIf n) ∷ (ts ++ (us ++ vs))) (Cond n c d g)) (sym j.1) (choice p n first second (subst (λ (y : ℕ). WritesIn y (Listed i) vs g) j.1 third))
writes_back (plain.local {ts} {us} {vs} {c} {d} {kind} g s l) = λ k outer is inside e m w f fr h.
    let begins =
    ap (guarded (Ready outer) m) (append_assoc ts (us ++ vs) w ∙ ap (λ (x : List Item). ts ++ x) (append_assoc us vs w))
    ∙ qualified_in g (ListScope outer) (list_opens_in outer is) m (us ++ (vs ++ w)) (locals_named s (vs ++ w)) in
    let h1 = sym begins ∙ h in
    let first = writes_back s k (ListScope outer) kind is refl (vs ++ w) f h1 in
    let h2 = sym (accepted_in first (ListScope outer) kind is refl (vs ++ w)) ∙ h1 in
    local g first (writes_back l k (folded outer c) (folded-list outer c is) (folded-inside outer c ∙ inside) (omega (arith, e, depth_folded outer c is)) 0 w f fr h2)
writes_back (plain.static_local p {vs = vs} q v l) = λ k outer is inside e m w f fr h. static_local p q v (writes_back l k outer is inside e 0 w f fr (sym (static_in p q v outer is m vs w) ∙ h))
writes_back (plain.last_local p s) = λ k scope kind is held w f h. last_local p (local_back s scope kind held (at p signs.Semicolon) [] w f tt h)
writes_back (plain.next_local p {ts} {us} {c} {d} {kind = own} s l) = λ k scope kind is held w f h.
    let first = local_back s scope kind held (at p signs.Comma) us w f tt h in
    next_local p first (writes_back l k (with_declarator scope c) own (declared-scope scope c is) (declared-kind scope c kind own held) w f (sym (next_in first scope kind held p us w) ∙ h))
writes_back (plain.ends p) = λ k links n c outer inside e m w f h. ends p
writes_back (plain.otherwise p q {ts} {c} s) = λ k links n a outer inside e m w f h.
    let begins =
    token (Ready (Yes links n a outer)) (Ready (No links n a Done outer)) p signs.GroupElse m ((ts ++ at q signs.GroupEnd ∷ []) ++ w) refl refl refl
    ∙ ap (guarded (Ready (No links n a Done outer)) 0) (append_assoc ts (at q signs.GroupEnd ∷ []) w) in
    otherwise p q (writes_back s k (No links n a Done outer) tt inside e 0 (at q signs.GroupEnd ∷ w) f tt (sym begins ∙ h))
writes_back (plain.elif p i {ts} {us} {c} {d} {i = l} s t) = λ k links n a outer inside e m w f h.
    let le : suc (suc (length links) + depth outer) ≤ 64 = opens_few (Ready (Yes links n a outer)) m (at p (signs.GroupElif i)) ((ts ++ us) ++ w) f refl h in
    let j = room_for k (suc (length links) + depth outer) e le in
    let one : j.0 + (suc (suc (length links)) + depth outer) ≡ 64 = omega (arith, e, j.1) in
    let within : j.0 + (suc (suc (length links)) + depth outer) ≤ 64 = omega (arith, one) in
    let begins =
    opens_in (Ready (Yes links n a outer)) (Ready (Yes ((n, a) ∷ links) i Done outer)) p (signs.GroupElif i) m ((ts ++ us) ++ w) refl refl le
    ∙ ap (guarded (Ready (Yes ((n, a) ∷ links) i Done outer)) 0) (append_assoc ts us w) in
    let h1 = sym begins ∙ h in
    let first = writes_back s j.0 (Yes ((n, a) ∷ links) i Done outer) tt inside one 0 (us ++ w) f (chain_no_else t w) h1 in
    let h2 = sym (accepted_in first (Yes ((n, a) ∷ links) i Done outer) tt inside within 0 (us ++ w) (chain_no_else t w)) ∙ h1 in
    let second = writes_back t j.0 ((n, a) ∷ links) i c outer inside one 0 w f h2 in
    subst (λ (y : ℕ). WritesIn y (Chained l) (at p (signs.GroupElif i) ∷ (ts ++ us)) (Cond i c d Done)) (sym j.1) (elif p i first second)
writes_back (plain.change r {ts} s) = λ k outer inside room_is m w f fr h.
    change r (change_back s (AsStatement outer) m r r w f (sym (ap (guarded (Ready outer) m) (append_assoc ts (at r signs.Semicolon ∷ []) w)) ∙ h))
writes_back (plain.call p q r s g) = λ k outer inside e m w f fr h. call p q r s g
writes_back (plain.void_call p q r s t u v g) = λ k outer inside e m w f fr h. void_call p q r s t u v g
writes_back (plain.assert p q r z {ts} {e} s) = λ k outer inside room_is m w f fr h.
    let begins =
    token (Ready outer) (Opens (ToAssert p outer)) p signs.Assert m (at q signs.Open ∷ ((ts ++ at r signs.Close ∷ at z signs.Semicolon ∷ []) ++ w)) refl refl refl
    ∙ token (Opens (ToAssert p outer)) (Wants [] (ToAssert p outer)) q signs.Open 0 ((ts ++ at r signs.Close ∷ at z signs.Semicolon ∷ []) ++ w) refl refl refl in
    assert p q r z (full_back s (ToAssert p outer) (at r signs.Close) (at z signs.Semicolon ∷ []) w f tt (sym begins ∙ h))
writes_back (plain.skip p) = λ k outer inside e m w f fr h. skip p
writes_back (plain.block p q {ts} {c} {i} s) = λ k outer inside e m w f fr h.
    let le : suc (depth outer) ≤ 64 = opens_few (Ready outer) m (at p signs.LeftBrace) ((ts ++ at q signs.RightBrace ∷ []) ++ w) f refl h in
    let j = room_for k (depth outer) e le in
    let one : j.0 + suc (depth outer) ≡ 64 = omega (arith, e, j.1) in
    let begins =
    opens_in (Ready outer) (Ready (Braces p Done outer)) p signs.LeftBrace m ((ts ++ at q signs.RightBrace ∷ []) ++ w) refl refl le
    ∙ ap (guarded (Ready (Braces p Done outer)) 0) (append_assoc ts (at q signs.RightBrace ∷ []) w) in
    let inner = writes_back s j.0 (Braces p Done outer) tt inside one 0 (at q signs.RightBrace ∷ w) f tt (sym begins ∙ h) in
    subst (λ (y : ℕ). WritesIn y (Stated i false) (at p signs.LeftBrace ∷ (ts ++ at q signs.RightBrace ∷ [])) (Block p c Done)) (sym j.1) (block p q inner)
writes_back (plain.while p q r {b} {ts} {us} {e} {c} {i} s t) = λ k outer inside room_is m w f fr h.
    let le : suc (depth outer) ≤ 64 = opens_few (Ready outer) m (at p signs.While) (at q signs.Open ∷ ((ts ++ at r signs.Close ∷ us) ++ w)) f refl h in
    let j = room_for k (depth outer) room_is le in
    let one : j.0 + suc (depth outer) ≡ 64 = omega (arith, room_is, j.1) in
    let h1 = sym (head_in (ToLoop p outer) outer p q signs.While m ((ts ++ at r signs.Close ∷ us) ++ w) refl le) ∙ h in
    let full = full_back s (ToLoop p outer) (at r signs.Close) us w f tt h1 in
    let h2 = sym (full_in full (ToLoop p outer) (at r signs.Close) us w tt ∙ last_token full (ToLoop p outer) (Ready (LoopOf (ChangeStart Done) p e Done outer)) r signs.Close (us ++ w) refl refl refl refl) ∙ h1 in
    let inner = writes_back t j.0 (LoopOf (ChangeStart Done) p e Done outer) refl one 0 w f fr h2 in
    subst (λ (y : ℕ). WritesIn y (Stated i b) (at p signs.While ∷ at q signs.Open ∷ (ts ++ at r signs.Close ∷ us)) (While p e Done c Done)) (sym j.1) (while p q r full inner)
writes_back (plain.for p q r z {b} {ts} {us} {vs} {ws} {start = before} {step = advance} {c} {t} {e} {i} a g d s) = λ k outer inside room_is m w f fr h.
    let start : Start = ChangeStart before in
    let text : List Item = ts ++ at r signs.Semicolon ∷ (us ++ (vs ++ at z signs.Close ∷ ws)) in
    let rest : List Item = us ++ (vs ++ at z signs.Close ∷ (ws ++ w)) in
    let re : text ++ w ≡ ts ++ at r signs.Semicolon ∷ rest = simp append_assoc in
    let le : suc (depth outer) ≤ 64 = opens_few (Ready outer) m (at p signs.For) (at q signs.Open ∷ (text ++ w)) f refl h in
    let j = room_for k (depth outer) room_is le in
    let one : j.0 + suc (depth outer) ≡ 64 = omega (arith, room_is, j.1) in
    let begins = ap (λ (l : List Item). guarded (Ready outer) m (at p signs.For ∷ at q signs.Open ∷ l)) re ∙ for_in outer p q m (ts ++ at r signs.Semicolon ∷ rest) le in
    let h1 = sym begins ∙ h in
    let first = start_back a p outer r rest f h1 in
    let h2 = sym (start_in first p outer r rest) ∙ h1 in
    let tests = tests_back g start outer (vs ++ at z signs.Close ∷ (ws ++ w)) f h2 in
    let h3 = sym (tests_in tests start outer (vs ++ at z signs.Close ∷ (ws ++ w))) ∙ h2 in
    let last = step_back d start t e outer z (ws ++ w) f h3 in
    let h4 = sym (step_in last start t e outer z (ws ++ w)) ∙ h3 in
    let inner = writes_back s j.0 (LoopOf start t e advance outer) refl one 0 w f fr h4 in
    subst (λ (y : ℕ). WritesIn y (Stated i b) (at p signs.For ∷ at q signs.Open ∷ text) (followed before (While t e advance c Done))) (sym j.1) (for p q r z first tests last inner)
writes_back (plain.declaring_for p q z {b} {ts} {ds} {us} {vs} {ws} {start = before} {step = advance} {c} {t} {e} {kind} {i} y l g d s) = λ k outer inside room_is m w f fr h.
    let start : Start = DeclaredStart p before in
    let text : List Item = ts ++ (ds ++ (us ++ (vs ++ at z signs.Close ∷ ws))) in
    let rest : List Item = us ++ (vs ++ at z signs.Close ∷ (ws ++ w)) in
    let re : text ++ w ≡ ts ++ (ds ++ rest) = simp append_assoc in
    let le : suc (depth outer) ≤ 64 = opens_few (Ready outer) m (at p signs.For) (at q signs.Open ∷ (text ++ w)) f refl h in
    let j = room_for k (depth outer) room_is le in
    let one : j.0 + suc (depth outer) ≡ 64 = omega (arith, room_is, j.1) in
    let begins =
    ap (λ (x : List Item). guarded (Ready outer) m (at p signs.For ∷ at q signs.Open ∷ x)) re
    ∙ for_in outer p q m (ts ++ (ds ++ rest)) le
    ∙ qualified_in y (ForScope p Done outer) (for_opens_in p outer) 0 (ds ++ rest) (locals_named l rest) in
    let h1 = sym begins ∙ h in
    let first = writes_back l j.0 (ForScope p Done outer) kind tt refl rest f h1 in
    let h2 = sym (accepted_in first (ForScope p Done outer) kind tt refl rest) ∙ h1 in
    let tests = tests_back g start outer (vs ++ at z signs.Close ∷ (ws ++ w)) f h2 in
    let h3 = sym (tests_in tests start outer (vs ++ at z signs.Close ∷ (ws ++ w))) ∙ h2 in
    let last = step_back d start t e outer z (ws ++ w) f h3 in
    let h4 = sym (step_in last start t e outer z (ws ++ w)) ∙ h3 in
    let inner = writes_back s j.0 (LoopOf start t e advance outer) refl one 0 w f fr h4 in
    subst (λ (x : ℕ). WritesIn x (Stated i b) (at p signs.For ∷ at q signs.Open ∷ text) (Block p (followed before (While t e advance c Done)) Done)) (sym j.1) (declaring_for p q z y first tests last inner)
writes_back (plain.if_then p q r {b} {ts} {us} {e} {c} {i} s t) = λ k outer inside room_is m w f fr h.
    let le : suc (depth outer) ≤ 64 = opens_few (Ready outer) m (at p signs.If) (at q signs.Open ∷ ((ts ++ at r signs.Close ∷ us) ++ w)) f refl h in
    let j = room_for k (depth outer) room_is le in
    let one : j.0 + suc (depth outer) ≡ 64 = omega (arith, room_is, j.1) in
    let h1 = sym (head_in (ToChoose p outer) outer p q signs.If m ((ts ++ at r signs.Close ∷ us) ++ w) refl le) ∙ h in
    let full = full_back s (ToChoose p outer) (at r signs.Close) us w f tt h1 in
    let h2 = sym (full_in full (ToChoose p outer) (at r signs.Close) us w tt ∙ last_token full (ToChoose p outer) (Ready (ThenOf p e outer)) r signs.Close (us ++ w) refl refl refl refl) ∙ h1 in
    let inner = writes_back t j.0 (ThenOf p e outer) inside one 0 w f (free_of b w fr) h2 in
    subst (λ (y : ℕ). WritesIn y (Stated i true) (at p signs.If ∷ at q signs.Open ∷ (ts ++ at r signs.Close ∷ us)) (If p e c Done Done)) (sym j.1) (if_then p q r full inner)
writes_back (plain.if_else p q r z {b} {ts} {us} {vs} {e} {c} {d} {i} s t v) = λ k outer inside room_is m w f fr h.
    let text : List Item = us ++ at z signs.Else ∷ vs in
    let le : suc (depth outer) ≤ 64 = opens_few (Ready outer) m (at p signs.If) (at q signs.Open ∷ ((ts ++ at r signs.Close ∷ text) ++ w)) f refl h in
    let j = room_for k (depth outer) room_is le in
    let one : j.0 + suc (depth outer) ≡ 64 = omega (arith, room_is, j.1) in
    let within : j.0 + suc (depth outer) ≤ 64 = omega (arith, one) in
    let h1 = sym (head_in (ToChoose p outer) outer p q signs.If m ((ts ++ at r signs.Close ∷ text) ++ w) refl le) ∙ h in
    let full = full_back s (ToChoose p outer) (at r signs.Close) text w f tt h1 in
    let head =
    full_in full (ToChoose p outer) (at r signs.Close) text w tt
    ∙ last_token full (ToChoose p outer) (Ready (ThenOf p e outer)) r signs.Close (text ++ w) refl refl refl refl
    ∙ ap (guarded (Ready (ThenOf p e outer)) 0) (append_assoc us (at z signs.Else ∷ vs) w) in
    let h2 = sym head ∙ h1 in
    let first = writes_back t j.0 (ThenOf p e outer) inside one 0 (at z signs.Else ∷ (vs ++ w)) f tt h2 in
    let next =
    accepted_in first (ThenOf p e outer) inside within 0 (at z signs.Else ∷ (vs ++ w)) tt
    ∙ token (Ended (ThenOf p e outer) c) (Ready (ElseOf p e c outer)) z signs.Else 0 (vs ++ w) refl refl refl in
    let second = writes_back v j.0 (ElseOf p e c outer) inside one 0 w f fr (sym next ∙ h2) in
    subst (λ (y : ℕ). WritesIn y (Stated i b) (at p signs.If ∷ at q signs.Open ∷ (ts ++ at r signs.Close ∷ text)) (If p e c d Done)) (sym j.1) (if_else p q r z full first second)
writes_back (plain.do_while p q r s z {b} {ts} {us} {x} {e} {c} {i} l g) = λ k outer inside room_is m w f fr h.
    let tail : List Item = at q signs.While ∷ at r signs.Open ∷ x ∷ (us ++ at s signs.Close ∷ at z signs.Semicolon ∷ []) in
    let free : Free b (tail ++ w) = free_of b (tail ++ w) tt in
    let le : suc (depth outer) ≤ 64 = opens_few (Ready outer) m (at p signs.Do) ((ts ++ tail) ++ w) f refl h in
    let j = room_for k (depth outer) room_is le in
    let one : j.0 + suc (depth outer) ≡ 64 = omega (arith, room_is, j.1) in
    let within : j.0 + suc (depth outer) ≤ 64 = omega (arith, one) in
    let h1 = sym (body_in outer p m ts tail w le) ∙ h in
    let inner = writes_back l j.0 (DoOf p outer) refl one 0 (tail ++ w) f free h1 in
    let h2 = sym (accepted_in inner (DoOf p outer) refl within 0 (tail ++ w) free ∙ redo_begins q r p c outer x ((us ++ at s signs.Close ∷ at z signs.Semicolon ∷ []) ++ w)) ∙ h1 in
    let full = full_back g (ToRedo p c x.place outer) (at s signs.Close) (at z signs.Semicolon ∷ []) w f tt h2 in
    subst (λ (y : ℕ). WritesIn y (Stated i false) (at p signs.Do ∷ (ts ++ tail)) (Do p c x.place e Done)) (sym j.1) (do_while p q r s z inner full)
writes_back (plain.break p q) = λ k outer inside e m w f fr h. break p q
writes_back (plain.continue p q) = λ k outer inside e m w f fr h. continue p q
writes_back (plain.return p q {ts} s) = λ k outer inside e m w f fr h. return p q (full_back s (ToReturn p outer) (at q signs.Semicolon) [] w f tt (sym (return_in p outer m ((ts ++ at q signs.Semicolon ∷ []) ++ w)) ∙ h))
