-- What is spelled is a well-formed program.
use Rattle.std.proofs.Common.{◌≡◌, ℕ, ℤ, pos, ◌≤ℤ◌, suc, ◌<◌, Bool, true, false, cond, List, [], ◌∷◌, ◌++◌, length, refl, ap, ◌∙◌, arith}
use Rattle.std.specs.List.{All}
use Rattle.std.proofs.lemmas.List.Elements.{All-append, All-cons, All-nil}
use Rattle.std.proofs.lemmas.Int.{ints}
use Rattle.fam_outer.specs.declared.faults.Place.{Place}
use Rattle.c_tree.specs.declared.lists.Guard.{Guard}
use Rattle.c_tree.specs.declared.lists.Declared.{Declared}
use Rattle.c_tree.specs.Tree.{Term, Code, Done, Assign, Input, Assert, If, While, Do, Leave, Block, Skip, Cond, followed}
use Rattle.c_tree.specs.Value.{least, IsInt}
use Rattle.c_tree.specs.Fit.{IsTermOf, IsStep, IsCodeOf, IsPlain}
use Rattle.c_tree.specs.Project.{projected_start}
use Rattle.c_tree.specs.Whole.{IsDeclaredOf}
use Rattle.c_grammar.specs.Statics.{statics_by}
use Rattle.c_grammar.proofs.HeldStatics.{zero_is_int, statics_fit}
use Rattle.c_grammar.specs.declared.items.Item.{Item}
use Rattle.c_grammar.specs.declared.items.Sign.{Sign}
use Rattle.c_grammar.specs.declared.items.Sign.TheVariants as signs
use Rattle.c_grammar.specs.Grammar.{at, Prefix, Positive, Negative, Inverse, applied, Expresses, number, name, group, prefix, loose, binary, Changes, assignment, input_taken, compound_assignment, count_behind, count_before, Clause, no_clause, clause, Tests, no_test, test, LocalDeclarator, uninitialised, initialised, from_call, Shape, Writes, none, more, choice, local, static_local, last_local, next_local, ends, otherwise, elif, change, call, void_call, assert, skip, block, while, for, declaring_for, if_then, if_else, do_while, break, continue, return, Qualifier, Unqualified, Constant, Counted, behind, unqualified, const_before, const_behind, Begins, only_type, then_type, enumeration, Declarator, bare, positive, negative, counted, Defines, defined, negative_defined, enclosed, negative_enclosed, declared, Part, Outer, Vars, Later, Declares, nothing, variables, prototype, void_prototype, definition, section, last_var, next_var, end_part, else_part, elif_part, Body, body, Main, main, File, Forms, file, has_groups, zeros, held_of}
use Rattle.c_grammar.specs.Facts.{AreFit, WellFormed, PlainWithoutGroups}
use Rattle.c_tree.proofs.Starts.{length-start, ints-start}
use Rattle.c_grammar.proofs.Keeping.{no_groups}
use Rattle.c_grammar.proofs.Within.{forms_plain}
use Rattle.c_grammar.proofs.FilesWithin.{read_within}
use Rattle.c_grammar.proofs.Limits.{fine_files}
use Rattle.c_grammar.proofs.PlacesRise.{rising_part, file_part}

-- ---- numbers and names

fit_split : (n : ℕ) (xs ys : List Item) → AreFit n (xs ++ ys) → AreFit n xs × AreFit n ys
fit_split n [] ys h = (tt, h)
fit_split n (x ∷ xs) ys h = let r = fit_split n xs ys h.1 in ((h.0, r.0), r.1)

applied_fits : (n : ℕ) (u : Prefix) (e : Term) → IsTermOf n e → IsTermOf n (applied u e)
applied_fits n Positive e h = h
applied_fits n Negative e h = h
applied_fits n Inverse e h = h

term_fits : {k : ℕ} {ts : List Item} {e : Term} (n : ℕ) → Expresses k ts e → AreFit n ts → IsTermOf n e
term_fits n (number p m) h = h.0
term_fits n (name p x) h = h.0
term_fits n (group p q {ts} s) h = term_fits n s (fit_split n ts (at q signs.Close ∷ []) h.1).0
term_fits n (prefix p u {ts} {e} s) h = applied_fits n u e (term_fits n s h.1)
term_fits n (loose s) h = term_fits n s h
term_fits n (binary p op {ts} {us} s t) h = let r = fit_split n ts (at p (signs.Oper op) ∷ us) h in (term_fits n s r.0, term_fits n t r.1.1)

followed_fits : (n : ℕ) (c d : Code) → IsCodeOf n c → IsCodeOf n d → IsCodeOf n (followed c d)
followed_fits n Done d h i = i
followed_fits n (Assign p x e rest) d h i = (h.0, h.1, followed_fits n rest d h.2 i)
followed_fits n (Input p x rest) d h i = (h.0, followed_fits n rest d h.1 i)
followed_fits n (Assert p e rest) d h i = (h.0, followed_fits n rest d h.1 i)
followed_fits n (If p e a b rest) d h i = (h.0, h.1, h.2, followed_fits n rest d h.3 i)
followed_fits n (While p e a b rest) d h i = (h.0, h.1, h.2, followed_fits n rest d h.3 i, h.4)
followed_fits n (Do p a q e rest) d h i = (h.0, h.1, followed_fits n rest d h.2 i)
followed_fits n (Leave p j rest) d h i = (h.0, followed_fits n rest d h.1 i)
followed_fits n (Block p a rest) d h i = (h.0, followed_fits n rest d h.1 i)
followed_fits n (Skip p rest) d h i = followed_fits n rest d h i
followed_fits n (Cond m a b rest) d h i = (h.0, h.1, followed_fits n rest d h.2 i)

local_fits : {ts : List Item} {c : Code} {kind : Qualifier} (n : ℕ) → LocalDeclarator kind ts c → AreFit n ts → IsCodeOf n c
local_fits n (uninitialised p x) h = (h.0, tt)
local_fits n (initialised p q x e) h = (h.0, term_fits n e h.1.1, tt)
local_fits n (from_call p q r s t x g) h = (h.0, tt)

change_fits : {ts : List Item} {c : Code} (n : ℕ) → Changes ts c → AreFit n ts → IsCodeOf n c
change_fits n (assignment p q x e) h = (h.0, term_fits n e h.1.1, tt)
change_fits n (input_taken p q r s t x g) h = (h.0, tt)
change_fits n (compound_assignment p q x u e) h = (h.0, (h.0, term_fits n e h.1.1), tt)
change_fits n (count_behind p q x u) h = (h.0, (h.0, (omega (arith, ints), omega (arith, ints))), tt)
change_fits n (count_before p q x u) h = (h.1.0, (h.1.0, (omega (arith, ints), omega (arith, ints))), tt)

clause_fits : {ts : List Item} {c : Code} (n : ℕ) → Clause ts c → AreFit n ts → IsCodeOf n c
clause_fits n no_clause h = tt
clause_fits n (clause s) h = change_fits n s h

change_step : {ts : List Item} {c : Code} → Changes ts c → IsStep c
change_step (assignment p q x e) = tt
change_step (input_taken p q r s t x g) = tt
change_step (compound_assignment p q x u e) = tt
change_step (count_behind p q x u) = tt
change_step (count_before p q x u) = tt

-- what a `for` does behind its body is a step
clause_step : {ts : List Item} {c : Code} → Clause ts c → IsStep c
clause_step no_clause = tt
clause_step (clause s) = change_step s

test_fits : {ts : List Item} {p : Place} {e : Term} (n : ℕ) → Tests ts p e → AreFit n ts → IsTermOf n e
test_fits n (no_test z) h = (omega (arith, ints), omega (arith, ints))
test_fits n (test z {x} {ts} s) h = term_fits n s (fit_split n (x ∷ ts) (at z signs.Semicolon ∷ []) h).0

code_fits : {s : Shape} {ts : List Item} {c : Code} (n : ℕ) → Writes s ts c → AreFit n ts → IsCodeOf n c
code_fits n none h = tt
code_fits n (more {b} {ts} {us} {c} {d} s l) h = let r = fit_split n ts us h in followed_fits n c d (code_fits n s r.0) (code_fits n l r.1)
code_fits n (choice p m {ts} {us} {vs} s t l) h = let r = fit_split n ts (us ++ vs) h.1 in let q = fit_split n us vs r.1 in (code_fits n s r.0, code_fits n t q.0, code_fits n l q.1)
code_fits n (local {ts} {us} {vs} {c} {d} q v l) h = let k = fit_split n us vs (fit_split n ts (us ++ vs) h).1 in followed_fits n c d (code_fits n v k.0) (code_fits n l k.1)
code_fits n (static_local p {ts} {us} {vs} q v l) h = code_fits n l (fit_split n us vs (fit_split n ts (us ++ vs) h.1).1).1
code_fits n (last_local p {ts} d) h = local_fits n d (fit_split n ts (at p signs.Semicolon ∷ []) h).0
code_fits n (next_local p {ts} {us} {c} {d} o v) h = let k = fit_split n ts (at p signs.Comma ∷ us) h in followed_fits n c d (local_fits n o k.0) (code_fits n v k.1.1)
code_fits n (ends p) h = tt
code_fits n (otherwise p q {ts} s) h = code_fits n s (fit_split n ts (at q signs.GroupEnd ∷ []) h.1).0
code_fits n (elif p m {ts} {us} s t) h = let r = fit_split n ts us h.1 in (code_fits n s r.0, code_fits n t r.1, tt)
code_fits n (change r {ts} s) h = change_fits n s (fit_split n ts (at r signs.Semicolon ∷ []) h).0
code_fits n (call p q r s g) h = tt
code_fits n (void_call p q r s t u v g) h = tt
code_fits n (assert p q r s {ts} e) h = (term_fits n e (fit_split n ts (at r signs.Close ∷ at s signs.Semicolon ∷ []) h.1.1).0, tt)
code_fits n (skip p) h = tt
code_fits n (block p q {ts} s) h = (code_fits n s (fit_split n ts (at q signs.RightBrace ∷ []) h.1).0, tt)
code_fits n (while p q r {b} {ts} {us} e s) h = let k = fit_split n ts (at r signs.Close ∷ us) h.1.1 in (term_fits n e k.0, tt, code_fits n s k.1.1, tt, tt)
code_fits n (for p q r z {b} {ts} {us} {vs} {ws} {start} {step = advance} {c} {t} {e} first middle last s) h =
    let k = fit_split n ts (at r signs.Semicolon ∷ (us ++ (vs ++ at z signs.Close ∷ ws))) h.1.1 in
    let l = fit_split n us (vs ++ at z signs.Close ∷ ws) k.1.1 in
    let m = fit_split n vs (at z signs.Close ∷ ws) l.1 in
    followed_fits n start (While t e advance c Done) (clause_fits n first k.0) (test_fits n middle l.0, clause_fits n last m.0, code_fits n s m.1.1, tt, clause_step last)
code_fits n (declaring_for p q z {b} {ts} {ds} {us} {vs} {ws} {start} {step = advance} {c} {t} {e} g l middle last s) h =
    let j = fit_split n ds (us ++ (vs ++ at z signs.Close ∷ ws)) (fit_split n ts (ds ++ (us ++ (vs ++ at z signs.Close ∷ ws))) h.1.1).1 in
    let k = fit_split n us (vs ++ at z signs.Close ∷ ws) j.1 in
    let m = fit_split n vs (at z signs.Close ∷ ws) k.1 in
    (followed_fits n start (While t e advance c Done) (code_fits n l j.0) (test_fits n middle k.0, clause_fits n last m.0, code_fits n s m.1.1, tt, clause_step last), tt)
code_fits n (if_then p q r {b} {ts} {us} e s) h = let k = fit_split n ts (at r signs.Close ∷ us) h.1.1 in (term_fits n e k.0, code_fits n s k.1.1, tt, tt)
code_fits n (if_else p q r z {b} {ts} {us} {vs} e s t) h =
    let k = fit_split n ts (at r signs.Close ∷ (us ++ at z signs.Else ∷ vs)) h.1.1 in
    let l = fit_split n us (at z signs.Else ∷ vs) k.1.1 in
    (term_fits n e k.0, code_fits n s l.0, code_fits n t l.1.1, tt)
code_fits n (do_while p q r s t {b} {ts} {us} {x} l e) h =
    let k = fit_split n ts (at q signs.While ∷ at r signs.Open ∷ x ∷ (us ++ at s signs.Close ∷ at t signs.Semicolon ∷ [])) h.1 in
    (term_fits n e (fit_split n (x ∷ us) (at s signs.Close ∷ at t signs.Semicolon ∷ []) k.1.1.1).0, code_fits n l k.0, tt)
code_fits n (break p q) h = (tt, tt)
code_fits n (continue p q) h = (tt, tt)
code_fits n (return p q {ts} e) h = (term_fits n e (fit_split n ts (at q signs.Semicolon ∷ []) h.1).0, tt)

-- a constant that is counted begins from an `int`
abbrev QualifierFits : Qualifier → Type 0
QualifierFits Unqualified = Unit {0}
QualifierFits Constant = Unit {0}
QualifierFits (Counted last) = least ≤ℤ last

begins_fits : {us : List Item} {kind : Qualifier} {s : Sign} → Begins s kind us → QualifierFits kind
begins_fits (only_type s (unqualified y)) = tt
begins_fits (only_type s (const_before p y)) = tt
begins_fits (only_type s (const_behind p y)) = tt
begins_fits (then_type q s (unqualified y)) = tt
begins_fits (then_type q s (const_before p y)) = tt
begins_fits (then_type q s (const_behind p y)) = tt
begins_fits (enumeration p q s) = omega (arith, ints)

behind_fits : (kind : Qualifier) (n : ℤ) → IsInt n → QualifierFits (behind kind n)
behind_fits Unqualified n h = tt
behind_fits Constant n h = tt
behind_fits (Counted last) n h = h.low

abbrev PartFits : Part → Type 0
PartFits (Outer gs) = Unit {0}
PartFits (Vars kind gs) = QualifierFits kind
PartFits (Later gs) = Unit {0}

value_fits : {us : List Item} {x : ℕ} {v : ℤ} {kind : Qualifier} (n : ℕ) → QualifierFits kind → Declarator kind us x v → AreFit n us → (x < n) × IsInt v
value_fits n q (bare p x) h = (h.0, record { low = omega (arith, ints); high = omega (arith, ints) })
value_fits n k (positive p q r x v) h = (h.0, record { low = omega (arith, ints, h.1.1.0.0, h.1.1.0.1); high = h.1.1.0.1 })
value_fits n k (negative p q r s x v) h = (h.0, record { low = omega (arith, ints, h.1.1.1.0.0, h.1.1.1.0.1); high = omega (arith, ints, h.1.1.1.0.0, h.1.1.1.0.1) })
value_fits n k (counted p x last lt) h = (h.0, record { low = omega (arith, ints, k); high = omega (arith, ints, lt) })

definition_fits : {us : List Item} {x : ℕ} {v : ℤ} (n : ℕ) → Defines us x v → AreFit n us → (x < n) × IsInt v
definition_fits n (defined p q r x v) h = (h.1.0, record { low = omega (arith, ints, h.1.1.0.0, h.1.1.0.1); high = h.1.1.0.1 })
definition_fits n (negative_defined p q r s x v) h = (h.1.0, record { low = omega (arith, ints, h.1.1.1.0.0, h.1.1.1.0.1); high = omega (arith, ints, h.1.1.1.0.0, h.1.1.1.0.1) })
definition_fits n (enclosed p q r s t x v) h = (h.1.0, record { low = omega (arith, ints, h.1.1.1.0.0, h.1.1.1.0.1); high = h.1.1.1.0.1 })
definition_fits n (negative_enclosed p q r s t u x v) h = (h.1.0, record { low = omega (arith, ints, h.1.1.1.1.0.0, h.1.1.1.1.0.1); high = omega (arith, ints, h.1.1.1.1.0.0, h.1.1.1.1.0.1) })

one_fits : (n x : ℕ) (v : ℤ) (gs : List Guard) → (x < n) × IsInt v → IsDeclaredOf n (declared x v gs)
one_fits n x v gs h = record { target = h.0; value = h.1 }

declared_fits : {s : Part} {ts : List Item} {ds : List Declared} (n : ℕ) → PartFits s → Declares s ts ds → AreFit n ts → All (IsDeclaredOf n) ds
declared_fits n f (nothing gs) h = All-nil (IsDeclaredOf n)
declared_fits n f (variables gs {us} {vs} {ws} {ds} {es} o v d) h =
    let k = fit_split n us (vs ++ ws) h in
    let l = fit_split n vs ws k.1 in
    All-append (IsDeclaredOf n) ds es (declared_fits n (begins_fits o) v l.0) (declared_fits n tt d l.1)
declared_fits n f (prototype q r s t gs {f = called} {us} {vs} {ws} o g v d) h =
    let k = fit_split n us (at q called ∷ at r signs.Open ∷ (vs ++ at s signs.Close ∷ at t signs.Semicolon ∷ ws)) h in
    declared_fits n tt d (fit_split n vs (at s signs.Close ∷ at t signs.Semicolon ∷ ws) k.1.1.1).1.1.1
declared_fits n f (void_prototype p q r s t m gs {us} {vs} {ws} o v d) h =
    let k = fit_split n us (at p signs.Void ∷ at q (signs.Function m) ∷ at r signs.Open ∷ (vs ++ at s signs.Close ∷ at t signs.Semicolon ∷ ws)) h in
    declared_fits n tt d (fit_split n vs (at s signs.Close ∷ at t signs.Semicolon ∷ ws) k.1.1.1.1).1.1.1
declared_fits n f (definition gs {us} {ws} {es} {x} {n = v} o d) h =
    let k = fit_split n us ws h in
    All-cons (IsDeclaredOf n) (declared x v gs) es (one_fits n x v gs (definition_fits n o k.0)) (declared_fits n tt d k.1)
declared_fits n f (section p m gs {us} {vs} {ws} {cs} {ds} {es} a b d) h =
    let k = fit_split n us (vs ++ ws) h.1 in
    let l = fit_split n vs ws k.1 in
    All-append (IsDeclaredOf n) cs (ds ++ es) (declared_fits n tt a k.0) (All-append (IsDeclaredOf n) ds es (declared_fits n tt b l.0) (declared_fits n tt d l.1))
declared_fits n f (last_var gs {us} {vs} {x} {n = v} d o) h = All-cons (IsDeclaredOf n) (declared x v gs) [] (one_fits n x v gs (value_fits n f d (fit_split n us vs h).0)) (All-nil (IsDeclaredOf n))
declared_fits n f (next_var p gs {us} {vs} {x} {n = v} {ds} {kind} d l) h =
    let k = fit_split n us (at p signs.Comma ∷ vs) h in
    let i = value_fits n f d k.0 in
    All-cons (IsDeclaredOf n) (declared x v gs) ds (one_fits n x v gs i) (declared_fits n (behind_fits kind v i.1) l k.1.1)
declared_fits n f (end_part p gs) h = All-nil (IsDeclaredOf n)
declared_fits n f (else_part p q gs {us} d) h = declared_fits n tt d (fit_split n us (at q signs.GroupEnd ∷ []) h.1).0
declared_fits n f (elif_part p m gs {us} {vs} {cs} {ds} a b) h =
    let k = fit_split n us vs h.1 in
    All-append (IsDeclaredOf n) cs ds (declared_fits n tt a k.0) (declared_fits n tt b k.1)

-- ---- groups

followed_plain : (c d : Code) → IsPlain c → IsPlain d → IsPlain (followed c d)
followed_plain Done d h i = i
followed_plain (Assign p x e rest) d h i = followed_plain rest d h i
followed_plain (Input p x rest) d h i = followed_plain rest d h i
followed_plain (Assert p e rest) d h i = followed_plain rest d h i
followed_plain (If p e a b rest) d h i = (h.0, h.1, followed_plain rest d h.2 i)
followed_plain (While p e a b rest) d h i = (h.0, h.1, followed_plain rest d h.2 i)
followed_plain (Do p a q e rest) d h i = (h.0, followed_plain rest d h.1 i)
followed_plain (Leave p j rest) d h i = followed_plain rest d h i
followed_plain (Block p a rest) d h i = (h.0, followed_plain rest d h.1 i)
followed_plain (Skip p rest) d h i = followed_plain rest d h i
followed_plain (Cond m a b rest) d h i = absurd h

local_plain : {ts : List Item} {c : Code} {kind : Qualifier} → LocalDeclarator kind ts c → IsPlain c
local_plain (uninitialised p x) = tt
local_plain (initialised p q x e) = tt
local_plain (from_call p q r s t x g) = tt

change_plain : {ts : List Item} {c : Code} → Changes ts c → IsPlain c
change_plain (assignment p q x e) = tt
change_plain (input_taken p q r s t x g) = tt
change_plain (compound_assignment p q x u e) = tt
change_plain (count_behind p q x u) = tt
change_plain (count_before p q x u) = tt

clause_plain : {ts : List Item} {c : Code} → Clause ts c → IsPlain c
clause_plain no_clause = tt
clause_plain (clause s) = change_plain s

code_plain : {s : Shape} {ts : List Item} {c : Code} → Writes s ts c → has_groups ts ≡ false → IsPlain c
code_plain none h = tt
code_plain (more {b} {ts} {us} {c} {d} s l) h = let r = no_groups ts us h in followed_plain c d (code_plain s r.0) (code_plain l r.1)
code_plain (choice p m s t l) h = absurd cc
code_plain (local {ts} {us} {vs} {c} {d} q v l) h = let k = no_groups us vs (no_groups ts (us ++ vs) h).1 in followed_plain c d (code_plain v k.0) (code_plain l k.1)
code_plain (static_local p {ts} {us} {vs} q v l) h = code_plain l (no_groups us vs (no_groups ts (us ++ vs) h).1).1
code_plain (last_local p d) h = local_plain d
code_plain (next_local p {ts} {us} {c} {d} o v) h = followed_plain c d (local_plain o) (code_plain v (no_groups ts (at p signs.Comma ∷ us) h).1)
code_plain (ends p) h = tt
code_plain (otherwise p q s) h = absurd cc
code_plain (elif p m s t) h = absurd cc
code_plain (change r s) h = change_plain s
code_plain (call p q r s g) h = tt
code_plain (void_call p q r s t u v g) h = tt
code_plain (assert p q r s e) h = tt
code_plain (skip p) h = tt
code_plain (block p q {ts} s) h = (code_plain s (no_groups ts (at q signs.RightBrace ∷ []) h).0, tt)
code_plain (while p q r {b} {ts} {us} e s) h = (tt, code_plain s (no_groups ts (at r signs.Close ∷ us) h).1, tt)
code_plain (for p q r z {b} {ts} {us} {vs} {ws} {start} {step = advance} {c} {t} {e} first middle last s) h =
    let k = no_groups us (vs ++ at z signs.Close ∷ ws) (no_groups ts (at r signs.Semicolon ∷ (us ++ (vs ++ at z signs.Close ∷ ws))) h).1 in
    followed_plain start (While t e advance c Done) (clause_plain first) (clause_plain last, code_plain s (no_groups vs (at z signs.Close ∷ ws) k.1).1, tt)
code_plain (declaring_for p q z {b} {ts} {ds} {us} {vs} {ws} {start} {step = advance} {c} {t} {e} g l middle last s) h =
    let j = no_groups ds (us ++ (vs ++ at z signs.Close ∷ ws)) (no_groups ts (ds ++ (us ++ (vs ++ at z signs.Close ∷ ws))) h).1 in
    let k = no_groups us (vs ++ at z signs.Close ∷ ws) j.1 in
    (followed_plain start (While t e advance c Done) (code_plain l j.0) (clause_plain last, code_plain s (no_groups vs (at z signs.Close ∷ ws) k.1).1, tt), tt)
code_plain (if_then p q r {b} {ts} {us} e s) h = (code_plain s (no_groups ts (at r signs.Close ∷ us) h).1, tt, tt)
code_plain (if_else p q r z {b} {ts} {us} {vs} e s t) h =
    let k = no_groups us (at z signs.Else ∷ vs) (no_groups ts (at r signs.Close ∷ (us ++ at z signs.Else ∷ vs)) h).1 in
    (code_plain s k.0, code_plain t k.1, tt)
code_plain (do_while p q r s t {b} {ts} {us} {x} l e) h = (code_plain l (no_groups ts (at q signs.While ∷ at r signs.Open ∷ x ∷ (us ++ at s signs.Close ∷ at t signs.Semicolon ∷ [])) h).0, tt)
code_plain (break p q) h = tt
code_plain (continue p q) h = tt
code_plain (return p q e) h = tt

body_plain : {ts : List Item} {c : Code} {p : Place} → Body ts c p → has_groups ts ≡ false → IsPlain c
body_plain (body p {us} {vs} s e) h = code_plain s (no_groups us (at p signs.RightBrace ∷ vs) h).0

main_plain : {ts : List Item} {c : Code} {p : Place} → Main ts c p → has_groups ts ≡ false → IsPlain c
main_plain (main q r s t u {ts} {us} {vs} y o b) h =
    body_plain b (no_groups us (at s signs.Close ∷ at t signs.LeftBrace ∷ vs) (no_groups ts (at q signs.Main ∷ at r signs.Open ∷ (us ++ at s signs.Close ∷ at t signs.LeftBrace ∷ vs)) h).1).1

file_plain : (items : List Item) (f : File) → Forms items f → has_groups items ≡ false → IsPlain f.body
file_plain _ _ (file {us} {vs} d m) h = main_plain m (no_groups us vs h).1

pub plain_law : PlainWithoutGroups
plain_law names items f h s = record { body = file_plain items f s h; declared = ap (λ (b : Bool). cond b (held_of items f) []) h }

-- ---- programs

body_fits : {ts : List Item} {c : Code} {p : Place} (n : ℕ) → Body ts c p → AreFit n ts → IsCodeOf n c
body_fits n (body p {us} {vs} s e) h = code_fits n s (fit_split n us (at p signs.RightBrace ∷ vs) h).0

main_fits : {ts : List Item} {c : Code} {p : Place} (n : ℕ) → Main ts c p → AreFit n ts → IsCodeOf n c
main_fits n (main q r s t u {ts} {us} {vs} y o b) h =
    let k = fit_split n ts (at q signs.Main ∷ at r signs.Open ∷ (us ++ at s signs.Close ∷ at t signs.LeftBrace ∷ vs)) h in
    body_fits n b (fit_split n us (at s signs.Close ∷ at t signs.LeftBrace ∷ vs) k.1.1.1).1.1.1

file_code_fits : (n : ℕ) (items : List Item) (f : File) → Forms items f → AreFit n items → IsCodeOf n f.body
file_code_fits n _ _ (file {us} {vs} d m) h = main_fits n m (fit_split n us vs h).1

file_declared_fits : (n : ℕ) (items : List Item) (f : File) → Forms items f → AreFit n items → All (IsDeclaredOf n) f.declared
file_declared_fits n _ _ (file {us} {vs} d m) h = declared_fits n tt d (fit_split n us vs h).0

zeros_int : (names : List (List ℕ)) → All IsInt (zeros names)
zeros_int [] = All-nil IsInt
zeros_int (x ∷ names) = All-cons IsInt (pos 0) (zeros names) zero_is_int (zeros_int names)

zeros_count : (names : List (List ℕ)) → length (zeros names) ≡ length names
zeros_count [] = refl
zeros_count (x ∷ names) = ap suc (zeros_count names)

pub well_formed_law : WellFormed
well_formed_law names items f few fit rising within =
    let n : ℕ = length names in
    let forms : Forms items f = forms_plain within in
    let ds : All (IsDeclaredOf n) (held_of items f) = All-append (IsDeclaredOf n) f.declared (statics_by items) (file_declared_fits n items f forms fit) (statics_fit n items fit) in
    let fine = fine_files items f (read_within items f within) in
    record {
      few = few;
      starts = elim (has_groups items) as (λ b. length (cond b (zeros names) (projected_start [] (held_of items f) (zeros names))) ≡ n) [
        | true ↦ zeros_count names
        | false ↦ length-start [] (held_of items f) 0 (zeros names) ∙ zeros_count names
      ];
      ints = elim (has_groups items) as (λ b. All IsInt (cond b (zeros names) (projected_start [] (held_of items f) (zeros names)))) [
        | true ↦ zeros_int names
        | false ↦ ints-start [] (held_of items f) n 0 (zeros names) ds (zeros_int names)
      ];
      declared = elim (has_groups items) as (λ b. All (IsDeclaredOf n) (cond b (held_of items f) [])) [ true ↦ ds | false ↦ All-nil (IsDeclaredOf n) ];
      names = file_code_fits n items f forms fit;
      rising = rising_part (file_part items f forms) rising;
      nested = fine.0;
      small = fine.1;
    }
