-- The places of a program are those of some of its items, in order.
use Rattle.std.proofs.Common.{List, [], ◌∷◌, ◌++◌, sym, subst}
use Rattle.std.proofs.lemmas.List.{append-nil}
use Rattle.fam_outer.specs.declared.faults.Place.{Place}
use Rattle.c_tree.specs.Tree.{Term, Code, Done, While, followed}
use Rattle.c_tree.specs.Places.{places_of}
use Rattle.c_tree.specs.Whole.{IsBeforeAll, IsRising}
use Rattle.c_tree.proofs.Listed.{places_of-followed}
use Rattle.c_grammar.specs.declared.items.Item.{Item}
use Rattle.c_grammar.specs.declared.items.Sign.TheVariants as signs
use Rattle.c_grammar.specs.Grammar.{at, update_sign, count_sign, Changes, assignment, input_taken, compound_assignment, count_behind, count_before, Clause, no_clause, clause, Tests, no_test, test, Qualifier, LocalDeclarator, uninitialised, initialised, from_call, Shape, Writes, none, more, choice, local, static_local, last_local, next_local, ends, otherwise, elif, change, call, void_call, assert, skip, block, while, for, declaring_for, if_then, if_else, do_while, break, continue, return, Body, body, Main, main, File, Forms, file}
use Rattle.c_grammar.specs.Facts.{IsBeforeItems, AreRising}

-- the places are those of some of the items
pub data IsPart : List Place → List Item → Type 0 where
  end : IsPart [] []
  keep : (x : Item) {ps : List Place} {w : List Item} → IsPart ps w → IsPart (x.place ∷ ps) (x ∷ w)
  pass : (x : Item) {ps : List Place} {w : List Item} → IsPart ps w → IsPart ps (x ∷ w)

before_part : (p : Place) {ps : List Place} {w : List Item} → IsPart ps w → IsBeforeItems p w → IsBeforeAll p ps
before_part p end h = tt
before_part p (keep x part) h = (h.0, before_part p part h.1)
before_part p (pass x part) h = before_part p part h.1

pub rising_part : {ps : List Place} {w : List Item} → IsPart ps w → AreRising w → IsRising ps
rising_part end h = tt
rising_part (keep x part) h = (before_part x.place part h.0, rising_part part h.1)
rising_part (pass x part) h = rising_part part h.1

pass_all : (ts : List Item) {ps : List Place} {w : List Item} → IsPart ps w → IsPart ps (ts ++ w)
pass_all [] part = part
pass_all (x ∷ ts) part = pass x (pass_all ts part)

joined : {ps qs : List Place} {v w : List Item} → IsPart ps v → IsPart qs w → IsPart (ps ++ qs) (v ++ w)
joined end q = q
joined (keep x part) q = keep x (joined part q)
joined (pass x part) q = pass x (joined part q)

no_part : (w : List Item) → IsPart [] w
no_part [] = end
no_part (x ∷ w) = pass x (no_part w)

padded : {ps : List Place} {w : List Item} → IsPart ps w → IsPart (ps ++ []) w
padded {ps} {w} part = subst (λ (y : List Place). IsPart y w) (sym (append-nil ps)) part

before : {ps : List Place} {v : List Item} (w : List Item) → IsPart ps v → IsPart ps (v ++ w)
before {ps} {v} w part = subst (λ (y : List Place). IsPart y (v ++ w)) (append-nil ps) (joined part (no_part w))

local_part : {ts : List Item} {c : Code} {kind : Qualifier} → LocalDeclarator kind ts c → IsPart (places_of c) ts
local_part (uninitialised p x) = keep (at p (signs.Name x)) end
local_part (initialised p q x {ts = ts} e) = keep (at p (signs.Name x)) (no_part (at q signs.Equals ∷ ts))
local_part (from_call p q r s t x {f = f} g) = keep (at p (signs.Name x)) (no_part (at q signs.Equals ∷ at r f ∷ at s signs.Open ∷ at t signs.Close ∷ []))

change_part : {ts : List Item} {c : Code} → Changes ts c → IsPart (places_of c) ts
change_part (assignment p q x {ts} e) = keep (at p (signs.Name x)) (no_part (at q signs.Equals ∷ ts))
change_part (input_taken p q r s t x {f} g) = keep (at p (signs.Name x)) (no_part (at q signs.Equals ∷ at r f ∷ at s signs.Open ∷ at t signs.Close ∷ []))
change_part (compound_assignment p q x u {ts} e) = keep (at p (signs.Name x)) (no_part (at q (update_sign u) ∷ ts))
change_part (count_behind p q x u) = keep (at p (signs.Name x)) (no_part (at q (count_sign u) ∷ []))
change_part (count_before p q x u) = keep (at p (count_sign u)) (no_part (at q (signs.Name x) ∷ []))

clause_part : {ts : List Item} {c : Code} → Clause ts c → IsPart (places_of c) ts
clause_part no_clause = end
clause_part (clause s) = change_part s

-- the place of a `for` is that of its test
test_part : {ts : List Item} {p : Place} {e : Term} → Tests ts p e → IsPart (p ∷ []) ts
test_part (no_test z) = keep (at z signs.Semicolon) end
test_part (test z {x} {ts} s) = keep x (no_part (ts ++ at z signs.Semicolon ∷ []))

code_part : {s : Shape} {ts : List Item} {c : Code} → Writes s ts c → IsPart (places_of c) ts
code_part none = end
code_part (more {b} {ts} {us} {c} {d} s l) = subst (λ (y : List Place). IsPart y (ts ++ us)) (sym (places_of-followed c d)) (joined (code_part s) (code_part l))
code_part (choice p m s t l) = pass (at p (signs.GroupIf m)) (joined (code_part s) (joined (code_part t) (code_part l)))
code_part (local {ts} {us} {vs} {c} {d} q v l) = subst (λ (y : List Place). IsPart y (ts ++ (us ++ vs))) (sym (places_of-followed c d)) (pass_all ts (joined (code_part v) (code_part l)))
code_part (static_local p {ts} {us} q v l) = pass (at p signs.Static) (pass_all ts (pass_all us (code_part l)))
code_part (last_local p d) = before (at p signs.Semicolon ∷ []) (local_part d)
code_part (next_local p {ts} {us} {c} {d} o v) = subst (λ (y : List Place). IsPart y (ts ++ at p signs.Comma ∷ us)) (sym (places_of-followed c d)) (joined (local_part o) (pass (at p signs.Comma) (code_part v)))
code_part (ends p) = pass (at p signs.GroupEnd) end
code_part (otherwise p q s) = pass (at p signs.GroupElse) (before (at q signs.GroupEnd ∷ []) (code_part s))
code_part (elif p m s t) = pass (at p (signs.GroupElif m)) (joined (code_part s) (padded (code_part t)))
code_part (change r s) = before (at r signs.Semicolon ∷ []) (change_part s)
code_part (call p q r s {f} g) = keep (at p f) (no_part (at q signs.Open ∷ at r signs.Close ∷ at s signs.Semicolon ∷ []))
code_part (void_call p q r s t u v {f} g) = keep (at p signs.Open) (no_part (at q signs.Void ∷ at r signs.Close ∷ at s f ∷ at t signs.Open ∷ at u signs.Close ∷ at v signs.Semicolon ∷ []))
code_part (assert p q r s {ts} e) = keep (at p signs.Assert) (no_part (at q signs.Open ∷ (ts ++ at r signs.Close ∷ at s signs.Semicolon ∷ [])))
code_part (skip p) = keep (at p signs.Semicolon) end
code_part (block p q s) = keep (at p signs.LeftBrace) (joined (code_part s) (no_part (at q signs.RightBrace ∷ [])))
code_part (while p q r {b} {ts} {us} e s) = keep (at p signs.While) (pass (at q signs.Open) (pass_all ts (pass (at r signs.Close) (padded (code_part s)))))
code_part (for p q r z {b} {ts} {us} {vs} {ws} {start} {step = advance} {c} {t} {e} first middle last s) =
    let behind : IsPart (places_of advance ++ (places_of c ++ [])) (vs ++ at z signs.Close ∷ ws) = joined (clause_part last) (pass (at z signs.Close) (padded (code_part s))) in
    let text : List Item = at p signs.For ∷ at q signs.Open ∷ (ts ++ at r signs.Semicolon ∷ (us ++ (vs ++ at z signs.Close ∷ ws))) in
    subst (λ (y : List Place). IsPart y text) (sym (places_of-followed start (While t e advance c Done))) (pass (at p signs.For) (pass (at q signs.Open) (joined (clause_part first) (pass (at r signs.Semicolon) (joined (test_part middle) behind)))))
code_part (declaring_for p q z {b} {ts} {ds} {us} {vs} {ws} {start} {step = advance} {c} {t} {e} g l middle last s) =
    let behind : IsPart (places_of advance ++ (places_of c ++ [])) (vs ++ at z signs.Close ∷ ws) = joined (clause_part last) (pass (at z signs.Close) (padded (code_part s))) in
    let loop : IsPart (places_of (followed start (While t e advance c Done))) (ds ++ (us ++ (vs ++ at z signs.Close ∷ ws))) =
    subst (λ (y : List Place). IsPart y (ds ++ (us ++ (vs ++ at z signs.Close ∷ ws)))) (sym (places_of-followed start (While t e advance c Done))) (joined (code_part l) (joined (test_part middle) behind)) in
    keep (at p signs.For) (padded (pass (at q signs.Open) (pass_all ts loop)))
code_part (if_then p q r {b} {ts} {us} e s) = keep (at p signs.If) (pass (at q signs.Open) (pass_all ts (pass (at r signs.Close) (padded (code_part s)))))
code_part (if_else p q r z {b} {ts} {us} {vs} e s t) = keep (at p signs.If) (pass (at q signs.Open) (pass_all ts (pass (at r signs.Close) (joined (code_part s) (pass (at z signs.Else) (padded (code_part t)))))))
code_part (do_while p q r s t {b} {ts} {us} {x} l e) = keep (at p signs.Do) (joined (code_part l) (pass (at q signs.While) (pass (at r signs.Open) (keep x (no_part (us ++ at s signs.Close ∷ at t signs.Semicolon ∷ []))))))
code_part (break p q) = keep (at p signs.Break) (no_part (at q signs.Semicolon ∷ []))
code_part (continue p q) = keep (at p signs.Continue) (no_part (at q signs.Semicolon ∷ []))
code_part (return p q {ts} e) = keep (at p signs.Return) (no_part (ts ++ at q signs.Semicolon ∷ []))

body_part : {ts : List Item} {c : Code} {p : Place} → Body ts c p → IsPart (places_of c ++ p ∷ []) ts
body_part (body p {us} {vs} s e) = joined (code_part s) (keep (at p signs.RightBrace) (no_part vs))

main_part : {ts : List Item} {c : Code} {p : Place} → Main ts c p → IsPart (places_of c ++ p ∷ []) ts
main_part (main q r s t u {ts} {us} {vs} y o b) = pass_all ts (pass (at q signs.Main) (pass (at r signs.Open) (pass_all us (pass (at s signs.Close) (pass (at t signs.LeftBrace) (body_part b))))))

pub file_part : (items : List Item) (f : File) → Forms items f → IsPart (places_of f.body ++ f.end ∷ []) items
file_part _ _ (file {us} {vs} d m) = pass_all us (main_part m)
