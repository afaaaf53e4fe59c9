-- The conditions of a program are those of its items.
use Rattle.std.proofs.Common.{ℕ, ◌<◌, Bool, true, false, cond, List, [], ◌∷◌, ◌++◌, sym, subst}
use Rattle.std.specs.List.{All}
use Rattle.std.proofs.lemmas.List.Elements.{All-append, All-cons, All-nil}
use Rattle.fam_outer.specs.declared.faults.Place.{Place}
use Rattle.c_tree.specs.declared.lists.Guard.{Guard}
use Rattle.c_tree.specs.declared.lists.Declared.{Declared}
use Rattle.c_tree.specs.Tree.{Code, Done, Assign, Input, Assert, If, While, Do, Leave, Block, Skip, Cond, followed}
use Rattle.c_tree.specs.Project.{IsNumbered, IsGuarded, IsConditioned}
use Rattle.c_grammar.specs.Statics.{statics_by}
use Rattle.c_grammar.proofs.HeldStatics.{statics_guarded}
use Rattle.c_grammar.specs.declared.items.Item.{Item}
use Rattle.c_grammar.specs.declared.items.Sign.TheVariants as signs
use Rattle.c_grammar.specs.Grammar.{at, Changes, assignment, input_taken, compound_assignment, count_behind, count_before, Clause, no_clause, clause, Qualifier, LocalDeclarator, uninitialised, initialised, from_call, Shape, Writes, none, more, choice, local, static_local, last_local, next_local, ends, otherwise, elif, change, call, void_call, assert, skip, block, while, for, declaring_for, if_then, if_else, do_while, break, continue, return, declared, Part, Outer, Vars, Later, Declares, nothing, variables, prototype, void_prototype, definition, section, last_var, next_var, end_part, else_part, elif_part, Body, body, Main, main, File, Forms, file, has_groups, held_of, whole_of}
use Rattle.c_grammar.specs.Facts.{AreConditionsOf, Conditioned}

cut : (n : ℕ) (xs ys : List Item) → AreConditionsOf n (xs ++ ys) → AreConditionsOf n xs × AreConditionsOf n ys
cut n [] ys h = (tt, h)
cut n (x ∷ xs) ys h = let r = cut n xs ys h.1 in ((h.0, r.0), r.1)

followed_numbered : (n : ℕ) (c d : Code) → IsNumbered n c → IsNumbered n d → IsNumbered n (followed c d)
followed_numbered n Done d h i = i
followed_numbered n (Assign p x e rest) d h i = followed_numbered n rest d h i
followed_numbered n (Input p x rest) d h i = followed_numbered n rest d h i
followed_numbered n (Assert p e rest) d h i = followed_numbered n rest d h i
followed_numbered n (If p e a b rest) d h i = (h.0, h.1, followed_numbered n rest d h.2 i)
followed_numbered n (While p e a b rest) d h i = (h.0, h.1, followed_numbered n rest d h.2 i)
followed_numbered n (Do p a q e rest) d h i = (h.0, followed_numbered n rest d h.1 i)
followed_numbered n (Leave p j rest) d h i = followed_numbered n rest d h i
followed_numbered n (Block p a rest) d h i = (h.0, followed_numbered n rest d h.1 i)
followed_numbered n (Skip p rest) d h i = followed_numbered n rest d h i
followed_numbered n (Cond m a b rest) d h i = (h.0, h.1, h.2, followed_numbered n rest d h.3 i)

local_numbered : {ts : List Item} {c : Code} {kind : Qualifier} (n : ℕ) → LocalDeclarator kind ts c → IsNumbered n c
local_numbered n (uninitialised p x) = tt
local_numbered n (initialised p q x e) = tt
local_numbered n (from_call p q r s t x g) = tt

change_numbered : {ts : List Item} {c : Code} (n : ℕ) → Changes ts c → IsNumbered n c
change_numbered n (assignment p q x e) = tt
change_numbered n (input_taken p q r s t x g) = tt
change_numbered n (compound_assignment p q x u e) = tt
change_numbered n (count_behind p q x u) = tt
change_numbered n (count_before p q x u) = tt

clause_numbered : {ts : List Item} {c : Code} (n : ℕ) → Clause ts c → IsNumbered n c
clause_numbered n no_clause = tt
clause_numbered n (clause s) = change_numbered n s

code_numbered : {s : Shape} {ts : List Item} {c : Code} (n : ℕ) → Writes s ts c → AreConditionsOf n ts → IsNumbered n c
code_numbered n none h = tt
code_numbered n (more {b} {ts} {us} {c} {d} s l) h = let r = cut n ts us h in followed_numbered n c d (code_numbered n s r.0) (code_numbered n l r.1)
code_numbered n (choice p m {ts} {us} {vs} s t l) h = let r = cut n ts (us ++ vs) h.1 in let q = cut n us vs r.1 in (h.0, code_numbered n s r.0, code_numbered n t q.0, code_numbered n l q.1)
code_numbered n (local {ts} {us} {vs} {c} {d} q v l) h = let k = cut n us vs (cut n ts (us ++ vs) h).1 in followed_numbered n c d (code_numbered n v k.0) (code_numbered n l k.1)
code_numbered n (static_local p {ts} {us} {vs} q v l) h = code_numbered n l (cut n us vs (cut n ts (us ++ vs) h.1).1).1
code_numbered n (last_local p d) h = local_numbered n d
code_numbered n (next_local p {ts} {us} {c} {d} o v) h = followed_numbered n c d (local_numbered n o) (code_numbered n v (cut n ts (at p signs.Comma ∷ us) h).1.1)
code_numbered n (ends p) h = tt
code_numbered n (otherwise p q {ts} s) h = code_numbered n s (cut n ts (at q signs.GroupEnd ∷ []) h.1).0
code_numbered n (elif p m {ts} {us} s t) h = let r = cut n ts us h.1 in (h.0, code_numbered n s r.0, code_numbered n t r.1, tt)
code_numbered n (change r s) h = change_numbered n s
code_numbered n (call p q r s g) h = tt
code_numbered n (void_call p q r s t u v g) h = tt
code_numbered n (assert p q r s e) h = tt
code_numbered n (skip p) h = tt
code_numbered n (block p q {ts} s) h = (code_numbered n s (cut n ts (at q signs.RightBrace ∷ []) h.1).0, tt)
code_numbered n (while p q r {b} {ts} {us} e s) h = (tt, code_numbered n s (cut n ts (at r signs.Close ∷ us) h.1.1).1.1, tt)
code_numbered n (for p q r z {b} {ts} {us} {vs} {ws} {start} {step = advance} {c} {t} {e} first middle last s) h =
    let k = cut n us (vs ++ at z signs.Close ∷ ws) (cut n ts (at r signs.Semicolon ∷ (us ++ (vs ++ at z signs.Close ∷ ws))) h.1.1).1.1 in
    let l = cut n vs (at z signs.Close ∷ ws) k.1 in
    followed_numbered n start (While t e advance c Done) (clause_numbered n first) (clause_numbered n last, code_numbered n s l.1.1, tt)
code_numbered n (declaring_for p q z {b} {ts} {ds} {us} {vs} {ws} {start} {step = advance} {c} {t} {e} g l middle last s) h =
    let j = cut n ds (us ++ (vs ++ at z signs.Close ∷ ws)) (cut n ts (ds ++ (us ++ (vs ++ at z signs.Close ∷ ws))) h.1.1).1 in
    let k = cut n vs (at z signs.Close ∷ ws) (cut n us (vs ++ at z signs.Close ∷ ws) j.1).1 in
    (followed_numbered n start (While t e advance c Done) (code_numbered n l j.0) (clause_numbered n last, code_numbered n s k.1.1, tt), tt)
code_numbered n (if_then p q r {b} {ts} {us} e s) h = (code_numbered n s (cut n ts (at r signs.Close ∷ us) h.1.1).1.1, tt, tt)
code_numbered n (if_else p q r z {b} {ts} {us} {vs} e s t) h =
    let k = cut n us (at z signs.Else ∷ vs) (cut n ts (at r signs.Close ∷ (us ++ at z signs.Else ∷ vs)) h.1.1).1.1 in
    (code_numbered n s k.0, code_numbered n t k.1.1, tt)
code_numbered n (do_while p q r s t {b} {ts} {us} {x} l e) h = (code_numbered n l (cut n ts (at q signs.While ∷ at r signs.Open ∷ x ∷ (us ++ at s signs.Close ∷ at t signs.Semicolon ∷ [])) h.1).0, tt)
code_numbered n (break p q) h = tt
code_numbered n (continue p q) h = tt
code_numbered n (return p q e) h = tt

-- guards with conditions below a count
abbrev IsBelow : ℕ → Guard → Type 0
IsBelow n g = g.number < n

more_guards : (n m : ℕ) (b : Bool) (gs : List Guard) → m < n → All (IsBelow n) gs → All (IsBelow n) (gs ++ record { number = m; positive = b } ∷ [])
more_guards n m b gs lt h = All-append (IsBelow n) gs (record { number = m; positive = b } ∷ []) h (All-cons (IsBelow n) (record { number = m; positive = b }) [] lt (All-nil (IsBelow n)))

abbrev GuardsOf : Part → List Guard
GuardsOf (Outer gs) = gs
GuardsOf (Vars kind gs) = gs
GuardsOf (Later gs) = gs

declared_numbered : {s : Part} {us : List Item} {ds : List Declared} (n : ℕ) → Declares s us ds → All (IsBelow n) (GuardsOf s) → AreConditionsOf n us → All (IsGuarded n) ds
declared_numbered n (nothing gs) g h = All-nil (IsGuarded n)
declared_numbered n (variables gs {us} {vs} {ws} {ds} {es} o v d) g h =
    let k = cut n vs ws (cut n us (vs ++ ws) h).1 in
    All-append (IsGuarded n) ds es (declared_numbered n v g k.0) (declared_numbered n d g k.1)
declared_numbered n (prototype q r s t gs {f} {us} {vs} {ws} o i v d) g h =
    let k = cut n us (at q f ∷ at r signs.Open ∷ (vs ++ at s signs.Close ∷ at t signs.Semicolon ∷ ws)) h in
    declared_numbered n d g (cut n vs (at s signs.Close ∷ at t signs.Semicolon ∷ ws) k.1.1.1).1.1.1
declared_numbered n (void_prototype p q r s t m gs {us} {vs} {ws} o v d) g h =
    let k = cut n us (at p signs.Void ∷ at q (signs.Function m) ∷ at r signs.Open ∷ (vs ++ at s signs.Close ∷ at t signs.Semicolon ∷ ws)) h in
    declared_numbered n d g (cut n vs (at s signs.Close ∷ at t signs.Semicolon ∷ ws) k.1.1.1.1).1.1.1
declared_numbered n (definition gs {us} {ws} {es} {x} {n = v} o d) g h = All-cons (IsGuarded n) (declared x v gs) es g (declared_numbered n d g (cut n us ws h).1)
declared_numbered n (section p m gs {us} {vs} {ws} {cs} {ds} {es} a b d) g h =
    let k = cut n us (vs ++ ws) h.1 in
    let l = cut n vs ws k.1 in
    All-append (IsGuarded n) cs (ds ++ es) (declared_numbered n a (more_guards n m true gs h.0 g) k.0) (All-append (IsGuarded n) ds es (declared_numbered n b (more_guards n m false gs h.0 g) l.0) (declared_numbered n d g l.1))
declared_numbered n (last_var gs {us} {vs} {x} {n = v} d o) g h = All-cons (IsGuarded n) (declared x v gs) [] g (All-nil (IsGuarded n))
declared_numbered n (next_var p gs {us} {vs} {x} {n = v} {ds} d l) g h = All-cons (IsGuarded n) (declared x v gs) ds g (declared_numbered n l g (cut n us (at p signs.Comma ∷ vs) h).1.1)
declared_numbered n (end_part p gs) g h = All-nil (IsGuarded n)
declared_numbered n (else_part p q gs {us} d) g h = declared_numbered n d g (cut n us (at q signs.GroupEnd ∷ []) h.1).0
declared_numbered n (elif_part p m gs {us} {vs} {cs} {ds} a b) g h =
    let k = cut n us vs h.1 in
    All-append (IsGuarded n) cs ds (declared_numbered n a (more_guards n m true gs h.0 g) k.0) (declared_numbered n b (more_guards n m false gs h.0 g) k.1)

body_numbered : {ts : List Item} {c : Code} {p : Place} (n : ℕ) → Body ts c p → AreConditionsOf n ts → IsNumbered n c
body_numbered n (body p {us} {vs} s e) h = code_numbered n s (cut n us (at p signs.RightBrace ∷ vs) h).0

main_numbered : {ts : List Item} {c : Code} {p : Place} (n : ℕ) → Main ts c p → AreConditionsOf n ts → IsNumbered n c
main_numbered n (main q r s t u {ts} {us} {vs} y o b) h =
    let k = cut n ts (at q signs.Main ∷ at r signs.Open ∷ (us ++ at s signs.Close ∷ at t signs.LeftBrace ∷ vs)) h in
    body_numbered n b (cut n us (at s signs.Close ∷ at t signs.LeftBrace ∷ vs) k.1.1.1).1.1.1

file_numbered : (n : ℕ) (items : List Item) (f : File) → Forms items f → AreConditionsOf n items → IsNumbered n f.body × All (IsGuarded n) f.declared
file_numbered n _ _ (file {us} {vs} d m) h = let k = cut n us vs h in (main_numbered n m k.1, declared_numbered n d (All-nil (IsBelow n)) k.0)

whole_numbered : (n : ℕ) (names : List (List ℕ)) (items : List Item) (f : File) → AreConditionsOf n items → IsNumbered n f.body × All (IsGuarded n) f.declared → IsConditioned n (whole_of names items f)
whole_numbered n names items f k h =
    let held : All (IsGuarded n) (held_of items f) = All-append (IsGuarded n) f.declared (statics_by items) h.1 (statics_guarded n items k) in
    record {
      body = h.0;
      declared = elim (has_groups items) as (λ b. All (IsGuarded n) (cond b (held_of items f) [])) [ true ↦ held | false ↦ All-nil (IsGuarded n) ];
    }

pub conditioned_law : Conditioned
conditioned_law n names items p h s = subst (IsConditioned n) (sym s.is) (whole_numbered n names items s.file h (file_numbered n items s.file s.forms h))
