-- What stands behind a statement: it is read as behind the statement around it, and no statement begins with an `else`.
use Rattle.std.proofs.Common.{◌≡◌, ℕ, Bool, true, false, List, [], ◌∷◌, ◌++◌, refl, sym, ap, subst, ◌∙◌, append_assoc}
use Rattle.fam_outer.specs.declared.faults.Place.{Place}
use Rattle.c_tree.specs.Tree.{Term, Code, Done, If, While}
use Rattle.c_grammar.specs.declared.items.Sign.{Sign}
use Rattle.c_grammar.specs.declared.items.Sign.TheVariants as signs
use Rattle.c_grammar.specs.declared.items.Item.{Item}
use Rattle.c_grammar.specs.Grammar.{at, Raise, Lower, of_input, of_function, Changes, assignment, input_taken, compound_assignment, count_behind, count_before, Shape, Chained, Typed, int, int32, signed, signed_int, int_signed, Qualifier, Qualified, unqualified, const_before, const_behind, LocalDeclarator, uninitialised, initialised, from_call, Writes, none, more, choice, local, static_local, last_local, next_local, ends, otherwise, elif, change, call, void_call, assert, skip, block, while, for, declaring_for, if_then, if_else, do_while, break, continue, return}
use Rattle.c_grammar.specs.Ahead.{IsList, IsNoElse, NoElse}
use Rattle.c_grammar.specs.Machine.{Stack, Top, Braces, Yes, No, ThenOf, ElseOf, LoopOf, DoOf, Start, Onward, InList, Ready, Ended, folded, started_by, placed, begin, proceed, on, run}
use Rattle.c_grammar.proofs.CompleteExpressions.{Same, same_by}

abbrev pub Free : Bool → List Item → Type 0
Free true w = NoElse w
Free false w = Unit {0}

pub loop_step : (start : Start) (p : Place) (e : Term) (advance : Code) (outer : Stack) (c : Code) (q : Place) (s : Sign) → on (LoopOf start p e advance outer) c q s ≡ on outer (started_by start (While p e advance c Done)) q s
loop_step start p e advance outer c q signs.Else = refl
loop_step start p e advance outer c q _ = refl

pub loop_absorbs : (start : Start) (p : Place) (e : Term) (advance : Code) (outer : Stack) (c : Code) (w : List Item) → Same (Ended (LoopOf start p e advance outer) c) (Ended outer (started_by start (While p e advance c Done))) w
loop_absorbs start p e advance outer c w = same_by (Ended (LoopOf start p e advance outer) c) (Ended outer (started_by start (While p e advance c Done))) refl w (λ x y is. loop_step start p e advance outer c x.place x.sign)

pub else_step : (p : Place) (e : Term) (first : Code) (outer : Stack) (c : Code) (q : Place) (s : Sign) → on (ElseOf p e first outer) c q s ≡ on outer (If p e first c Done) q s
else_step p e first outer c q signs.Else = refl
else_step p e first outer c q _ = refl

pub else_absorbs : (p : Place) (e : Term) (first : Code) (outer : Stack) (c : Code) (w : List Item) → Same (Ended (ElseOf p e first outer) c) (Ended outer (If p e first c Done)) w
else_absorbs p e first outer c w = same_by (Ended (ElseOf p e first outer) c) (Ended outer (If p e first c Done)) refl w (λ x y is. else_step p e first outer c x.place x.sign)

pub then_step : (p : Place) (e : Term) (outer : Stack) (c : Code) (q : Place) (s : Sign) → IsNoElse s → on (ThenOf p e outer) c q s ≡ on outer (If p e c Done Done) q s
then_step p e outer c q signs.Else h = absurd h
then_step p e outer c q _ h = refl

pub then_absorbs : (p : Place) (e : Term) (outer : Stack) (c : Code) (w : List Item) → NoElse w → Same (Ended (ThenOf p e outer) c) (Ended outer (If p e c Done Done)) w
then_absorbs p e outer c w h = same_by (Ended (ThenOf p e outer) c) (Ended outer (If p e c Done Done)) refl w (λ x y is. then_step p e outer c x.place x.sign (subst NoElse is h))

-- in a list a statement is put into it
pub placed_list : (outer : Stack) (c : Code) → IsList outer → placed outer c ≡ InList (folded outer c)
placed_list (Top ds made) c is = refl
placed_list (Braces p made outer) c is = refl
placed_list (Yes links n made outer) c is = refl
placed_list (No links n first made outer) c is = refl
placed_list (ThenOf p e outer) c is = absurd is
placed_list (ElseOf p e first outer) c is = absurd is
placed_list (LoopOf start p e advance outer) c is = absurd is
placed_list (DoOf p outer) c is = absurd is

place_step : (outer : Stack) (c : Code) (q : Place) (s : Sign) → IsNoElse s → on outer c q s ≡ proceed (placed outer c) q s
place_step outer c q signs.Else h = absurd h
place_step outer c q _ h = refl

pub fold_step : (outer : Stack) (c : Code) (q : Place) (s : Sign) → IsList outer → IsNoElse s → on outer c q s ≡ begin (folded outer c) q s
fold_step outer c q s is h = place_step outer c q s h ∙ ap (λ (o : Onward). proceed o q s) (placed_list outer c is)

pub folds : (outer : Stack) (c : Code) (w : List Item) → IsList outer → NoElse w → Same (Ended outer c) (Ready (folded outer c)) w
folds outer c w is h = same_by (Ended outer c) (Ready (folded outer c)) refl w (λ x y eq. fold_step outer c x.place x.sign is (subst NoElse eq h))

pub opens_group : (p : Place) (n : ℕ) (outer : Stack) (w : List Item) → IsList outer → run (Ready outer) (at p (signs.GroupIf n) ∷ w) ≡ run (Ready (Yes [] n Done outer)) w
unfolding run
opens_group p n (Top ds made) w is = refl
opens_group p n (Braces q made outer) w is = refl
opens_group p n (Yes links m made outer) w is = refl
opens_group p n (No links m first made outer) w is = refl
opens_group p n (ThenOf q e outer) w is = absurd is
opens_group p n (ElseOf q e first outer) w is = absurd is
opens_group p n (LoopOf start q e advance outer) w is = absurd is
opens_group p n (DoOf q outer) w is = absurd is

pub free_of : (b : Bool) (w : List Item) → NoElse w → Free b w
free_of true w h = h
free_of false w h = tt

pub typed_no_else : {ts : List Item} → Typed ts → (w : List Item) → NoElse (ts ++ w)
typed_no_else (int p) w = tt
typed_no_else (int32 p) w = tt
typed_no_else (signed p) w = tt
typed_no_else (signed_int p q) w = tt
typed_no_else (int_signed p q) w = tt

pub qualified_no_else : {kind : Qualifier} {ts : List Item} → Qualified kind ts → (w : List Item) → NoElse (ts ++ w)
qualified_no_else (unqualified y) w = typed_no_else y w
qualified_no_else (const_before p y) w = tt
qualified_no_else (const_behind p {us} y) w = subst NoElse (sym (append_assoc us (at p signs.Const ∷ []) w)) (typed_no_else y (at p signs.Const ∷ w))

pub declarator_no_else : {kind : Qualifier} {ts : List Item} {c : Code} → LocalDeclarator kind ts c → (w : List Item) → NoElse (ts ++ w)
declarator_no_else (uninitialised p x) w = tt
declarator_no_else (initialised p q x s) w = tt
declarator_no_else (from_call p q r s t x g) w = tt

pub change_no_else : {ts : List Item} {c : Code} → Changes ts c → (w : List Item) → NoElse (ts ++ w)
change_no_else (assignment p q x s) w = tt
change_no_else (input_taken p q r s t x g) w = tt
change_no_else (compound_assignment p q x u s) w = tt
change_no_else (count_behind p q x u) w = tt
change_no_else (count_before p q x Raise) w = tt
change_no_else (count_before p q x Lower) w = tt

pub no_else : {s : Shape} {ts : List Item} {c : Code} → Writes s ts c → (w : List Item) → NoElse w → NoElse (ts ++ w)
no_else none w h = h
no_else (more {b} {ts} {us} s l) w h = subst NoElse (sym (append_assoc ts us w)) (no_else s (us ++ w) (no_else l w h))
no_else (choice p n s t l) w h = tt
no_else (local {ts} {us} {vs} q s l) w h = subst NoElse (sym (append_assoc ts (us ++ vs) w)) (qualified_no_else q ((us ++ vs) ++ w))
no_else (static_local p q v l) w h = tt
no_else (last_local p {ts} d) w h = subst NoElse (sym (append_assoc ts (at p signs.Semicolon ∷ []) w)) (declarator_no_else d (at p signs.Semicolon ∷ w))
no_else (next_local p {ts} {us} d s) w h = subst NoElse (sym (append_assoc ts (at p signs.Comma ∷ us) w)) (declarator_no_else d (at p signs.Comma ∷ (us ++ w)))
no_else (ends p) w h = tt
no_else (otherwise p q s) w h = tt
no_else (elif p n s t) w h = tt
no_else (change r {ts} s) w h = subst NoElse (sym (append_assoc ts (at r signs.Semicolon ∷ []) w)) (change_no_else s (at r signs.Semicolon ∷ w))
no_else (call p q r s of_input) w h = tt
no_else (call p q r s (of_function k)) w h = tt
no_else (void_call p q r s t u v g) w h = tt
no_else (assert p q r s e) w h = tt
no_else (skip p) w h = tt
no_else (block p q s) w h = tt
no_else (while p q r e s) w h = tt
no_else (for p q r z a b d s) w h = tt
no_else (declaring_for p q z g l b d s) w h = tt
no_else (if_then p q r e s) w h = tt
no_else (if_else p q r s e t u) w h = tt
no_else (do_while p q r s t l e) w h = tt
no_else (break p q) w h = tt
no_else (continue p q) w h = tt
no_else (return p q e) w h = tt

pub chain_no_else : {ts : List Item} {c : Code} {i : Bool} → Writes (Chained i) ts c → (w : List Item) → NoElse (ts ++ w)
chain_no_else (ends p) w = tt
chain_no_else (otherwise p q s) w = tt
chain_no_else (elif p n s t) w = tt
