-- Stacks of statements whose last one comes first.
use Rattle.std.proofs.Common.{◌≡◌, List, [], ◌∷◌, ◌++◌, map, take, length, ◌-◌, ℕ, zero, suc, Option, Some, None, slice_get, Bool, true, false, refl, ap, sym, ◌∙◌, arith, Bor, MatchOption, option_copied}
use Rattle.std.specs.Prelude.{reverse}
use Rattle.c_tree.specs.declared.tree.Stmt.{Stmt}
use Rattle.c_tree.specs.Tree.{Code, Done, If, followed}
use Rattle.c_tree.specs.View.{term, front, code}
use Rattle.std.proofs.lemmas.List.{reverse-append, length-append, take_at}
use Rattle.std.proofs.lemmas.Option.{slice_get-get_or}
use Rattle.c_tree.specs.declared.tree.Stmt.TheOpen as stmt
use Rattle.c_tree.specs.declared.tree.Stmt.TheOpen.{Stmt-F}
use Rattle.c_tree.specs.declared.tree.Stmt.TheViews.{out-Stmt}
use Rattle.c_tree.specs.declared.tree.Stmt.TheVariants as variant
use Rattle.c_tree.specs.declared.tree.Expr.{Expr}
use Rattle.std.specs.declared.vec.Vec.{Vec}
use Rattle.std.specs.declared.alloc.Global.{Global}
use Rattle.fam_outer.specs.declared.faults.Place.{Place}
use Rattle.c_tree.proofs.Views as Views
use Rattle.c_tree.proofs.Views.{front_out, by_layer, followed-front, followed-Done}
use Rattle.run_meaning.proofs.Plans.{front-If}
use Rattle.run_meaning.specs.View.{stacked, pile, below, opened, inner, list_of, alone}

-- more on a stack comes before it
pub stacked-push : (xs : List Stmt) (s : Stmt) (rest : Code) → stacked (map front (xs ++ s ∷ [])) rest ≡ front s (stacked (map front xs) rest)
stacked-push [] s rest = refl
stacked-push (x ∷ xs) s rest = stacked-push xs s (front x rest)

pub stacked-append : (xs ys : List Stmt) (rest : Code) → stacked (map front (xs ++ ys)) rest ≡ stacked (map front ys) (stacked (map front xs) rest)
stacked-append [] ys rest = refl
stacked-append (x ∷ xs) ys rest = stacked-append xs ys (front x rest)

-- a list that is put on a stack from its end comes before it
pub stacked-reverse : (ys : List Stmt) (rest : Code) → stacked (map front (reverse ys)) rest ≡ followed (code ys) rest
stacked-reverse [] rest = refl
stacked-reverse (y ∷ ys) rest =
    ap (λ l. stacked (map front l) rest) (reverse-append (y ∷ []) ys) ∙ (stacked-push (reverse ys) y rest ∙ (ap (front y) (stacked-reverse ys rest) ∙ sym (followed-front y (code ys) rest)))

pub stacked_put : (xs ys : List Stmt) (rest : Code) → stacked (map front (xs ++ reverse ys)) rest ≡ followed (code ys) (stacked (map front xs) rest)
stacked_put xs ys rest = stacked-append xs (reverse ys) rest ∙ stacked-reverse ys (stacked (map front xs) rest)

at_end : (xs : List Stmt) (s : Stmt) (k : ℕ) → length xs ≡ suc k → slice_get xs k ≡ Some s → xs ≡ take k xs ++ s ∷ []
at_end [] s k h e = absurd (omega arith)
at_end (x ∷ []) s zero h e = cc
at_end (x ∷ y ∷ xs) s zero h e = absurd (omega arith)
at_end (x ∷ xs) s (suc k) h e = ap (λ l. x ∷ l) (at_end xs s k (omega arith) e)

-- an element at the last place is on top
pub last_is : (xs : List Stmt) (s : Stmt) → slice_get xs (length xs - 1) ≡ Some s → xs ≡ take (length xs - 1) xs ++ s ∷ []
last_is [] s e = absurd (none_there e)
  where
    none_there : slice_get {X = Stmt} [] 0 ≡ Some s → ⊥
    none_there e = cc
last_is (x ∷ xs) s e = at_end (x ∷ xs) s (length (x ∷ xs) - 1) (omega arith) e

pub on_top : (xs : List Stmt) (s : Stmt) (rest : Code) → slice_get xs (length xs - 1) ≡ Some s → stacked (map front xs) rest ≡ front s (stacked (map front (take (length xs - 1) xs)) rest)
on_top xs s rest e = ap (λ l. stacked (map front l) rest) (last_is xs s e) ∙ stacked-push (take (length xs - 1) xs) s rest

-- a list that is put on an empty stack from its end
pub pile-reverse : (ys : List Stmt) → pile (reverse ys) ≡ code ys
unfolding pile
pile-reverse ys = stacked-reverse ys Done ∙ followed-Done (code ys)

pub ruleset piles = (pile-reverse)

pub pile-empty : pile [] ≡ Done
unfolding pile
pile-empty = refl

pub pile-none : (xs : List Stmt) → length xs ≡ 0 → pile xs ≡ Done
pile-none [] e = pile-empty
pile-none (x ∷ xs) e = absurd (omega (arith, e))

pub pile-push : (xs ys : List Stmt) (s : Stmt) → xs ≡ ys ++ s ∷ [] → pile xs ≡ front s (pile ys)
unfolding pile
pile-push xs ys s e = ap (λ l. stacked (map front l) Done) e ∙ stacked-push ys s Done

pub pile-put : (ys list : List Stmt) → pile (ys ++ reverse list) ≡ followed (code list) (pile ys)
unfolding pile
pile-put ys list = stacked_put ys list Done

pub pile-below : (xs : List Stmt) → pile (take (length xs - 1) xs) ≡ below xs
unfolding pile below
pile-below xs = refl

pub below-push : (xs ys : List Stmt) (s : Stmt) → xs ≡ ys ++ s ∷ [] → below xs ≡ pile ys
unfolding pile below
below-push xs ys s e =
    let n : length xs - 1 ≡ length ys = omega (arith, ap length e, length-append ys (s ∷ [])) in
    ap (λ l. stacked (map front l) Done) (ap (λ k. take k xs) n ∙ ap (take (length ys)) e ∙ take_at ys (s ∷ []) (length ys) refl)

-- the last statement of a stack is on top, and a stack without one is empty
pub head_is : (r : Option (Bor Stmt)) (xs : List Stmt) → option_copied r ≡ slice_get xs (length xs - 1) → MatchOption r (pile xs ≡ Done) (λ s. pile xs ≡ front s.now (below xs))
unfolding pile below
head_is None [] e = refl
head_is None (x ∷ xs) e = let there = slice_get-get_or (x ∷ xs) (length (x ∷ xs) - 1) x (omega arith) in cc
head_is (Some s) xs e = on_top xs s.now Done (sym e)

-- a statement's list in its place
opened-opened : (first : Bool) (rest : Code) (x : Stmt-F Stmt) → opened first (Views.opened x rest) ≡ followed (code (inner first x)) rest
opened-opened first rest (stmt.Assign place target value) = refl
opened-opened first rest (stmt.Input place target) = refl
opened-opened first rest (stmt.Assert place test) = refl
opened-opened true rest (stmt.If place test p q) = refl
opened-opened false rest (stmt.If place test p q) = refl
opened-opened first rest (stmt.While place test step body) = refl
opened-opened first rest (stmt.Do place body test_place test) = refl
opened-opened first rest (stmt.Leave place jump) = refl
opened-opened first rest (stmt.Block place body) = refl
opened-opened first rest (stmt.Skip place) = refl
opened-opened first rest (stmt.Cond number p q) = refl

pub opened-front : (first : Bool) (s : Stmt) (rest : Code) → opened first (front s rest) ≡ followed (code (list_of first s)) rest
opened-front first s rest = rw front_out (opened-opened first rest (out-Stmt s))

alone-opened : (rest : Code) (x : Stmt-F Stmt) → alone (Views.opened x rest) ≡ Views.opened x Done
alone-opened rest (stmt.Assign place target value) = refl
alone-opened rest (stmt.Input place target) = refl
alone-opened rest (stmt.Assert place test) = refl
alone-opened rest (stmt.If place test p q) = refl
alone-opened rest (stmt.While place test step body) = refl
alone-opened rest (stmt.Do place body test_place test) = refl
alone-opened rest (stmt.Leave place jump) = refl
alone-opened rest (stmt.Block place body) = refl
alone-opened rest (stmt.Skip place) = refl
alone-opened rest (stmt.Cond number p q) = refl

pub alone-front : (s : Stmt) (rest : Code) → alone (front s rest) ≡ front s Done
alone-front s rest = by_layer (λ f. alone (f rest) ≡ f Done) (alone-opened rest) s

-- a list of the first statement in its place
pub opened-pile : (first : Bool) (xs ys zs list : List Stmt) (s : Stmt) → xs ≡ ys ++ s ∷ [] → list ≡ list_of first s → zs ≡ ys ++ reverse list → pile zs ≡ opened first (pile xs)
opened-pile first xs ys zs list s e f g =
    ap pile g ∙ pile-put ys list ∙ ap (λ l. followed (code l) (pile ys)) f ∙ sym (ap (opened first) (pile-push xs ys s e) ∙ opened-front first s (pile ys))

-- the first statement as a list
pub alone-pile : (xs ys zs : List Stmt) (s : Stmt) → xs ≡ ys ++ s ∷ [] → zs ≡ s ∷ [] → code zs ≡ alone (pile xs)
alone-pile xs ys zs s e f = ap code f ∙ sym (ap alone (pile-push xs ys s e) ∙ alone-front s (pile ys))

pub alone-none : (xs zs : List Stmt) → length xs ≡ 0 → zs ≡ [] → code zs ≡ alone (pile xs)
alone-none xs zs e f = ap code f ∙ sym (ap alone (pile-none xs e))

-- the first statement within an `if`
pub wrapped : (xs ys zs : List Stmt) (place : Place) (test : Expr) (y n : Vec Stmt Global) → ys ≡ take (length xs - 1) xs → zs ≡ ys ++ variant.If place test y n ∷ [] → code y.items ≡ alone (pile xs) → n.items ≡ [] → pile zs ≡ If place (term test) (alone (pile xs)) Done (below xs)
wrapped xs ys zs place test y n e f g h =
    pile-push zs ys (variant.If place test y n) f ∙ front-If place test y n (pile ys)
    ∙ ap (λ a. If place (term test) a (code n.items) (pile ys)) g
    ∙ ap (λ l. If place (term test) (alone (pile xs)) (code l) (pile ys)) h
    ∙ ap (If place (term test) (alone (pile xs)) Done) (ap pile e ∙ pile-below xs)
