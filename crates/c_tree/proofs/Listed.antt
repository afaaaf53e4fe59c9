-- Projections and places of lists of statements.
use Rattle.std.proofs.Common.{◌≡◌, ℕ, List, [], ◌∷◌, ◌++◌, Bool, cond, take, length, get_or, ◌+◌, ◌<◌, refl, ap, sym, ◌∙◌, append_assoc}
use Rattle.std.specs.Prelude.{false, slice_index_or}
use Rattle.c_tree.specs.declared.tree.Stmt.{Stmt}
use Rattle.c_tree.specs.declared.tree.Stmt.TheOpen as stmt
use Rattle.c_tree.specs.declared.tree.Stmt.TheVariants as variant
use Rattle.c_tree.specs.declared.tree.Stmt.TheViews.{outs-Cond}
use Rattle.std.specs.declared.vec.Vec.{Vec}
use Rattle.std.specs.declared.alloc.Global.{Global}
use Rattle.c_tree.specs.declared.tree.Stmt.TheOpen.{Stmt-F}
use Rattle.c_tree.specs.Tree.{Code, Done, Assign, Input, Assert, If, While, Do, Leave, Block, Skip, Cond, followed}
use Rattle.c_tree.specs.View.{front, code}
use Rattle.c_tree.specs.Project.{projected, IsNumbered}
use Rattle.c_tree.specs.Places.{places_of}
use Rattle.c_tree.proofs.Views.{opened, front_out, by_layer, followed_assoc, followed-Done, code-append, code-at, code-take_more}

pub projected-followed : (truths : List Bool) (a b : Code) → projected truths (followed a b) ≡ followed (projected truths a) (projected truths b)
projected-followed truths Done b = refl
projected-followed truths (Assign place target value rest) b = ap (Assign place target value) (projected-followed truths rest b)
projected-followed truths (Input place target rest) b = ap (Input place target) (projected-followed truths rest b)
projected-followed truths (Assert place test rest) b = ap (Assert place test) (projected-followed truths rest b)
projected-followed truths (If place test p q rest) b = ap (If place test (projected truths p) (projected truths q)) (projected-followed truths rest b)
projected-followed truths (While place test step body rest) b = ap (While place test (projected truths step) (projected truths body)) (projected-followed truths rest b)
projected-followed truths (Do place body at test rest) b = ap (Do place (projected truths body) at test) (projected-followed truths rest b)
projected-followed truths (Leave place jump rest) b = ap (Leave place jump) (projected-followed truths rest b)
projected-followed truths (Block place body rest) b = ap (Block place (projected truths body)) (projected-followed truths rest b)
projected-followed truths (Skip place rest) b = ap (Skip place) (projected-followed truths rest b)
projected-followed truths (Cond number p q rest) b =
    ap (followed (cond (slice_index_or truths number false) (projected truths p) (projected truths q))) (projected-followed truths rest b)
    ∙ sym (followed_assoc (cond (slice_index_or truths number false) (projected truths p) (projected truths q)) (projected truths rest) (projected truths b))

pub places_of-followed : (a b : Code) → places_of (followed a b) ≡ places_of a ++ places_of b
places_of-followed Done b = refl
places_of-followed (Assign place target value rest) b = ap (λ l. place ∷ l) (places_of-followed rest b)
places_of-followed (Input place target rest) b = ap (λ l. place ∷ l) (places_of-followed rest b)
places_of-followed (Assert place test rest) b = ap (λ l. place ∷ l) (places_of-followed rest b)
places_of-followed (If place test p q rest) b = simp (places_of-followed rest b, append_assoc)
places_of-followed (While place test step body rest) b = simp (places_of-followed rest b, append_assoc)
places_of-followed (Do place body at test rest) b = simp (places_of-followed rest b, append_assoc)
places_of-followed (Leave place jump rest) b = ap (λ l. place ∷ l) (places_of-followed rest b)
places_of-followed (Block place body rest) b = simp (places_of-followed rest b, append_assoc)
places_of-followed (Skip place rest) b = ap (λ l. place ∷ l) (places_of-followed rest b)
places_of-followed (Cond number p q rest) b = simp (places_of-followed rest b, append_assoc)

-- the same of one more statement of a list
pub places_of-take_more : (list : List Stmt) (i : ℕ) (s : Stmt) → i < length list → s ≡ get_or list i s → places_of (code (take (i + 1) list)) ≡ places_of (code (take i list)) ++ places_of (front s Done)
places_of-take_more list i s h e = ap places_of (code-take_more list i s h e) ∙ places_of-followed (code (take i list)) (front s Done)

pub projected-take_more : (truths : List Bool) (list : List Stmt) (i : ℕ) (s : Stmt) → i < length list → s ≡ get_or list i s → projected truths (code (take (i + 1) list)) ≡ followed (projected truths (code (take i list))) (projected truths (front s Done))
projected-take_more truths list i s h e = ap (projected truths) (code-take_more list i s h e) ∙ projected-followed truths (code (take i list)) (front s Done)

pub ruleset place_lists = (places_of-take_more, append_assoc)

IsNumbered-opened : (count : ℕ) (rest : Code) (x : Stmt-F Stmt) → IsNumbered count (opened x rest) → IsNumbered count (opened x Done) × IsNumbered count rest
IsNumbered-opened count rest (stmt.Assign place target value) h = (tt, h)
IsNumbered-opened count rest (stmt.Input place target) h = (tt, h)
IsNumbered-opened count rest (stmt.Assert place test) h = (tt, h)
IsNumbered-opened count rest (stmt.If place test p q) h = ((h.0, h.1, tt), h.2)
IsNumbered-opened count rest (stmt.While place test step body) h = ((h.0, h.1, tt), h.2)
IsNumbered-opened count rest (stmt.Do place body test_place test) h = ((h.0, tt), h.1)
IsNumbered-opened count rest (stmt.Leave place jump) h = (tt, h)
IsNumbered-opened count rest (stmt.Block place body) h = ((h.0, tt), h.1)
IsNumbered-opened count rest (stmt.Skip place) h = (tt, h)
IsNumbered-opened count rest (stmt.Cond number p q) h = ((h.0, h.1, h.2, tt), h.3)

pub IsNumbered-front : (count : ℕ) (s : Stmt) (rest : Code) → IsNumbered count (front s rest) → IsNumbered count (front s Done) × IsNumbered count rest
IsNumbered-front count s rest = by_layer (λ f. IsNumbered count (f rest) → IsNumbered count (f Done) × IsNumbered count rest) (IsNumbered-opened count rest) s

pub IsNumbered-at : (count : ℕ) (list : List Stmt) (i : ℕ) (s : Stmt) → i < length list → s ≡ get_or list i s → IsNumbered count (code list) → IsNumbered count (front s Done)
IsNumbered-at count = code-at (IsNumbered count) (IsNumbered-front count)

pub code-push : (xs : List Stmt) (s : Stmt) → code (xs ++ s ∷ []) ≡ followed (code xs) (front s Done)
code-push xs s = code-append xs (s ∷ [])

chosen_side : (b c : Bool) (x y : Code) → c ≡ b → followed (cond c x y) Done ≡ cond b x y
chosen_side b c x y e = followed-Done (cond c x y) ∙ ap (λ d. cond d x y) e

-- a choice is replaced by one side
pub projected-Cond : (truths : List Bool) (number : ℕ) (p q : Vec Stmt Global) (b : Bool) → slice_index_or truths number false ≡ b → projected truths (front (variant.Cond number p q) Done) ≡ cond b (projected truths (code p.items)) (projected truths (code q.items))
projected-Cond truths number p q b e =
    rw (front_out, outs-Cond) (chosen_side b (slice_index_or truths number false) (projected truths (code p.items)) (projected truths (code q.items)) e)

pub ruleset projected_lists = (projected-take_more, followed_assoc, followed-Done, IsNumbered-at)

pub ruleset pushes = (code-push)
