-- A statement's tree one layer at a time, and lists of statements one after another.
use Rattle.std.proofs.Common.{◌≡◌, ℕ, List, [], ◌∷◌, ◌++◌, ◌+◌, ◌<◌, take, length, get_or, zero, suc, refl, ap, sym, subst, ◌∙◌, arith}
use Rattle.std.proofs.lemmas.List.{take_more}
use Rattle.c_tree.specs.declared.tree.Stmt.{Stmt}
use Rattle.c_tree.specs.declared.tree.Stmt.TheOpen as stmt
use Rattle.c_tree.specs.declared.tree.Stmt.TheOpen.{Stmt-F}
use Rattle.c_tree.specs.declared.tree.Stmt.TheViews.{out-Stmt}
use Rattle.c_tree.specs.declared.tree.Stmt.TheFolds.{fold_out-Stmt, map-Stmt}
use Rattle.c_tree.specs.Tree.{Code, Done, Assign, Input, Assert, If, While, Do, Leave, Block, Skip, Cond, followed}
use Rattle.c_tree.specs.View.{layer, front, code}
use Rattle.c_tree.specs.Fit.{IsCodeOf, IsPlain}

-- one layer of a statement, in front of a list
abbrev pub opened : Stmt-F Stmt → Code → Code
opened x = layer (map-Stmt Stmt (Code → Code) front x)

-- a statement is its outermost layer
pub front_out : (s : Stmt) → front s ≡ opened (out-Stmt s)
front_out = fold_out-Stmt (Code → Code) layer

-- a fact of every statement in front of a list holds where it does of every layer
pub by_layer : (P : (Code → Code) → Type 0) → ((x : Stmt-F Stmt) → P (opened x)) → (s : Stmt) → P (front s)
by_layer P h s = rw front_out (h (out-Stmt s))

followed-opened : (next rest : Code) (x : Stmt-F Stmt) → followed (opened x rest) next ≡ opened x (followed rest next)
followed-opened next rest (stmt.Assign place target value) = refl
followed-opened next rest (stmt.Input place target) = refl
followed-opened next rest (stmt.Assert place test) = refl
followed-opened next rest (stmt.If place test p q) = refl
followed-opened next rest (stmt.While place test step body) = refl
followed-opened next rest (stmt.Do place body test_place test) = refl
followed-opened next rest (stmt.Leave place jump) = refl
followed-opened next rest (stmt.Block place body) = refl
followed-opened next rest (stmt.Skip place) = refl
followed-opened next rest (stmt.Cond number p q) = refl

pub followed-front : (s : Stmt) (rest next : Code) → followed (front s rest) next ≡ front s (followed rest next)
followed-front s rest next = by_layer (λ f. followed (f rest) next ≡ f (followed rest next)) (followed-opened next rest) s

pub followed-Done : (a : Code) → followed a Done ≡ a
followed-Done Done = refl
followed-Done (Assign place target value rest) = ap (Assign place target value) (followed-Done rest)
followed-Done (Input place target rest) = ap (Input place target) (followed-Done rest)
followed-Done (Assert place test rest) = ap (Assert place test) (followed-Done rest)
followed-Done (If place test p q rest) = ap (If place test p q) (followed-Done rest)
followed-Done (While place test step body rest) = ap (While place test step body) (followed-Done rest)
followed-Done (Do place body at test rest) = ap (Do place body at test) (followed-Done rest)
followed-Done (Leave place jump rest) = ap (Leave place jump) (followed-Done rest)
followed-Done (Block place body rest) = ap (Block place body) (followed-Done rest)
followed-Done (Skip place rest) = ap (Skip place) (followed-Done rest)
followed-Done (Cond number p q rest) = ap (Cond number p q) (followed-Done rest)

pub followed_assoc : (a b c : Code) → followed (followed a b) c ≡ followed a (followed b c)
followed_assoc Done b c = refl
followed_assoc (Assign place target value rest) b c = ap (Assign place target value) (followed_assoc rest b c)
followed_assoc (Input place target rest) b c = ap (Input place target) (followed_assoc rest b c)
followed_assoc (Assert place test rest) b c = ap (Assert place test) (followed_assoc rest b c)
followed_assoc (If place test p q rest) b c = ap (If place test p q) (followed_assoc rest b c)
followed_assoc (While place test step body rest) b c = ap (While place test step body) (followed_assoc rest b c)
followed_assoc (Do place body at test rest) b c = ap (Do place body at test) (followed_assoc rest b c)
followed_assoc (Leave place jump rest) b c = ap (Leave place jump) (followed_assoc rest b c)
followed_assoc (Block place body rest) b c = ap (Block place body) (followed_assoc rest b c)
followed_assoc (Skip place rest) b c = ap (Skip place) (followed_assoc rest b c)
followed_assoc (Cond number p q rest) b c = ap (Cond number p q) (followed_assoc rest b c)

pub code-append : (xs ys : List Stmt) → code (xs ++ ys) ≡ followed (code xs) (code ys)
code-append [] ys = refl
code-append (x ∷ xs) ys = ap (front x) (code-append xs ys) ∙ sym (followed-front x (code xs) (code ys))

-- one more statement of a list
pub code-take_more : (list : List Stmt) (i : ℕ) (s : Stmt) → i < length list → s ≡ get_or list i s → code (take (i + 1) list) ≡ followed (code (take i list)) (front s Done)
code-take_more list i s h e =
    ap code (take_more list i s h) ∙ (ap (λ x. code (take i list ++ x ∷ [])) (sym e) ∙ code-append (take i list) (s ∷ []))

-- a fact of a list that splits at its front holds of each of its statements
pub code-at : (P : Code → Type 0) → ((s : Stmt) (rest : Code) → P (front s rest) → P (front s Done) × P rest) → (list : List Stmt) (i : ℕ) (s : Stmt) → i < length list → s ≡ get_or list i s → P (code list) → P (front s Done)
code-at P split [] i s h e p = absurd (omega arith)
code-at P split (x ∷ xs) zero s h e p = subst (λ y. P (front y Done)) (sym e) (split x (code xs) p).0
code-at P split (x ∷ xs) (suc i) s h e p = code-at P split xs i s (omega arith) e (split x (code xs) p).1

IsCodeOf-opened : (count : ℕ) (rest : Code) (x : Stmt-F Stmt) → IsCodeOf count (opened x rest) → IsCodeOf count (opened x Done) × IsCodeOf count rest
IsCodeOf-opened count rest (stmt.Assign place target value) h = ((h.0, h.1, tt), h.2)
IsCodeOf-opened count rest (stmt.Input place target) h = ((h.0, tt), h.1)
IsCodeOf-opened count rest (stmt.Assert place test) h = ((h.0, tt), h.1)
IsCodeOf-opened count rest (stmt.If place test p q) h = ((h.0, h.1, h.2, tt), h.3)
IsCodeOf-opened count rest (stmt.While place test step body) h = ((h.0, h.1, h.2, tt, h.4), h.3)
IsCodeOf-opened count rest (stmt.Do place body test_place test) h = ((h.0, h.1, tt), h.2)
IsCodeOf-opened count rest (stmt.Leave place jump) h = ((h.0, tt), h.1)
IsCodeOf-opened count rest (stmt.Block place body) h = ((h.0, tt), h.1)
IsCodeOf-opened count rest (stmt.Skip place) h = (tt, h)
IsCodeOf-opened count rest (stmt.Cond number p q) h = ((h.0, h.1, tt), h.2)

-- what is fit for a list is fit for its first statement, and for the others
pub IsCodeOf-front : (count : ℕ) (s : Stmt) (rest : Code) → IsCodeOf count (front s rest) → IsCodeOf count (front s Done) × IsCodeOf count rest
IsCodeOf-front count s rest = by_layer (λ f. IsCodeOf count (f rest) → IsCodeOf count (f Done) × IsCodeOf count rest) (IsCodeOf-opened count rest) s

IsPlain-opened : (rest : Code) (x : Stmt-F Stmt) → IsPlain (opened x rest) → IsPlain (opened x Done) × IsPlain rest
IsPlain-opened rest (stmt.Assign place target value) h = (tt, h)
IsPlain-opened rest (stmt.Input place target) h = (tt, h)
IsPlain-opened rest (stmt.Assert place test) h = (tt, h)
IsPlain-opened rest (stmt.If place test p q) h = ((h.0, h.1, tt), h.2)
IsPlain-opened rest (stmt.While place test step body) h = ((h.0, h.1, tt), h.2)
IsPlain-opened rest (stmt.Do place body test_place test) h = ((h.0, tt), h.1)
IsPlain-opened rest (stmt.Leave place jump) h = (tt, h)
IsPlain-opened rest (stmt.Block place body) h = ((h.0, tt), h.1)
IsPlain-opened rest (stmt.Skip place) h = (tt, h)
IsPlain-opened rest (stmt.Cond number p q) h = absurd h

pub IsPlain-front : (s : Stmt) (rest : Code) → IsPlain (front s rest) → IsPlain (front s Done) × IsPlain rest
IsPlain-front s rest = by_layer (λ f. IsPlain (f rest) → IsPlain (f Done) × IsPlain rest) (IsPlain-opened rest) s

pub IsCodeOf-followed : (count : ℕ) (a b : Code) → IsCodeOf count a → IsCodeOf count b → IsCodeOf count (followed a b)
IsCodeOf-followed count Done b h k = k
IsCodeOf-followed count (Assign place target value rest) b h k = (h.0, h.1, IsCodeOf-followed count rest b h.2 k)
IsCodeOf-followed count (Input place target rest) b h k = (h.0, IsCodeOf-followed count rest b h.1 k)
IsCodeOf-followed count (Assert place test rest) b h k = (h.0, IsCodeOf-followed count rest b h.1 k)
IsCodeOf-followed count (If place test p q rest) b h k = (h.0, h.1, h.2, IsCodeOf-followed count rest b h.3 k)
IsCodeOf-followed count (While place test step body rest) b h k = (h.0, h.1, h.2, IsCodeOf-followed count rest b h.3 k, h.4)
IsCodeOf-followed count (Do place body at test rest) b h k = (h.0, h.1, IsCodeOf-followed count rest b h.2 k)
IsCodeOf-followed count (Leave place jump rest) b h k = (h.0, IsCodeOf-followed count rest b h.1 k)
IsCodeOf-followed count (Block place body rest) b h k = (h.0, IsCodeOf-followed count rest b h.1 k)
IsCodeOf-followed count (Skip place rest) b h k = IsCodeOf-followed count rest b h k
IsCodeOf-followed count (Cond number p q rest) b h k = (h.0, h.1, IsCodeOf-followed count rest b h.2 k)

pub IsPlain-followed : (a b : Code) → IsPlain a → IsPlain b → IsPlain (followed a b)
IsPlain-followed Done b h k = k
IsPlain-followed (Assign place target value rest) b h k = IsPlain-followed rest b h k
IsPlain-followed (Input place target rest) b h k = IsPlain-followed rest b h k
IsPlain-followed (Assert place test rest) b h k = IsPlain-followed rest b h k
IsPlain-followed (If place test p q rest) b h k = (h.0, h.1, IsPlain-followed rest b h.2 k)
IsPlain-followed (While place test step body rest) b h k = (h.0, h.1, IsPlain-followed rest b h.2 k)
IsPlain-followed (Do place body at test rest) b h k = (h.0, IsPlain-followed rest b h.1 k)
IsPlain-followed (Leave place jump rest) b h k = IsPlain-followed rest b h k
IsPlain-followed (Block place body rest) b h k = (h.0, IsPlain-followed rest b h.1 k)
IsPlain-followed (Skip place rest) b h k = IsPlain-followed rest b h k
IsPlain-followed (Cond number p q rest) b h k = absurd h
