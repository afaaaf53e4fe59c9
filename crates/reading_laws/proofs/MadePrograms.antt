-- A plain tree with fewer than 2^63 statements is that of a program.
use Rattle.std.proofs.Common.{◌≡◌, ℕ, suc, ◌+◌, ◌≤◌, ◌<◌, ◌^◌, List, [], ◌∷◌, length, Vec, Box, Global, refl, ap, ◌∙◌, arith, le_refl}
use Rattle.std.specs.Ptr.{null_ptr}
use Rattle.fam_outer.specs.declared.faults.Place.{Place}
use Rattle.c_tree.specs.declared.tree.Expr.{Expr}
use Rattle.c_tree.specs.declared.tree.Expr.TheVariants as expr
use Rattle.c_tree.specs.declared.tree.Program.{Program}
use Rattle.c_tree.specs.declared.tree.Jump as rust
use Rattle.c_tree.specs.declared.tree.Jump.TheVariants as jumps
use Rattle.c_tree.specs.declared.tree.Stmt.{Stmt}
use Rattle.c_tree.specs.declared.tree.Stmt.TheVariants as variant
use Rattle.c_tree.specs.declared.tree.Stmt.TheViews.{outs-Assign, outs-Input, outs-Assert, outs-If, outs-While, outs-Do, outs-Leave, outs-Block, outs-Skip, outs-Cond}
use Rattle.c_tree.specs.Tree.{Term, Number, Var, Neg, Not, Binary, Jump, Break, Continue, Return, Code, Done, Assign, Input, Assert, If, While, Do, Leave, Block, Skip, Cond, Whole}
use Rattle.c_tree.specs.View.{term, jump_of, front, code, whole}
use Rattle.c_tree.proofs.Views.{front_out}

abbrev pub heap : Global
heap = record { memory = record { seal = tt } }

-- a box without its value: expressions and formulas are made of such, and what they are kept in is not told of
abbrev pub block : Box (Unit {0}) Global
block = record { ptr = null_ptr; alloc = heap; value = tt }

-- ---- expressions

record HasExpr (t : Term) : Type 0 where
  made : Expr
  is : term made ≡ t

expr_of : (t : Term) → HasExpr t
expr_of (Number n) = record { made = expr.Number n; is = refl }
expr_of (Var x) = record { made = expr.Var x; is = refl }
expr_of (Neg a) = let e = expr_of a in record { made = expr.Neg' block e.made; is = ap Neg e.is }
expr_of (Not a) = let e = expr_of a in record { made = expr.Not' block e.made; is = ap Not e.is }
expr_of (Binary op a b) = let e = expr_of a in let f = expr_of b in record { made = expr.Binary' op block e.made block f.made; is = λ i. Binary op (e.is i) (f.is i) }

record HasJump (j : Jump) : Type 0 where
  made : rust.Jump
  is : jump_of made ≡ j

made_jump : (j : Jump) → HasJump j
made_jump Break = record { made = jumps.Break; is = refl }
made_jump Continue = record { made = jumps.Continue; is = refl }
made_jump (Return e) = let t = expr_of e in record { made = jumps.Return t.made; is = ap Return t.is }

-- ---- lists of statements

-- how many statements stand in a list, with those inside others
abbrev pub count_of : Code → ℕ
count_of Done = 0
count_of (Assign p x e rest) = suc (count_of rest)
count_of (Input p x rest) = suc (count_of rest)
count_of (Assert p e rest) = suc (count_of rest)
count_of (If p e a b rest) = suc (count_of a + (count_of b + count_of rest))
count_of (While p e a b rest) = suc (count_of a + (count_of b + count_of rest))
count_of (Do p a q e rest) = suc (count_of a + count_of rest)
count_of (Leave p j rest) = suc (count_of rest)
count_of (Block p a rest) = suc (count_of a + count_of rest)
count_of (Skip p rest) = suc (count_of rest)
count_of (Cond n a b rest) = suc (count_of a + (count_of b + count_of rest))

record HasList (c : Code) : Type 0 where
  list : List Stmt
  is : code list ≡ c
  few : length list ≤ count_of c

smaller : (a b n : ℕ) → a ≤ b → b < n → a < n
smaller a b n h k = omega arith

abbrev vec : (c : Code) → HasList c → count_of c < 2 ^ 63 → Vec Stmt Global
vec c h lt = record { ptr = null_ptr; len = length h.list; cap = length h.list; alloc = heap; items = h.list; ok = (refl, le_refl (length h.list)); small = smaller (length h.list) (count_of c) (2 ^ 63) h.few lt }

front-Assign : (p : Place) (x : ℕ) (e : Expr) (rest : Code) → front (variant.Assign p x e) rest ≡ Assign p x (term e) rest
front-Assign p x e rest = rw (front_out, outs-Assign) refl

front-Input : (p : Place) (x : ℕ) (rest : Code) → front (variant.Input p x) rest ≡ Input p x rest
front-Input p x rest = rw (front_out, outs-Input) refl

front-Assert : (p : Place) (e : Expr) (rest : Code) → front (variant.Assert p e) rest ≡ Assert p (term e) rest
front-Assert p e rest = rw (front_out, outs-Assert) refl

front-If : (p : Place) (e : Expr) (v w : Vec Stmt Global) (rest : Code) → front (variant.If p e v w) rest ≡ If p (term e) (code v.items) (code w.items) rest
front-If p e v w rest = rw (front_out, outs-If) refl

front-While : (p : Place) (e : Expr) (v w : Vec Stmt Global) (rest : Code) → front (variant.While p e v w) rest ≡ While p (term e) (code v.items) (code w.items) rest
front-While p e v w rest = rw (front_out, outs-While) refl

front-Do : (p : Place) (v : Vec Stmt Global) (q : Place) (e : Expr) (rest : Code) → front (variant.Do p v q e) rest ≡ Do p (code v.items) q (term e) rest
front-Do p v q e rest = rw (front_out, outs-Do) refl

front-Leave : (p : Place) (j : rust.Jump) (rest : Code) → front (variant.Leave p j) rest ≡ Leave p (jump_of j) rest
front-Leave p j rest = rw (front_out, outs-Leave) refl

front-Block : (p : Place) (v : Vec Stmt Global) (rest : Code) → front (variant.Block p v) rest ≡ Block p (code v.items) rest
front-Block p v rest = rw (front_out, outs-Block) refl

front-Skip : (p : Place) (rest : Code) → front (variant.Skip p) rest ≡ Skip p rest
front-Skip p rest = rw (front_out, outs-Skip) refl

front-Cond : (n : ℕ) (v w : Vec Stmt Global) (rest : Code) → front (variant.Cond n v w) rest ≡ Cond n (code v.items) (code w.items) rest
front-Cond n v w rest = rw (front_out, outs-Cond) refl

one_more : (l r : ℕ) → l ≤ r → suc l ≤ suc r
one_more l r h = omega arith

behind_one : (l a r : ℕ) → l ≤ r → suc l ≤ suc (a + r)
behind_one l a r h = omega arith

assigned : (p : Place) (x : ℕ) (e : Term) (rest : Code) → HasExpr e → HasList rest → HasList (Assign p x e rest)
assigned p x e rest t r = record {
  list = variant.Assign p x t.made ∷ r.list;
  is = front-Assign p x t.made (code r.list) ∙ (λ i. Assign p x (t.is i) (r.is i));
  few = one_more (length r.list) (count_of rest) r.few;
}

read_in : (p : Place) (x : ℕ) (rest : Code) → HasList rest → HasList (Input p x rest)
read_in p x rest r = record { list = variant.Input p x ∷ r.list; is = front-Input p x (code r.list) ∙ ap (Input p x) r.is; few = one_more (length r.list) (count_of rest) r.few }

asserted : (p : Place) (e : Term) (rest : Code) → HasExpr e → HasList rest → HasList (Assert p e rest)
asserted p e rest t r = record { list = variant.Assert p t.made ∷ r.list; is = front-Assert p t.made (code r.list) ∙ (λ i. Assert p (t.is i) (r.is i)); few = one_more (length r.list) (count_of rest) r.few }

skipped : (p : Place) (rest : Code) → HasList rest → HasList (Skip p rest)
skipped p rest r = record { list = variant.Skip p ∷ r.list; is = front-Skip p (code r.list) ∙ ap (Skip p) r.is; few = one_more (length r.list) (count_of rest) r.few }

behind_two : (l a b r : ℕ) → l ≤ r → suc l ≤ suc (a + (b + r))
behind_two l a b r h = omega arith

chosen : (p : Place) (e : Term) (a b rest : Code) → HasExpr e → HasList a → count_of a < 2 ^ 63 → HasList b → count_of b < 2 ^ 63 → HasList rest → HasList (If p e a b rest)
chosen p e a b rest t x j y k r = record {
  list = variant.If p t.made (vec a x j) (vec b y k) ∷ r.list;
  is = front-If p t.made (vec a x j) (vec b y k) (code r.list) ∙ (λ i. If p (t.is i) (x.is i) (y.is i) (r.is i));
  few = behind_two (length r.list) (count_of a) (count_of b) (count_of rest) r.few;
}

looped : (p : Place) (e : Term) (a b rest : Code) → HasExpr e → HasList a → count_of a < 2 ^ 63 → HasList b → count_of b < 2 ^ 63 → HasList rest → HasList (While p e a b rest)
looped p e a b rest t x j y k r = record {
  list = variant.While p t.made (vec a x j) (vec b y k) ∷ r.list;
  is = front-While p t.made (vec a x j) (vec b y k) (code r.list) ∙ (λ i. While p (t.is i) (x.is i) (y.is i) (r.is i));
  few = behind_two (length r.list) (count_of a) (count_of b) (count_of rest) r.few;
}

repeated : (p : Place) (a : Code) (q : Place) (e : Term) (rest : Code) → HasExpr e → HasList a → count_of a < 2 ^ 63 → HasList rest → HasList (Do p a q e rest)
repeated p a q e rest t x j r = record {
  list = variant.Do p (vec a x j) q t.made ∷ r.list;
  is = front-Do p (vec a x j) q t.made (code r.list) ∙ (λ i. Do p (x.is i) q (t.is i) (r.is i));
  few = behind_one (length r.list) (count_of a) (count_of rest) r.few;
}

left : (p : Place) (j : Jump) (rest : Code) → HasJump j → HasList rest → HasList (Leave p j rest)
left p j rest t r = record { list = variant.Leave p t.made ∷ r.list; is = front-Leave p t.made (code r.list) ∙ (λ i. Leave p (t.is i) (r.is i)); few = one_more (length r.list) (count_of rest) r.few }

braced : (p : Place) (a rest : Code) → HasList a → count_of a < 2 ^ 63 → HasList rest → HasList (Block p a rest)
braced p a rest x j r = record { list = variant.Block p (vec a x j) ∷ r.list; is = front-Block p (vec a x j) (code r.list) ∙ (λ i. Block p (x.is i) (r.is i)); few = behind_one (length r.list) (count_of a) (count_of rest) r.few }

grouped : (n : ℕ) (a b rest : Code) → HasList a → count_of a < 2 ^ 63 → HasList b → count_of b < 2 ^ 63 → HasList rest → HasList (Cond n a b rest)
grouped n a b rest x j y k r = record {
  list = variant.Cond n (vec a x j) (vec b y k) ∷ r.list;
  is = front-Cond n (vec a x j) (vec b y k) (code r.list) ∙ (λ i. Cond n (x.is i) (y.is i) (r.is i));
  few = behind_two (length r.list) (count_of a) (count_of b) (count_of rest) r.few;
}

-- each part has fewer
of_one : (r n : ℕ) → suc r < n → r < n
of_one r n h = omega arith

of_two : (a r n : ℕ) → suc (a + r) < n → (a < n) × (r < n)
of_two a r n h = (omega arith, omega arith)

of_three : (a b r n : ℕ) → suc (a + (b + r)) < n → (a < n) × (b < n) × (r < n)
of_three a b r n h = (omega arith, omega arith, omega arith)

list_of : (c : Code) → count_of c < 2 ^ 63 → HasList c
list_of Done lt = record { list = []; is = refl; few = le_refl 0 }
list_of (Assign p x e rest) lt = assigned p x e rest (expr_of e) (list_of rest (of_one (count_of rest) (2 ^ 63) lt))
list_of (Input p x rest) lt = read_in p x rest (list_of rest (of_one (count_of rest) (2 ^ 63) lt))
list_of (Assert p e rest) lt = asserted p e rest (expr_of e) (list_of rest (of_one (count_of rest) (2 ^ 63) lt))
list_of (If p e a b rest) lt =
    let k = of_three (count_of a) (count_of b) (count_of rest) (2 ^ 63) lt in
    chosen p e a b rest (expr_of e) (list_of a k.0) k.0 (list_of b k.1) k.1 (list_of rest k.2)
list_of (While p e a b rest) lt =
    let k = of_three (count_of a) (count_of b) (count_of rest) (2 ^ 63) lt in
    looped p e a b rest (expr_of e) (list_of a k.0) k.0 (list_of b k.1) k.1 (list_of rest k.2)
list_of (Do p a q e rest) lt = let k = of_two (count_of a) (count_of rest) (2 ^ 63) lt in repeated p a q e rest (expr_of e) (list_of a k.0) k.0 (list_of rest k.1)
list_of (Leave p j rest) lt = left p j rest (made_jump j) (list_of rest (of_one (count_of rest) (2 ^ 63) lt))
list_of (Block p a rest) lt = let k = of_two (count_of a) (count_of rest) (2 ^ 63) lt in braced p a rest (list_of a k.0) k.0 (list_of rest k.1)
list_of (Skip p rest) lt = skipped p rest (list_of rest (of_one (count_of rest) (2 ^ 63) lt))
list_of (Cond n a b rest) lt = let k = of_three (count_of a) (count_of b) (count_of rest) (2 ^ 63) lt in grouped n a b rest (list_of a k.0) k.0 (list_of b k.1) k.1 (list_of rest k.2)

-- ---- programs

pub record HasProgram (w : Whole) : Type 0 where
  pub made : Program
  pub is : whole made ≡ w

pub program_of : (w : Whole) → count_of w.body < 2 ^ 63 → HasProgram w
program_of w lt =
    let b = list_of w.body lt in
    record {
      made = record { names = w.names; start = w.start; declared = w.declared; body = vec w.body b lt; end = w.end };
      is = λ i. record { names = w.names; start = w.start; declared = w.declared; body = b.is i; end = w.end };
    }
