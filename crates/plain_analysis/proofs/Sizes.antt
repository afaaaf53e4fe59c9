-- How large a list of statements is, as the measure of what goes down it.
use Rattle.std.proofs.Common.{◌≡◌, ℕ, ◌+◌, ◌<◌, ◌≤◌, List, length, get_or, arith}
use Rattle.c_tree.specs.declared.tree.Stmt.{Stmt}
use Rattle.c_tree.specs.declared.tree.Stmt.TheOpen as stmt
use Rattle.c_tree.specs.declared.tree.Stmt.TheOpen.{Stmt-F}
use Rattle.c_tree.specs.Tree.{Code, Done, Assign, Input, Assert, If, While, Do, Leave, Block, Skip, Cond}
use Rattle.c_tree.specs.View.{front, code}
use Rattle.c_tree.proofs.Views.{opened, by_layer, code-at}
use Rattle.plain_analysis.specs.Statements.{LoopParts, TestFirst, TestLast}

abbrev pub size_of : Code → ℕ
size_of Done = 0
size_of (Assign place x e rest) = size_of rest + 1
size_of (Input place x rest) = size_of rest + 1
size_of (Assert place e rest) = size_of rest + 1
size_of (If place e p q rest) = size_of p + size_of q + size_of rest + 1
size_of (While place e step body rest) = size_of step + size_of body + size_of rest + 1
size_of (Do place body at e rest) = size_of body + size_of rest + 1
size_of (Leave place jump rest) = size_of rest + 1
size_of (Block place body rest) = size_of body + size_of rest + 1
size_of (Skip place rest) = size_of rest + 1
size_of (Cond number p q rest) = size_of p + size_of q + size_of rest + 1

-- the statements in a loop
abbrev pub size_in : LoopParts → ℕ
size_in (TestFirst e step body) = size_of step + size_of body
size_in (TestLast body at e) = size_of body

size-opened : (rest : Code) (x : Stmt-F Stmt) → size_of (opened x rest) ≡ size_of (opened x Done) + size_of rest
size-opened rest (stmt.Assign place target value) = omega arith
size-opened rest (stmt.Input place target) = omega arith
size-opened rest (stmt.Assert place test) = omega arith
size-opened rest (stmt.If place test p q) = omega arith
size-opened rest (stmt.While place test step body) = omega arith
size-opened rest (stmt.Do place body at test) = omega arith
size-opened rest (stmt.Leave place jump) = omega arith
size-opened rest (stmt.Block place body) = omega arith
size-opened rest (stmt.Skip place) = omega arith
size-opened rest (stmt.Cond number p q) = omega arith

size-front : (s : Stmt) (rest : Code) → size_of (front s rest) ≡ size_of (front s Done) + size_of rest
size-front s rest = by_layer (λ f. size_of (f rest) ≡ size_of (f Done) + size_of rest) (size-opened rest) s

IsWithin : ℕ → Code → Type 0
IsWithin n c = size_of c ≤ n

within-front : (n : ℕ) (s : Stmt) (rest : Code) → IsWithin n (front s rest) → IsWithin n (front s Done) × IsWithin n rest
unfolding IsWithin
within-front n s rest h = (omega (arith, size-front s rest), omega (arith, size-front s rest))

within_self : (c : Code) → IsWithin (size_of c) c
unfolding IsWithin
within_self c = omega arith

-- a statement of a list is no larger
pub size-at : (list : List Stmt) (i : ℕ) (s : Stmt) → i < length list → s ≡ get_or list i s → size_of (front s Done) ≤ size_of (code list)
unfolding IsWithin
size-at list i s h e = code-at (IsWithin (size_of (code list))) (within-front (size_of (code list))) list i s h e (within_self (code list))
