-- The plain tree of an expression, a statement and a list of statements.
use Rattle.std.specs.Prelude.{List, [], ◌∷◌, map}
use Rattle.c_tree.specs.declared.tree.Expr.{Expr}
use Rattle.c_tree.specs.declared.tree.Expr.TheVariants as expr
use Rattle.c_tree.specs.declared.tree.Jump as rust
use Rattle.c_tree.specs.declared.tree.Jump.TheVariants as jumps
use Rattle.c_tree.specs.declared.tree.Stmt.{Stmt}
use Rattle.c_tree.specs.declared.tree.Stmt.TheOpen as stmt
use Rattle.c_tree.specs.declared.tree.Stmt.TheOpen.{Stmt-F}
use Rattle.c_tree.specs.declared.tree.Stmt.TheFolds.{fold-Stmt}
use Rattle.c_tree.specs.Tree as tree
use Rattle.c_tree.specs.declared.tree.Program.{Program}
use Rattle.c_tree.specs.Tree.{Term, Jump, Code, Whole}

-- an expression's tree
abbrev pub term : Expr → Term
term (expr.Number n) = tree.Number n
term (expr.Var x) = tree.Var x
term (expr.Neg' p a) = tree.Neg (term a)
term (expr.Not' p a) = tree.Not (term a)
term (expr.Binary' op p a q b) = tree.Binary op (term a) (term b)

-- a jump's tree
abbrev pub jump_of : rust.Jump → Jump
jump_of jumps.Break = tree.Break
jump_of jumps.Continue = tree.Continue
jump_of (jumps.Return e) = tree.Return (term e)

-- pieces of code, one after another
abbrev pub joined : List (Code → Code) → Code
joined [] = tree.Done
joined (piece ∷ pieces) = piece (joined pieces)

-- one statement in front of a list, given the same for the statements in it
abbrev pub layer : Stmt-F (Code → Code) → Code → Code
layer (stmt.Assign place target value) rest = tree.Assign place target (term value) rest
layer (stmt.Input place target) rest = tree.Input place target rest
layer (stmt.Assert place test) rest = tree.Assert place (term test) rest
layer (stmt.If place test then else) rest = tree.If place (term test) (joined then.items) (joined else.items) rest
layer (stmt.While place test step body) rest = tree.While place (term test) (joined step.items) (joined body.items) rest
layer (stmt.Do place body test_place test) rest = tree.Do place (joined body.items) test_place (term test) rest
layer (stmt.Leave place jump) rest = tree.Leave place (jump_of jump) rest
layer (stmt.Block place body) rest = tree.Block place (joined body.items) rest
layer (stmt.Skip place) rest = tree.Skip place rest
layer (stmt.Cond number then else) rest = tree.Cond number (joined then.items) (joined else.items) rest

-- a statement in front of a list
abbrev pub front : Stmt → Code → Code
front = fold-Stmt (Code → Code) layer

-- the tree of a list of statements
abbrev pub code : List Stmt → Code
code list = joined (map front list)

-- the tree of a program
abbrev pub whole : Program → Whole
whole p = record { names = p.names; start = p.start; declared = p.declared; body = code p.body.items; end = p.end }
