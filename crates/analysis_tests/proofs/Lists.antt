-- Lists of statements, one after another.
use Rattle.std.proofs.Common.{◌≡◌, ◌++◌, List}
use Rattle.c_tree.specs.declared.tree.Stmt.{Stmt}
use Rattle.c_tree.specs.Tree.{followed}
use Rattle.c_tree.specs.View.{code}
use Rattle.c_tree.proofs.Views.{code-append}

pub code_append : (xs ys : List Stmt) → code (xs ++ ys) ≡ followed (code xs) (code ys)
code_append = code-append
