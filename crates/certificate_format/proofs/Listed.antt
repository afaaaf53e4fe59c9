-- The loops of lists of statements.
use Rattle.std.proofs.Common.{◌≡◌, ℕ, List, ◌++◌, take, length, get_or, ◌+◌, ◌<◌, ap, ◌∙◌, append_assoc}
use Rattle.c_tree.specs.declared.tree.Stmt.{Stmt}
use Rattle.c_tree.specs.Tree.{Done}
use Rattle.c_tree.specs.View.{front, code}
use Rattle.c_tree.proofs.Views.{code-take_more}
use Rattle.lifted_analysis.specs.Turns.{loop_places}
use Rattle.certificate_format.proofs.LoopLines.{loops_followed}

pub loops_take_more : (list : List Stmt) (i : ℕ) (s : Stmt) → i < length list → s ≡ get_or list i s → loop_places (code (take (i + 1) list)) ≡ loop_places (code (take i list)) ++ loop_places (front s Done)
loops_take_more list i s h e = ap loop_places (code-take_more list i s h e) ∙ loops_followed (code (take i list)) (front s Done)

pub ruleset loop_lists = (loops_take_more, append_assoc)
