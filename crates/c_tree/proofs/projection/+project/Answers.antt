use Rattle.std.proofs.Common.{ap, sym, ◌∙◌, true, false}
use Rattle.c_tree.specs.declared.tree.Stmt.{Stmt}
use Rattle.c_tree.specs.Tree.{followed, Done}
use Rattle.c_tree.specs.View.{front, code}
use Rattle.c_tree.specs.Project.{projected}
use Rattle.c_tree.proofs.Listed.{projected-Cond}
use Rattle.c_tree.proofs.projection.+project.Goals as goal

pub project_stmt-returns-in_ok-project_list-in-Cond : goal.project_stmt-returns-in_ok-project_list-in-Cond
project_stmt-returns-in_ok-project_list-in-Cond t c =
    let side = projected-Cond c.args.truths.now c.in-Cond.number c.in-Cond.yes c.in-Cond.no true (sym c.truth_at.ensures ∙ c.if-truth_at.true) in
    let same = ap (λ (s : Stmt). projected c.args.truths.now (front s Done)) c.in-Cond.is ∙ side in
    c.in_ok-project_list-in-Cond.ensures ∙ ap (λ x. followed (code c.args.out.now.items) x) (ap (λ l. projected c.args.truths.now (code l)) c.deref-then-truth_at.ensures.value ∙ sym same)

pub project_stmt-returns-in_ok-project_list-in-Cond-2 : goal.project_stmt-returns-in_ok-project_list-in-Cond-2
project_stmt-returns-in_ok-project_list-in-Cond-2 t c =
    let side = projected-Cond c.args.truths.now c.in-Cond.number c.in-Cond.yes c.in-Cond.no false (sym c.truth_at.ensures ∙ c.if-truth_at.false) in
    let same = ap (λ (s : Stmt). projected c.args.truths.now (front s Done)) c.in-Cond.is ∙ side in
    c.in_ok-project_list-in-Cond-2.ensures ∙ ap (λ x. followed (code c.args.out.now.items) x) (ap (λ l. projected c.args.truths.now (code l)) c.deref-else-truth_at.ensures.value ∙ sym same)
