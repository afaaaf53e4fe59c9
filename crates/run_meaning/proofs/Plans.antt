-- Plans for statements by their kinds.
use Rattle.std.proofs.Common.{◌≡◌, ℕ, ℤ, List, refl, ap, sym, subst, ◌∙◌}
use Rattle.std.specs.declared.vec.Vec.{Vec}
use Rattle.std.specs.declared.alloc.Global.{Global}
use Rattle.fam_outer.specs.declared.faults.Place.{Place}
use Rattle.c_tree.specs.declared.tree.Expr.{Expr}
use Rattle.c_tree.specs.declared.tree.Mode.{Mode}
use Rattle.c_tree.specs.declared.tree.Stmt.{Stmt}
use Rattle.c_tree.specs.declared.tree.Stmt.TheVariants as variant
use Rattle.c_tree.specs.declared.tree.Stmt.TheViews.{outs-Assign, outs-Input, outs-Assert, outs-If, outs-While}
use Rattle.c_tree.specs.Tree.{Code, Assign, Input, Assert, If, While}
use Rattle.c_tree.specs.View.{term, front, code}
use Rattle.c_tree.specs.Run.{Level, step_of}
use Rattle.c_tree.proofs.Views.{front_out}
use Rattle.run_meaning.specs.declared.plan.Plan.{Plan}
use Rattle.run_meaning.specs.View.{performed}

pub front-Assign : (place : Place) (target : ℕ) (value : Expr) (rest : Code) → front (variant.Assign place target value) rest ≡ Assign place target (term value) rest
front-Assign place target value rest = rw (front_out, outs-Assign) refl

pub front-Input : (place : Place) (target : ℕ) (rest : Code) → front (variant.Input place target) rest ≡ Input place target rest
front-Input place target rest = rw (front_out, outs-Input) refl

pub front-Assert : (place : Place) (test : Expr) (rest : Code) → front (variant.Assert place test) rest ≡ Assert place (term test) rest
front-Assert place test rest = rw (front_out, outs-Assert) refl

pub front-If : (place : Place) (test : Expr) (p q : Vec Stmt Global) (rest : Code) → front (variant.If place test p q) rest ≡ If place (term test) (code p.items) (code q.items) rest
front-If place test p q rest = rw (front_out, outs-If) refl

pub front-While : (place : Place) (test : Expr) (step body : Vec Stmt Global) (steps bodies : List Stmt) (rest : Code) → steps ≡ step.items → bodies ≡ body.items → front (variant.While place test step body) rest ≡ While place (term test) (code steps) (code bodies) rest
front-While place test step body steps bodies rest e f = rw (front_out, outs-While, e, f) refl

-- a plan for what a statement is
pub plan_at : (mode : Mode) (inputs store : List ℤ) (taken : ℕ) (levels : List Level) (plan : Plan) (s t : Stmt) (rest x : Code) → s ≡ t → front t rest ≡ x → step_of mode inputs x levels store taken ≡ performed plan rest x levels store taken → step_of mode inputs (front s rest) levels store taken ≡ performed plan rest (front s rest) levels store taken
plan_at mode inputs store taken levels plan s t rest x e f h =
    subst (λ y. step_of mode inputs y levels store taken ≡ performed plan rest y levels store taken) (sym (ap (λ u. front u rest) e ∙ f)) h
