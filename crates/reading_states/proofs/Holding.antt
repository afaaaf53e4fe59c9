-- Statements in front of a list.
use Rattle.std.proofs.Common.{◌≡◌, ℕ, refl}
use Rattle.std.specs.declared.vec.Vec.{Vec}
use Rattle.std.specs.declared.alloc.Global.{Global}
use Rattle.fam_outer.specs.declared.faults.Place.{Place}
use Rattle.c_tree.specs.declared.tree.Expr.{Expr}
use Rattle.c_tree.specs.declared.tree.Jump.{Jump}
use Rattle.c_tree.specs.declared.tree.Stmt.{Stmt}
use Rattle.c_tree.specs.declared.tree.Stmt.TheVariants as variant
use Rattle.c_tree.specs.declared.tree.Stmt.TheViews.{outs-Skip, outs-Input, outs-If, outs-While, outs-Do, outs-Leave, outs-Block, outs-Cond}
use Rattle.c_tree.specs.Tree.{Code, Skip, Input, If, While, Do, Leave, Block, Cond}
use Rattle.c_tree.specs.View.{front, code, jump_of, term}
use Rattle.c_tree.proofs.Views.{front_out, code-append}
use Rattle.c_tree.proofs.Listed.{code-push}

pub front_Skip : (place : Place) (rest : Code) → front (variant.Skip place) rest ≡ Skip place rest
front_Skip place rest = rw (front_out, outs-Skip) refl

pub front_Input : (place : Place) (x : ℕ) (rest : Code) → front (variant.Input place x) rest ≡ Input place x rest
front_Input place x rest = rw (front_out, outs-Input) refl

pub front_If : (place : Place) (test : Expr) (p q : Vec Stmt Global) (rest : Code) → front (variant.If place test p q) rest ≡ If place (term test) (code p.items) (code q.items) rest
front_If place test p q rest = rw (front_out, outs-If) refl

pub front_While : (place : Place) (test : Expr) (step body : Vec Stmt Global) (rest : Code) → front (variant.While place test step body) rest ≡ While place (term test) (code step.items) (code body.items) rest
front_While place test step body rest = rw (front_out, outs-While) refl

pub front_Do : (place : Place) (body : Vec Stmt Global) (test_place : Place) (test : Expr) (rest : Code) → front (variant.Do place body test_place test) rest ≡ Do place (code body.items) test_place (term test) rest
front_Do place body test_place test rest = rw (front_out, outs-Do) refl

pub front_Leave : (place : Place) (jump : Jump) (rest : Code) → front (variant.Leave place jump) rest ≡ Leave place (jump_of jump) rest
front_Leave place jump rest = rw (front_out, outs-Leave) refl

pub front_Block : (place : Place) (body : Vec Stmt Global) (rest : Code) → front (variant.Block place body) rest ≡ Block place (code body.items) rest
front_Block place body rest = rw (front_out, outs-Block) refl

pub front_Cond : (number : ℕ) (p q : Vec Stmt Global) (rest : Code) → front (variant.Cond number p q) rest ≡ Cond number (code p.items) (code q.items) rest
front_Cond number p q rest = rw (front_out, outs-Cond) refl

pub ruleset holding = (front_Skip, front_Input, front_If, front_While, front_Do, front_Leave, front_Block, front_Cond, code-push, code-append)
