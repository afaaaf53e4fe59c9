-- Families made by hand, as plain trees.
use Rattle.std.specs.Prelude.{ℕ, zero, suc, ◌-◌, ◌*◌, pos}
use Rattle.fam_outer.specs.declared.faults.Place.{Place}
use Rattle.c_tree.specs.declared.tree.Op.TheVariants as op
use Rattle.c_tree.specs.Tree.{Term, Code, Done, Assign, Input, Assert, If, While, Cond, Binary, Var, Number}

abbrev pub line : ℕ → Place
line n = record { line = n; column = 1 }

abbrev pub less_of : ℕ → ℕ → Term
less_of x n = Binary op.Lt (Var x) (Number (pos n))

abbrev pub grown_at : ℕ → ℕ → ℕ → Code
grown_at n x m = Assign (line n) x (Binary op.Add (Var x) (Number (pos m))) Done

abbrev pub outer_loop : Code
outer_loop =
    While (line 10) (less_of 0 10) Done
    (Cond 1 (grown_at 11 0 1) (grown_at 12 0 2) (Cond 2 (While (line 13) (less_of 1 5) Done (grown_at 14 1 1) Done) Done Done)) Done

abbrev pub rest_of_body : Code
rest_of_body =
    Cond 0 (Cond 1 (While (line 20) (less_of 1 7) Done (grown_at 21 1 1) Done) Done Done) (grown_at 25 1 3)
    (If (line 30) (less_of 0 4) (Assert (line 31) (less_of 1 6) Done) Done Done)

abbrev pub unsteady_loop : Code
unsteady_loop =
    While (line 10) (less_of 1 5) Done
    (Cond 0
    (Assign (line 11) 1 (Binary op.Sub (Var 1) (Number (pos 1)))
    (While (line 12) (less_of 0 3) Done
    (If (line 13) (Binary op.Lt (Var 1) (Var 0)) (Assign (line 14) 1 (Number (pos 3)) Done) Done
    (Assign (line 15) 0 (Binary op.Add (Var 1) (Number (pos 2))) Done)) Done))
    (Cond 1 (grown_at 16 1 1) Done Done) Done) Done

abbrev pub spread_body : Code
spread_body =
    While (line 4) (less_of 1 10) Done
    (Assign (line 5) 1 (Binary op.Add (Var 1) (Number (pos 1)))
    (Cond 0 (Assign (line 7) 0 (Var 0) Done) (grown_at 9 0 1) Done))
    (Assert (line 12) (Binary op.Eq (Var 0) (Number (pos 0))) Done)

-- so many loops in each other, the innermost first, with an input at the beginning of each
abbrev pub restarted_loops : ℕ → Code
restarted_loops zero = Done
restarted_loops (suc k) = While (line (47 - 2 * k)) (less_of 0 10) Done (Input (line (48 - 2 * k)) 0 (restarted_loops k)) Done

-- a loop whose body enters one of two others alike each time
abbrev pub alike_loops : Code
alike_loops =
    While (line 4) (less_of 0 10) Done
    (Input (line 5) 0 (Assign (line 6) 1 (Number (pos 0))
    (Cond 0 (While (line 8) (less_of 1 5) Done (grown_at 9 1 1) Done) (While (line 12) (less_of 1 7) Done (grown_at 13 1 1) Done) Done))) Done
