-- Loops made by hand, as plain trees.
use Rattle.std.specs.Prelude.{ℕ, ◌+◌, ℤ, pos}
use Rattle.c_tree.specs.declared.tree.Op.{Op}
use Rattle.c_tree.specs.declared.tree.Op.TheVariants.{Lt, Le, And}
use Rattle.c_tree.specs.Tree.{Term, Code, Done, Assign, Input, Assert, If, While, Binary, Var, Number}
use Rattle.analysis_tests.specs.Families.{line}

-- `if (e op 0 step limit) x = x step by;`, where x is variable 0
abbrev pub moving_where : ℕ → Term → Op → Op → ℤ → ℤ → Code
moving_where n e op step limit by =
    If (line n) (Binary op e (Binary step (Number (pos 0)) (Number limit)))
    (Assign (line (n + 1)) 0 (Binary step (Var 0) (Number by)) Done) Done Done

-- `while (z < 3) { z = input(); .. }` around it
abbrev pub moving_loop : ℕ → ℕ → Term → Op → Op → ℤ → ℤ → Code
moving_loop n z e op step limit by =
    While (line n) (Binary Lt (Var z) (Number (pos 3))) Done (Input (line (n + 1)) z (moving_where (n + 2) e op step limit by)) Done

-- `y = input();`, `assert(0 <= y && y <= 1000);` and `x = 0 op y;` in the lines 3 to 5, where x and y are the variables 0 and 1
abbrev pub paired : Op → Code
paired op =
    Input (line 3) 1
    (Assert (line 4) (Binary And (Binary Le (Number (pos 0)) (Var 1)) (Binary Le (Var 1) (Number (pos 1000))))
    (Assign (line 5) 0 (Binary op (Number (pos 0)) (Var 1)) Done))
