-- Programs as plain trees: what contracts see of expressions, statements and programs, without boxes and capacities.
use Rattle.std.specs.Prelude.{ℕ, ℤ, List}
use Rattle.c_tree.specs.declared.lists.Declared.{Declared}
use Rattle.c_tree.specs.declared.tree.Op.{Op}
use Rattle.fam_outer.specs.declared.faults.Place.{Place}

-- an expression
pub data Term : Type 0 where
  Number : (n : ℤ) → Term
  Var : (x : ℕ) → Term
  Neg : (a : Term) → Term
  Not : (a : Term) → Term
  Binary : (op : Op) (a b : Term) → Term

-- where a jump leads: behind the loop that it stands in, on to that loop's step or test, or to the end of the program, where a
-- value is computed first
pub data Jump : Type 0 where
  Break : Jump
  Continue : Jump
  Return : (value : Term) → Jump

-- a list of statements: none, or a statement with the list that follows it. A loop does its body, and then its step, while its
-- test is not 0; the step is that of a `for`, and empty where there is none. `Do` does its body first, and its test has a place of
-- its own
pub data Code : Type 0 where
  Done : Code
  Assign : (place : Place) (target : ℕ) (value : Term) (rest : Code) → Code
  Input : (place : Place) (target : ℕ) (rest : Code) → Code
  Assert : (place : Place) (test : Term) (rest : Code) → Code
  If : (place : Place) (test : Term) (yes no rest : Code) → Code
  While : (place : Place) (test : Term) (step body rest : Code) → Code
  Do : (place : Place) (body : Code) (at : Place) (test : Term) (rest : Code) → Code
  Leave : (place : Place) (jump : Jump) (rest : Code) → Code
  Block : (place : Place) (body rest : Code) → Code
  Skip : (place : Place) (rest : Code) → Code
  Cond : (number : ℕ) (yes no rest : Code) → Code

-- a list of statements, and then another
abbrev pub followed : Code → Code → Code
followed Done next = next
followed (Assign place target value rest) next = Assign place target value (followed rest next)
followed (Input place target rest) next = Input place target (followed rest next)
followed (Assert place test rest) next = Assert place test (followed rest next)
followed (If place test p q rest) next = If place test p q (followed rest next)
followed (While place test step body rest) next = While place test step body (followed rest next)
followed (Do place body at test rest) next = Do place body at test (followed rest next)
followed (Leave place jump rest) next = Leave place jump (followed rest next)
followed (Block place body rest) next = Block place body (followed rest next)
followed (Skip place rest) next = Skip place (followed rest next)
followed (Cond number p q rest) next = Cond number p q (followed rest next)

-- a program: its names, one start value for each, the declarators of a family, its body and the place of its last brace
pub record Whole : Type 0 where
  pub names : List (List ℕ)
  pub start : List ℤ
  pub declared : List Declared
  pub body : Code
  pub end : Place
