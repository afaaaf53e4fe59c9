-- The numbers of a program: those of its expressions, in all its variants, and its start values.
use Rattle.std.specs.Prelude.{ℤ, neg_ℤ, List, [], ◌∷◌, ◌++◌, map}
use Rattle.c_tree.specs.Tree.{Term, Number, Var, Neg, Not, Binary, Jump, Break, Continue, Return, Code, Done, Assign, Input, Assert, If, While, Do, Leave, Block, Skip, Cond, Whole}

-- the literals of an expression; a literal right behind a minus sign is the negative number
abbrev pub numbers_of_term : Term → List ℤ
numbers_of_term (Number n) = n ∷ []
numbers_of_term (Var x) = []
numbers_of_term (Neg (Number n)) = neg_ℤ n ∷ []
numbers_of_term (Neg a) = numbers_of_term a
numbers_of_term (Not a) = numbers_of_term a
numbers_of_term (Binary op a b) = numbers_of_term a ++ numbers_of_term b

-- the literals of the value of a `return`
abbrev pub numbers_of_jump : Jump → List ℤ
numbers_of_jump Break = []
numbers_of_jump Continue = []
numbers_of_jump (Return e) = numbers_of_term e

-- the numbers of the expressions of a list of statements, in the order of the text
abbrev pub numbers_of : Code → List ℤ
numbers_of Done = []
numbers_of (Assign place target value rest) = numbers_of_term value ++ numbers_of rest
numbers_of (Input place target rest) = numbers_of rest
numbers_of (Assert place test rest) = numbers_of_term test ++ numbers_of rest
numbers_of (If place test p q rest) = numbers_of_term test ++ (numbers_of p ++ (numbers_of q ++ numbers_of rest))
numbers_of (While place test step body rest) = numbers_of_term test ++ (numbers_of step ++ (numbers_of body ++ numbers_of rest))
numbers_of (Do place body at test rest) = numbers_of body ++ (numbers_of_term test ++ numbers_of rest)
numbers_of (Leave place jump rest) = numbers_of_jump jump ++ numbers_of rest
numbers_of (Block place body rest) = numbers_of body ++ numbers_of rest
numbers_of (Skip place rest) = numbers_of rest
numbers_of (Cond number p q rest) = numbers_of p ++ (numbers_of q ++ numbers_of rest)

-- the start values, those of declarators too, and the numbers of the body
abbrev pub numbers_of_program : Whole → List ℤ
numbers_of_program p = p.start ++ (map (λ d. d.value) p.declared ++ numbers_of p.body)
