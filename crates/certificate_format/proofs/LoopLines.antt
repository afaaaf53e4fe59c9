-- The loops of lists of statements.
use Rattle.std.proofs.Common.{◌≡◌, ◌++◌, refl, append_assoc}
use Rattle.c_tree.specs.Tree.{Code, Done, Assign, Input, Assert, If, While, Do, Leave, Block, Skip, Cond, followed}
use Rattle.lifted_analysis.specs.Turns.{loop_places}

pub loops_followed : (a b : Code) → loop_places (followed a b) ≡ loop_places a ++ loop_places b
loops_followed Done b = refl
loops_followed (Assign place target value rest) b = loops_followed rest b
loops_followed (Input place target rest) b = loops_followed rest b
loops_followed (Assert place test rest) b = loops_followed rest b
loops_followed (If place test p q rest) b = simp (loops_followed rest b, append_assoc)
loops_followed (While place test step body rest) b = simp (loops_followed rest b, append_assoc)
loops_followed (Do place body at test rest) b = simp (loops_followed rest b, append_assoc)
loops_followed (Leave place jump rest) b = loops_followed rest b
loops_followed (Block place body rest) b = simp (loops_followed rest b, append_assoc)
loops_followed (Skip place rest) b = loops_followed rest b
loops_followed (Cond number p q rest) b = simp (loops_followed rest b, append_assoc)
