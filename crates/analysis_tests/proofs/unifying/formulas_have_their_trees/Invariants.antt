use Rattle.analysis_tests.proofs.unifying.formulas_have_their_trees.Given as goal

abbrev pub ghosts-is_formula_tree : goal.ghosts-is_formula_tree
ghosts-is_formula_tree g a = record { name = a.blank.name; parts = a.blank.parts }
