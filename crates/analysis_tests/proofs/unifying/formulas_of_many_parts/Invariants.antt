use Rattle.analysis_tests.proofs.unifying.formulas_of_many_parts.Given as goal

abbrev pub ghosts-is_plausible_tree : goal.ghosts-is_plausible_tree
ghosts-is_plausible_tree g a = record { name = a.blank.name; parts = a.blank.parts }
