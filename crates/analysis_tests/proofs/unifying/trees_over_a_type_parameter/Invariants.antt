use Rattle.analysis_tests.proofs.unifying.trees_over_a_type_parameter.Given as goal

abbrev pub ghosts-are_greater : goal.ghosts-are_greater
ghosts-are_greater g a = record { name = a.blank.name; parts = a.blank.parts }
