use Rattle.analysis_tests.proofs.unifying.shared_trees_take_few_steps.Given as goal

abbrev pub ghosts-doubles : goal.ghosts-doubles
ghosts-doubles g a = record { name = a.blank.name; parts = a.blank.parts }
