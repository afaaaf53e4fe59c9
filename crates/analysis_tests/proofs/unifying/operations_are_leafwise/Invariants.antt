use Rattle.analysis_tests.proofs.unifying.operations_are_leafwise.Given as goal

abbrev pub ghosts-are_leafwise : goal.ghosts-are_leafwise
ghosts-are_leafwise g a = record { name = a.blank.name; parts = a.blank.parts }
