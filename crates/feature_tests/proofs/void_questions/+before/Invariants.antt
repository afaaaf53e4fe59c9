use Rattle.feature_tests.proofs.void_questions.+before.Given as goal

abbrev pub decreases-before : goal.decreases-before
decreases-before l = l.count
