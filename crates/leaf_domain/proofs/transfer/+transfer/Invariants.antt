use Rattle.c_tree.specs.View.{term}
use Rattle.leaf_domain.proofs.NodeEquations.{rank_of_survey, rank_of_split}
use Rattle.leaf_domain.proofs.transfer.+transfer.Given as goal

abbrev pub decreases-survey : goal.decreases-survey
decreases-survey g l = rank_of_survey (term l.e.now)

abbrev pub decreases-split_with_stops : goal.decreases-split_with_stops
decreases-split_with_stops g l = rank_of_split (term l.e.now)
