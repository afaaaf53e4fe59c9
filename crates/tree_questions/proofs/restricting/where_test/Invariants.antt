use Rattle.tree_questions.proofs.restricting.where_test.Given as goal

abbrev pub ghosts-where_counted : goal.ghosts-where_counted
ghosts-where_counted a = record { name = a.blank.name; parts = a.blank.parts }
