use Rattle.configuration_advice.proofs.costs.above.Given as goal

abbrev pub ghosts-above_counted : goal.ghosts-above_counted
ghosts-above_counted a = record { name = a.blank.name; parts = a.blank.parts }
