use Rattle.configuration_advice.proofs.costs.cost.Given as goal

abbrev pub ghosts-cost_counted : goal.ghosts-cost_counted
ghosts-cost_counted a = record { name = a.blank.name; parts = a.blank.parts }
