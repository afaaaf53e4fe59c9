use Rattle.lifted_analysis.proofs.analysis.analyse_family.Given as goal

abbrev pub ghosts-analyse_counted : goal.ghosts-analyse_counted
ghosts-analyse_counted g a = record { name = a.blank.name; parts = a.blank.parts }
