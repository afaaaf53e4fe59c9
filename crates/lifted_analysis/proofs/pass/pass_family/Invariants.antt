use Rattle.lifted_analysis.proofs.pass.pass_family.Given as goal

abbrev pub ghosts-pass_counted : goal.ghosts-pass_counted
ghosts-pass_counted g a = record { name = a.blank.name; parts = a.blank.parts }
