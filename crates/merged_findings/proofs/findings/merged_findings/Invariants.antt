use Rattle.merged_findings.proofs.findings.merged_findings.Given as goal

abbrev pub ghosts-merged_counted : goal.ghosts-merged_counted
ghosts-merged_counted g a = record { name = a.blank.name; parts = a.blank.parts }
