use Rattle.tree_unify.proofs.mapped.map_in.Given as goal

abbrev pub ghosts-map_blank : goal.ghosts-map_blank
ghosts-map_blank g a = record { name = a.blank.name; parts = a.blank.parts }
