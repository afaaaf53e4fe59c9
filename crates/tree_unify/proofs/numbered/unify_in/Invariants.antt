use Rattle.tree_unify.proofs.numbered.unify_in.Given as goal

abbrev pub ghosts-unify_blank : goal.ghosts-unify_blank
ghosts-unify_blank g a = record { name = a.blank.name; parts = a.blank.parts }
