use Rattle.invariant_certificate.proofs.listing.covered.Given as goal

abbrev pub ghosts-quiet_or_listed : goal.ghosts-quiet_or_listed
ghosts-quiet_or_listed a = record { name = a.blank.name; parts = a.blank.parts }
