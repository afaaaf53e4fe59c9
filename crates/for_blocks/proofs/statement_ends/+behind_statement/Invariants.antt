use Rattle.for_blocks.proofs.statement_ends.+behind_statement.Given as goal

abbrev pub decreases-behind_statement : goal.decreases-behind_statement
decreases-behind_statement l = l.room
