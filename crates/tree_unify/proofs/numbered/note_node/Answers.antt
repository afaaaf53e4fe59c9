use Rattle.tree_unify.proofs.numbered.note_node.Goals as goal

pub returns-clause-noted : goal.returns-clause-noted
returns-clause-noted g c = record { tree = c.in_ok-noted.noted; same = c.in_ok-noted.ensures; entries = c.in_ok-remember.ensures }
