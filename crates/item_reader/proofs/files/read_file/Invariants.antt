use Rattle.reading_states.specs.Views.{as_state}
use Rattle.item_reader.proofs.Taking.{Stands}
use Rattle.item_reader.proofs.files.read_file.Given as goal

abbrev pub invariant-loop-position : goal.invariant-loop-position
invariant-loop-position l = Stands l.items l.position (as_state l.state) l.count
