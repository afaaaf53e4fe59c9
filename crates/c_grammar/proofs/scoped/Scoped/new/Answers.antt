use Rattle.c_grammar.specs.Scoped.{IsSound, is_inside, still}
use Rattle.c_grammar.proofs.Blocks.{new-sound, new-left, new-outside}
use Rattle.c_grammar.proofs.scoped.Scoped.new.Goals as goal

pub returns-clause-sound : goal.returns-clause-sound
unfolding IsSound
returns-clause-sound g c = new-sound c.new.result.items c.new-2.result.items c.new-2.ensures.items

pub returns-clause-empty : goal.returns-clause-empty
unfolding still
returns-clause-empty g c n = new-left n c.new.result.items c.new-2.result.items c.new.ensures.items c.new-2.ensures.items

pub returns-clause-outside : goal.returns-clause-outside
unfolding is_inside
returns-clause-outside g c = new-outside c.new-2.result.items c.new-2.ensures.items
