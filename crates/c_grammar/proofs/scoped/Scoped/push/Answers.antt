use Rattle.std.proofs.Common.{refl, reverse}
use Rattle.c_grammar.specs.Scoped.{IsSound, is_inside, still}
use Rattle.c_grammar.proofs.Blocks.{pushed-sound, pushed-left}
use Rattle.c_grammar.proofs.scoped.Scoped.push.Goals as goal

pub returns-clause-sound : goal.returns-clause-sound
unfolding IsSound
returns-clause-sound g c sound =
    pushed-sound c.args.self.now.items.items c.push.new.self.items c.args.item (reverse c.args.self.now.begins.items) c.in_ok-push.ensures.items sound

pub returns-clause-inside : goal.returns-clause-inside
unfolding is_inside
returns-clause-inside g c = refl

pub returns-clause-now : goal.returns-clause-now
unfolding still
returns-clause-now g c = c.in_ok-push.ensures.items

pub returns-clause-later : goal.returns-clause-later
unfolding IsSound is_inside still
returns-clause-later g c sound n =
    pushed-left n c.args.self.now.items.items c.push.new.self.items c.args.item (reverse c.args.self.now.begins.items) c.in_ok-push.ensures.items sound
