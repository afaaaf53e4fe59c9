use Rattle.std.proofs.Common.{◌≡◌, refl, length, rules}
use Rattle.c_grammar.specs.Scoped.{IsSound, is_inside, still}
use Rattle.c_grammar.proofs.Blocks.{entered-sound, entered-inside, entered-left}
use Rattle.c_grammar.proofs.scoped.Scoped.enter.Goals as goal

pub returns-clause-sound : goal.returns-clause-sound
unfolding IsSound
returns-clause-sound g c sound =
    let counted : c.len.result ≡ length c.args.self.now.items.items = search rules in
    entered-sound c.args.self.now.items.items c.args.self.now.begins.items c.push.new.self.items c.len.result counted c.in_ok-push.ensures.items sound

pub returns-clause-inside : goal.returns-clause-inside
unfolding is_inside
returns-clause-inside g c = entered-inside c.args.self.now.begins.items c.push.new.self.items c.len.result c.in_ok-push.ensures.items

pub returns-clause-now : goal.returns-clause-now
unfolding still
returns-clause-now g c = refl

pub returns-clause-later : goal.returns-clause-later
unfolding still
returns-clause-later g c n =
    let counted : c.len.result ≡ length c.args.self.now.items.items = search rules in
    entered-left n c.args.self.now.items.items c.args.self.now.begins.items c.push.new.self.items c.len.result counted c.in_ok-push.ensures.items
