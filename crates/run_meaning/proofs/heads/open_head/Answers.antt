use Rattle.std.proofs.Common.{rules, ◌≡◌, ◌∷◌, ◌++◌, [], reverse}
use Rattle.run_meaning.proofs.Stacks.{opened-pile}
use Rattle.run_meaning.proofs.heads.open_head.Goals as goal

pub returns-in-Some-pop-clause-ok : goal.returns-in-Some-pop-clause-ok
returns-in-Some-pop-clause-ok c =
    let old : c.args.todo.now.items ≡ c.pop.new.self.items ++ c.in-Some-pop.head ∷ [] = search rules in
    let new : c.append.new.self.items ≡ c.pop.new.self.items ++ reverse c.into_list-list.result.items = search rules in
    opened-pile c.args.first c.args.todo.now.items c.pop.new.self.items c.append.new.self.items c.into_list-list.result.items c.in-Some-pop.head old c.into_list-list.ensures new
