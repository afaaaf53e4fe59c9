use Rattle.std.proofs.Common.{rules, ◌≡◌, ◌∷◌, [], length}
use Rattle.run_meaning.proofs.Stacks.{alone-pile, alone-none}
use Rattle.run_meaning.proofs.heads.take_head.Goals as goal

pub returns-in-Some-clause-head : goal.returns-in-Some-clause-head
returns-in-Some-clause-head c =
    let one : c.push.new.self.items ≡ c.in-Some.head ∷ [] = search rules in
    alone-pile c.args.todo.now.items c.pop.new.self.items c.push.new.self.items c.in-Some.head c.in-Some.ensures.items one

pub returns-clause-head : goal.returns-clause-head
returns-clause-head c =
    let none : length c.args.todo.now.items ≡ 0 = search rules in
    alone-none c.args.todo.now.items c.in_ok-list.list.items none c.in_ok-list.ensures.items
