use Rattle.std.proofs.Common.{rules, ◌≡◌, ◌-◌, ◌∙◌, ◌∷◌, ◌++◌, [], take, length, ap}
use Rattle.c_tree.specs.declared.tree.Stmt.TheVariants as variant
use Rattle.c_tree.specs.View.{code}
use Rattle.run_meaning.specs.View.{pile, alone}
use Rattle.run_meaning.proofs.Stacks.{wrapped, below-push, pile-below}
use Rattle.run_meaning.proofs.heads.wrap_head.Goals as goal

pub returns-clause-ok : goal.returns-clause-ok
returns-clause-ok c =
    let rest : c.take_head.new.todo.items ≡ take (length c.args.todo.now.items - 1) c.args.todo.now.items = search rules in
    let new : c.push.new.self.items ≡ c.take_head.new.todo.items ++ variant.If c.args.place c.args.test c.in_ok-yes.yes c.new.result ∷ [] = search rules in
    let head : code c.in_ok-yes.yes.items ≡ alone (pile c.args.todo.now.items) = search rules in
    wrapped c.args.todo.now.items c.take_head.new.todo.items c.push.new.self.items c.args.place c.args.test c.in_ok-yes.yes c.new.result rest new head c.new.ensures.items

pub returns-clause-below : goal.returns-clause-below
returns-clause-below c =
    let rest : c.take_head.new.todo.items ≡ take (length c.args.todo.now.items - 1) c.args.todo.now.items = search rules in
    let new : c.push.new.self.items ≡ c.take_head.new.todo.items ++ variant.If c.args.place c.args.test c.in_ok-yes.yes c.new.result ∷ [] = search rules in
    below-push c.push.new.self.items c.take_head.new.todo.items _ new ∙ ap pile rest ∙ pile-below c.args.todo.now.items
