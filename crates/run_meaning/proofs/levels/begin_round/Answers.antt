use Rattle.std.proofs.Common.{rules, ◌≡◌, ◌∙◌, ◌+◌, ◌∷◌, ◌++◌, [], reverse, length, ap}
use Rattle.c_tree.specs.View.{code}
use Rattle.run_meaning.specs.declared.levels.Level as rust
use Rattle.run_meaning.specs.View.{pile, nest}
use Rattle.run_meaning.proofs.Stacks.{pile-reverse}
use Rattle.run_meaning.proofs.Nests.{nest-push, round_level, standing-same}
use Rattle.run_meaning.proofs.levels.begin_round.Goals as goal

pub returns-clause-ok : goal.returns-clause-ok
returns-clause-ok c =
    let level : rust.Level = record { again = c.replace-again.result; skipped = c.len-skipped.result + 1 } in
    let again : c.replace-again.result.items ≡ c.args.state.now.todo.items ++ reverse c.args.step.items = search rules in
    let skipped : c.len-skipped.result + 1 ≡ length c.args.step.items + 1 = search rules in
    let pushed : c.push.new.self.items ≡ c.args.state.now.levels.items ++ level ∷ [] = search rules in
    standing-same (pile c.replace-again.new.dest.items) (code c.args.body.items) (nest c.push.new.self.items) _ c.args.state.now.store.items c.args.state.now.taken
    (ap pile (search rules) ∙ pile-reverse c.args.body.items)
    (ap nest pushed ∙ nest-push c.args.state.now.levels.items level ∙ ap (λ l. l ∷ nest c.args.state.now.levels.items) (round_level level c.args.state.now.todo.items c.args.step.items again skipped))
