use Rattle.std.proofs.Common.{rules, ◌≡◌, ◌∙◌, ◌∷◌, ◌++◌, [], ap, refl}
use Rattle.c_tree.specs.Tree.{Done, If}
use Rattle.c_tree.specs.Run.{Level}
use Rattle.c_tree.specs.View.{term, code}
use Rattle.run_meaning.specs.declared.levels.Level as rust
use Rattle.run_meaning.specs.View.{pile, below, nest, alone}
use Rattle.run_meaning.proofs.Stacks.{pile-reverse}
use Rattle.run_meaning.proofs.Nests.{nest-push, do_round_level, level-same, standing-same}
use Rattle.run_meaning.proofs.levels.begin_do_round.Goals as goal

pub returns-clause-ok : goal.returns-clause-ok
returns-clause-ok c =
    let old = c.args.state.now in
    let level : rust.Level = record { again = c.replace-again.result; skipped = 1 } in
    let same : c.replace-again.result.items ≡ c.wrap_head.new.todo.items = search rules in
    let again : pile c.replace-again.result.items ≡ If c.args.place (term c.args.test) (alone (pile old.todo.items)) Done (below old.todo.items) = search rules in
    let out : below c.replace-again.result.items ≡ below old.todo.items = search rules in
    let pushed : c.push.new.self.items ≡ old.levels.items ++ level ∷ [] = search rules in
    standing-same (pile c.replace-again.new.dest.items) (code c.args.body.items) (nest c.push.new.self.items) _ old.store.items old.taken
    (ap pile (search rules) ∙ pile-reverse c.args.body.items)
    (ap nest pushed ∙ nest-push old.levels.items level ∙ ap (λ (l : Level). l ∷ nest old.levels.items) (do_round_level level refl ∙ level-same _ _ _ _ again out))
