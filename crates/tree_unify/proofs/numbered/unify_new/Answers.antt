use Rattle.std.proofs.Common.{rules}
use Rattle.decision_tree.specs.View.{numbered}
use Rattle.tree_unify.proofs.Making.{made_leaf}
use Rattle.tree_unify.proofs.numbered.unify_new.Goals as goal

pub returns-clause-made : goal.returns-clause-made
returns-clause-made g c =
    made_leaf _ c.in_ok-made.made _ c.args.a.now.value c.args.b.now.value (numbered c.in_ok-tree.tree) (search rules) (search rules) c.in_ok-tree.ensures.tree.own

pub returns-clause-noted : goal.returns-clause-noted
returns-clause-noted g c = record { tree = c.in_ok-noted.noted; same = c.in_ok-noted.ensures; entries = c.in_ok-remember.ensures }
