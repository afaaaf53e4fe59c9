use Rattle.decision_tree.specs.View.{numbered}
use Rattle.lifted_analysis.specs.declared.findings.AlarmTree.{AlarmTree}
use Rattle.lifted_analysis.specs.Entries.{IsReducedTree}
use Rattle.lifted_analysis.proofs.EntryLemmas.{reduced_push}
use Rattle.lifted_analysis.proofs.noted.add_test_alarm.Goals as goal

pub returns-clause-trees : goal.returns-clause-trees
returns-clause-trees g c =
    let family = c.args.family.now in
    reduced_push (λ (a : AlarmTree). IsReducedTree family (numbered a.tree)) c.args.noted.now.alarms.items c.push.new.self.items (record { place = c.args.place; kind = c.args.kind; tree = c.in_ok-tree.tree })
    c.in_ok-push.ensures.items c.in_ok-tree.ensures.reduced
