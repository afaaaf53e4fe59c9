use Rattle.std.proofs.Common.{sym, subst}
use Rattle.decision_tree.specs.View.{numbered}
use Rattle.lifted_analysis.specs.declared.findings.PlaceTree.{PlaceTree}
use Rattle.lifted_analysis.specs.Entries.{IsReducedTree}
use Rattle.lifted_analysis.proofs.EntryLemmas.{reduced_push}
use Rattle.lifted_analysis.proofs.noted.add_tree.Goals as goal

pub returns-clause-trees : goal.returns-clause-trees
returns-clause-trees g c =
    let family = c.args.family.now in
    reduced_push (λ (p : PlaceTree g.row.L.Denot). IsReducedTree family (numbered p.tree)) c.args.noted.now.places.items c.push.new.self.items (record { place = c.args.place; tree = c.in_ok-tree.tree })
    c.in_ok-push.ensures.items (subst (λ t. IsReducedTree family t) (sym c.in_ok-tree.ensures) c.requires)
