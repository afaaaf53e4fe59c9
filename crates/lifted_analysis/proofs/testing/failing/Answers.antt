use Rattle.std.proofs.Common.{◌∙◌, ap, sym, false}
use Rattle.c_tree.specs.View.{term}
use Rattle.decision_tree.specs.Plain.{leaf_of}
use Rattle.decision_tree.specs.View.{plain}
use Rattle.leaf_domain.specs.Transfer.{assumed}
use Rattle.plain_analysis.specs.View.{parts_of}
use Rattle.lifted_analysis.specs.States.{ways_at}
use Rattle.lifted_analysis.specs.Steps.{failing_so}
use Rattle.lifted_analysis.proofs.WaysLemmas.{if_lifted_is}
use Rattle.lifted_analysis.proofs.testing.failing.Goals as goal

pub returns-in_ok-on-in-TestLast : goal.returns-in_ok-on-in-TestLast
returns-in_ok-on-in-TestLast g c =
    let value = g.L.Leaf.value in
    let M = g.L.Leaf.meaning in
    let family = c.args.family.now in
    let mode = family.options.now.mode in
    let at = plain c.args.at.now in
    let w = c.args.left.now in
    let e = term c.in-TestLast.test.now in
    let on = c.in_ok-on-in-TestLast in
    if_lifted_is value family c.stepped-in-TestLast.result c.args.tables.now.leaves c.going_on.new.tables.leaves c.stepped-in-TestLast.new.tables.leaves (λ v. assumed M mode e false) (λ v. failing_so M mode (parts_of c.args.the_loop.now.parts) (value (leaf_of at v)) (ways_at value w v)) (plain on.on)
    on.ensures.keeps
    (λ v. ap (assumed M mode e false) (on.ensures.at_each v) ∙ ap (λ p. failing_so M mode (parts_of p) (value (leaf_of at v)) (ways_at value w v)) (sym c.in-TestLast.is))
    c.stepped-in-TestLast.ensures
