use Rattle.std.proofs.Common.{Bool, List, ap, length, map, refl, subst, sym, ◌∙◌}
use Rattle.std.specs.List.{All}
use Rattle.decision_tree.specs.declared.tree.Tree.{Tree}
use Rattle.decision_tree.specs.Listed.{IsNumberedTree}
use Rattle.decision_tree.specs.Plain.{TestsBelow}
use Rattle.decision_tree.specs.View.{numbered, plain}
use Rattle.linear_atoms.specs.declared.atoms.Atom.{Atom}
use Rattle.lifted_analysis.specs.declared.findings.AlarmTree.{AlarmTree}
use Rattle.alarm_report.specs.Alarms.{plain_alarm_tree}
use Rattle.famlint_families.specs.Advised.{trees_of}
use Rattle.famlint_families.proofs.Foretold.{advised}
use Rattle.famlint_families.proofs.advice.advice_in.Goals as goal

pub nearest-requires-clause-tests : goal.nearest-requires-clause-tests
nearest-requires-clause-tests g c =
    let l = c.args.line.now in
    let alarms : All (λ (t : AlarmTree). TestsBelow (length l.family.atoms) (plain t.tree)) c.deref.result.now =
    subst (All (λ (t : AlarmTree). TestsBelow (length l.family.atoms) (plain t.tree))) (sym c.deref.ensures.value) c.in_ok-findings.ensures.tested.stops in
    subst (λ (atoms : List Atom). All (λ (t : Tree Bool). TestsBelow (length atoms) (plain t)) c.deref-2.result.now) (sym c.items-atoms.ensures)
    (subst (All (λ (t : Tree Bool). TestsBelow (length l.family.atoms) (plain t))) (sym c.deref-2.ensures.value)
    (c.in_ok-trees.ensures.tests (length l.family.atoms) alarms))

pub nearest-requires-clause-trees : goal.nearest-requires-clause-trees
nearest-requires-clause-trees g c =
    subst (All (λ (t : Tree Bool). IsNumberedTree 0 320 (numbered t))) (sym c.deref-2.ensures.value)
    (c.in_ok-trees.ensures.numbered
    (subst (All (λ (t : AlarmTree). IsNumberedTree 0 320 (numbered t.tree))) (sym c.deref.ensures.value) (c.in_ok-findings.ensures.numbered refl)))

pub returns-clause-good : goal.returns-clause-good
returns-clause-good g c =
    let l = c.args.line.now in
    let f = c.in_ok-findings.findings in
    (advised g.L.Leaf.value g.L.Leaf.meaning g.met.L.Leaf.laws c.args.options.now l f c.in_ok-findings.ensures.found c.requires.line
    c.variants_are_projections.ensures.read l.model c.items-atoms.result.now (map plain c.deref-2.result.now) c.args.given.now.values c.in_ok-found.found
    refl c.items-atoms.ensures
    (ap (map plain) c.deref-2.ensures.value ∙ (c.in_ok-trees.ensures.trees ∙ ap (λ (ts : List AlarmTree). trees_of (map plain_alarm_tree ts)) c.deref.ensures.value))
    c.in_ok-found.ensures).good
