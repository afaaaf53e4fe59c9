use Rattle.std.proofs.Common.{List, ap, length, map, subst, sym, ◌∙◌}
use Rattle.std.specs.List.{All}
use Rattle.c_tree.specs.View.{whole}
use Rattle.linear_atoms.specs.declared.atoms.Atom.{Atom}
use Rattle.decision_tree.specs.Plain.{TestsBelow}
use Rattle.decision_tree.specs.View.{plain}
use Rattle.lifted_analysis.specs.declared.findings.PlaceTree.{PlaceTree}
use Rattle.lifted_analysis.specs.Turns.{loop_places}
use Rattle.alarm_report.specs.Invariants.{invariant, leaf_tree}
use Rattle.certificate_format.specs.Loops.{trees_at}
use Rattle.famlint_families.proofs.States.{AreInvariantsFrom, loops_from}
use Rattle.famlint_families.proofs.certify.loops_in.Goals as goal

pub invariants_of-requires-clause-tests : goal.invariants_of-requires-clause-tests
invariants_of-requires-clause-tests g c =
    let l = c.args.line.now in
    let places = subst (All (λ (t : PlaceTree _). TestsBelow (length l.family.atoms) (plain t.tree))) (sym c.as_slice.ensures.value) c.requires.tested.leaves in
    subst (λ (atoms : List Atom). All (λ (t : PlaceTree _). TestsBelow (length atoms) (plain t.tree)) c.deref-2.result.now) (sym c.items-atoms.ensures)
    (subst (All (λ (t : PlaceTree _). TestsBelow (length l.family.atoms) (plain t.tree))) (sym c.deref-2.ensures.value)
    (c.in_ok-trees.ensures.tests (length l.family.atoms) places))

pub returns-clause-good : goal.returns-clause-good
returns-clause-good g c = λ o r found.
    let l = c.args.line.now in
    let f = c.args.findings.now in
    let value = g.L.Leaf.value in
    let places = loop_places (whole l.family.code).body in
    let trees = map (leaf_tree value) c.deref-2.result.now in
    let invariants = map (invariant value) c.in_ok-invariants.invariants.items in
    let trees_are =
    ap (map (leaf_tree value)) c.deref-2.ensures.value
    ∙ (c.in_ok-trees.ensures.trees
    ∙ (ap (λ qs. trees_at qs (map (leaf_tree value) c.as_slice.result.now)) (c.deref.ensures.value ∙ c.in_ok-loops.ensures)
    ∙ ap (λ ts. trees_at places (map (leaf_tree value) ts)) c.as_slice.ensures.value)) in
    let from : AreInvariantsFrom c.args.prepared.now c.items-atoms.result.now trees invariants =
    record { regions = c.in_ok-invariants.ensures.invariants; cover = c.in_ok-invariants.ensures.cover } in
    loops_from value g.L.Leaf.meaning g.met.L.Leaf.laws l c.requires.line c.variants_are_projections.ensures.read c.leaf_texts_tell_stores.ensures f
    c.args.prepared.now c.items-atoms.result.now c.requires.prepared c.items-atoms.ensures trees invariants from o r (c.transfer_is_sound.ensures.answers o.mode) found trees_are
