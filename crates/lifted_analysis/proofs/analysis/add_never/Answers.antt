use Rattle.std.proofs.Common.{◌≡◌, ◌∷◌, ◌++◌, [], ◌∙◌, map, ap, sym, subst, false}
use Rattle.std.proofs.lemmas.List.{map-append}
use Rattle.decision_tree.specs.Numbered.{erase}
use Rattle.decision_tree.specs.Plain.{leaf_of}
use Rattle.decision_tree.specs.View.{numbered, plain}
use Rattle.lifted_analysis.specs.declared.findings.AlarmTree.{AlarmTree}
use Rattle.lifted_analysis.specs.Entries.{stop_there, IsReducedTree}
use Rattle.lifted_analysis.proofs.EntryLemmas.{reduced_push}
use Rattle.lifted_analysis.proofs.FamilyLemmas.{never_truth, never_at}
use Rattle.lifted_analysis.proofs.analysis.add_never.Goals as goal

pub returns-clause-stops : goal.returns-clause-stops
returns-clause-stops g c =
    λ v.
    let x : AlarmTree = record { place = c.args.place; kind = c.args.kind; tree = c.in_ok-tree.tree } in
    let e : leaf_of (plain c.in_ok-tree.tree) v ≡ false = ap (λ t. leaf_of (erase t) v) c.in_ok-tree.ensures ∙ never_at c.args.family.now v c.requires in
    ap (map (stop_there v)) c.in_ok-push.ensures.items
    ∙ (map-append (stop_there v) c.args.noted.now.alarms.items (x ∷ []) ∙ ap (λ b. map (stop_there v) c.args.noted.now.alarms.items ++ ((c.args.place, c.args.kind), b) ∷ []) e)

pub returns-clause-trees : goal.returns-clause-trees
returns-clause-trees g c =
    let family = c.args.family.now in
    let never = never_truth family c.requires in
    let reduced : IsReducedTree family (numbered family.never.now) = record { tree = never.tree; tests = never.tests } in
    reduced_push (λ (a : AlarmTree). IsReducedTree family (numbered a.tree)) c.args.noted.now.alarms.items c.push.new.self.items (record { place = c.args.place; kind = c.args.kind; tree = c.in_ok-tree.tree })
    c.in_ok-push.ensures.items (subst (λ t. IsReducedTree family t) (sym c.in_ok-tree.ensures) reduced)
