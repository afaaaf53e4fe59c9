use Rattle.std.proofs.Common.{rules}
use Rattle.decision_tree.specs.Plain.{leaf_of}
use Rattle.decision_tree.specs.View.{plain}
use Rattle.lifted_analysis.specs.Start.{begins_with}
use Rattle.lifted_analysis.proofs.StartLemmas.{beginnings_exact, tree_mapped, truth_tree}
use Rattle.lifted_analysis.proofs.start.plausible_values.Goals as goal

pub map_in-requires-clause-exact : goal.map_in-requires-clause-exact
map_in-requires-clause-exact g c = beginnings_exact

pub returns-clause-tree : goal.returns-clause-tree
returns-clause-tree g c =
    let plausible = c.args.family.now.plausible.now in
    tree_mapped c.args.family.now c.map_in.result _ (begins_with c.args.start.now) (λ v. leaf_of (plain plausible) v) c.map_in.new.forest plausible
    (λ a b h. let k = h in search rules)
    (truth_tree c.args.family.now plausible c.requires) c.map_in.ensures.mapped c.map_in.ensures.tests c.map_in.ensures.tree
