use Rattle.std.proofs.Common.{◌≤◌, ap, sym, subst, ◌∙◌}
use Rattle.leaf_domain.specs.Leaves.{LeafValue}
use Rattle.octagon_leaf.specs.Octagons.{octagons}
use Rattle.octagon_leaf.specs.Laws.{octagon_laws}
use Rattle.congruence_leaf.specs.Congruences.{congruences as strides}
use Rattle.congruence_leaf.specs.Laws.{congruence_laws as stride_laws}
use Rattle.paired_leaf.specs.Pairs.{first_of, IsPair}
use Rattle.paired_leaf.proofs.PartLemmas.{part_first, parts_pair}
use Rattle.sharp_leaf.proofs.reduced.ReducedLeaf.octagon.Goals as goal

pub returns-clause-value : goal.returns-clause-value
returns-clause-value c = sym (part_first octagons strides c.self.inside.octagon c.self.inside.strides c.self.invariant) ∙ ap (λ v. first_of v) c.self.view_is

pub returns-clause-few : goal.returns-clause-few
returns-clause-few c =
    let P : LeafValue → Type 0 = λ v. v.variables ≤ 48 in
    subst P c.self.view_is (octagon_laws.valid_few c.self.inside.octagon c.self.invariant.first)

pub returns-clause-valid : goal.returns-clause-valid
returns-clause-valid c = subst (IsPair octagons strides) c.self.view_is (parts_pair octagons strides octagon_laws stride_laws c.self.inside.octagon c.self.inside.strides c.self.invariant)
