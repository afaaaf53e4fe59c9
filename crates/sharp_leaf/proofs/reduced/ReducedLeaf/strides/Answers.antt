use Rattle.std.proofs.Common.{ap, sym, subst, ◌∙◌}
use Rattle.octagon_leaf.specs.Octagons.{octagons}
use Rattle.octagon_leaf.specs.Laws.{octagon_laws}
use Rattle.congruence_leaf.specs.Congruences.{congruences as strides}
use Rattle.congruence_leaf.specs.Laws.{congruence_laws as stride_laws}
use Rattle.paired_leaf.specs.Pairs.{second_of, IsPair}
use Rattle.paired_leaf.proofs.PartLemmas.{part_second, parts_pair}
use Rattle.sharp_leaf.proofs.reduced.ReducedLeaf.strides.Goals as goal

pub returns-clause-value : goal.returns-clause-value
returns-clause-value c = sym (part_second octagons strides c.self.inside.octagon c.self.inside.strides c.self.invariant) ∙ ap (λ v. second_of v) c.self.view_is

pub returns-clause-valid : goal.returns-clause-valid
returns-clause-valid c = subst (IsPair octagons strides) c.self.view_is (parts_pair octagons strides octagon_laws stride_laws c.self.inside.octagon c.self.inside.strides c.self.invariant)
