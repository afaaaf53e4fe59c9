use Rattle.std.proofs.Common.{ap, sym, subst, ◌∙◌}
use Rattle.octagon_leaf.specs.Octagons.{octagons}
use Rattle.octagon_leaf.specs.Laws.{octagon_laws}
use Rattle.congruence_leaf.specs.Congruences.{congruences as strides}
use Rattle.congruence_leaf.specs.Laws.{congruence_laws as stride_laws}
use Rattle.paired_leaf.specs.Pairs.{first_of, second_of, IsPair}
use Rattle.paired_leaf.proofs.PartLemmas.{part_first, part_second, parts_pair}
use Rattle.sharp_leaf.proofs.reduced.ReducedLeaf.into_parts.Goals as goal

pub returns-clause-first : goal.returns-clause-first
returns-clause-first c = sym (part_first octagons strides c.self.inside.octagon c.self.inside.strides c.self.invariant) ∙ ap (λ v. first_of v) c.self.view_is

pub returns-clause-second : goal.returns-clause-second
returns-clause-second c = sym (part_second octagons strides c.self.inside.octagon c.self.inside.strides c.self.invariant) ∙ ap (λ v. second_of v) c.self.view_is

pub returns-clause-valid : goal.returns-clause-valid
returns-clause-valid c = subst (IsPair octagons strides) c.self.view_is (parts_pair octagons strides octagon_laws stride_laws c.self.inside.octagon c.self.inside.strides c.self.invariant)
