use Rattle.std.proofs.Common.{ap, sym, subst, ◌∙◌}
use Rattle.leaf_domain.specs.Ranges.{IsInInt}
use Rattle.leaf_domain.specs.Compares.{cut_of}
use Rattle.strides.specs.Strided.{best_part, strided_in, range_of}
use Rattle.congruence_leaf.specs.Remainders.{strided_cut}
use Rattle.congruence_leaf.proofs.remainders.cut_numbers.Goals as goal

pub cut-requires-clause-a : goal.cut-requires-clause-a
cut-requires-clause-a c = subst IsInInt (sym c.range.ensures) c.requires.b

pub returns : goal.returns
unfolding strided_cut
returns c =
    c.best_part.ensures
    ∙ ap best_part
    (c.strided_in.ensures ∙ ap (λ r. strided_in r c.cut_stride.result) (c.cut.ensures ∙ ap (λ a. cut_of c.args.op a c.args.r) c.range.ensures)
    ∙ ap (λ s. strided_in (cut_of c.args.op (range_of c.args.b) c.args.r) s) c.cut_stride.ensures)
