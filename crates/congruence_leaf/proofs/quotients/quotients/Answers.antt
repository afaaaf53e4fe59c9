use Rattle.std.proofs.Common.{to_z, of_z, w64, ap, sym, subst, ◌∙◌}
use Rattle.c_tree.specs.declared.tree.Op.TheVariants.{Div}
use Rattle.leaf_domain.specs.Ranges.{IsInInt, range_at, arithmetic_range}
use Rattle.strides.specs.Strided.{strided_in, range_of}
use Rattle.product_leaf.proofs.Meanings.{int_back}
use Rattle.congruence_leaf.specs.Quotients.{strided_quotients}
use Rattle.congruence_leaf.proofs.Sizes.{own_in_int}
use Rattle.congruence_leaf.proofs.Back.{residue_small}
use Rattle.congruence_leaf.proofs.quotients.quotients.Goals as goal

pub arithmetic-range-requires-clause-a : goal.arithmetic-range-requires-clause-a
arithmetic-range-requires-clause-a c = subst IsInInt (sym c.range.ensures) (own_in_int c.args.d c.requires.own)

pub quotient_stride-requires-clause-residue : goal.quotient_stride-requires-clause-residue
quotient_stride-requires-clause-residue c = residue_small c.args.d c.requires.own

pub returns : goal.returns
unfolding strided_quotients
returns c =
    c.strided_in.ensures ∙ ap (λ r. strided_in r c.quotient_stride.result) (c.arithmetic-range.ensures ∙ ap (λ r. arithmetic_range Div r c.only.result) c.range.ensures ∙ ap (λ r. arithmetic_range Div (range_of c.args.d) r) c.only.ensures)
    ∙ ap (λ s. strided_in (arithmetic_range Div (range_of c.args.d) (range_at (to_z w64 (of_z w64 c.args.m)) (to_z w64 (of_z w64 c.args.m)))) s) c.quotient_stride.ensures
    ∙ ap (λ n. strided_quotients c.args.d n) (int_back c.args.m c.requires.int)
