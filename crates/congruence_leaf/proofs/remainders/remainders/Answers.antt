use Rattle.std.proofs.Common.{to_z, of_z, w64, ap, sym, subst, ◌∙◌}
use Rattle.c_tree.specs.declared.tree.Op.TheVariants.{Rem}
use Rattle.c_tree.specs.Value.{IsInt}
use Rattle.leaf_domain.specs.Ranges.{IsInInt, range_at, arithmetic_range}
use Rattle.strides.specs.Strided.{strided_in, range_of}
use Rattle.product_leaf.proofs.Meanings.{int_back}
use Rattle.congruence_leaf.specs.Remainders.{strided_less, strided_remainders}
use Rattle.congruence_leaf.proofs.Sizes.{own_in_int}
use Rattle.congruence_leaf.proofs.Back.{small_back}
use Rattle.congruence_leaf.proofs.Found.{remainders_then, remainders_else}
use Rattle.congruence_leaf.proofs.remainders.remainders.Goals as goal

pub arithmetic-range-requires-clause-a : goal.arithmetic-range-requires-clause-a
arithmetic-range-requires-clause-a c = subst IsInInt (sym c.range.ensures) (own_in_int c.args.d c.requires.own)

pub arithmetic-range-requires-clause-b : goal.arithmetic-range-requires-clause-b
arithmetic-range-requires-clause-b c =
    let i : IsInt (to_z w64 (of_z w64 c.args.m)) = subst IsInt (sym (int_back c.args.m c.requires.int)) c.requires.int in
    let r : IsInInt (range_at (to_z w64 (of_z w64 c.args.m)) (to_z w64 (of_z w64 c.args.m))) = record { low = i; high = i } in
    subst IsInInt (sym c.only.ensures) r

pub returns-then-has_one_quotient : goal.returns-then-has_one_quotient
returns-then-has_one_quotient c =
    c.less.ensures ∙ ap (λ k. strided_less k c.args.d) (small_back c.low_multiple.result c.low_multiple.ensures.size ∙ c.low_multiple.ensures.value)
    ∙ remainders_then c.args.d (to_z w64 (of_z w64 c.args.m)) c.has_one_quotient.result c.has_one_quotient.ensures c.if-has_one_quotient.true
    ∙ ap (λ n. strided_remainders c.args.d n) (int_back c.args.m c.requires.int)

pub returns-else-has_one_quotient : goal.returns-else-has_one_quotient
returns-else-has_one_quotient c =
    c.strided_in.ensures ∙ ap (λ r. strided_in r c.stride_modulo.result) (c.arithmetic-range.ensures ∙ ap (λ r. arithmetic_range Rem r c.only.result) c.range.ensures ∙ ap (λ r. arithmetic_range Rem (range_of c.args.d) r) c.only.ensures)
    ∙ ap (λ s. strided_in (arithmetic_range Rem (range_of c.args.d) (range_at (to_z w64 (of_z w64 c.args.m)) (to_z w64 (of_z w64 c.args.m)))) s) c.stride_modulo.ensures.value
    ∙ remainders_else c.args.d (to_z w64 (of_z w64 c.args.m)) c.has_one_quotient.result c.has_one_quotient.ensures c.if-has_one_quotient.false
    ∙ ap (λ n. strided_remainders c.args.d n) (int_back c.args.m c.requires.int)
