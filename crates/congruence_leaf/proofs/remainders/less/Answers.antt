use Rattle.std.proofs.Common.{◌-ℤ◌, to_z, of_z, w64, ap, ◌∙◌}
use Rattle.strides.specs.Strided.{strided_at}
use Rattle.congruence_leaf.specs.Remainders.{stride_less}
use Rattle.congruence_leaf.proofs.Sizes.{own_in_int}
use Rattle.congruence_leaf.proofs.Back.{small_back, less_fits, less_back, residue_small}
use Rattle.congruence_leaf.proofs.remainders.less.Goals as goal

pub overflow_sub-result : goal.overflow_sub-result
overflow_sub-result c = less_fits c.args.d.low c.args.k (own_in_int c.args.d c.requires.own).low c.requires.k

pub overflow_sub-result-2 : goal.overflow_sub-result-2
overflow_sub-result-2 c = less_fits c.args.d.high c.args.k (own_in_int c.args.d c.requires.own).high c.requires.k

pub stride_less-requires-clause-residue : goal.stride_less-requires-clause-residue
stride_less-requires-clause-residue c = residue_small c.args.d c.requires.own

pub returns : goal.returns
returns c =
    let i = own_in_int c.args.d c.requires.own in
    ap (λ l. strided_at l (to_z w64 (of_z w64 (to_z w64 (of_z w64 c.args.d.high) -ℤ to_z w64 (of_z w64 c.args.k)))) c.stride_less.result) (less_back c.args.d.low c.args.k i.low c.requires.k)
    ∙ ap (λ h. strided_at (c.args.d.low -ℤ c.args.k) h c.stride_less.result) (less_back c.args.d.high c.args.k i.high c.requires.k)
    ∙ ap (λ s. strided_at (c.args.d.low -ℤ c.args.k) (c.args.d.high -ℤ c.args.k) s) (c.stride_less.ensures ∙ ap (λ n. stride_less n c.args.d.stride) (small_back c.args.k c.requires.k))
