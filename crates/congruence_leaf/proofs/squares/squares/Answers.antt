use Rattle.std.proofs.Common.{ap, sym, subst, ◌∙◌}
use Rattle.c_tree.specs.Value.{IsInt}
use Rattle.leaf_domain.specs.Ranges.{IsInInt}
use Rattle.strides.specs.Strided.{strided_in, range_of}
use Rattle.product_leaf.proofs.Meanings.{int_back}
use Rattle.congruence_leaf.specs.Squares.{squares_range, square_stride, strided_squares}
use Rattle.congruence_leaf.proofs.Sizes.{own_in_int}
use Rattle.congruence_leaf.proofs.squares.squares.Goals as goal

pub squares_range-requires : goal.squares_range-requires
squares_range-requires c = subst IsInInt (sym c.range.ensures) (own_in_int c.args.d c.requires)

pub square_stride-requires-clause-number : goal.square_stride-requires-clause-number
square_stride-requires-clause-number c = let i = (own_in_int c.args.d c.requires).low in subst IsInt (sym (int_back c.args.d.low i)) i

pub returns : goal.returns
unfolding strided_squares
returns c =
    let i = (own_in_int c.args.d c.requires).low in
    c.strided_in.ensures ∙ ap (λ r. strided_in r c.square_stride.result) (c.squares_range.ensures ∙ ap squares_range c.range.ensures)
    ∙ ap (λ s. strided_in (squares_range (range_of c.args.d)) s) (c.square_stride.ensures ∙ ap (λ l. square_stride l c.args.d.stride.modulus) (int_back c.args.d.low i))
