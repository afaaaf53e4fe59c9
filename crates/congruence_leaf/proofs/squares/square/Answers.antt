use Rattle.std.proofs.Common.{◌≤ℤ◌, pos, sym, subst}
use Rattle.leaf_domain.proofs.RangeEquations.{product_back}
use Rattle.congruence_leaf.specs.Laws.Squares.{square_some}
use Rattle.congruence_leaf.proofs.Sizes.{square_small}
use Rattle.congruence_leaf.proofs.squares.square.Goals as goal

pub returns-clause-value : goal.returns-clause-value
returns-clause-value c = product_back c.args.n c.args.n c.requires c.requires

pub returns-clause-low : goal.returns-clause-low
returns-clause-low c = subst (λ x. pos 0 ≤ℤ x) (sym (product_back c.args.n c.args.n c.requires c.requires)) (square_some c.args.n)

pub returns-clause-high : goal.returns-clause-high
returns-clause-high c = subst (λ x. x ≤ℤ pos 4611686018427387904) (sym (product_back c.args.n c.args.n c.requires c.requires)) (square_small c.args.n c.requires)
