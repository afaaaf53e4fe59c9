use Rattle.leaf_domain.proofs.RangeEquations.{product_back}
use Rattle.leaf_domain.proofs.range.product.Goals as goal

pub returns : goal.returns
returns c = product_back c.args.n c.args.m c.requires.n c.requires.m
