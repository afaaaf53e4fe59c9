use Rattle.linearised_leaf.proofs.Wide.{product_wide_size}
use Rattle.linearised_leaf.proofs.least.least_multiple.Goals as goal

pub returns-else-factor-lt0-clause-size : goal.returns-else-factor-lt0-clause-size
returns-else-factor-lt0-clause-size c = product_wide_size c.product-else-factor-lt0.result c.args.factor c.args.range.low c.requires.factor c.requires.range.low c.product-else-factor-lt0.ensures
