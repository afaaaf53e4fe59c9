use Rattle.run_meaning.proofs.Products.{product_back, product_within}
use Rattle.run_meaning.proofs.evaluation.product.Goals as goal

pub returns-clause-value : goal.returns-clause-value
returns-clause-value c = product_back c.args.a c.args.b c.requires.left c.requires.right

pub returns-clause-low : goal.returns-clause-low
returns-clause-low c = rw (product_back c.args.a c.args.b c.requires.left c.requires.right) (product_within c.args.a c.args.b c.requires.left c.requires.right).0

pub returns-clause-high : goal.returns-clause-high
returns-clause-high c = rw (product_back c.args.a c.args.b c.requires.left c.requires.right) (product_within c.args.a c.args.b c.requires.left c.requires.right).1
