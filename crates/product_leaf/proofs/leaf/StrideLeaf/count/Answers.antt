use Rattle.std.proofs.Common.{subst}
use Rattle.product_leaf.specs.StrideLeaves.{IsStrideLeaf}
use Rattle.product_leaf.proofs.Inside.{inside_is}
use Rattle.product_leaf.proofs.leaf.StrideLeaf.count.Goals as goal

pub returns-clause-valid : goal.returns-clause-valid
returns-clause-valid c = subst IsStrideLeaf c.self.view_is (inside_is c.self.inside c.self.invariant)
