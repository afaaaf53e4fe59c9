use Rattle.product_leaf.proofs.Meanings.{leq_is}
use Rattle.product_leaf.proofs.leaf.StrideLeafLeaf.leq.Goals as goal

pub returns-in-Some-own_parts : goal.returns-in-Some-own_parts
returns-in-Some-own_parts c = leq_is c.args.self.now c.args.other.now _ _ c.are_inside.result c.in-Some.ensures.best c.in-Some-own_parts.ensures.standing c.are_inside.ensures
