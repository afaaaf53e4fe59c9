use Rattle.product_leaf.proofs.leaf.StrideLeafHash.hash.Goals as goal

pub returns : goal.returns
returns g c = rw (c.all.ensures, c.hash.ensures, c.count.ensures.value) at c.hash-2.ensures
