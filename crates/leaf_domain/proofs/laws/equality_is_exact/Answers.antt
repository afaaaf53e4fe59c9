use Rattle.leaf_domain.proofs.LeafEquality.{same_where_equal, same_by_value}
use Rattle.leaf_domain.proofs.laws.equality_is_exact.Goals as goal

pub returns-clause-decides : goal.returns-clause-decides
returns-clause-decides g c = let l = g.met.L.Leaf in same_where_equal g.L.Leaf.value _ l.equal l.exact

pub returns-clause-value : goal.returns-clause-value
returns-clause-value g c = let l = g.met.L.Leaf in same_by_value g.L.Leaf.value _ l.equal l.exact
