use Rattle.octagon_leaf.proofs.Closed.{best-inside}
use Rattle.octagon_leaf.proofs.leaf.OctagonLeaf.best_matrix.Goals as goal

pub returns-in-Some-clause-best : goal.returns-in-Some-clause-best
returns-in-Some-clause-best c = best-inside c.self.inside c.args.self.now c.in-Some.closed c.self.view_is c.self.invariant c.in-Some.is
