use Rattle.tree_unify.proofs.OneOperand.{given_by_map}
use Rattle.tree_unify.proofs.mapped.OfFirstOperationUnit.apply.Goals as goal

pub returns : goal.returns
returns g c = given_by_map g.F.Fn c.args.self.now.f.now c.args.first c.f.result c.f.ensures
