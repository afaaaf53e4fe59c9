use Rattle.std.proofs.Common.{ap}
use Rattle.congruence_leaf.specs.Congruences.{leaf_results, met_by}
use Rattle.congruence_leaf.proofs.leaf.CongruenceLeafLeaf.meet_operation.Goals as goal

pub returns-in-None : goal.returns-in-None
returns-in-None c = ap (λ o. met_by c.args.self c.args.p.now.left o (leaf_results c.args.self c.args.p.now) c.args.op c.args.r) c.in-None.ensures.value
