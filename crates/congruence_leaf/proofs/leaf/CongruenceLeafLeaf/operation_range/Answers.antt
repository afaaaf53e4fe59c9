use Rattle.std.proofs.Common.{Some, ap, ◌∙◌}
use Rattle.congruence_leaf.specs.Congruences.{results_range}
use Rattle.congruence_leaf.proofs.leaf.CongruenceLeafLeaf.operation_range.Goals as goal

pub returns-in-None : goal.returns-in-None
returns-in-None c = ap results_range c.in-None.ensures.value

pub returns-in-Some : goal.returns-in-Some
returns-in-Some c = ap (λ r. Some r) c.range.ensures ∙ ap results_range c.in-Some.ensures.value
