use Rattle.std.proofs.Common.{◌∙◌}
use Rattle.product_leaf.proofs.Meanings.{best_all_own}
use Rattle.congruence_leaf.proofs.Parts.{none_results, results_are, few_parts, operation_over}
use Rattle.congruence_leaf.proofs.leaf.CongruenceLeaf.results.Goals as goal

pub results-requires-clause-few : goal.results-requires-clause-few
results-requires-clause-few c = few_parts c.args.self.now c.in-Some.parts.now c.in-Some.ensures.best c.in-Some.ensures.few

pub results-requires-clause-own : goal.results-requires-clause-own
results-requires-clause-own c = best_all_own _ _ c.in-Some.ensures.best

pub results-requires-clause-p : goal.results-requires-clause-p
results-requires-clause-p c = operation_over c.args.self.now c.in-Some.parts.now c.args.p.now c.in-Some.ensures.best c.requires

pub returns-in-None-clause-value : goal.returns-in-None-clause-value
returns-in-None-clause-value c = none_results c.args.self.now c.args.p.now c.in-None.ensures.nothing

pub returns-in-Some-clause-value : goal.returns-in-Some-clause-value
returns-in-Some-clause-value c = c.results.ensures.value ∙ results_are c.args.self.now c.in-Some.parts.now c.args.p.now c.in-Some.ensures.best
