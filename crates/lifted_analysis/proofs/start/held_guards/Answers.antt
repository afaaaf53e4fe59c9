use Rattle.std.proofs.Common.{◌∙◌, sym}
use Rattle.lifted_analysis.proofs.StartLemmas.{guards_exact}
use Rattle.lifted_analysis.proofs.start.held_guards.Goals as goal

pub returns-then-eq-clause-guards : goal.returns-then-eq-clause-guards
returns-then-eq-clause-guards g c = guards_exact c.args.before.guards.now c.args.guards.now (sym c.eq.ensures ∙ c.if-eq.true)
