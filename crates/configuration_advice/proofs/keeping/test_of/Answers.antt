use Rattle.std.proofs.Common.{sym, subst}
use Rattle.linear_atoms.specs.Atoms.{AreAtoms}
use Rattle.configuration_advice.proofs.KeptTests.{one_more_fits}
use Rattle.configuration_advice.proofs.keeping.test_of.Goals as goal

pub returns-clause-fits : goal.returns-clause-fits
returns-clause-fits c = λ count fit atom. subst (AreAtoms count) (sym c.in_ok-push.ensures.items) (one_more_fits count c.args.atoms.now.items c.args.atom fit atom)
