use Rattle.std.proofs.Common.{length}
use Rattle.configuration_advice.proofs.cheapest.+cheapest.Goals as goal

pub least_untrue-requires-clause-tests : goal.least_untrue-requires-clause-tests
least_untrue-requires-clause-tests t c = c.in_ok-dearer.ensures.tests (length c.args.priced.now.tests.now) c.requires.priced.tests
