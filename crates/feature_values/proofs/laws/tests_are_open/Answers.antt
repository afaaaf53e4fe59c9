use Rattle.feature_values.proofs.Testing.{length-tests, tests_fit, tests_open}
use Rattle.feature_values.proofs.laws.tests_are_open.Goals as goal

pub returns-clause-count : goal.returns-clause-count
returns-clause-count c = length-tests

pub returns-clause-fit : goal.returns-clause-fit
returns-clause-fit c = tests_fit

pub returns-clause-open : goal.returns-clause-open
returns-clause-open c = tests_open
