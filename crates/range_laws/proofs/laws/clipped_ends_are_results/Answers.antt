use Rattle.range_laws.proofs.ClippedEnds.{clipped-sums, clipped-quotients, high-no-quotient, ends-no-products}
use Rattle.range_laws.proofs.laws.clipped_ends_are_results.Goals as goal

pub returns-clause-sums : goal.returns-clause-sums
returns-clause-sums c = clipped-sums

pub returns-clause-quotients : goal.returns-clause-quotients
returns-clause-quotients c = clipped-quotients

pub returns-clause-high : goal.returns-clause-high
returns-clause-high c = high-no-quotient

pub returns-clause-products : goal.returns-clause-products
returns-clause-products c = ends-no-products
