use Rattle.std.proofs.Common.{arith}
use Rattle.std.proofs.lemmas.Int.{ints}
use Rattle.configuration_advice.proofs.Asked.{fit_of}
use Rattle.configuration_advice.proofs.keeping.kept_high.Goals as goal

pub returns-clause-fits : goal.returns-clause-fits
returns-clause-fits c = λ count fit below.
    let small = c.requires.value in
    c.in_ok-test.ensures.fits count fit (fit_of count c.args.number c.args.value _ c.in_ok-at_least.field-0 c.in_ok-at_least.ensures (omega (arith, ints)) below (omega (arith, small)))
