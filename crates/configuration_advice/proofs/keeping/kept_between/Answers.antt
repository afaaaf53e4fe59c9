use Rattle.std.proofs.Common.{arith}
use Rattle.std.proofs.lemmas.Int.{ints}
use Rattle.configuration_advice.proofs.KeptTests.{pair_fits}
use Rattle.configuration_advice.proofs.keeping.kept_between.Goals as goal

pub returns-clause-fits : goal.returns-clause-fits
returns-clause-fits c = λ count fit below.
    let small = c.requires.value in
    pair_fits count c.args.atoms.now.items c.push_pair.new.list.items c.args.number _ c.in_ok-push_pair.ensures (omega (arith, ints, small)) fit below
