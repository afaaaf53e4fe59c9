use Rattle.std.proofs.Common.{length, arith}
use Rattle.std.proofs.lemmas.Int.{ints}
use Rattle.configuration_advice.proofs.Asked.{fit_of}
use Rattle.configuration_advice.proofs.asking.value_from.Goals as goal

pub least-requires : goal.least-requires
least-requires c = (fit_of (length c.args.prepared.now.features) c.args.number c.args.low _ c.in_ok-at_least.field-0 c.in_ok-at_least.ensures (omega (arith, ints)) c.requires.number c.requires.low, tt)
