use Rattle.configuration_advice.specs.Ends.{HasEnd, width}
use Rattle.configuration_advice.proofs.ends.end_value.Given as goal

abbrev pub invariant-halves : goal.invariant-halves
invariant-halves l = HasEnd l.end l.prepared l.number l.span

abbrev pub decreases-halves : goal.decreases-halves
decreases-halves l = width l.span
